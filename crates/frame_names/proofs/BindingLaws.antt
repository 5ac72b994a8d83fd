-- A frame that is bound to another says what that one says.
use Rattle.std.proofs.Common.{◌≡◌, ℕ, zero, suc, ℤ, ◌+ℤ◌, ◌-ℤ◌, ◌≤ℤ◌, Bool, true, false, ◌==◌, ◌&&◌, List, [], ◌∷◌, get_or, map, Option, Some, None, if◌then◌else◌, refl, sym, ap, ◌∙◌, subst, arith, true≢false, length, drop}
use Rattle.std.specs.Prelude.{IfSome, slice_get, set, int_le}
use Rattle.std.proofs.lemmas.Int.{ints}
use Rattle.std.proofs.lemmas.Bool.Decides.{Decides-eqb}
use Rattle.std.specs.Option.{option_and_then, option_map}
use Rattle.domain_api.specs.declared.expr.Expr.{Expr}
use Rattle.symbolic_values.specs.Worth.{worth}
use Rattle.frame_names.specs.declared.slots.Bound.{Bound}
use Rattle.alias_facts.specs.NullnessOf.{is_null}
use Rattle.frame_names.specs.declared.reference.Reference.{Reference}
use Rattle.frame_names.specs.declared.var.Var.{Var}
use Rattle.frame_names.specs.declared.var.Var.TheVariants as vars
use Rattle.domain_api.specs.Order.{gap_is_at_least}
use Rattle.frame_names.specs.Binding.{FrameBinding, Gaps, References, SlotLists, Symbols, all_filled, both_filled, bound_by, bound_frames, bound_number, bound_reference, expr_of, filled, filled_with, fits, free_slots, is_at_most, is_equal, number_in_slot, reference_in_slot, with_length, with_lengths, with_number, with_reference, with_references, with_symbols, with_var, with_vars}
use Rattle.frame_names.specs.BoundMeaning.{AreLengthsBound, HasSameLengths, KeepGaps, NullsAreNull, SaysSame, arrays_bound, bound_worth, numbers_bound, zero_bound}
use Rattle.frame_names.specs.Frames.{length_at, nullness_at}
use Rattle.frame_names.specs.Meaning.{a_number, an_address, an_array, said}

-- ---- slots

-- What is bound stays bound.
abbrev pub Stays : {X : Type 0} → List (Option X) → List (Option X) → Type 0
Stays {X} old new = (s : ℕ) (x : X) → slice_get old s ≡ Some (Some x) → slice_get new s ≡ Some (Some x)

module _ {X : Type 0} where
  set_here : (xs : List (Option X)) (i : ℕ) (y o : Option X) → slice_get xs i ≡ Some o → slice_get (set xs i y) i ≡ Some y
  set_here [] i y o there = cc
  set_here (x ∷ xs) zero y o there = refl
  set_here (x ∷ xs) (suc i) y o there = set_here xs i y o there

  -- A free slot is filled, and the others stay.
  set_stays : (xs : List (Option X)) (i : ℕ) (y : Option X) → slice_get xs i ≡ Some None → Stays xs (set xs i y)
  set_stays [] i y free s x there = cc
  set_stays (o ∷ xs) zero y free zero x there = cc
  set_stays (o ∷ xs) zero y free (suc s) x there = there
  set_stays (o ∷ xs) (suc i) y free zero x there = there
  set_stays (o ∷ xs) (suc i) y free (suc s) x there = set_stays xs i y free s x there

-- ---- equal expressions

le-true : (a b : ℤ) → int_le a b ≡ true → a ≤ℤ b
le-true a b is = omega (arith, ints)

le_of : (gap : Gaps) (number : ℕ → ℤ) (e f : Expr) (found : Option ℤ) → gap e.sym f.sym ≡ found → KeepGaps gap number
    → gap_is_at_least found (e.k -ℤ f.k) ≡ true → worth number e ≤ℤ worth number f
le_of gap number e f None is keep shown = absurd (true≢false (sym shown))
le_of gap number e f (Some k) is keep shown =
    let far : (e.k -ℤ f.k) ≤ℤ k = le-true (e.k -ℤ f.k) k shown in
    let apart : (number e.sym +ℤ k) ≤ℤ number f.sym = keep e.sym f.sym k is in
    omega (arith, ints, far, apart)

both_of : (a b : Bool) → (a && b) ≡ true → (a ≡ true) × (b ≡ true)
both_of true true is = (refl, refl)
both_of true false is = cc
both_of false b is = cc

-- Expressions that are shown to be equal are worth the same.
pub equal_worth : (gap : Gaps) (number : ℕ → ℤ) (e f : Expr) → KeepGaps gap number → is_equal gap e f ≡ true → worth number e ≡ worth number f
equal_worth gap number e f keep shown =
    let both = both_of (is_at_most gap e f) (is_at_most gap f e) shown in
    let less : worth number e ≤ℤ worth number f = le_of gap number e f (gap e.sym f.sym) refl keep both.0 in
    let more : worth number f ≤ℤ worth number e = le_of gap number f e (gap f.sym e.sym) refl keep both.1 in
    omega (arith, ints, less, more)

-- ---- one number bound

-- In these slots an expression is worth a number.
pub record IsWorth (number : ℕ → ℤ) (symbols : Symbols) (f : Expr) (n : ℤ) : Type 0 where
  pub bound : Bound
  pub there : slice_get symbols f.sym ≡ Some (Some bound)
  pub same : (bound_worth number bound +ℤ f.k) ≡ n

first_worth : (number : ℕ → ℤ) (e f : Expr) → (bound_worth number (bound_by e f) +ℤ f.k) ≡ worth number e
first_worth number e f = omega (arith, ints)

again_worth : (number : ℕ → ℤ) (bound : Bound) (f : Expr) → (bound_worth number bound +ℤ f.k) ≡ worth number (expr_of bound f)
again_worth number bound f = omega (arith, ints)

pub record IsBound (number : ℕ → ℤ) (old new : Symbols) (f : Expr) (n : ℤ) : Type 0 where
  pub stays : Stays old new
  pub worth_is : IsWorth number new f n

slot_bound : (gap : Gaps) (number : ℕ → ℤ) (e f : Expr) (symbols new : Symbols) (slot : Option (Option Bound)) → slice_get symbols f.sym ≡ slot
    → KeepGaps gap number → number_in_slot gap symbols e f slot ≡ Some new → IsBound number symbols new f (worth number e)
slot_bound gap number e f symbols new None at keep is = cc
slot_bound gap number e f symbols new (Some None) at keep is =
    let made : set symbols f.sym (Some (bound_by e f)) ≡ new = cc in
    subst (λ l. IsBound number symbols l f (worth number e)) made (record {
      stays = set_stays symbols f.sym (Some (bound_by e f)) at;
      worth_is = record { bound = bound_by e f; there = set_here symbols f.sym (Some (bound_by e f)) None at; same = first_worth number e f };
    })
slot_bound gap number e f symbols new (Some (Some bound)) at keep is = by (is_equal gap e (expr_of bound f)) refl is
  where
    by : (shown : Bool) → is_equal gap e (expr_of bound f) ≡ shown → (if shown then Some symbols else None) ≡ Some new → IsBound number symbols new f (worth number e)
    by false shown made = cc
    by true shown made =
        let made_is : symbols ≡ new = cc in
        subst (λ l. IsBound number symbols l f (worth number e)) made_is (record {
          stays = λ s x there. there;
          worth_is = record { bound = bound; there = at; same = again_worth number bound f ∙ sym (equal_worth gap number e (expr_of bound f) keep shown) };
        })

-- Where an expression is bound, it is worth what it is bound by, and what was bound before stays bound.
pub number_bound : (gap : Gaps) (number : ℕ → ℤ) (e f : Expr) (symbols new : Symbols) → KeepGaps gap number
    → with_number gap e f symbols ≡ Some new → IsBound number symbols new f (worth number e)
number_bound gap number e f symbols new keep is = slot_bound gap number e f symbols new (slice_get symbols f.sym) refl keep is

-- ---- one reference bound

-- In these slots a reference is the array that another is.
pub record IsArray (array : ℕ → Option ℕ) (slots : References) (q r : ℕ) : Type 0 where
  pub bound : ℕ
  pub there : slice_get slots q ≡ Some (Some bound)
  pub same : array bound ≡ array r

pub record IsReferenceBound (array : ℕ → Option ℕ) (old new : References) (q r : ℕ) : Type 0 where
  pub stays : Stays old new
  pub array_is : IsArray array new q r

reference_slot_bound : (array : ℕ → Option ℕ) (fit : Bool) (r q : ℕ) (slots new : References) (slot : Option (Option ℕ)) → slice_get slots q ≡ slot
    → reference_in_slot fit slots r q slot ≡ Some new → IsReferenceBound array slots new q r
reference_slot_bound array fit r q slots new None at is = cc
reference_slot_bound array false r q slots new (Some None) at is = cc
reference_slot_bound array true r q slots new (Some None) at is =
    let made : set slots q (Some r) ≡ new = cc in
    subst (λ l. IsReferenceBound array slots l q r) made (record {
      stays = set_stays slots q (Some r) at;
      array_is = record { bound = r; there = set_here slots q (Some r) None at; same = refl };
    })
reference_slot_bound array fit r q slots new (Some (Some bound)) at is = by (r == bound) refl is
  where
    by : (same : Bool) → (r == bound) ≡ same → (if same then Some slots else None) ≡ Some new → IsReferenceBound array slots new q r
    by false same made = cc
    by true same made =
        let made_is : slots ≡ new = cc in
        subst (λ l. IsReferenceBound array slots l q r) made_is (record {
          stays = λ s x there. there;
          array_is = record { bound = bound; there = at; same = ap array (sym ((Decides-eqb r bound).0 same)) };
        })

null_bound : (a : List Reference) (array : ℕ → Option ℕ) (r q : ℕ) (slots new : References) (null : Bool) → NullsAreNull a array
    → is_null (nullness_at a r) ≡ null → q ≡ 0 → slice_get slots 0 ≡ Some (Some 0) → (if null then Some slots else None) ≡ Some new
    → IsReferenceBound array slots new q r
null_bound a array r q slots new false nulls is zero_is zero_there made = cc
null_bound a array r q slots new true nulls is zero_is zero_there made =
    let made_is : slots ≡ new = cc in
    subst (λ l. IsReferenceBound array slots l q r) made_is (record {
      stays = λ s x there. there;
      array_is = record { bound = 0; there = ap (slice_get slots) zero_is ∙ zero_there; same = nulls 0 refl ∙ sym (nulls r is) };
    })

-- Where a reference is bound, it is the array that it is bound to, and what was bound before stays bound.
reference_bound : (a b : List Reference) (array : ℕ → Option ℕ) (r q : ℕ) (slots new : References) → NullsAreNull a array
    → slice_get slots 0 ≡ Some (Some 0) → with_reference a b r q slots ≡ Some new → IsReferenceBound array slots new q r
reference_bound a b array r q slots new nulls zero_there is = by (q == 0) refl is
  where
    by : (zero_is : Bool) → (q == 0) ≡ zero_is
        → (if zero_is then (if is_null (nullness_at a r) then Some slots else None) else reference_in_slot (fits a b r q) slots r q (slice_get slots q)) ≡ Some new
        → IsReferenceBound array slots new q r
    by true zero_is made = null_bound a array r q slots new (is_null (nullness_at a r)) nulls refl ((Decides-eqb q 0).0 zero_is) zero_there made
    by false zero_is made = reference_slot_bound array (fits a b r q) r q slots new (slice_get slots q) refl made

-- ---- variables

-- In these slots a variable of the second state says what one of the first says.
abbrev Says : (ℕ → ℤ) → (ℕ → Option ℕ) → SlotLists → Var → Var → Type 0
Says number array slots (vars.Number e) (vars.Number f) = IsWorth number slots.symbols f (worth number e)
Says number array slots (vars.Reference r) (vars.Reference q) = IsArray array slots.references q r
Says number array slots vars.Text vars.Text = Unit {0}
Says number array slots (vars.Address r e) (vars.Address q f) = IsArray array slots.references q r × IsWorth number slots.symbols f (worth number e)
Says number array slots _ _ = ⊥

abbrev AllSay : (ℕ → ℤ) → (ℕ → Option ℕ) → SlotLists → List Var → List Var → Type 0
AllSay number array slots [] [] = Unit {0}
AllSay number array slots (x ∷ xs) (y ∷ ys) = Says number array slots x y × AllSay number array slots xs ys
AllSay number array slots _ _ = ⊥

record BothStay (old new : SlotLists) : Type 0 where
  symbols : Stays old.symbols new.symbols
  references : Stays old.references new.references

both_on : (a b c : SlotLists) → BothStay a b → BothStay b c → BothStay a c
both_on a b c first second = record {
  symbols = λ s x there. second.symbols s x (first.symbols s x there);
  references = λ s x there. second.references s x (first.references s x there);
}

says_later : (number : ℕ → ℤ) (array : ℕ → Option ℕ) (old new : SlotLists) (x y : Var) → BothStay old new → Says number array old x y → Says number array new x y
says_later number array old new (vars.Number e) (vars.Number f) stay says =
    record { bound = says.bound; there = stay.symbols f.sym says.bound says.there; same = says.same }
says_later number array old new (vars.Reference r) (vars.Reference q) stay says =
    record { bound = says.bound; there = stay.references q says.bound says.there; same = says.same }
says_later number array old new vars.Text vars.Text stay says = tt
says_later number array old new (vars.Address r e) (vars.Address q f) stay says = (
  record { bound = says.0.bound; there = stay.references q says.0.bound says.0.there; same = says.0.same },
  record { bound = says.1.bound; there = stay.symbols f.sym says.1.bound says.1.there; same = says.1.same },
)
says_later number array old new x y stay says = absurd says

all_later : (number : ℕ → ℤ) (array : ℕ → Option ℕ) (old new : SlotLists) (xs ys : List Var) → BothStay old new → AllSay number array old xs ys → AllSay number array new xs ys
all_later number array old new [] [] stay all = tt
all_later number array old new [] (y ∷ ys) stay all = absurd all
all_later number array old new (x ∷ xs) [] stay all = absurd all
all_later number array old new (x ∷ xs) (y ∷ ys) stay all = (says_later number array old new x y stay all.0, all_later number array old new xs ys stay all.1)

record IsVarBound (number : ℕ → ℤ) (array : ℕ → Option ℕ) (old new : SlotLists) (x y : Var) : Type 0 where
  stay : BothStay old new
  says : Says number array new x y

record AreVarsBound (number : ℕ → ℤ) (array : ℕ → Option ℕ) (old new : SlotLists) (xs ys : List Var) : Type 0 where
  stay : BothStay old new
  say : AllSay number array new xs ys

module _ (gap : Gaps) (number : ℕ → ℤ) (array : ℕ → Option ℕ) (a b : List Reference) (keep : KeepGaps gap number) (nulls : NullsAreNull a array) where
  number_var : (e f : Expr) (old new : SlotLists) (made : Option Symbols) → with_number gap e f old.symbols ≡ made
      → option_map (with_symbols old.references) made ≡ Some new → IsVarBound number array old new (vars.Number e) (vars.Number f)
  number_var e f old new None at is = cc
  number_var e f old new (Some symbols) at is =
      let bound = number_bound gap number e f old.symbols symbols keep at in
      let new_is : with_symbols old.references symbols ≡ new = cc in
      subst (λ n. IsVarBound number array old n (vars.Number e) (vars.Number f)) new_is
      (record { stay = record { symbols = bound.stays; references = λ s x there. there }; says = bound.worth_is })

  reference_var : (r q : ℕ) (old new : SlotLists) (made : Option References) → slice_get old.references 0 ≡ Some (Some 0) → with_reference a b r q old.references ≡ made
      → option_map (with_references old.symbols) made ≡ Some new → IsVarBound number array old new (vars.Reference r) (vars.Reference q)
  reference_var r q old new None zero_there at is = cc
  reference_var r q old new (Some references) zero_there at is =
      let bound = reference_bound a b array r q old.references references nulls zero_there at in
      let new_is : with_references old.symbols references ≡ new = cc in
      subst (λ n. IsVarBound number array old n (vars.Reference r) (vars.Reference q)) new_is
      (record { stay = record { symbols = λ s x there. there; references = bound.stays }; says = bound.array_is })

  text_var : (old new : SlotLists) → Some old ≡ Some new → IsVarBound number array old new vars.Text vars.Text
  text_var old new is =
      let new_is : old ≡ new = cc in
      subst (λ n. IsVarBound number array old n vars.Text vars.Text) new_is
      (record { stay = record { symbols = λ s x there. there; references = λ s x there. there }; says = tt })

  -- The reference is bound first. What it is bound to stays where the index is bound.
  address_var : (r q : ℕ) (e f : Expr) (old new : SlotLists) (made : Option SlotLists) → slice_get old.references 0 ≡ Some (Some 0) → bound_reference a b r q old ≡ made
      → option_and_then (bound_number gap e f) made ≡ Some new → IsVarBound number array old new (vars.Address r e) (vars.Address q f)
  address_var r q e f old new None zero_there at is = cc
  address_var r q e f old new (Some next) zero_there at is =
      let first = reference_var r q old next _ zero_there refl at in
      let index = number_var e f next new _ refl is in
      record {
        stay = both_on old next new first.stay index.stay;
        says = (says_later number array next new (vars.Reference r) (vars.Reference q) index.stay first.says, index.says);
      }

  var_bound : (x y : Var) (old new : SlotLists) → slice_get old.references 0 ≡ Some (Some 0) → with_var gap a b x y old ≡ Some new → IsVarBound number array old new x y
  var_bound (vars.Number e) (vars.Number f) old new zero_there is = number_var e f old new _ refl is
  var_bound (vars.Reference r) (vars.Reference q) old new zero_there is = reference_var r q old new _ zero_there refl is
  var_bound vars.Text vars.Text old new zero_there is = text_var old new is
  var_bound (vars.Address r e) (vars.Address q f) old new zero_there is = address_var r q e f old new _ zero_there refl is
  var_bound x y old new zero_there is = cc

  -- Where all variables are bound, those of the second state say what those of the first say.
  vars_bound : (xs ys : List Var) (old new : SlotLists) → slice_get old.references 0 ≡ Some (Some 0) → with_vars gap a b xs ys old ≡ Some new
      → AreVarsBound number array old new xs ys
  vars_bound [] [] old new zero_there is =
      let new_is : old ≡ new = cc in
      subst (λ n. AreVarsBound number array old n [] []) new_is
      (record { stay = record { symbols = λ s x there. there; references = λ s x there. there }; say = tt })
  vars_bound [] (y ∷ ys) old new zero_there is = cc
  vars_bound (x ∷ xs) [] old new zero_there is = cc
  vars_bound (x ∷ xs) (y ∷ ys) old new zero_there is = by (λ next there made. vars_bound xs ys next new there made) (with_var gap a b x y old) refl is
    where
      by : ((next : SlotLists) → slice_get next.references 0 ≡ Some (Some 0) → with_vars gap a b xs ys next ≡ Some new → AreVarsBound number array next new xs ys)
          → (next : Option SlotLists) → with_var gap a b x y old ≡ next → option_and_then (with_vars gap a b xs ys) next ≡ Some new
          → AreVarsBound number array old new (x ∷ xs) (y ∷ ys)
      by rest_bound None at made = cc
      by rest_bound (Some next) at made =
          let first = var_bound x y old next zero_there at in
          let rest = rest_bound next (first.stay.references 0 0 zero_there) made in
          record { stay = both_on old next new first.stay rest.stay; say = (says_later number array next new x y rest.stay first.says, rest.say) }

  -- ---- lengths

  length_stays : (known : Reference) (slot : Option ℕ) (old new : Symbols) → with_length gap a known slot old ≡ Some new → Stays old new
  length_stays known None old new is = cc
  length_stays known (Some r) old new is = (number_bound gap number (length_at a r) known.length old new keep is).stays

  lengths_stay : (rest : List Reference) (slots : References) (old new : Symbols) → with_lengths gap a rest slots old ≡ Some new → Stays old new
  lengths_stay [] slots old new is = let new_is : old ≡ new = cc in subst (Stays old) new_is (λ s x there. there)
  lengths_stay (known ∷ rest) slots old new is = by (λ next made. lengths_stay rest (drop 1 slots) next new made) (with_length gap a known (get_or slots 0 None) old) refl is
    where
      by : ((next : Symbols) → with_lengths gap a rest (drop 1 slots) next ≡ Some new → Stays next new)
          → (next : Option Symbols) → with_length gap a known (get_or slots 0 None) old ≡ next → option_and_then (with_lengths gap a rest (drop 1 slots)) next ≡ Some new → Stays old new
      by rest_stays None at made = cc
      by rest_stays (Some next) at made = λ s x there. rest_stays next made s x (length_stays known (get_or slots 0 None) old next at s x there)

-- ---- the whole

module _ {X : Type 0} where
  filled_behind : (slots : List (Option X)) (xs : List X) → all_filled slots ≡ Some xs → all_filled (drop 1 slots) ≡ Some (drop 1 xs)
  filled_behind [] xs is = let none : [] ≡ xs = cc in ap (λ l. Some (drop 1 l)) none
  filled_behind (None ∷ slots) xs is = cc
  filled_behind (Some y ∷ slots) xs is = by (all_filled slots) is
    where
      by : (rest : Option (List X)) → option_map (λ all. y ∷ all) rest ≡ Some xs → rest ≡ Some (drop 1 xs)
      by None made = cc
      by (Some rest) made = let made_is : y ∷ rest ≡ xs = cc in ap (λ l. Some (drop 1 l)) made_is

  filled_first : (slots : List (Option X)) (xs : List X) (x d : X) → all_filled slots ≡ Some xs → get_or slots 0 None ≡ Some x → get_or xs 0 d ≡ x
  filled_first [] xs x d is first = cc
  filled_first (None ∷ slots) xs x d is first = cc
  filled_first (Some y ∷ slots) xs x d is first = by (all_filled slots) is
    where
      by : (rest : Option (List X)) → option_map (λ all. y ∷ all) rest ≡ Some xs → get_or xs 0 d ≡ x
      by None made = cc
      by (Some rest) made =
          let made_is : y ∷ rest ≡ xs = cc in
          let item_is : y ≡ x = cc in
          ap (λ l. get_or l 0 d) (sym made_is) ∙ item_is

  filled_at : (slots : List (Option X)) (xs : List X) (s : ℕ) (x d : X) → all_filled slots ≡ Some xs → slice_get slots s ≡ Some (Some x) → get_or xs s d ≡ x
  filled_at [] xs s x d is there = cc
  filled_at (None ∷ slots) xs s x d is there = cc
  filled_at (Some y ∷ slots) xs zero x d is there = by (all_filled slots) is
    where
      by : (rest : Option (List X)) → option_map (λ all. y ∷ all) rest ≡ Some xs → get_or xs 0 d ≡ x
      by None made = cc
      by (Some rest) made =
          let made_is : y ∷ rest ≡ xs = cc in
          let item_is : y ≡ x = cc in
          ap (λ l. get_or l 0 d) (sym made_is) ∙ item_is
  filled_at (Some y ∷ slots) xs (suc s) x d is there = by (λ rest rest_is. filled_at slots rest s x d rest_is there) (all_filled slots) refl is
    where
      by : ((rest : List X) → all_filled slots ≡ Some rest → get_or rest s d ≡ x) → (rest : Option (List X)) → all_filled slots ≡ rest
          → option_map (λ all. y ∷ all) rest ≡ Some xs → get_or xs (suc s) d ≡ x
      by rest_at None rest_is made = cc
      by rest_at (Some rest) rest_is made =
          let made_is : y ∷ rest ≡ xs = cc in
          ap (λ l. get_or l (suc s) d) (sym made_is) ∙ rest_at rest rest_is

worth_filled : (number : ℕ → ℤ) (symbols : Symbols) (binding : FrameBinding) (f : Expr) (n : ℤ) → all_filled symbols ≡ Some binding.symbols
    → IsWorth number symbols f n → worth (numbers_bound number binding) f ≡ n
worth_filled number symbols binding f n filled_is is =
    ap (λ bound. bound_worth number bound +ℤ f.k) (filled_at symbols binding.symbols f.sym is.bound zero_bound filled_is is.there) ∙ is.same

array_filled : (array : ℕ → Option ℕ) (references : References) (binding : FrameBinding) (q r : ℕ) → all_filled references ≡ Some binding.references
    → IsArray array references q r → arrays_bound array binding q ≡ array r
array_filled array references binding q r filled_is is = ap array (filled_at references binding.references q is.bound 0 filled_is is.there) ∙ is.same

say_filled : (number : ℕ → ℤ) (array : ℕ → Option ℕ) (slots : SlotLists) (binding : FrameBinding) (x y : Var) → all_filled slots.symbols ≡ Some binding.symbols
    → all_filled slots.references ≡ Some binding.references → Says number array slots x y
    → said (numbers_bound number binding) (arrays_bound array binding) y ≡ said number array x
say_filled number array slots binding (vars.Number e) (vars.Number f) symbols references says =
    ap (λ n. a_number n) (worth_filled number slots.symbols binding f (worth number e) symbols says)
say_filled number array slots binding (vars.Reference r) (vars.Reference q) symbols references says =
    ap (λ n. an_array n) (array_filled array slots.references binding q r references says)
say_filled number array slots binding vars.Text vars.Text symbols references says = refl
say_filled number array slots binding (vars.Address r e) (vars.Address q f) symbols references says =
    ap (λ n. an_address n (worth (numbers_bound number binding) f)) (array_filled array slots.references binding q r references says.0)
    ∙ ap (λ n. an_address (array r) n) (worth_filled number slots.symbols binding f (worth number e) symbols says.1)
say_filled number array slots binding x y symbols references says = absurd says

all_filled_say : (number : ℕ → ℤ) (array : ℕ → Option ℕ) (slots : SlotLists) (binding : FrameBinding) (xs ys : List Var) → all_filled slots.symbols ≡ Some binding.symbols
    → all_filled slots.references ≡ Some binding.references → AllSay number array slots xs ys
    → map (said (numbers_bound number binding) (arrays_bound array binding)) ys ≡ map (said number array) xs
all_filled_say number array slots binding [] [] symbols references all = refl
all_filled_say number array slots binding [] (y ∷ ys) symbols references all = absurd all
all_filled_say number array slots binding (x ∷ xs) [] symbols references all = absurd all
all_filled_say number array slots binding (x ∷ xs) (y ∷ ys) symbols references all =
    ap (λ v. v ∷ map (said (numbers_bound number binding) (arrays_bound array binding)) ys) (say_filled number array slots binding x y symbols references all.0)
    ∙ ap (λ l. said number array x ∷ l) (all_filled_say number array slots binding xs ys symbols references all.1)

record AreFilled (symbols : Symbols) (references : References) (binding : FrameBinding) : Type 0 where
  symbols_are : all_filled symbols ≡ Some binding.symbols
  references_are : all_filled references ≡ Some binding.references

both_are : (symbols : Symbols) (references : References) (made : Option (List Bound)) (found : Option (List ℕ)) (binding : FrameBinding)
    → all_filled symbols ≡ made → all_filled references ≡ found → both_filled made found ≡ Some binding → AreFilled symbols references binding
both_are symbols references None found binding first second is = cc
both_are symbols references (Some s) None binding first second is = cc
both_are symbols references (Some s) (Some r) binding first second is =
    let binding_is : record { symbols = s; references = r } ≡ binding = cc in
    subst (AreFilled symbols references) binding_is (record { symbols_are = first; references_are = second })

bound_says : (gap : Gaps) (a_vars b_vars : List Var) (a b : List Reference) (count : ℕ) (binding : FrameBinding)
    → bound_frames gap a_vars a b_vars b count ≡ Some binding → SaysSame gap a_vars a b_vars binding
bound_says gap a_vars b_vars a b count binding is = λ number array keep nulls.
    let start = free_slots count (length b) in
    by number array keep nulls (with_vars gap a b a_vars b_vars start) refl is
  where
    at_end : (number : ℕ → ℤ) (array : ℕ → Option ℕ) → KeepGaps gap number → NullsAreNull a array → (slots : SlotLists) → AllSay number array slots a_vars b_vars
        → (symbols : Option Symbols) → with_lengths gap a b (drop 1 slots.references) slots.symbols ≡ symbols
        → option_and_then (filled_with slots.references) symbols ≡ Some binding
        → map (said (numbers_bound number binding) (arrays_bound array binding)) b_vars ≡ map (said number array) a_vars
    at_end number array keep nulls slots say None at made = cc
    at_end number array keep nulls slots say (Some symbols) at made =
        let are = both_are symbols slots.references (all_filled symbols) (all_filled slots.references) binding refl refl made in
        let later : SlotLists = record { symbols = symbols; references = slots.references } in
        let stay : BothStay slots later = record {
          symbols = lengths_stay gap number array a b keep nulls b (drop 1 slots.references) slots.symbols symbols at;
          references = λ s x there. there;
        } in
        all_filled_say number array later binding a_vars b_vars are.symbols_are are.references_are (all_later number array slots later a_vars b_vars stay say)

    by : (number : ℕ → ℤ) (array : ℕ → Option ℕ) → KeepGaps gap number → NullsAreNull a array → (found : Option SlotLists)
        → with_vars gap a b a_vars b_vars (free_slots count (length b)) ≡ found → option_and_then (filled gap a b) found ≡ Some binding
        → map (said (numbers_bound number binding) (arrays_bound array binding)) b_vars ≡ map (said number array) a_vars
    by number array keep nulls None at made = cc
    by number array keep nulls (Some slots) at made =
        at_end number array keep nulls slots (vars_bound gap number array a b keep nulls a_vars b_vars (free_slots count (length b)) slots refl at).say
        (with_lengths gap a b (drop 1 slots.references) slots.symbols) refl made

-- By the numbers and arrays of the first state, the variables of the second say what those of the first say.
pub frames_say_same : (gap : Gaps) (a_vars b_vars : List Var) (a b : List Reference) (count : ℕ) (found : Option FrameBinding)
    → found ≡ bound_frames gap a_vars a b_vars b count → IfSome found (SaysSame gap a_vars a b_vars)
frames_say_same gap a_vars b_vars a b count None is = tt
frames_say_same gap a_vars b_vars a b count (Some binding) is = bound_says gap a_vars b_vars a b count binding (sym is)

-- ---- lengths

worth_later : (number : ℕ → ℤ) (old new : Symbols) (f : Expr) (n : ℤ) → Stays old new → IsWorth number old f n → IsWorth number new f n
worth_later number old new f n stays is = record { bound = is.bound; there = stays f.sym is.bound is.there; same = is.same }

module _ (gap : Gaps) (number : ℕ → ℤ) (a : List Reference) (keep : KeepGaps gap number) where
  record IsLength (known : Reference) (slot : Option ℕ) (symbols : Symbols) : Type 0 where
    reference : ℕ
    slot_is : slot ≡ Some reference
    worth_is : IsWorth number symbols known.length (worth number (length_at a reference))

  abbrev AreLengths : List Reference → References → Symbols → Type 0
  AreLengths [] slots symbols = Unit {0}
  AreLengths (known ∷ rest) slots symbols = IsLength known (get_or slots 0 None) symbols × AreLengths rest (drop 1 slots) symbols

  one_length : (known : Reference) (slot : Option ℕ) (old new : Symbols) → with_length gap a known slot old ≡ Some new → IsLength known slot new
  one_length known None old new is = cc
  one_length known (Some r) old new is =
      record { reference = r; slot_is = refl; worth_is = (number_bound gap number (length_at a r) known.length old new keep is).worth_is }

  are_lengths : (rest : List Reference) (slots : References) (old new : Symbols) → with_lengths gap a rest slots old ≡ Some new → AreLengths rest slots new
  are_lengths [] slots old new is = tt
  are_lengths (known ∷ rest) slots old new is =
      by (λ next made. are_lengths rest (drop 1 slots) next new made) (with_length gap a known (get_or slots 0 None) old) refl is
    where
      by : ((next : Symbols) → with_lengths gap a rest (drop 1 slots) next ≡ Some new → AreLengths rest (drop 1 slots) new)
          → (next : Option Symbols) → with_length gap a known (get_or slots 0 None) old ≡ next
          → option_and_then (with_lengths gap a rest (drop 1 slots)) next ≡ Some new → AreLengths (known ∷ rest) slots new
      by rest_are None at made = cc
      by rest_are (Some next) at made =
          let first = one_length known (get_or slots 0 None) old next at in
          let stays = lengths_stay gap number (λ r. None) a [] keep (λ r null. refl) rest (drop 1 slots) next new made in (
            record {
              reference = first.reference;
              slot_is = first.slot_is;
              worth_is = worth_later number next new known.length (worth number (length_at a first.reference)) stays first.worth_is;
            },
            rest_are next made,
          )

  are_bound : (rest : List Reference) (slots : References) (bound : List ℕ) (symbols : Symbols) (binding : FrameBinding) → all_filled symbols ≡ Some binding.symbols
      → all_filled slots ≡ Some bound → AreLengths rest slots symbols → AreLengthsBound number binding a rest bound
  are_bound [] slots bound symbols binding filled_is bound_is are = tt
  are_bound (known ∷ rest) slots bound symbols binding filled_is bound_is are = (
    worth_filled number symbols binding known.length (worth number (length_at a are.0.reference)) filled_is are.0.worth_is
        ∙ ap (λ r. worth number (length_at a r)) (sym (filled_first slots bound are.0.reference 0 bound_is are.0.slot_is)),
    are_bound rest (drop 1 slots) (drop 1 bound) symbols binding filled_is (filled_behind slots bound bound_is) are.1,
  )

bound_lengths : (gap : Gaps) (a_vars b_vars : List Var) (a b : List Reference) (count : ℕ) (binding : FrameBinding)
    → bound_frames gap a_vars a b_vars b count ≡ Some binding → HasSameLengths gap a b binding
bound_lengths gap a_vars b_vars a b count binding is = λ number keep. by number keep (with_vars gap a b a_vars b_vars (free_slots count (length b))) is
  where
    at_end : (number : ℕ → ℤ) → KeepGaps gap number → (slots : SlotLists) (symbols : Option Symbols)
        → with_lengths gap a b (drop 1 slots.references) slots.symbols ≡ symbols → option_and_then (filled_with slots.references) symbols ≡ Some binding
        → AreLengthsBound number binding a b (drop 1 binding.references)
    at_end number keep slots None at made = cc
    at_end number keep slots (Some symbols) at made =
        let are = both_are symbols slots.references (all_filled symbols) (all_filled slots.references) binding refl refl made in
        are_bound gap number a keep b (drop 1 slots.references) (drop 1 binding.references) symbols binding are.symbols_are
        (filled_behind slots.references binding.references are.references_are)
        (are_lengths gap number a keep b (drop 1 slots.references) slots.symbols symbols at)

    by : (number : ℕ → ℤ) → KeepGaps gap number → (found : Option SlotLists) → option_and_then (filled gap a b) found ≡ Some binding
        → AreLengthsBound number binding a b (drop 1 binding.references)
    by number keep None made = cc
    by number keep (Some slots) made = at_end number keep slots (with_lengths gap a b (drop 1 slots.references) slots.symbols) refl made

-- By the numbers of the first state, the lengths of the second are worth what those are of what its references are
-- bound to.
pub frames_have_same_lengths : (gap : Gaps) (a_vars b_vars : List Var) (a b : List Reference) (count : ℕ) (found : Option FrameBinding)
    → found ≡ bound_frames gap a_vars a b_vars b count → IfSome found (HasSameLengths gap a b)
frames_have_same_lengths gap a_vars b_vars a b count None is = tt
frames_have_same_lengths gap a_vars b_vars a b count (Some binding) is = bound_lengths gap a_vars b_vars a b count binding (sym is)
