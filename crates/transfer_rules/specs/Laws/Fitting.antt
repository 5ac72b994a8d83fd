-- Variables that fit kinds still do where one comes or goes or changes, and where references stay of their types.
use Rattle.std.proofs.Common.{◌≡◌, ℕ, zero, suc, ◌-◌, ◌≤◌, true, false, List, [], ◌∷◌, ◌++◌, length, take, map, slice_get, Option, Some, None, refl, sym, ap, subst, ◌∙◌, append_assoc, arith}
use Rattle.std.specs.Prelude.{reverse, set}
use Rattle.std.specs.List.{AllByRecursion}
use Rattle.std.specs.Option.{option_map}
use Rattle.std.proofs.lemmas.List.{reverse-append}
use Rattle.std.proofs.lemmas.Option.{none-some, same_Some}
use Rattle.cil_model.specs.declared.place.Kind.{Kind}
use Rattle.cil_model.specs.declared.place.Kind.TheVariants as kinds
use Rattle.cil_model.specs.declared.place.Place.{Place}
use Rattle.cil_model.specs.declared.place.Place.TheVariants as places
use Rattle.cil_model.specs.declared.unit.Unit.{Unit as MethodUnit}
use Rattle.clause_trees.specs.VariableKinds.{place_in}
use Rattle.domain_api.specs.declared.expr.Expr.{Expr}
use Rattle.frame_names.specs.declared.reference.Reference.{Reference}
use Rattle.frame_names.specs.declared.var.Var.{Var}
use Rattle.frame_names.specs.declared.var.Var.TheVariants as vars
use Rattle.obligation_prover.specs.Operations.{from_top}
use Rattle.state_facts.proofs.Growing.{one_longer}
use Rattle.state_facts.proofs.MoveForms.{popped_form, pushed_form}
use Rattle.state_facts.specs.Forms.{HasVar}
use Rattle.state_facts.specs.Moves.{popped, pushed}
use Rattle.state_facts.specs.StateFacts.{StateFacts, State, reference_at}
use Rattle.state_obligations.specs.Following.{StaysThere, shape_of}
use Rattle.transfer_rules.specs.Forms.{FitKinds, FitsKind, FitsStack, HasKinds, kind_in, kinds_over}
use Rattle.transfer_rules.specs.Laws.KindForms.{same_reference}
use Rattle.transfer_rules.specs.Operands.{Rule, on_one, on_two, on_three, with_one}

-- ---- references that stay

-- Each reference that was there is of its type still.
abbrev pub PlacesStay : StateFacts → StateFacts → Type 0
PlacesStay before after = (r : ℕ) → r ≤ length before.references → place_in after r ≡ place_in before r

abbrev type_of : Option Reference → Option Place
type_of found = option_map (λ reference. reference.place) found

pub places_same : (before after : StateFacts) → after.references ≡ before.references → PlacesStay before after
places_same before after same = λ r there. ap (λ references. type_of (reference_at references r)) same

shaped : (xs ys : List Reference) (i : ℕ) → map shape_of ys ≡ map shape_of xs
    → type_of (slice_get ys i) ≡ type_of (slice_get xs i)
shaped [] [] i same = refl
shaped [] (y ∷ ys) i same = absurd cc
shaped (x ∷ xs) [] i same = absurd cc
shaped (x ∷ xs) (y ∷ ys) zero same = ap Some head
  where
    both : shape_of y ≡ shape_of x
    both = cc

    head : y.place ≡ x.place
    head = ap (λ (p : Place × Expr). p.0) both
shaped (x ∷ xs) (y ∷ ys) (suc i) same = shaped xs ys i tail
  where
    tail : map shape_of ys ≡ map shape_of xs
    tail = cc

shape_stays : (xs ys : List Reference) (r : ℕ) → map shape_of ys ≡ map shape_of xs
    → type_of (reference_at ys r) ≡ type_of (reference_at xs r)
unfolding reference_at
shape_stays xs ys zero same = refl
shape_stays xs ys (suc r) same = shaped xs ys r same

pub places_shaped : (before after : StateFacts) → map shape_of after.references ≡ map shape_of before.references
    → PlacesStay before after
places_shaped before after same = λ r there. shape_stays before.references after.references r same

longer : (xs more : List Reference) (r : ℕ) → r ≤ length xs → reference_at (xs ++ more) r ≡ reference_at xs r
unfolding reference_at
longer xs more zero there = refl
longer [] more (suc r) there = absurd (omega (arith, there))
longer (x ∷ xs) more (suc zero) there = refl
longer (x ∷ xs) more (suc (suc r)) there = longer xs more (suc r) (omega (arith, there))

pub places_more : (before after : StateFacts) (more : List Reference)
    → after.references ≡ before.references ++ more
    → PlacesStay before after
places_more before after more same = λ r there.
    ap (λ references. type_of (reference_at references r)) same
    ∙ ap type_of (longer before.references more r there)

-- ---- variables that stay

pub kind_stays : (before after : StateFacts) (kind : Kind) (v : Var) → PlacesStay before after → HasVar before v
    → FitsKind before kind v
    → FitsKind after kind v
kind_stays before after kinds.Int (vars.Number e) stay there fits = tt
kind_stays before after kinds.Native (vars.Number e) stay there fits = tt
kind_stays before after kinds.Ints (vars.Reference r) stay there fits =
    same_reference before after places.Ints true r r (stay r there) fits
kind_stays before after kinds.Bools (vars.Reference r) stay there fits =
    same_reference before after places.Bools true r r (stay r there) fits
kind_stays before after kinds.NullRef (vars.Reference r) stay there fits = fits
kind_stays before after kinds.Text vars.Text stay there fits = tt
kind_stays before after kinds.AddrInts (vars.Address r i) stay there fits =
    same_reference before after places.Ints false r r (stay r there.0) fits
kind_stays before after kinds.AddrBools (vars.Address r i) stay there fits =
    same_reference before after places.Bools false r r (stay r there.0) fits
kind_stays before after _ _ stay there fits = elim fits [ ]

pub fit_stays : (before after : StateFacts) (ks : List Kind) (vs : List Var) → PlacesStay before after
    → AllByRecursion (HasVar before) vs
    → FitKinds before ks vs → FitKinds after ks vs
fit_stays before after [] [] stay there fits = tt
fit_stays before after (k ∷ ks) (v ∷ vs) stay there fits =
    (kind_stays before after k v stay there.0 fits.0, fit_stays before after ks vs stay there.1 fits.1)
fit_stays before after [] (v ∷ vs) stay there fits = elim fits [ ]
fit_stays before after (k ∷ ks) [] stay there fits = elim fits [ ]

-- ---- lists of variables

pub fit_pushed : (known : StateFacts) (ks : List Kind) (vs : List Var) (k : Kind) (v : Var) → FitKinds known ks vs
    → FitsKind known k v
    → FitKinds known (ks ++ k ∷ []) (vs ++ v ∷ [])
fit_pushed known [] [] k v fits last = (last, tt)
fit_pushed known [] (w ∷ vs) k v fits last = elim fits [ ]
fit_pushed known (j ∷ ks) [] k v fits last = elim fits [ ]
fit_pushed known (j ∷ ks) (w ∷ vs) k v fits last = (fits.0, fit_pushed known ks vs k v fits.1 last)

pub fit_both : (known : StateFacts) (ks js : List Kind) (vs ws : List Var) → FitKinds known ks vs → FitKinds known js ws
    → FitKinds known (ks ++ js) (vs ++ ws)
fit_both known [] js [] ws first second = second
fit_both known [] js (v ∷ vs) ws first second = elim first [ ]
fit_both known (k ∷ ks) js [] ws first second = elim first [ ]
fit_both known (k ∷ ks) js (v ∷ vs) ws first second = (first.0, fit_both known ks js vs ws first.1 second)

-- The last variable, and those before it.
pub record FitLast (known : StateFacts) (ks : List Kind) (k : Kind) (vs : List Var) : Type 0 where
  pub prefix : List Var
  pub top : Var
  pub are : vs ≡ prefix ++ top ∷ []
  pub fit : FitKinds known ks prefix
  pub last : FitsKind known k top

pub fit_last : (known : StateFacts) (ks : List Kind) (k : Kind) (vs : List Var) → FitKinds known (ks ++ k ∷ []) vs
    → FitLast known ks k vs
fit_last known [] k [] fits = elim fits [ ]
fit_last known [] k (v ∷ []) fits = record { prefix = []; top = v; are = refl; fit = tt; last = fits.0 }
fit_last known [] k (v ∷ w ∷ vs) fits = elim fits.1 [ ]
fit_last known (j ∷ ks) k [] fits = elim fits [ ]
fit_last known (j ∷ ks) k (v ∷ vs) fits =
    let rest = fit_last known ks k vs fits.1 in
    record {
      prefix = v ∷ rest.prefix;
      top = rest.top;
      are = ap (λ l. v ∷ l) rest.are;
      fit = (fits.0, rest.fit);
      last = rest.last;
    }

-- The variable at an index.
pub record FitAt (known : StateFacts) (k : Kind) (vs : List Var) (i : ℕ) : Type 0 where
  pub var : Var
  pub is : slice_get vs i ≡ Some var
  pub fits : FitsKind known k var

pub fit_at : (known : StateFacts) (ks : List Kind) (vs : List Var) (i : ℕ) (k : Kind) → FitKinds known ks vs
    → slice_get ks i ≡ Some k
    → FitAt known k vs i
fit_at known [] vs i k fits is = absurd (none-some k is)
fit_at known (j ∷ ks) [] i k fits is = elim fits [ ]
fit_at known (j ∷ ks) (v ∷ vs) zero k fits is =
    record { var = v; is = refl; fits = subst (λ x. FitsKind known x v) (same_Some j k is) fits.0 }
fit_at known (j ∷ ks) (v ∷ vs) (suc i) k fits is =
    let rest = fit_at known ks vs i k fits.1 is in record { var = rest.var; is = rest.is; fits = rest.fits }

pub fit_set : (known : StateFacts) (ks : List Kind) (vs : List Var) (i : ℕ) (k : Kind) (v : Var) → FitKinds known ks vs
    → slice_get ks i ≡ Some k → FitsKind known k v → FitKinds known ks (set vs i v)
fit_set known [] vs i k v fits is one = absurd (none-some k is)
fit_set known (j ∷ ks) [] i k v fits is one = elim fits [ ]
fit_set known (j ∷ ks) (w ∷ vs) zero k v fits is one =
    (subst (λ x. FitsKind known x v) (sym (same_Some j k is)) one, fits.1)
fit_set known (j ∷ ks) (w ∷ vs) (suc i) k v fits is one = (fits.0, fit_set known ks vs i k v fits.1 is one)

pub there_at : (P : Var → Type 0) (vs : List Var) (i : ℕ) (v : Var) → AllByRecursion P vs → slice_get vs i ≡ Some v
    → P v
there_at P [] i v all is = absurd (none-some v is)
there_at P (w ∷ vs) zero v all is = subst P (same_Some w v is) all.0
there_at P (w ∷ vs) (suc i) v all is = there_at P vs i v all.1 is

last_there : (P : Var → Type 0) (prefix : List Var) (top : Var) → AllByRecursion P (prefix ++ top ∷ []) → P top
last_there P [] top all = all.0
last_there P (v ∷ prefix) top all = last_there P prefix top all.1

prefix_there : (P : Var → Type 0) (prefix : List Var) (top : Var) → AllByRecursion P (prefix ++ top ∷ [])
    → AllByRecursion P prefix
prefix_there P [] top all = tt
prefix_there P (v ∷ prefix) top all = (all.0, prefix_there P prefix top all.1)

all_but_last : (prefix : List Var) (top : Var) → take (length (prefix ++ top ∷ []) - 1) (prefix ++ top ∷ []) ≡ prefix
all_but_last [] top = refl
all_but_last (v ∷ prefix) top =
    let size : length ((v ∷ prefix) ++ top ∷ []) - 1 ≡ suc (length (prefix ++ top ∷ []) - 1) =
    let many = one_longer prefix top in omega (arith, many) in
    ap (λ n. take n ((v ∷ prefix) ++ top ∷ [])) size ∙ ap (λ l. v ∷ l) (all_but_last prefix top)

top_of : (prefix : List Var) (top : Var) → slice_get (reverse (prefix ++ top ∷ [])) 0 ≡ Some top
top_of prefix top = ap (λ l. slice_get l 0) (reverse-append prefix (top ∷ []))

under_top : (prefix : List Var) (top : Var) → slice_get (reverse (prefix ++ top ∷ [])) 1 ≡ slice_get (reverse prefix) 0
under_top prefix top = ap (λ l. slice_get l 1) (reverse-append prefix (top ∷ []))

-- ---- what is known

abbrev pub AreKinds : List Kind → State → Type 0
AreKinds ks None = Unit {0}
AreKinds ks (Some known) = HasKinds ks known

pub over_stack : (unit : MethodUnit) (stack : List Kind) (state : State) → AreKinds (kinds_over unit stack) state
    → FitsStack unit (Some stack) state
over_stack unit stack None are = tt
over_stack unit stack (Some known) are = are

pub has_stayed : (ks : List Kind) (before after : StateFacts) → StaysThere before after → HasKinds ks before
    → HasKinds ks after
has_stayed ks before after stays has = record {
  form = stays.form;
  fit = subst (FitKinds after ks) (sym stays.variables)
      (fit_stays before after ks before.variables
      (places_shaped before after stays.references) has.form.variables has.fit);
}

pub has_pushed : (ks : List Kind) (k : Kind) (v : Var) (known : StateFacts) → HasKinds ks known → HasVar known v
    → FitsKind known k v
    → HasKinds (ks ++ k ∷ []) (pushed known v)
has_pushed ks k v known has there fits =
    let same = places_same known (pushed known v) refl in
    record {
      form = pushed_form known v has.form there;
      fit =
          fit_pushed (pushed known v) ks known.variables k v
          (fit_stays known (pushed known v) ks known.variables same has.form.variables has.fit)
          (kind_stays known (pushed known v) k v same there fits);
    }

-- The variable on top, and what is known without it.
pub record HasPopped (ks : List Kind) (k : Kind) (known : StateFacts) : Type 0 where
  pub top : Var
  pub is : from_top 0 known ≡ Some top
  pub below : from_top 1 known ≡ from_top 0 (popped known)
  pub there : HasVar (popped known) top
  pub fits : FitsKind (popped known) k top
  pub rest : HasKinds ks (popped known)

pub has_popped : (ks : List Kind) (k : Kind) (known : StateFacts) → HasKinds (ks ++ k ∷ []) known → HasPopped ks k known
unfolding popped
has_popped ks k known has =
    let ends = fit_last known ks k known.variables has.fit in
    let same = places_same known (popped known) refl in
    let all = subst (AllByRecursion (HasVar known)) ends.are has.form.variables in
    let there = last_there (HasVar known) ends.prefix ends.top all in
    let left : take (length known.variables - 1) known.variables ≡ ends.prefix =
    ap (λ vs. take (length vs - 1) vs) ends.are ∙ all_but_last ends.prefix ends.top in
    record {
      top = ends.top;
      is = ap (λ vs. slice_get (reverse vs) 0) ends.are ∙ top_of ends.prefix ends.top;
      below = ap (λ vs. slice_get (reverse vs) 1) ends.are ∙ under_top ends.prefix ends.top
          ∙ ap (λ vs. slice_get (reverse vs) 0) (sym left);
      there = there;
      fits = kind_stays known (popped known) k ends.top same there ends.last;
      rest = record {
        form = popped_form known has.form;
        fit = subst (FitKinds (popped known) ks) (sym left)
            (fit_stays known (popped known) ks ends.prefix same
            (prefix_there (HasVar known) ends.prefix ends.top all) ends.fit);
      };
    }

-- ---- stacks

pub over_more : (unit : MethodUnit) (k : Kind) (stack : List Kind)
    → kinds_over unit (k ∷ stack) ≡ kinds_over unit stack ++ k ∷ []
over_more unit k stack =
    let base = map kind_in unit.args ++ map kind_in unit.args ++ map kind_in unit.locals in
    ap (λ l. base ++ l) (reverse-append (k ∷ []) stack) ∙ sym (append_assoc base (reverse stack) (k ∷ []))

-- An operand that was taken: it is there, and fits its kind.
pub record IsOperand (known : StateFacts) (k : Kind) (v : Var) : Type 0 where
  pub there : HasVar known v
  pub fits : FitsKind known k v

pub operand_popped : (known : StateFacts) (k : Kind) (v : Var) → IsOperand known k v → IsOperand (popped known) k v
unfolding popped
operand_popped known k v is =
    record {
      there = is.there;
      fits = kind_stays known (popped known) k v (places_same known (popped known) refl) is.there is.fits;
    }

pub operand_before : (known : StateFacts) (k : Kind) (v : Var) → IsOperand (popped known) k v → IsOperand known k v
unfolding popped
operand_before known k v is =
    record {
      there = is.there;
      fits = kind_stays (popped known) known k v (places_same (popped known) known refl) is.there is.fits;
    }

module _ (unit : MethodUnit) where
  pub over_pushed : (k : Kind) (stack : List Kind) (v : Var) (known : StateFacts)
      → HasKinds (kinds_over unit stack) known
      → IsOperand known k v → HasKinds (kinds_over unit (k ∷ stack)) (pushed known v)
  over_pushed k stack v known has is =
      subst (λ ks. HasKinds ks (pushed known v)) (sym (over_more unit k stack))
      (has_pushed (kinds_over unit stack) k v known has is.there is.fits)

  pub over_popped : (k : Kind) (stack : List Kind) (known : StateFacts) → HasKinds (kinds_over unit (k ∷ stack)) known
      → HasPopped (kinds_over unit stack) k known
  over_popped k stack known has =
      has_popped (kinds_over unit stack) k known (subst (λ ks. HasKinds ks known) (over_more unit k stack) has)

  pub one_taken : (k : Kind) (stack : List Kind) (to : Option (List Kind)) (rule : Var → Rule) (known : StateFacts)
      → HasKinds (kinds_over unit (k ∷ stack)) known
      → ((v : Var) → IsOperand (popped known) k v → HasKinds (kinds_over unit stack) (popped known)
      → FitsStack unit to (rule v (popped known)))
      → FitsStack unit to (on_one rule known)
  one_taken k stack to rule known has next =
      let top = over_popped k stack known has in
      subst (λ o. FitsStack unit to (with_one rule o (popped known))) (sym top.is)
      (next top.top (record { there = top.there; fits = top.fits }) top.rest)

  -- The two uppermost, which the stack has on top.
  pub two_tops : (k j : Kind) (stack : List Kind) (to : Option (List Kind)) (rule : Var → Var → Rule)
      (known : StateFacts)
      → HasKinds (kinds_over unit (k ∷ j ∷ stack)) known
      → ((lower upper : Var) (x : StateFacts) → from_top 1 known ≡ Some lower → from_top 0 known ≡ Some upper
      → IsOperand x j lower → IsOperand x k upper → HasKinds (kinds_over unit stack) x
      → FitsStack unit to (rule lower upper x))
      → FitsStack unit to (on_two rule known)
  two_tops k j stack to rule known has next =
      let upper = over_popped k (j ∷ stack) known has in
      let lower = over_popped j stack (popped known) upper.rest in
      subst (λ o. FitsStack unit to (with_one (λ above. on_one (λ below. rule below above)) o (popped known)))
      (sym upper.is)
      (subst (λ o. FitsStack unit to (with_one (λ below. rule below upper.top) o (popped (popped known))))
      (sym lower.is)
      (next lower.top upper.top (popped (popped known)) (upper.below ∙ lower.is) upper.is
      (record { there = lower.there; fits = lower.fits })
      (operand_popped (popped known) k upper.top (record { there = upper.there; fits = upper.fits })) lower.rest))

  pub two_taken : (k j : Kind) (stack : List Kind) (to : Option (List Kind)) (rule : Var → Var → Rule)
      (known : StateFacts)
      → HasKinds (kinds_over unit (k ∷ j ∷ stack)) known
      → ((lower upper : Var) (x : StateFacts) → IsOperand x j lower → IsOperand x k upper
      → HasKinds (kinds_over unit stack) x
      → FitsStack unit to (rule lower upper x))
      → FitsStack unit to (on_two rule known)
  two_taken k j stack to rule known has next =
      two_tops k j stack to rule known has
      (λ lower upper x lower_is upper_is first second last. next lower upper x first second last)

  pub three_taken : (k j h : Kind) (stack : List Kind) (to : Option (List Kind)) (rule : Var → Var → Var → Rule)
      (known : StateFacts)
      → HasKinds (kinds_over unit (k ∷ j ∷ h ∷ stack)) known
      → ((lowest lower upper : Var) (x : StateFacts) → IsOperand x h lowest → IsOperand x j lower → IsOperand x k upper
      → HasKinds (kinds_over unit stack) x → FitsStack unit to (rule lowest lower upper x))
      → FitsStack unit to (on_three rule known)
  three_taken k j h stack to rule known has next =
      one_taken k (j ∷ h ∷ stack) to (λ upper. on_two (λ lowest lower. rule lowest lower upper)) known has
      (λ upper is rest. one_taken j (h ∷ stack) to (λ lower. on_one (λ lowest. rule lowest lower upper))
      (popped known) rest
      (λ lower own more. one_taken h stack to (λ lowest. rule lowest lower upper) (popped (popped known)) more
      (λ lowest first last. next lowest lower upper (popped (popped (popped known))) first
      (operand_popped (popped (popped known)) j lower own)
      (operand_popped (popped (popped known)) k upper (operand_popped (popped known) k upper is)) last)))
