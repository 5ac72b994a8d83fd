-- What lies on top of a stack is what the last variable has, and what a variable of a frame has is found by its place.
use Rattle.std.proofs.Common.{◌≡◌, ℕ, zero, suc, ◌+◌, ◌-◌, ◌<◌, ℤ, Option, Some, None, List, [], ◌∷◌, ◌++◌, length, take, refl, sym, ap, subst, ◌∙◌, zero-add, arith, append_assoc, length-append}
use Rattle.std.specs.Prelude.{reverse, set, slice_get}
use Rattle.std.specs.List.{AllByRecursion}
use Rattle.std.proofs.lemmas.List.{reverse-append, set-append_left, take-append-le, take_all}
use Rattle.std.proofs.lemmas.Option.{none-some, same_Some}
use Rattle.cil_model.specs.Comparisons.{number_of, reference_of}
use Rattle.cil_model.specs.Configs.{IsFrameOf}
use Rattle.cil_model.specs.Values.{FitPlaces, Heap}
use Rattle.cil_model.specs.declared.machine.Frame.{Frame}
use Rattle.cil_model.specs.declared.machine.Value.{Value}
use Rattle.cil_model.specs.declared.machine.Value.TheVariants as values
use Rattle.cil_model.specs.declared.place.Place.{Place}
use Rattle.cil_model.specs.declared.unit.Unit.{Unit as MethodUnit}
use Rattle.domain_api.specs.declared.expr.Expr.{Expr}
use Rattle.frame_names.specs.declared.var.Var.{Var}
use Rattle.frame_names.specs.declared.var.Var.TheVariants as vars
use Rattle.obligation_prover.specs.Operations.{from_top}
use Rattle.state_facts.specs.Forms.{HasForm, HasNumber, HasReference, HasVar, IsVar}
use Rattle.state_facts.specs.Holds.{HasValue, HaveValues, HoldsBy, address_of}
use Rattle.state_facts.specs.Moves.{popped}
use Rattle.state_facts.specs.StateFacts.{StateFacts, State}
use Rattle.state_facts.proofs.Agreeing.{have_pushed}
use Rattle.state_facts.proofs.MoveForms.{popped_form}
use Rattle.state_facts.proofs.MovesHold.{pop_keeps}
use Rattle.symbolic_values.specs.Worth.{worth}
use Rattle.transfer_rules.specs.Operands.{Rule, on_one, on_three, on_two}

-- ---- lists

pub prefix : {X : Type 0} (xs : List X) (x : X) → take (length (xs ++ x ∷ []) - 1) (xs ++ x ∷ []) ≡ xs
prefix xs x =
    let long : length (xs ++ x ∷ []) - 1 ≡ length xs = omega (arith, length-append xs (x ∷ [])) in
    ap (λ k. take k (xs ++ x ∷ [])) long ∙ take-append-le (length xs) xs (x ∷ []) (omega arith) ∙ take_all (length xs)
    xs (omega arith)

last_first : {X : Type 0} (xs : List X) (x : X) → reverse (xs ++ x ∷ []) ≡ x ∷ reverse xs
last_first xs x = reverse-append xs (x ∷ [])

-- ---- variables that end in a value

-- The last variable has the last value, and those before it have those before it.
record HasLast (number : ℕ → ℤ) (array : ℕ → Option ℕ) (vs : List Var) (xs : List Value) (x : Value) : Type 0 where
  first : List Var
  last : Var
  are : vs ≡ first ++ last ∷ []
  have : HaveValues number array first xs
  has : HasValue number array last x

has_last : (number : ℕ → ℤ) (array : ℕ → Option ℕ) (vs : List Var) (xs : List Value) (x : Value)
    → HaveValues number array vs (xs ++ x ∷ []) → HasLast number array vs xs x
has_last number array [] [] x have = elim have [ ]
has_last number array [] (y ∷ xs) x have = elim have [ ]
has_last number array (v ∷ []) [] x have = record { first = []; last = v; are = refl; have = tt; has = have.0 }
has_last number array (v ∷ w ∷ vs) [] x have = elim have.1 [ ]
has_last number array (v ∷ vs) (y ∷ xs) x have =
    let rest = has_last number array vs xs x have.1 in
    record {
      first = v ∷ rest.first;
      last = rest.last;
      are = ap (λ us. v ∷ us) rest.are;
      have = (have.0, rest.have);
      has = rest.has;
    }

last_there : (symbols references : ℕ) (vs : List Var) (v : Var)
    → AllByRecursion (IsVar symbols references) (vs ++ v ∷ []) → IsVar symbols references v
last_there symbols references [] v all = all.0
last_there symbols references (w ∷ vs) v all = last_there symbols references vs v all.1

-- ---- the top

-- The variable on top has this value. What lies below holds of the other values, and operands are counted from there.
pub record HasTop (known : StateFacts) (vs : List Value) (value : Value) (heap : Heap) (number : ℕ → ℤ)
    (array : ℕ → Option ℕ) : Type 0 where
  pub var : Var
  pub is : from_top 0 known ≡ Some var
  pub there : HasVar (popped known) var
  pub has : HasValue number array var value
  pub below : (n : ℕ) → from_top (suc n) known ≡ from_top n (popped known)
  pub form : HasForm (popped known)
  pub rest : HoldsBy (popped known) vs heap number array

pub has_top : (known : StateFacts) (vs : List Value) (value : Value) (heap : Heap) (number : ℕ → ℤ)
    (array : ℕ → Option ℕ) → HasForm known → HoldsBy known (vs ++ value ∷ []) heap number array
    → HasTop known vs value heap number array
unfolding popped
has_top known vs value heap number array form holds =
    let end = has_last number array known.variables vs value holds.variables in
    let turned : reverse known.variables ≡ end.last ∷ reverse end.first =
    ap (λ us. reverse us) end.are ∙ last_first end.first end.last in
    let shorter : take (length known.variables - 1) known.variables ≡ end.first =
    ap (λ (us : List Var). take (length us - 1) us) end.are ∙ prefix end.first end.last in
    record {
      var = end.last;
      is = ap (λ (us : List Var). slice_get us 0) turned;
      there = last_there (length known.facts.ranges) (length known.references) end.first end.last
          (subst (AllByRecursion (IsVar (length known.facts.ranges) (length known.references))) end.are form.variables);
      has = end.has;
      below = λ n. ap (λ (us : List Var). slice_get us (suc n)) turned
          ∙ ap (λ (us : List Var). slice_get (reverse us) n) (sym shorter);
      form = popped_form known form;
      rest = subst (λ (xs : List Value). HoldsBy (popped known) xs heap number array) (prefix vs value)
          (pop_keeps (Some known) (vs ++ value ∷ []) heap number array holds);
    }

-- A rule over the top is one over the variable that is there.
pub on_one_so : (P : State → Type 0) (rule : Var → Rule) (known : StateFacts) (vs : List Value) (value : Value)
    (heap : Heap) (number : ℕ → ℤ) (array : ℕ → Option ℕ) → HasForm known
    → HoldsBy known (vs ++ value ∷ []) heap number array
    → ((top : HasTop known vs value heap number array) → P (rule top.var (popped known))) → P (on_one rule known)
on_one_so P rule known vs value heap number array form holds so =
    let top = has_top known vs value heap number array form holds in rw top.is (so top)

-- ---- the variables of a frame

-- Those of a frame with this stack.
abbrev pub over : Frame → List Value → List Value
over f stack = f.entry_args ++ f.args ++ f.locals ++ reverse stack

pub over_pushed : (f : Frame) (v : Value) (rest : List Value) → over f (v ∷ rest) ≡ over f rest ++ v ∷ []
over_pushed f v rest =
    ap (λ vs. f.entry_args ++ f.args ++ f.locals ++ vs) (reverse-append (v ∷ []) rest)
    ∙ sym (append_assoc (f.entry_args ++ f.args ++ f.locals) (reverse rest) (v ∷ []))

-- What is known holds over this stack, with the values of it.
pub on_one_over : (P : State → Type 0) (rule : Var → Rule) (known : StateFacts) (f : Frame) (value : Value)
    (rest : List Value) (heap : Heap) (number : ℕ → ℤ) (array : ℕ → Option ℕ) → HasForm known
    → HoldsBy known (over f (value ∷ rest)) heap number array
    → ((top : HasTop known (over f rest) value heap number array) → P (rule top.var (popped known)))
    → P (on_one rule known)
on_one_over P rule known f value rest heap number array form holds so =
    on_one_so P rule known (over f rest) value heap number array form
    (subst (λ (vs : List Value). HoldsBy known vs heap number array) (over_pushed f value rest) holds) so

pub on_two_over : (P : State → Type 0) (rule : Var → Var → Rule) (known : StateFacts) (f : Frame) (b a : Value)
    (rest : List Value) (heap : Heap) (number : ℕ → ℤ)
    (array : ℕ → Option ℕ) → HasForm known → HoldsBy known (over f (b ∷ a ∷ rest)) heap number array
    → ((upper : HasTop known (over f (a ∷ rest)) b heap number array)
    (lower : HasTop (popped known) (over f rest) a heap number array)
    → P (rule lower.var upper.var (popped (popped known)))) → P (on_two rule known)
on_two_over P rule known f b a rest heap number array form holds so =
    on_one_over P (λ upper. on_one (λ lower. rule lower upper)) known f b (a ∷ rest) heap number array form holds
    (λ upper. on_one_over P (λ lower. rule lower upper.var) (popped known) f a rest heap number array upper.form
    upper.rest (λ lower. so upper lower))

pub on_three_over : (P : State → Type 0) (rule : Var → Var → Var → Rule) (known : StateFacts) (f : Frame)
    (c b a : Value) (rest : List Value) (heap : Heap) (number : ℕ → ℤ)
    (array : ℕ → Option ℕ) → HasForm known → HoldsBy known (over f (c ∷ b ∷ a ∷ rest)) heap number array
    → ((upper : HasTop known (over f (b ∷ a ∷ rest)) c heap number array)
    (middle : HasTop (popped known) (over f (a ∷ rest)) b heap number array)
    (lower : HasTop (popped (popped known)) (over f rest) a heap number array)
    → P (rule lower.var middle.var upper.var (popped (popped (popped known))))) → P (on_three rule known)
on_three_over P rule known f c b a rest heap number array form holds so =
    on_one_over P (λ upper. on_two (λ lowest lower. rule lowest lower upper)) known f c (b ∷ a ∷ rest) heap number
    array form holds
    (λ upper. on_two_over P (λ lowest lower. rule lowest lower upper.var) (popped known) f b a rest heap number array
    upper.form upper.rest
    (λ middle lower. so upper middle lower))

-- The top may have another value, if what has the one has the other.
pub top_as : (known : StateFacts) (f : Frame) (old new : Value) (rest : List Value) (heap : Heap) (number : ℕ → ℤ)
    (array : ℕ → Option ℕ) → HoldsBy known (over f (old ∷ rest)) heap number array
    → ((v : Var) → HasValue number array v old → HasValue number array v new)
    → HoldsBy known (over f (new ∷ rest)) heap number array
top_as known f old new rest heap number array holds same =
    let end = has_last number array known.variables (over f rest) old
    (subst (HaveValues number array known.variables) (over_pushed f old rest) holds.variables) in
    record {
      null = holds.null;
      facts = holds.facts;
      variables = subst (HaveValues number array known.variables) (sym (over_pushed f new rest))
          (subst (λ (vs : List Var). HaveValues number array vs (over f rest ++ new ∷ [])) (sym end.are)
          (have_pushed number array end.first (over f rest) end.last new end.have (same end.last end.has)));
      references = holds.references;
      apart = holds.apart;
      contents = holds.contents;
    }

-- ---- operands by their forms

-- The variable is a number, and it is this one.
pub record IsNumberOf (known : StateFacts) (v : Var) (n : ℤ) (number : ℕ → ℤ) : Type 0 where
  pub expr : Expr
  pub is : v ≡ vars.Number expr
  pub there : HasNumber known expr
  pub worth_is : worth number expr ≡ n

-- The variable is a reference, and it is null or this array.
pub record IsReferenceOf (known : StateFacts) (v : Var) (a : Option ℕ) (array : ℕ → Option ℕ) : Type 0 where
  pub reference : ℕ
  pub is : v ≡ vars.Reference reference
  pub there : HasReference known reference
  pub array_is : array reference ≡ a

-- The variable is an address, and it is that of the item of this index, in this array.
pub record IsAddressOf (known : StateFacts) (v : Var) (a : Option ℕ) (n : ℤ) (number : ℕ → ℤ)
    (array : ℕ → Option ℕ) : Type 0 where
  pub reference : ℕ
  pub index : Expr
  pub is : v ≡ vars.Address reference index
  pub there : HasReference known reference
  pub index_there : HasNumber known index
  pub array_is : array reference ≡ a
  pub worth_is : worth number index ≡ n

-- A value is no number and a reference.
not_both : (value : Value) (n : ℤ) (a : Option ℕ) → number_of value ≡ Some n → reference_of value ≡ Some a → ⊥
not_both (values.Int m) n a first second = none-some a second
not_both (values.Native m) n a first second = none-some a second
not_both values.Null n a first second = none-some n first
not_both (values.Array i) n a first second = none-some n first
not_both (values.Addr i m) n a first second = none-some n first
not_both values.Text n a first second = none-some n first

-- An address is neither.
address_alone : (value : Value) (at : Option ℕ × ℤ) → address_of value ≡ Some at
    → (number_of value ≡ None) × (reference_of value ≡ None)
address_alone (values.Addr i m) at is = (refl, refl)
address_alone _ at is = absurd (none-some at is)

no_number : (value : Value) (n : ℤ) (at : Option ℕ × ℤ) → number_of value ≡ Some n → address_of value ≡ Some at → ⊥
no_number value n at first second = none-some n (sym (address_alone value at second).0 ∙ first)

no_reference : (value : Value) (a : Option ℕ) (at : Option ℕ × ℤ) → reference_of value ≡ Some a
    → address_of value ≡ Some at → ⊥
no_reference value a at first second = none-some a (sym (address_alone value at second).1 ∙ first)

-- What has a number as its value is a number.
pub as_number : (known : StateFacts) (v : Var) (value : Value) (n : ℤ) (number : ℕ → ℤ) (array : ℕ → Option ℕ)
    → HasVar known v → HasValue number array v value → number_of value ≡ Some n → IsNumberOf known v n number
as_number known (vars.Number e) value n number array there has is =
    record { expr = e; is = refl; there = there; worth_is = same_Some (worth number e) n (sym has ∙ is) }
as_number known (vars.Reference r) value n number array there has is = absurd (not_both value n (array r) is has)
as_number known vars.Text value n number array there has is = absurd (none-some n (ap number_of (sym has) ∙ is))
as_number known (vars.Address r e) value n number array there has is =
    absurd (no_number value n (array r, worth number e) is has)

-- What has a reference as its value is a reference.
pub as_reference : (known : StateFacts) (v : Var) (value : Value) (a : Option ℕ) (number : ℕ → ℤ)
    (array : ℕ → Option ℕ) → HasVar known v → HasValue number array v value → reference_of value ≡ Some a
    → IsReferenceOf known v a array
as_reference known (vars.Number e) value a number array there has is = absurd (not_both value (worth number e) a has is)
as_reference known (vars.Reference r) value a number array there has is =
    record { reference = r; is = refl; there = there; array_is = same_Some (array r) a (sym has ∙ is) }
as_reference known vars.Text value a number array there has is = absurd (none-some a (ap reference_of (sym has) ∙ is))
as_reference known (vars.Address r e) value a number array there has is =
    absurd (no_reference value a (array r, worth number e) is has)

-- What has an address as its value is an address.
pub as_address : (known : StateFacts) (v : Var) (value : Value) (a : Option ℕ) (n : ℤ) (number : ℕ → ℤ)
    (array : ℕ → Option ℕ) → HasVar known v → HasValue number array v value → address_of value ≡ Some (a, n)
    → IsAddressOf known v a n number array
as_address known (vars.Address r e) value a n number array there has is =
    let same = same_Some (array r, worth number e) (a, n) (sym has ∙ is) in
    record {
      reference = r;
      index = e;
      is = refl;
      there = there.0;
      index_there = there.1;
      array_is = ap (λ (at : Option ℕ × ℤ). at.0) same;
      worth_is = ap (λ (at : Option ℕ × ℤ). at.1) same;
    }
as_address known (vars.Number e) value a n number array there has is =
    absurd (no_number value (worth number e) (a, n) has is)
as_address known (vars.Reference r) value a n number array there has is =
    absurd (no_reference value (array r) (a, n) has is)
as_address known vars.Text value a n number array there has is =
    absurd (none-some (a, n) (ap address_of (sym has) ∙ is))

-- What is there is there still where the top was taken.
pub var_below : (known : StateFacts) (v : Var) → HasVar known v → HasVar (popped known) v
unfolding popped
var_below known v there = there

pub var_above : (known : StateFacts) (v : Var) → HasVar (popped known) v → HasVar known v
unfolding popped
var_above known v there = there

-- ---- variables by their places

pub place_below : {X : Type 0} (xs : List X) (n : ℕ) (x : X) → slice_get xs n ≡ Some x → n < length xs
place_below [] n x at = absurd (none-some x at)
place_below (y ∷ ys) zero x at = omega arith
place_below (y ∷ ys) (suc n) x at = let below = place_below ys n x at in omega (arith, below)

in_prefix : (xs ys : List Value) (n : ℕ) (v : Value) → slice_get xs n ≡ Some v → slice_get (xs ++ ys) n ≡ Some v
in_prefix [] ys n v at = absurd (none-some v at)
in_prefix (x ∷ xs) ys zero v at = at
in_prefix (x ∷ xs) ys (suc n) v at = in_prefix xs ys n v at

one_behind : (m k : ℕ) → suc m + k ≡ suc (m + k)
one_behind m k = omega arith

behind : (xs ys : List Value) (n : ℕ) (v : Value) → slice_get ys n ≡ Some v
    → slice_get (xs ++ ys) (length xs + n) ≡ Some v
behind [] ys n v at = rw zero-add at
behind (x ∷ xs) ys n v at = ap (λ k. slice_get ((x ∷ xs) ++ ys) k) (one_behind (length xs) n) ∙ behind xs ys n v at

pub arg_at : (f : Frame) (stack : List Value) (n : ℕ) (v : Value) → slice_get f.args n ≡ Some v
    → slice_get (over f stack) (length f.entry_args + n) ≡ Some v
arg_at f stack n v at =
    in_prefix (f.entry_args ++ f.args ++ f.locals) (reverse stack) (length f.entry_args + n) v
    (in_prefix (f.entry_args ++ f.args) f.locals (length f.entry_args + n) v (behind f.entry_args f.args n v at))

pub local_at : (f : Frame) (stack : List Value) (n : ℕ) (v : Value) → slice_get f.locals n ≡ Some v
    → slice_get (over f stack) (length f.entry_args + length f.args + n) ≡ Some v
local_at f stack n v at =
    in_prefix (f.entry_args ++ f.args ++ f.locals) (reverse stack) (length f.entry_args + length f.args + n) v
    (ap (λ k. slice_get (f.entry_args ++ f.args ++ f.locals) (k + n)) (sym (length-append f.entry_args f.args))
    ∙ behind (f.entry_args ++ f.args) f.locals n v at)

set_behind : (xs ys : List Value) (i : ℕ) (v : Value) → set (xs ++ ys) (length xs + i) v ≡ xs ++ set ys i v
set_behind [] ys i v = ap (λ n. set ys n v) (zero-add i)
set_behind (x ∷ xs) ys i v =
    ap (λ n. set (x ∷ (xs ++ ys)) n v) (one_behind (length xs) i) ∙ ap (λ zs. x ∷ zs) (set_behind xs ys i v)

set_between : (before middle behind : List Value) (i : ℕ) (v : Value) → i < length middle
    → set (before ++ middle ++ behind) (length before + i) v ≡ before ++ set middle i v ++ behind
set_between before middle behind i v below =
    let inner : length before + i < length (before ++ middle) = omega (arith, below, length-append before middle) in
    set-append_left (before ++ middle) behind (length before + i) v inner ∙ ap (λ zs. zs ++ behind)
    (set_behind before middle i v)

-- An argument of a frame is put anew, or a local.
pub arg_put : (f : Frame) (stack : List Value) (i : ℕ) (v : Value) → i < length f.args
    → set (over f stack) (length f.entry_args + i) v ≡ over (record f { args = set f.args i v }) stack
arg_put f stack i v below =
    let inner : length f.entry_args + i < length (f.entry_args ++ f.args) =
    omega (arith, below, length-append f.entry_args f.args) in
    let outer : length f.entry_args + i < length (f.entry_args ++ f.args ++ f.locals) =
    omega (arith, inner, length-append (f.entry_args ++ f.args) f.locals) in
    set-append_left (f.entry_args ++ f.args ++ f.locals) (reverse stack) (length f.entry_args + i) v outer
    ∙ ap (λ zs. zs ++ reverse stack) (set_between f.entry_args f.args f.locals i v below)

pub local_put : (f : Frame) (stack : List Value) (i : ℕ) (v : Value) → i < length f.locals
    → set (over f stack) (length f.entry_args + length f.args + i) v ≡ over (record f { locals = set f.locals i v })
    stack
local_put f stack i v below =
    ap (λ n. set (over f stack) (n + i) v) (sym (length-append f.entry_args f.args))
    ∙ set_between (f.entry_args ++ f.args) f.locals (reverse stack) i v below

-- What a variable has has the value in its place.
pub record HasAt (known : StateFacts) (i : ℕ) (value : Value) (number : ℕ → ℤ) (array : ℕ → Option ℕ) : Type 0 where
  pub var : Var
  pub is : slice_get known.variables i ≡ Some var
  pub there : HasVar known var
  pub has : HasValue number array var value

found_at : (symbols references : ℕ) (number : ℕ → ℤ) (array : ℕ → Option ℕ) (vs : List Var) (xs : List Value) (i : ℕ)
    (x : Value) → AllByRecursion (IsVar symbols references) vs → HaveValues number array vs xs
    → slice_get xs i ≡ Some x → (v : Var) × (slice_get vs i ≡ Some v) × IsVar symbols references v × HasValue number
    array v x
found_at symbols references number array [] [] i x all have at = absurd (none-some x at)
found_at symbols references number array [] (y ∷ xs) i x all have at = elim have [ ]
found_at symbols references number array (v ∷ vs) [] i x all have at = elim have [ ]
found_at symbols references number array (v ∷ vs) (y ∷ xs) zero x all have at =
    (v, refl, all.0, subst (HasValue number array v) (same_Some y x at) have.0)
found_at symbols references number array (v ∷ vs) (y ∷ xs) (suc i) x all have at =
    found_at symbols references number array vs xs i x all.1 have.1 at

pub has_at : (known : StateFacts) (vs : List Value) (heap : Heap) (number : ℕ → ℤ) (array : ℕ → Option ℕ) (i : ℕ)
    (value : Value) → HasForm known → HoldsBy known vs heap number array → slice_get vs i ≡ Some value
    → HasAt known i value number array
has_at known vs heap number array i value form holds at =
    let found = found_at (length known.facts.ranges) (length known.references) number array known.variables vs i value
    form.variables holds.variables at in
    record { var = found.0; is = found.1; there = found.2; has = found.3 }

-- ---- frames of a unit

fit_length : (heap : Heap) (places : List Place) (vs : List Value) → FitPlaces heap places vs
    → length vs ≡ length places
fit_length heap [] [] fit = refl
fit_length heap [] (v ∷ vs) fit = elim fit [ ]
fit_length heap (p ∷ ps) [] fit = elim fit [ ]
fit_length heap (p ∷ ps) (v ∷ vs) fit = ap suc (fit_length heap ps vs fit.1)

-- A frame has as many arguments and locals as its unit.
pub record HasSizes (unit : MethodUnit) (f : Frame) : Type 0 where
  pub entry : length f.entry_args ≡ length unit.args
  pub args : length f.args ≡ length unit.args
  pub locals : length f.locals ≡ length unit.locals

pub has_sizes : (unit : MethodUnit) (heap : Heap) (f : Frame) → IsFrameOf unit heap f → HasSizes unit f
has_sizes unit heap f frame = record {
  entry = fit_length f.entry_heap unit.args f.entry_args frame.entry_args;
  args = fit_length heap unit.args f.args frame.args;
  locals = fit_length heap unit.locals f.locals frame.locals;
}
