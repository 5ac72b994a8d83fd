-- What was there stays there, through one step after another.
use Rattle.std.proofs.Common.{◌≡◌, ℕ, zero, suc, ◌+◌, ◌-◌, ◌≤◌, List, [], ◌∷◌, ◌++◌, length, reverse, take, slice_get, Option, Some, None, refl, sym, ap, subst, ◌∙◌, arith}
use Rattle.std.specs.Prelude.{map}
use Rattle.std.specs.List.{AllByRecursion}
use Rattle.std.specs.Option.{option_map}
use Rattle.std.proofs.lemmas.List.{length-map, reverse-append}
use Rattle.std.proofs.lemmas.Option.{same_Some, slice_get-map}
use Rattle.cil_model.specs.declared.place.Kind.{Kind}
use Rattle.cil_model.specs.declared.place.Kind.TheVariants as kinds
use Rattle.cil_model.specs.declared.place.Place.{Place}
use Rattle.cil_model.specs.declared.place.Place.TheVariants as places
use Rattle.frame_names.specs.declared.reference.Reference.{Reference}
use Rattle.frame_names.specs.declared.var.Var.{Var}
use Rattle.frame_names.specs.declared.var.Var.TheVariants as vars
use Rattle.state_facts.specs.Forms.{HasForm, HasVar, IsVar}
use Rattle.state_facts.specs.Moves.{popped, pushed}
use Rattle.state_facts.specs.StateFacts.{StateFacts, State, reference_at}
use Rattle.state_facts.proofs.Growing.{one_longer, var_stays}
use Rattle.state_facts.proofs.MoveForms.{popped_form, pushed_form}
use Rattle.state_obligations.specs.Following.{StaysThere, shape_of}
use Rattle.clause_trees.specs.TreeValues.{from_top}
use Rattle.clause_trees.specs.VariableKinds.{AreSameForms, IsGrown, IsOfKind, IsOfPlace, IsOneOfKind, IsPushed, IsPushedIn, IsReadable, IsSameForm, place_in}
use Rattle.clause_trees.specs.declared.reader.TreeEnv.{TreeEnv}

-- ---- steps one after another

pub grown_itself : (known : StateFacts) → HasForm known → IsGrown known known
grown_itself known form =
    record { form = form; symbols = omega arith; references = omega arith; places = λ r there. refl }

pub grown_on : (before between after : StateFacts) → IsGrown before between → IsGrown between after
    → IsGrown before after
grown_on before between after first rest =
    let symbols : length before.facts.ranges ≤ length between.facts.ranges = first.symbols in
    let more : length between.facts.ranges ≤ length after.facts.ranges = rest.symbols in
    let references : length before.references ≤ length between.references = first.references in
    let others : length between.references ≤ length after.references = rest.references in
    record {
      form = rest.form;
      symbols = omega (arith, symbols, more);
      references = omega (arith, references, others);
      places = λ r there. rest.places r (omega (arith, there, references)) ∙ first.places r there;
    }

place_by_shape : (known : StateFacts) (r : ℕ)
    → place_in known (suc r) ≡ option_map (λ shape. shape.0) (slice_get (map shape_of known.references) r)
unfolding reference_at
place_by_shape known r = by (slice_get known.references r) ∙ ap (option_map (λ shape. shape.0))
    (sym (slice_get-map shape_of known.references r))
  where
    by : (o : Option Reference)
        → option_map (λ reference. reference.place) o ≡ option_map (λ shape. shape.0) (option_map shape_of o)
    by None = refl
    by (Some x) = refl

same_places : (before after : StateFacts) → map shape_of after.references ≡ map shape_of before.references → (r : ℕ)
    → place_in after r ≡ place_in before r
unfolding reference_at
same_places before after same zero = refl
same_places before after same (suc r) =
    place_by_shape after r ∙ ap (λ shapes. option_map (λ shape. shape.0) (slice_get shapes r)) same ∙ sym
    (place_by_shape before r)

pub stays_grown : (before after : StateFacts) → StaysThere before after → IsGrown before after
stays_grown before after stays =
    let many : length after.references ≡ length before.references =
    sym (length-map after.references shape_of) ∙ ap (λ (l : List _). length l) stays.references ∙ length-map
    before.references shape_of in
    record {
      form = stays.form;
      symbols = stays.symbols;
      references = omega (arith, many);
      places = λ r there. same_places before after stays.references r;
    }

-- ---- variables

pub var_there : (before after : StateFacts) (v : Var) → IsGrown before after → HasVar before v → HasVar after v
var_there before after v grown there =
    var_stays (length before.facts.ranges) (length after.facts.ranges) (length before.references)
    (length after.references) v grown.symbols
    grown.references there

-- A variable has the form that it had, where what was there is there still.
pub form_there : (before after : StateFacts) (v : Var) → IsGrown before after → HasVar before v
    → IsSameForm before after v v
form_there before after (vars.Number e) grown there = tt
form_there before after (vars.Reference r) grown there = grown.places r there
form_there before after vars.Text grown there = tt
form_there before after (vars.Address r e) grown there = grown.places r there.0

pub forms_there : (before after : StateFacts) (vs : List Var) → IsGrown before after
    → AllByRecursion (IsVar (length before.facts.ranges) (length before.references)) vs
    → AreSameForms before after vs vs
forms_there before after [] grown all = tt
forms_there before after (v ∷ vs) grown all =
    (form_there before after v grown all.0, forms_there before after vs grown all.1)

-- Also where each reference has its type.
pub form_alike : (a b : StateFacts) (v : Var) → ((r : ℕ) → place_in b r ≡ place_in a r) → IsSameForm a b v v
form_alike a b (vars.Number e) places = tt
form_alike a b (vars.Reference r) places = places r
form_alike a b vars.Text places = tt
form_alike a b (vars.Address r e) places = places r

-- Then it is of the kind of which it was.
pub kind_by_form : (a b : StateFacts) (kind : Kind) (v : Var) → IsSameForm a b v v → IsOfKind a kind v
    → IsOfKind b kind v
kind_by_form a b kinds.Int (vars.Number e) same is = tt
kind_by_form a b kinds.Ints (vars.Reference r) same is = subst (IsOfPlace places.Ints) (sym same) is
kind_by_form a b kinds.Bools (vars.Reference r) same is = subst (IsOfPlace places.Bools) (sym same) is
kind_by_form a b kinds.NullRef (vars.Reference r) same is = is
kind_by_form a b kinds.AddrInts (vars.Address r e) same is = same ∙ is
kind_by_form a b kinds.AddrBools (vars.Address r e) same is = same ∙ is
kind_by_form a b _ _ same is = elim is [ ]

pub kind_there : (before after : StateFacts) (kind : Kind) (v : Var) → IsGrown before after → HasVar before v
    → IsOfKind before kind v → IsOfKind after kind v
kind_there before after kind v grown there is =
    kind_by_form before after kind v (form_there before after v grown there) is

pub found_var : (symbols references : ℕ) (vs : List Var) (i : ℕ) (v : Var)
    → AllByRecursion (IsVar symbols references) vs
    → slice_get vs i ≡ Some v → IsVar symbols references v
found_var symbols references [] i v all is = absurd cc
found_var symbols references (x ∷ vs) zero v all is = subst (IsVar symbols references) (same_Some x v is) all.0
found_var symbols references (x ∷ vs) (suc i) v all is = found_var symbols references vs i v all.1 is

-- Each variable of the first is one of the second at the same index.
abbrev pub Extends : List Var → List Var → Type 0
Extends vs ws = (i : ℕ) (v : Var) → slice_get vs i ≡ Some v → slice_get ws i ≡ Some v

pub extends_one : (vs : List Var) (top : Var) → Extends vs (vs ++ top ∷ [])
extends_one [] top = λ i v is. absurd cc
extends_one (x ∷ vs) top = both (extends_one vs top)
  where
    both : Extends vs (vs ++ top ∷ []) → (i : ℕ) (v : Var) → slice_get (x ∷ vs) i ≡ Some v
        → slice_get (x ∷ (vs ++ top ∷ [])) i ≡ Some v
    both rest zero v is = is
    both rest (suc i) v is = rest i v is

one_there : (before after : StateFacts) (kind : Kind) (i : ℕ) → IsGrown before after → HasForm before
    → Extends before.variables after.variables → IsOneOfKind before kind (slice_get before.variables i)
    → IsOneOfKind after kind (slice_get after.variables i)
one_there before after kind i grown form extends is = by (slice_get before.variables i) refl is
  where
    by : (o : Option Var) → slice_get before.variables i ≡ o → IsOneOfKind before kind o
        → IsOneOfKind after kind (slice_get after.variables i)
    by None found of_kind = elim of_kind [ ]
    by (Some v) found of_kind =
        subst (IsOneOfKind after kind) (sym (extends i v found))
        (kind_there before after kind v grown
        (found_var (length before.facts.ranges) (length before.references) before.variables i v form.variables found)
        of_kind)

pub readable_on : (env : TreeEnv) (args : List Place) (result : Place) (before after : StateFacts)
    → IsGrown before after
    → Extends before.variables after.variables → IsReadable env args result before → IsReadable env args result after
readable_on env args result before after grown extends readable = record {
  form = grown.form;
  args_fit = λ n kind is. one_there before after kind (env.args + n) grown readable.form extends
      (readable.args_fit n kind is);
  result_fits = λ i kind at is. one_there before after kind i grown readable.form extends
      (readable.result_fits i kind at is);
}

pub pushed_readable : (env : TreeEnv) (args : List Place) (result : Place) (before after : StateFacts) (kind : Kind)
    → IsPushed before kind after → IsReadable env args result before → IsReadable env args result after
pushed_readable env args result before after kind is readable =
    readable_on env args result before after is.grown
    (subst (Extends before.variables) (sym is.variables_are) (extends_one before.variables is.top)) readable

-- ---- the top

pub top_of : (vs : List Var) (v : Var) → slice_get (reverse (vs ++ v ∷ [])) 0 ≡ Some v
top_of vs v = ap (λ l. slice_get l 0) (reverse-append vs (v ∷ []))

pub second_of : (vs : List Var) (v w : Var) → slice_get (reverse ((vs ++ v ∷ []) ++ w ∷ [])) 1 ≡ Some v
second_of vs v w =
    ap (λ l. slice_get l 1) (reverse-append (vs ++ v ∷ []) (w ∷ []) ∙ ap (λ l. w ∷ l) (reverse-append vs (v ∷ [])))

pub all_but_top : {X : Type 0} (xs : List X) (x : X) → take (length (xs ++ x ∷ []) - 1) (xs ++ x ∷ []) ≡ xs
all_but_top [] x = refl
all_but_top (y ∷ xs) x =
    let size : length ((y ∷ xs) ++ x ∷ []) - 1 ≡ suc (length (xs ++ x ∷ []) - 1) = let many =
    one_longer xs x in omega (arith, many) in
    ap (λ n. take n (y ∷ (xs ++ x ∷ []))) size ∙ ap (λ l. y ∷ l) (all_but_top xs x)

-- A state with one variable more, less that.
pub record IsBelow (before : StateFacts) (kind : Kind) (v : Var) (below : StateFacts) : Type 0 where
  pub grown : IsGrown before below
  pub variables_are : below.variables ≡ before.variables
  pub there : HasVar below v
  pub of_kind : IsOfKind below kind v

popped_grown : (known : StateFacts) → HasForm known → IsGrown known (popped known)
unfolding popped
popped_grown known form =
    record { form = popped_form known form; symbols = omega arith; references = omega arith; places = λ r there. refl }

last_there : (symbols references : ℕ) (vs : List Var) (v : Var) → AllByRecursion (IsVar symbols references)
    (vs ++ v ∷ [])
    → IsVar symbols references v
last_there symbols references [] v all = all.0
last_there symbols references (x ∷ vs) v all = last_there symbols references vs v all.1

pub var_popped : (after : StateFacts) (v : Var) → HasVar after v → HasVar (popped after) v
unfolding popped
var_popped after v there = there

pub pushed_there : (before after : StateFacts) (kind : Kind) (is : IsPushed before kind after) → HasVar after is.top
pushed_there before after kind is =
    last_there (length after.facts.ranges) (length after.references) before.variables is.top
    (subst (AllByRecursion (IsVar (length after.facts.ranges) (length after.references))) is.variables_are
    is.grown.form.variables)

popped_variables : (before after : StateFacts) (kind : Kind) (is : IsPushed before kind after)
    → (popped after).variables ≡ before.variables
unfolding popped
popped_variables before after kind is =
    ap (λ l. take (length l - 1) l) is.variables_are ∙ all_but_top before.variables is.top

pub popped_kind : (after : StateFacts) (kind : Kind) (v : Var) → IsOfKind after kind v → IsOfKind (popped after) kind v
unfolding popped
popped_kind after kind v is =
    kind_by_form after (popped after) kind v (form_alike after (popped after) v (λ r. refl)) is

pub popped_below : (before after : StateFacts) (kind : Kind) (is : IsPushed before kind after)
    → IsBelow before kind is.top (popped after)
unfolding popped
popped_below before after kind is = record {
  grown = grown_on before after (popped after) is.grown (popped_grown after is.grown.form);
  variables_are = popped_variables before after kind is;
  there = pushed_there before after kind is;
  of_kind = popped_kind after kind is.top is.of_kind;
}

pub top_is : (before after : StateFacts) (kind : Kind) (is : IsPushed before kind after)
    → from_top 0 after ≡ Some is.top
top_is before after kind is = ap (λ l. slice_get (reverse l) 0) is.variables_are ∙ top_of before.variables is.top

-- ---- one variable more, over a state that is as large

pub pushed_over : (before below : StateFacts) (kind : Kind) (o : State) → IsGrown before below
    → below.variables ≡ before.variables → IsPushedIn below kind o → IsPushedIn before kind o
pushed_over before below kind None grown same is = tt
pushed_over before below kind (Some after) grown same is = record {
  grown = grown_on before below after grown is.grown;
  top = is.top;
  variables_are = is.variables_are ∙ ap (λ l. l ++ is.top ∷ []) same;
  of_kind = is.of_kind;
}

pub push_is_pushed : (known : StateFacts) (kind : Kind) (v : Var) → HasForm known → HasVar known v
    → IsOfKind known kind v
    → IsPushed known kind (pushed known v)
push_is_pushed known kind v form there of_kind = record {
  grown = record {
    form = pushed_form known v form there;
    symbols = omega arith;
    references = omega arith;
    places =
        λ r at. refl;
  };
  top = v;
  variables_are = refl;
  of_kind = kind_by_form known (pushed known v) kind v (form_alike known (pushed known v) v (λ r. refl)) of_kind;
}
