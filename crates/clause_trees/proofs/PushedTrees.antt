-- What conditions push, and what whole trees do.
use Rattle.std.proofs.Common.{◌≡◌, ℕ, zero, suc, ◌+◌, ◌≤◌, pos, Bool, true, false, List, [], ◌∷◌, length, slice_get, Option, Some, None, refl, ap, subst, sym, ◌∙◌, arith}
use Rattle.std.specs.Option.{option_and_then, option_map}
use Rattle.std.proofs.lemmas.Option.{same_Some}
use Rattle.cil_model.specs.Kinds.{kind_of}
use Rattle.cil_model.specs.Passes.{merged_kind}
use Rattle.cil_model.specs.Terms as terms
use Rattle.cil_model.specs.Terms.{Term}
use Rattle.cil_model.specs.declared.instruction.CmpOp.TheVariants as comparisons
use Rattle.cil_model.specs.declared.place.Kind.{Kind}
use Rattle.cil_model.specs.declared.place.Kind.TheVariants as kinds
use Rattle.cil_model.specs.declared.place.Place.{Place}
use Rattle.cil_model.specs.declared.place.Place.TheVariants as places
use Rattle.frame_names.specs.declared.reference.Reference.{Reference}
use Rattle.frame_names.specs.declared.var.Var.{Var}
use Rattle.frame_names.specs.declared.var.Var.TheVariants as vars
use Rattle.number_spans.specs.Constants.{constant}
use Rattle.state_facts.specs.Forms.{HasForm, HasVar}
use Rattle.state_facts.specs.Moves.{place_at, place_of, pushed}
use Rattle.state_facts.specs.StateFacts.{StateFacts, State, reference_at}
use Rattle.state_facts.specs.UnknownValues as unknown
use Rattle.state_facts.proofs.AssumptionForms.{named_var}
use Rattle.state_obligations.specs.Following.{StaysThere, StaysThereIn}
use Rattle.state_obligations.proofs.Following.{comparison_follows, stays_itself}
use Rattle.clause_trees.specs.Meaning.{IsTyped}
use Rattle.clause_trees.specs.TreeValues.{Step, branch, condition_value, given, in_state, push_seen, seen_in, seen_of, seen_of_both, seen_of_reached, seen_on_top, true_known, value, variable, with_one}
use Rattle.clause_trees.specs.VariableKinds.{IsOfKind, IsOfPlace, IsOneOfKind, IsPushed, IsPushedIn, IsReadable, place_in}
use Rattle.clause_trees.specs.declared.conditions.Seen.{Seen}
use Rattle.clause_trees.specs.declared.conditions.Seen.TheVariants as seen
use Rattle.clause_trees.specs.declared.reader.Time.{Time}
use Rattle.clause_trees.specs.declared.reader.Time.TheVariants.{Now, Entry}
use Rattle.clause_trees.specs.declared.reader.TreeEnv.{TreeEnv}
use Rattle.clause_trees.proofs.PushedMoves.{unknown_pushed, within_pushed}
use Rattle.clause_trees.proofs.PushedValues.{binary_pushed, constant_there, element_pushed, length_pushed, one_pushed, two_pushed, unary_pushed}
use Rattle.clause_trees.proofs.Stays.{IsBelow, Extends, found_var, push_is_pushed, pushed_readable, pushed_there, readable_on, stays_grown, top_is}
use Rattle.clause_trees.proofs.Typing.{branches_typed, element_typed, length_typed, merged_cases, merged_swaps, old_typed, operator_typed, unary_typed}

-- ---- what is seen of a branch

-- What is seen is of this kind.
abbrev pub IsSeen : Kind → Seen → Type 0
IsSeen kinds.Int (seen.Number r) = Unit {0}
IsSeen kinds.Ints seen.Null = Unit {0}
IsSeen kinds.Ints (seen.Array place) = place ≡ places.Ints
IsSeen kinds.Bools seen.Null = Unit {0}
IsSeen kinds.Bools (seen.Array place) = place ≡ places.Bools
IsSeen kinds.NullRef seen.Null = Unit {0}
IsSeen _ _ = ⊥

abbrev pub IsSeenIf : Kind → Option Seen → Type 0
IsSeenIf kind None = Unit {0}
IsSeenIf kind (Some s) = IsSeen kind s

-- What a reference has that is there.
pub reference_found : (known : StateFacts) (r : ℕ) → suc r ≤ length known.references
    → (x : Reference) × (reference_at known.references (suc r) ≡ Some x)
unfolding reference_at
reference_found known r there = found known.references r there
  where
    found : (xs : List Reference) (i : ℕ) → suc i ≤ length xs
        → (x : Reference) × (slice_get xs i ≡ Some x)
    found [] i inside = absurd (omega (arith, inside))
    found (x ∷ xs) zero inside = (x, refl)
    found (x ∷ xs) (suc i) inside = found xs i (omega (arith, inside))

place_seen : (known : StateFacts) (r : ℕ) (place : Place) → suc r ≤ length known.references
    → IsOfPlace place (place_in known (suc r))
    → place_at known (suc r) ≡ place
place_seen known r place there is =
    let (x, found) = reference_found known r there in
    ap place_of found ∙ subst (λ o. IsOfPlace place (option_map (λ reference. reference.place) o)) found is

top_seen : (known : StateFacts) (kind : Kind) (v : Var) → HasVar known v → IsOfKind known kind v
    → IsSeenIf kind (seen_of known v)
top_seen known kinds.Int (vars.Number e) there is = tt
top_seen known kinds.Ints (vars.Reference zero) there is = tt
top_seen known kinds.Ints (vars.Reference (suc r)) there is = place_seen known r places.Ints there is
top_seen known kinds.Bools (vars.Reference zero) there is = tt
top_seen known kinds.Bools (vars.Reference (suc r)) there is = place_seen known r places.Bools there is
top_seen known kinds.NullRef (vars.Reference zero) there is = tt
top_seen known kinds.NullRef (vars.Reference (suc r)) there is = absurd (omega (arith, is))
top_seen known kinds.AddrInts (vars.Address r e) there is = tt
top_seen known kinds.AddrBools (vars.Address r e) there is = tt
top_seen known _ _ there is = elim is [ ]

pub pushed_seen : (known after : StateFacts) (kind : Kind) → IsPushed known kind after
    → IsSeenIf kind (seen_on_top after)
pushed_seen known after kind is =
    subst (λ o. IsSeenIf kind (option_and_then (seen_of after) o)) (sym (top_is known after kind is))
    (top_seen after kind is.top (pushed_there known after kind is) is.of_kind)

-- ---- both branches

pub left_seen : (a b kind : Kind) (s : Seen) → merged_kind a b ≡ Some kind → IsSeen a s → IsSeen kind s
left_seen a b kind s is =
    merged_cases (λ a b kind. IsSeen a s → IsSeen kind s) (λ k so. so) (λ so. so) (λ so. so) (null_ints s)
    (null_bools s) a b kind is
  where
    null_ints : (s : Seen) → IsSeen kinds.NullRef s → IsSeen kinds.Ints s
    null_ints seen.Null so = tt
    null_ints _ so = elim so [ ]

    null_bools : (s : Seen) → IsSeen kinds.NullRef s → IsSeen kinds.Bools s
    null_bools seen.Null so = tt
    null_bools _ so = elim so [ ]

both_seen : (kind : Kind) (s t : Seen) → IsSeen kind s → IsSeen kind t → IsSeen kind (seen_of_both s t)
both_seen kinds.Int (seen.Number r) (seen.Number q) one two = tt
both_seen kinds.Int (seen.Number r) _ one two = elim two [ ]
both_seen kinds.Ints seen.Null t one two = two
both_seen kinds.Ints (seen.Array place) t one two = one
both_seen kinds.Bools seen.Null t one two = two
both_seen kinds.Bools (seen.Array place) t one two = one
both_seen kinds.NullRef seen.Null t one two = two
both_seen _ _ _ one two = elim one [ ]

pub reached_seen : (a b kind : Kind) (s t : Option Seen) → merged_kind a b ≡ Some kind → IsSeenIf a s → IsSeenIf b t
    → IsSeenIf kind (seen_of_reached s t)
reached_seen a b kind None None is one two = tt
reached_seen a b kind None (Some t) is one two = left_seen b a kind t (merged_swaps a b kind is) two
reached_seen a b kind (Some s) None is one two = left_seen a b kind s is one
reached_seen a b kind (Some s) (Some t) is one two =
    both_seen kind s t (left_seen a b kind s is one) (left_seen b a kind t (merged_swaps a b kind is) two)

pub seen_pushed : (known : StateFacts) (kind : Kind) (o : Option Seen) → HasForm known → IsSeenIf kind o
    → IsPushedIn known kind (push_seen o known)
unfolding reference_at
seen_pushed known kind None form is = tt
seen_pushed known kinds.Int (Some (seen.Number r)) form is = within_pushed r known form
seen_pushed known kinds.Ints (Some seen.Null) form is =
    push_is_pushed known kinds.Ints (vars.Reference 0) form (omega arith) tt
seen_pushed known kinds.Bools (Some seen.Null) form is =
    push_is_pushed known kinds.Bools (vars.Reference 0) form (omega arith) tt
seen_pushed known kinds.NullRef (Some seen.Null) form is =
    push_is_pushed known kinds.NullRef (vars.Reference 0) form (omega arith) refl
seen_pushed known kinds.Ints (Some (seen.Array place)) form is =
    subst (λ p. IsPushedIn known kinds.Ints (unknown.with_unknown p known)) (sym is)
    (unknown_pushed places.Ints kinds.Ints known form refl)
seen_pushed known kinds.Bools (Some (seen.Array place)) form is =
    subst (λ p. IsPushedIn known kinds.Bools (unknown.with_unknown p known)) (sym is)
    (unknown_pushed places.Bools kinds.Bools known form refl)
seen_pushed known _ (Some _) form is = elim is [ ]

-- ---- a branch

pub true_follows : (holds : Bool) (v : Var) (known : StateFacts) → HasForm known → HasVar known v
    → StaysThereIn known (true_known holds v known)
true_follows holds (vars.Number e) known form there =
    comparison_follows comparisons.NeUn (vars.Number e) (vars.Number (constant (pos 0))) holds known form
    (named_var known (vars.Number e) there) (omega arith)
true_follows holds (vars.Reference r) known form there =
    comparison_follows comparisons.NeUn (vars.Reference r) (vars.Reference 0) holds known form tt tt
true_follows holds vars.Text known form there = stays_itself known form
true_follows holds (vars.Address r e) known form there = stays_itself known form

-- What is taken where a test is so, over what was known behind the test.
abbrev pub PushesBehind : StateFacts → Kind → Step → Type 0
PushesBehind known kind inside = (x : StateFacts) → StaysThere known x → IsPushedIn x kind (inside x).state

pub branch_seen : (known : StateFacts) (kind : Kind) (inside : Step) (holds : Bool) (v : Var) → HasForm known
    → HasVar known v
    → PushesBehind known kind inside → IsSeenIf kind (seen_in (branch inside holds v known))
branch_seen known kind inside holds v form there pushes =
    by (true_known holds v known) (true_follows holds v known form there)
  where
    on_state : (x : StateFacts) (o : State) → IsPushedIn x kind o → IsSeenIf kind (option_and_then seen_on_top o)
    on_state x None is = tt
    on_state x (Some after) is = pushed_seen x after kind is

    by : (o : State) → StaysThereIn known o → IsSeenIf kind (seen_in (in_state inside o))
    by None stays = tt
    by (Some x) stays = on_state x (inside x).state (pushes x stays)

pub condition_seen : (known : StateFacts) (left right kind : Kind) (a b : Step) (v : Var) → HasForm known
    → HasVar known v
    → merged_kind left right ≡ Some kind → PushesBehind known left a → PushesBehind known right b
    → IsSeenIf kind (seen_of_reached (seen_in (branch a true v known)) (seen_in (branch b false v known)))
condition_seen known left right kind a b v form there is first second =
    reached_seen left right kind (seen_in (branch a true v known)) (seen_in (branch b false v known)) is
    (branch_seen known left a true v form there first) (branch_seen known right b false v form there second)

pub condition_pushed : (known : StateFacts) (left right kind : Kind) (a b : Step) (v : Var) → HasForm known
    → HasVar known v
    → merged_kind left right ≡ Some kind → PushesBehind known left a → PushesBehind known right b
    → IsPushedIn known kind (condition_value a b v known).state
condition_pushed known left right kind a b v form there is first second =
    seen_pushed known kind _ form (condition_seen known left right kind a b v form there is first second)

-- ---- leaves

variable_pushed : (known : StateFacts) (kind : Kind) (i : ℕ) → HasForm known
    → IsOneOfKind known kind (slice_get known.variables i)
    → IsPushedIn known kind (variable (Some i) known).state
variable_pushed known kind i form is = by (slice_get known.variables i) refl is
  where
    by : (o : Option Var) → slice_get known.variables i ≡ o → IsOneOfKind known kind o
        → IsPushedIn known kind (with_one given o known).state
    by None found of_kind = tt
    by (Some v) found of_kind =
        push_is_pushed known kind v form
        (found_var (length known.facts.ranges) (length known.references) known.variables i v form.variables found)
        of_kind

int_pushed : (known : StateFacts) (kind : Kind) (o : State) → kinds.Int ≡ kind → IsPushedIn known kinds.Int o
    → IsPushedIn known kind o
int_pushed known kind o is pushed_int = subst (λ k. IsPushedIn known k o) is pushed_int

-- ---- trees

module _ (env : TreeEnv) (args : List Place) (result : Place) where
  pub stays_readable : (known x : StateFacts) → IsReadable env args result known → StaysThere known x
      → IsReadable env args result x
  stays_readable known x readable stays =
      readable_on env args result known x (stays_grown known x stays)
      (subst (Extends known.variables) (sym stays.variables) (λ i v is. is)) readable

  pub below_readable : (known x : StateFacts) (kind : Kind) (v : Var) → IsReadable env args result known
      → IsBelow known kind v x
      → IsReadable env args result x
  below_readable known x kind v readable below =
      readable_on env args result known x below.grown
      (subst (Extends known.variables) (sym below.variables_are) (λ i w is. is)) readable

  result_pushed : (known : StateFacts) (kind : Kind) (o : Option ℕ) → IsReadable env args result known → env.result ≡ o
      → kind_of result ≡ Some kind → IsPushedIn known kind (variable o known).state
  result_pushed known kind None readable at is = tt
  result_pushed known kind (Some i) readable at is =
      variable_pushed known kind i readable.form (readable.result_fits i kind at is)

  pub value_pushed : (t : Term) (time : Time) (kind : Kind) (known : StateFacts) → IsReadable env args result known
      → IsTyped args result time t kind → IsPushedIn known kind (value env time t known).state
  unfolding value
  value_pushed (terms.Const n) time kind known readable typed =
      int_pushed known kind (value env time (terms.Const n) known).state (same_Some kinds.Int kind typed.kind_is)
      (push_is_pushed known kinds.Int (vars.Number (constant n)) readable.form (constant_there known n typed.ints.0) tt)
  value_pushed (terms.Arg n) time kind known readable typed =
      variable_pushed known kind (env.args + n) readable.form (readable.args_fit n kind typed.kind_is)
  value_pushed terms.Null time kind known readable typed =
      subst (λ k. IsPushedIn known k (Some (pushed known (vars.Reference 0))))
      (same_Some kinds.NullRef kind typed.kind_is)
      (push_is_pushed known kinds.NullRef (vars.Reference 0) readable.form (omega arith) refl)
  value_pushed terms.Result Now kind known readable typed =
      result_pushed known kind env.result readable refl typed.kind_is
  value_pushed terms.Result Entry kind known readable typed = absurd (none typed.kind_is)
    where
      none : None ≡ Some kind → ⊥
      none is = cc
  value_pushed (terms.Len a) time kind known readable typed =
      let below = length_typed args result time a kind typed in
      int_pushed known kind (value env time (terms.Len a) known).state below.int
      (one_pushed known below.array kinds.Int (value env time a known).state _
      (value_pushed a time below.array known readable below.typed)
      (λ v x lies. length_pushed x v lies.grown.form lies.there))
  value_pushed (terms.Elem place a b) time kind known readable typed =
      let below = element_typed args result time place a b kind typed in
      int_pushed known kind (value env time (terms.Elem place a b) known).state below.int
      (two_pushed known below.array kinds.Int kinds.Int (value env time a known).state (value env time b) _
      (value_pushed a time below.array known readable below.first)
      (λ x is. value_pushed b time kinds.Int x (pushed_readable env args result known x below.array is readable)
      below.second)
      (λ v w x lies. element_pushed time place x v w lies.lower.grown.form lies.lower.there lies.there))
  value_pushed (terms.Bin op a b) time kind known readable typed =
      let below = operator_typed args result time op a b kind typed in
      int_pushed known kind (value env time (terms.Bin op a b) known).state below.int
      (two_pushed known below.left below.right kinds.Int (value env time a known).state (value env time b) _
      (value_pushed a time below.left known readable below.first)
      (λ x is. value_pushed b time below.right x (pushed_readable env args result known x below.left is readable)
      below.second)
      (λ v w x lies. binary_pushed op x v w lies.lower.grown.form lies.lower.there lies.there))
  value_pushed (terms.Un op a) time kind known readable typed =
      let below = unary_typed args result time op a kind typed in
      int_pushed known kind (value env time (terms.Un op a) known).state below.int
      (one_pushed known kinds.Int kinds.Int (value env time a known).state _
      (value_pushed a time kinds.Int known readable below.typed)
      (λ v x lies. unary_pushed op x v lies.grown.form lies.there))
  value_pushed (terms.Old a) time kind known readable typed =
      value_pushed a Entry kind known readable (old_typed args result time a kind typed).1
  value_pushed (terms.Cond c a b) time kind known readable typed =
      let below = branches_typed args result time c a b kind typed in
      one_pushed known below.test kind (value env time c known).state _
      (value_pushed c time below.test known readable below.test_typed)
      (λ v x lies.
      let here = below_readable known x below.test v readable lies in
      condition_pushed x below.left below.right kind (value env time a) (value env time b) v lies.grown.form lies.there
      below.merged
      (λ y stays. value_pushed a time below.left y (stays_readable x y here stays) below.first)
      (λ y stays. value_pushed b time below.right y (stays_readable x y here stays) below.second))
