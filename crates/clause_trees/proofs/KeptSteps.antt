-- One step after another keeps what holds: by a choice that is as before for what was there.
use Rattle.std.proofs.Common.{◌≡◌, ℕ, ◌≤◌, ℤ, List, [], ◌∷◌, ◌++◌, length, Option, Some, None, refl, subst, sym, ◌∙◌, arith}
use Rattle.std.specs.Option.{ForSome}
use Rattle.std.proofs.lemmas.Option.{none-some, same_Some}
use Rattle.cil_model.specs.Values.{Heap, IsHeap}
use Rattle.cil_model.specs.declared.machine.Value.{Value}
use Rattle.cil_model.specs.declared.machine.Value.TheVariants as values
use Rattle.cil_model.specs.declared.place.Kind.{Kind}
use Rattle.domain_api.specs.declared.expr.Expr.{Expr}
use Rattle.frame_names.specs.declared.var.Var.{Var}
use Rattle.frame_names.specs.declared.var.Var.TheVariants as vars
use Rattle.symbolic_values.specs.Worth.{worth}
use Rattle.state_facts.specs.Forms.{HasForm}
use Rattle.state_facts.specs.Holds.{HasValue, HaveValues, HoldsBy, HoldsIn}
use Rattle.state_facts.specs.Keeps.{HoldsOn}
use Rattle.state_facts.specs.Moves.{popped}
use Rattle.state_facts.specs.StateFacts.{StateFacts, State}
use Rattle.state_facts.proofs.MovesHold.{pop_keeps}
use Rattle.state_obligations.specs.Conditions.{AreThere, conditions_of}
use Rattle.state_obligations.specs.Following.{StaysThere, StaysThereIn}
use Rattle.state_obligations.specs.Judged.{judged}
use Rattle.state_obligations.specs.Meaning.{AreMet, AreOfInt32}
use Rattle.state_obligations.specs.declared.condition.Operation.{Operation}
use Rattle.state_obligations.proofs.JudgedLaws.{judged_follow, met_are_kept}
use Rattle.clause_trees.specs.TreeValues.{Step, from_top, in_state, on_one, on_two, owing, with_one, with_two}
use Rattle.clause_trees.specs.VariableKinds.{IsGrown, IsPushed, IsPushedIn}
use Rattle.clause_trees.proofs.PushedValues.{AreBelow, has_two, lower_is_top, lower_pushed}
use Rattle.clause_trees.proofs.Stays.{IsBelow, all_but_top, popped_below, stays_grown, top_is}

pub for_known : (known : StateFacts) (P : StateFacts → Type 0) → P known → ForSome (Some known) P
for_known known P is = λ x same. subst P (same_Some known x same) is

-- ---- choices

-- What holds by a choice that agrees with one for what was there.
pub held_over : (known below : StateFacts) (o : State) (ws : List Value) (heap : Heap) (number later : ℕ → ℤ)
    (array later_array : ℕ → Option ℕ)
    → IsGrown known below → ((s : ℕ) → s ≤ length known.facts.ranges → later s ≡ number s)
    → ((r : ℕ) → r ≤ length known.references → later_array r ≡ array r)
    → HoldsOn (Some below) o ws heap later later_array
    → HoldsOn (Some known) o ws heap number array
held_over known below o ws heap number later array later_array grown agrees agrees_arrays on =
    let symbols : length known.facts.ranges ≤ length below.facts.ranges = grown.symbols in
    let references : length known.references ≤ length below.references = grown.references in
    record {
      later = on.later;
      later_array = on.later_array;
      agrees = λ s there. on.agrees s (omega (arith, there, symbols)) ∙ agrees s there;
      agrees_arrays = λ r there. on.agrees_arrays r (omega (arith, there, references)) ∙ agrees_arrays r there;
      holds = on.holds;
    }

pub held_so : (known : StateFacts) (o : State) (ws : List Value) (heap : Heap) (number : ℕ → ℤ) (array : ℕ → Option ℕ)
    → HoldsIn o ws heap number array → HoldsOn (Some known) o ws heap number array
held_so known o ws heap number array holds = record {
  later = number;
  later_array = array;
  agrees = λ s there. refl;
  agrees_arrays = λ r there. refl;
  holds = holds;
}

-- A state that is reached, with one variable more, which holds of these values.
pub record Comes (known : StateFacts) (kind : Kind) (o : State) (ws : List Value) (heap : Heap) (number : ℕ → ℤ)
    (array : ℕ → Option ℕ)
    : Type 0 where
  pub after : StateFacts
  pub state_is : o ≡ Some after
  pub pushed : IsPushed known kind after
  pub later : ℕ → ℤ
  pub later_array : ℕ → Option ℕ
  pub agrees : (s : ℕ) → s ≤ length known.facts.ranges → later s ≡ number s
  pub agrees_arrays : (r : ℕ) → r ≤ length known.references → later_array r ≡ array r
  pub holds : HoldsBy after ws heap later later_array

pub comes : (known : StateFacts) (kind : Kind) (o : State) (ws : List Value) (heap : Heap) (number : ℕ → ℤ)
    (array : ℕ → Option ℕ)
    → IsPushedIn known kind o → HoldsOn (Some known) o ws heap number array → Comes known kind o ws heap number array
comes known kind None ws heap number array is on = elim on.holds [ ]
comes known kind (Some after) ws heap number array is on = record {
  after = after;
  state_is = refl;
  pushed = is;
  later = on.later;
  later_array = on.later_array;
  agrees = on.agrees;
  agrees_arrays = on.agrees_arrays;
  holds = on.holds;
}

-- ---- the top

last_value : (number : ℕ → ℤ) (array : ℕ → Option ℕ) (vs : List Var) (v : Var) (xs : List Value) (x : Value)
    → HaveValues number array (vs ++ v ∷ []) (xs ++ x ∷ []) → HasValue number array v x
last_value number array [] v [] x have = have.0
last_value number array [] v (y ∷ []) x have = elim have.1 [ ]
last_value number array [] v (y ∷ z ∷ xs) x have = elim have.1 [ ]
last_value number array (w ∷ []) v [] x have = elim have.1 [ ]
last_value number array (w ∷ u ∷ vs) v [] x have = elim have.1 [ ]
last_value number array (w ∷ vs) v (y ∷ xs) x have = last_value number array vs v xs x have.1

pub top_value : (known after : StateFacts) (kind : Kind) (vs : List Value) (x : Value) (heap : Heap) (number : ℕ → ℤ)
    (array : ℕ → Option ℕ)
    (is : IsPushed known kind after) → HoldsBy after (vs ++ x ∷ []) heap number array → HasValue number array is.top x
top_value known after kind vs x heap number array is holds =
    last_value number array known.variables is.top vs x
    (subst (λ l. HaveValues number array l (vs ++ x ∷ [])) is.variables_are holds.variables)

pub popped_holds : (after : StateFacts) (vs : List Value) (x : Value) (heap : Heap) (number : ℕ → ℤ)
    (array : ℕ → Option ℕ)
    → HoldsBy after (vs ++ x ∷ []) heap number array → HoldsBy (popped after) vs heap number array
popped_holds after vs x heap number array holds =
    subst (λ l. HoldsBy (popped after) l heap number array) (all_but_top vs x)
    (pop_keeps (Some after) (vs ++ x ∷ []) heap number array holds)

-- ---- variables by their values

-- What is so of each number that is worth an int32 is so of the variable that has it.
pub int_by_number : (number : ℕ → ℤ) (array : ℕ → Option ℕ) (P : Var → Type 0) (v : Var) (n : ℤ)
    → HasValue number array v (values.Int n)
    → ((e : Expr) → n ≡ worth number e → P (vars.Number e)) → P v
int_by_number number array P (vars.Number e) n has each = each e (same_Some n (worth number e) has)
int_by_number number array P (vars.Reference r) n has each = absurd (none-some _ has)
int_by_number number array P vars.Text n has each = absurd cc
int_by_number number array P (vars.Address r e) n has each = absurd (none-some _ has)

-- So of each reference that is an array.
pub array_by_reference : (number : ℕ → ℤ) (array : ℕ → Option ℕ) (P : Var → Type 0) (v : Var) (a : ℕ)
    → HasValue number array v (values.Array a)
    → ((r : ℕ) → array r ≡ Some a → P (vars.Reference r)) → P v
array_by_reference number array P (vars.Reference r) a has each = each r (sym (same_Some (Some a) (array r) has))
array_by_reference number array P (vars.Number e) a has each = absurd (none-some _ has)
array_by_reference number array P vars.Text a has each = absurd cc
array_by_reference number array P (vars.Address r e) a has each = absurd (none-some _ has)

-- ---- steps with operands

-- What a step keeps that takes a variable with a value.
abbrev pub KeepsOne : StateFacts → Kind → (Var → Step) → List Value → Value → List Value → Heap → Type 0
KeepsOne known kind step vs x ws heap =
    (v : Var) (below : StateFacts) (number : ℕ → ℤ) (array : ℕ → Option ℕ)
    → IsBelow known kind v below → HoldsBy below vs heap number array → HasValue number array v x
    → HoldsOn (Some below) (step v below).state ws heap number array

pub one_kept : (known : StateFacts) (kind : Kind) (o : State) (step : Var → Step) (vs : List Value) (x : Value)
    (ws : List Value) (heap : Heap)
    (number : ℕ → ℤ) (array : ℕ → Option ℕ) → Comes known kind o (vs ++ x ∷ []) heap number array
    → KeepsOne known kind step vs x ws heap
    → HoldsOn (Some known) (in_state (on_one step) o).state ws heap number array
one_kept known kind o step vs x ws heap number array first each =
    let is = first.pushed in
    let after = first.after in
    let below = popped_below known after kind is in
    let rest = each is.top (popped after) first.later first.later_array below
    (popped_holds after vs x heap first.later first.later_array first.holds)
    (top_value known after kind vs x heap first.later first.later_array is first.holds) in
    subst (λ s. HoldsOn (Some known) (in_state (on_one step) s).state ws heap number array) (sym first.state_is)
    (subst (λ (t : Option Var). HoldsOn (Some known) (with_one step t (popped after)).state ws heap number array)
    (sym (top_is known after kind is))
    (held_over known (popped after) (step is.top (popped after)).state ws heap number first.later array
    first.later_array below.grown
    first.agrees first.agrees_arrays rest))

abbrev pub KeepsTwo : StateFacts → Kind → Kind → (Var → Var → Step) → List Value → Value → Value → List Value → Heap
    → Type 0
KeepsTwo known first second step vs x y ws heap =
    (v w : Var) (below : StateFacts) (number : ℕ → ℤ) (array : ℕ → Option ℕ)
    → AreBelow known first second v w below → HoldsBy below vs heap number array → HasValue number array v x
    → HasValue number array w y
    → HoldsOn (Some below) (step v w below).state ws heap number array

pub two_kept : (known : StateFacts) (k l : Kind) (o : State) (inside : Step) (step : Var → Var → Step) (vs : List Value)
    (x y : Value)
    (ws : List Value) (heap : Heap) (number : ℕ → ℤ) (array : ℕ → Option ℕ)
    (first : Comes known k o (vs ++ x ∷ []) heap number array)
    → Comes first.after l (inside first.after).state ((vs ++ x ∷ []) ++ y ∷ []) heap first.later first.later_array
    → KeepsTwo known k l step vs x y ws heap
    → HoldsOn (Some known) (in_state (on_two step) (in_state inside o).state).state ws heap number array
two_kept known k l o inside step vs x y ws heap number array first second each =
    let is = first.pushed in
    let more = second.pushed in
    let after = second.after in
    let two = has_two known first.after after k l is more in
    let below = two.below in
    let between = popped_holds after (vs ++ x ∷ []) y heap second.later second.later_array second.holds in
    let lower = subst (λ v. HasValue second.later second.later_array v x)
    (lower_is_top known first.after after k l is more)
    (top_value known (popped after) k vs x heap second.later second.later_array
    (lower_pushed known first.after after k l is more) between) in
    let upper = top_value first.after after l (vs ++ x ∷ []) y heap second.later second.later_array more second.holds in
    let rest = each is.top more.top (popped (popped after)) second.later second.later_array below
    (popped_holds (popped after) vs x heap second.later second.later_array between) lower upper in
    subst (λ s. HoldsOn (Some known) (in_state (on_two step) (in_state inside s).state).state ws heap number array)
    (sym first.state_is)
    (subst (λ s. HoldsOn (Some known) (in_state (on_two step) s).state ws heap number array) (sym second.state_is)
    (subst (λ (t : Option Var). HoldsOn (Some known) (with_two step t (from_top 0 after) (popped (popped after))).state
    ws heap number array)
    (sym two.lower_is)
    (subst (λ (t : Option Var). HoldsOn (Some known) (with_two step (Some is.top) t (popped (popped after))).state ws
    heap number array)
    (sym two.upper_is)
    (held_over known (popped (popped after)) (step is.top more.top (popped (popped after))).state ws heap number
    second.later array
    second.later_array below.lower.grown
    (λ s there. second.agrees s (more_symbols s there) ∙ first.agrees s there)
    (λ r there. second.agrees_arrays r (more_references r there) ∙ first.agrees_arrays r there) rest))))
  where
    more_symbols : (s : ℕ) → s ≤ length known.facts.ranges → s ≤ length first.after.facts.ranges
    more_symbols s there = let symbols = first.pushed.grown.symbols in omega (arith, there, symbols)

    more_references : (r : ℕ) → r ≤ length known.references → r ≤ length first.after.references
    more_references r there = let references = first.pushed.grown.references in omega (arith, there, references)

-- ---- what is owed

pub owed_kept : (known : StateFacts) (operation : Operation) (push : State → State) (vs ws : List Value) (heap : Heap)
    (number : ℕ → ℤ)
    (array : ℕ → Option ℕ) → HasForm known → AreThere known (conditions_of operation) → IsHeap heap
    → HoldsBy known vs heap number array
    → AreOfInt32 (conditions_of operation) number → AreMet (conditions_of operation) heap number array
    → ((x : StateFacts) → StaysThere known x → HoldsBy x vs heap number array
    → HoldsOn (Some x) (push (Some x)) ws heap number array)
    → HoldsOn (Some known) (owing operation push known).state ws heap number array
owed_kept known operation push vs ws heap number array form there is_heap holds fits met each =
    by (judged (conditions_of operation) (Some known)).state (judged_follow (conditions_of operation) known form there)
    (met_are_kept (conditions_of operation) known form there vs heap number array is_heap holds fits met)
  where
    by : (o : State) → StaysThereIn known o → HoldsIn o vs heap number array
        → HoldsOn (Some known) (push o) ws heap number array
    by None stays still = elim still [ ]
    by (Some x) stays still =
        held_over known x (push (Some x)) ws heap number number array array (stays_grown known x stays) (λ s at. refl)
        (λ r at. refl)
        (each x stays still)
