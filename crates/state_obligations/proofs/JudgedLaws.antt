-- Conditions one after another: where all are entailed all are met, and where all are met the state holds by the same
-- choice.
use Rattle.std.proofs.Common.{◌≡◌, ℕ, ℤ, true, List, [], ◌∷◌, Option, Some, None, refl}
use Rattle.std.proofs.lemmas.Bool.{and_parts}
use Rattle.cil_model.specs.Values.{Heap, IsHeap}
use Rattle.cil_model.specs.declared.machine.Value.{Value}
use Rattle.state_facts.specs.Forms.{HasForm}
use Rattle.state_facts.specs.Holds.{HoldsBy, HoldsIn}
use Rattle.state_facts.specs.StateFacts.{StateFacts, State}
use Rattle.state_obligations.proofs.ConditionLaws.{entailed_is_met, met_is_kept}
use Rattle.state_obligations.proofs.Following.{assumed_follows, conditions_still, stays_itself, stays_on}
use Rattle.state_obligations.specs.Assumed.{assumed_by}
use Rattle.state_obligations.specs.Conditions.{AreThere}
use Rattle.state_obligations.specs.Entailed.{entailed_by}
use Rattle.state_obligations.specs.Following.{StaysThere, StaysThereIn}
use Rattle.state_obligations.specs.Judged.{judged}
use Rattle.state_obligations.specs.Meaning.{AreMet, AreOfInt32}
use Rattle.state_obligations.specs.declared.condition.Condition.{Condition}

nothing_stays : (cs : List Condition) → (judged cs None).state ≡ None
nothing_stays [] = refl
nothing_stays (c ∷ cs) = nothing_stays cs

rest_follow : (cs : List Condition) (known : StateFacts) (o : State) → StaysThereIn known o
    → ((x : StateFacts) → StaysThere known x → StaysThereIn x (judged cs (Some x)).state)
    → StaysThereIn known (judged cs o).state
rest_follow cs known None stays rest = rw (nothing_stays cs) tt
rest_follow cs known (Some x) stays rest = on (judged cs (Some x)).state (rest x stays)
  where
    on : (o : State) → StaysThereIn x o → StaysThereIn known o
    on None more = tt
    on (Some after) more = stays_on known x after stays more

-- Behind conditions that are assumed one after another, what was there is there still.
pub judged_follow : (cs : List Condition) (known : StateFacts) → HasForm known → AreThere known cs
    → StaysThereIn known (judged cs (Some known)).state
judged_follow [] known form there = stays_itself known form
judged_follow (c ∷ cs) known form there =
    rest_follow cs known (assumed_by c known) (assumed_follows c known form there.0)
    (λ x stays. judged_follow cs x stays.form (conditions_still known x cs stays there.1))

-- what is so of each state that holds is so of one that does
so_where_holds : (known : StateFacts) (o : State) (vs : List Value) (heap : Heap) (number : ℕ → ℤ)
    (array : ℕ → Option ℕ) (P : State → Type 0)
    → StaysThereIn known o → HoldsIn o vs heap number array
    → ((x : StateFacts) → StaysThere known x → HoldsBy x vs heap number array → P (Some x)) → P o
so_where_holds known None vs heap number array P stays holds so = elim holds [ ]
so_where_holds known (Some x) vs heap number array P stays holds so = so x stays holds

-- Where each is entailed in the state that assumes those before it, all are met.
pub judged_are_met : (cs : List Condition) (known : StateFacts) → HasForm known → AreThere known cs
    → (judged cs (Some known)).entailed ≡ true
    → (vs : List Value) (heap : Heap) (number : ℕ → ℤ) (array : ℕ → Option ℕ) → IsHeap heap
    → HoldsBy known vs heap number array → AreOfInt32 cs number
    → AreMet cs heap number array
judged_are_met [] known form there so vs heap number array is_heap holds fits = tt
judged_are_met (c ∷ cs) known form there so vs heap number array is_heap holds fits =
    let parts = and_parts (entailed_by c known) (judged cs (assumed_by c known)).entailed so in
    let met = entailed_is_met c known form there.0 parts.0 vs heap number array holds fits.0 in (
      met,
      so_where_holds known (assumed_by c known) vs heap number array
          (λ (o : State). (judged cs o).entailed ≡ true → AreMet cs heap number array)
          (assumed_follows c known form there.0)
          (met_is_kept c known form there.0 vs heap number array is_heap holds fits.0 met)
          (λ x stays still all. judged_are_met cs x stays.form
          (conditions_still known x cs stays there.1) all vs heap number array is_heap still fits.1) parts.1,
    )

-- Where all are met, the state that assumes them holds by the same choice.
pub met_are_kept : (cs : List Condition) (known : StateFacts) → HasForm known → AreThere known cs
    → (vs : List Value) (heap : Heap) (number : ℕ → ℤ) (array : ℕ → Option ℕ) → IsHeap heap
    → HoldsBy known vs heap number array → AreOfInt32 cs number
    → AreMet cs heap number array → HoldsIn (judged cs (Some known)).state vs heap number array
met_are_kept [] known form there vs heap number array is_heap holds fits met = holds
met_are_kept (c ∷ cs) known form there vs heap number array is_heap holds fits met =
    so_where_holds known (assumed_by c known) vs heap number array
    (λ (o : State). HoldsIn (judged cs o).state vs heap number array)
    (assumed_follows c known form there.0)
    (met_is_kept c known form there.0 vs heap number array is_heap holds fits.0 met.0)
    (λ x stays still. met_are_kept cs x stays.form
    (conditions_still known x cs stays there.1) vs heap number array is_heap still fits.1 met.1)
