-- The laws of conditions, of states in which something is reached or nothing is.
use Rattle.std.proofs.Common.{◌≡◌, Bool, true, List, Some, None, refl, sym, subst, ◌∙◌}
use Rattle.std.specs.Option.{ForSome}
use Rattle.std.specs.Prelude.{Result, Ok, Err, IfOk}
use Rattle.state_facts.specs.Forms.{HasForm}
use Rattle.state_facts.specs.StateFacts.{StateFacts, State}
use Rattle.state_obligations.proofs.ConditionLaws.{entailed_is_met, met_is_kept}
use Rattle.state_obligations.proofs.Following.{assumed_follows, conditions_still}
use Rattle.state_obligations.proofs.JudgedLaws.{judged_are_met, met_are_kept}
use Rattle.state_obligations.specs.Assumed.{assume, assumed_by}
use Rattle.state_obligations.specs.Conditions.{AreThere, IsThere}
use Rattle.state_obligations.specs.Entailed.{is_entailed}
use Rattle.state_obligations.specs.Following.{StaysThereIn}
use Rattle.state_obligations.specs.Judged.{judged}
use Rattle.state_obligations.specs.Meaning.{AssumesIt, AssumesThem, EntailsIt, EntailsThem}
use Rattle.state_obligations.specs.declared.condition.Condition.{Condition}

-- ---- one condition

-- What a state entails is met wherever it holds.
pub entails_it : (c : Condition) (state : State) → ForSome state HasForm → ForSome state (λ known. IsThere known c)
    → is_entailed c state ≡ true → EntailsIt c state
entails_it c None form there so = λ vs heap number array holds fits. elim holds [ ]
entails_it c (Some known) form there so =
    λ vs heap number array holds fits. entailed_is_met c known (form known refl)
    (there known refl) so vs heap number array holds fits

-- Where a state holds and the condition is met, what assumes it holds by the same choice.
pub assumes_it : (c : Condition) (state : State) → ForSome state HasForm → ForSome state (λ known. IsThere known c)
    → AssumesIt c state (assume c state)
assumes_it c None form there = λ vs heap number array is_heap holds fits met. elim holds [ ]
assumes_it c (Some known) form there =
    λ vs heap number array is_heap holds fits met. met_is_kept c known (form known refl)
    (there known refl) vs heap number array is_heap holds fits met

each_some : (known : StateFacts) (o : State) (P : StateFacts → Type 0) → StaysThereIn known o
    → ((x : StateFacts) → o ≡ Some x → StaysThereIn known (Some x) → P x) → ForSome o P
each_some known o P stays so = λ x is. so x is (subst (StaysThereIn known) is stays)

none_some : (P : StateFacts → Type 0) → ForSome None P
none_some P = λ x is. absurd cc

-- The form is kept.
pub formed_behind : (c : Condition) (known after : StateFacts) → HasForm known → IsThere known c
    → assumed_by c known ≡ Some after → HasForm after
formed_behind c known after form there is = behind (subst (StaysThereIn known) is (assumed_follows c known form there))
  where
    behind : StaysThereIn known (Some after) → HasForm after
    behind stays = stays.form

pub assumed_form : (c : Condition) (state : State) → ForSome state HasForm → ForSome state (λ known. IsThere known c)
    → ForSome (assume c state) HasForm
assumed_form c None form there = none_some HasForm
assumed_form c (Some known) form there =
    each_some known (assumed_by c known) HasForm (assumed_follows c known (form known refl) (there known refl))
    (λ x is stays. stays.form)

-- What other conditions name is there still.
pub assumed_there : (c : Condition) (cs : List Condition) (state : State) → ForSome state HasForm
    → ForSome state (λ known. IsThere known c)
    → ForSome state (λ known. AreThere known cs) → ForSome (assume c state) (λ known. AreThere known cs)
assumed_there c cs None form there others = none_some (λ known. AreThere known cs)
assumed_there c cs (Some known) form there others =
    each_some known (assumed_by c known) (λ x. AreThere x cs)
    (assumed_follows c known (form known refl) (there known refl))
    (λ x is stays. conditions_still known x cs stays (others known refl))

-- ---- conditions one after another

-- Where each is entailed in the state that assumes those before it, all are met wherever the state holds.
pub entails_them : (cs : List Condition) (state : State) → ForSome state HasForm
    → ForSome state (λ known. AreThere known cs) → (judged cs state).entailed ≡ true
    → EntailsThem cs state
entails_them cs None form there so = λ vs heap number array is_heap holds fits. elim holds [ ]
entails_them cs (Some known) form there so =
    λ vs heap number array is_heap holds fits. judged_are_met cs known (form known refl)
    (there known refl) so vs heap number array is_heap holds fits

-- Where a state holds and all are met, what assumes them holds by the same choice.
pub assumes_them : (cs : List Condition) (state : State) → ForSome state HasForm
    → ForSome state (λ known. AreThere known cs)
    → AssumesThem cs state (judged cs state).state
assumes_them cs None form there = λ vs heap number array is_heap holds fits met. elim holds [ ]
assumes_them cs (Some known) form there =
    λ vs heap number array is_heap holds fits met. met_are_kept cs known (form known refl)
    (there known refl) vs heap number array is_heap holds fits met

-- A call that says whether all are entailed.
pub sound_where_ok : {E : Type 0} (result : Result Bool E) (cs : List Condition) (state : State) → ForSome state HasForm
    → ForSome state (λ known. AreThere known cs) → IfOk result (λ all. all ≡ (judged cs state).entailed)
    → IfOk result (λ all. all ≡ true → EntailsThem cs state)
sound_where_ok (Ok all) cs state form there is = λ so. entails_them cs state form there (sym is ∙ so)
sound_where_ok (Err e) cs state form there is = is
