-- What is so of what a call makes is so of the state after it.
use Rattle.std.proofs.Common.{◌≡◌, Bool, true, sym, subst, ◌∙◌}
use Rattle.std.specs.Prelude.{Result, Ok, Err, IfOk, OnOk}
use Rattle.state_facts.specs.StateFacts.{State}

pub kept_where_ok : {X E : Type 0} (result : Result X E) (P : State → Type 0) (made after : State) → P made → OnOk result (after ≡ made) → OnOk result (P after)
kept_where_ok (Ok x) P made after holds is = subst P (sym is) holds
kept_where_ok (Err e) P made after holds is = is

-- The same of a call that answers with the state, beside whatever else.
pub kept_in_answer : {X E : Type 0} (result : Result X E) (state_of : X → State) (P : State → Type 0) (made : State) → P made
    → IfOk result (λ x. state_of x ≡ made) → IfOk result (λ x. P (state_of x))
kept_in_answer (Ok x) state_of P made holds is = subst P (sym is) holds
kept_in_answer (Err e) state_of P made holds is = is

-- Where it says whether all are entailed, it says no more than is so.
pub sound_in_answer : {X E : Type 0} (result : Result X E) (entailed_of : X → Bool) (P : Type 0) (entailed : Bool) → (entailed ≡ true → P)
    → IfOk result (λ x. entailed_of x ≡ entailed) → IfOk result (λ x. entailed_of x ≡ true → P)
sound_in_answer (Ok x) entailed_of P entailed so is = λ all. so (sym is ∙ all)
sound_in_answer (Err e) entailed_of P entailed so is = is
