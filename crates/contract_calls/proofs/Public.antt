-- What is so of what a call makes is so of its answer.
use Rattle.std.proofs.Common.{◌≡◌, Bool, true, sym, subst, ◌∙◌}
use Rattle.std.specs.Prelude.{Result, Ok, Err, IfOk}
use Rattle.state_facts.specs.StateFacts.{State}

pub so_where_shown : {E : Type 0} (result : Result Bool E) (made : Bool) (P : Type 0) → (made ≡ true → P)
    → IfOk result (λ shown. shown ≡ made) → IfOk result (λ shown. shown ≡ true → P)
so_where_shown (Ok shown) made P so same = λ is. so (sym same ∙ is)
so_where_shown (Err e) made P so same = same

pub so_of_made : {E : Type 0} (result : Result State E) (made : State) (P : State → Type 0) → P made
    → IfOk result (λ new. new ≡ made) → IfOk result P
so_of_made (Ok new) made P so same = subst P (sym same) so
so_of_made (Err e) made P so same = same
