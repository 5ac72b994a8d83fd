-- What is so of answers that equal their definitions.
use Rattle.std.proofs.Common.{◌≡◌, Bool, true, sym, subst, ◌∙◌}
use Rattle.std.specs.Prelude.{Result, Ok, Err, IfOk}
use Rattle.cil_model.specs.Terms.{Term}
use Rattle.state_facts.specs.StateFacts.{State}
use Rattle.clause_trees.specs.ClauseStates.{assumed, shown}
use Rattle.clause_trees.specs.Meaning.{IsSoWherever, KeepsWhereSo}
use Rattle.clause_trees.specs.declared.reader.TreeEnv.{TreeEnv}
use Rattle.clause_trees.proofs.AssumedKept.{assumed_is_kept}
use Rattle.clause_trees.proofs.ShownTrees.{shown_is_so}

pub so_where_shown : {E : Type 0} (result : Result Bool E) (env : TreeEnv) (holds : Bool) (t : Term) (state : State)
    → IfOk result (λ is. is ≡ shown env holds t state) → IfOk result (λ is. is ≡ true → IsSoWherever env holds t state)
so_where_shown (Ok is) env holds t state equal = λ so args result vs heap r readable typed reads over.
    shown_is_so env holds t state args result vs heap r readable typed reads over (sym equal ∙ so)
so_where_shown (Err e) env holds t state equal = equal

pub kept_where_assumed : {E : Type 0} (result : Result State E) (env : TreeEnv) (holds : Bool) (t : Term) (state : State)
    → IfOk result (λ new. new ≡ assumed env holds t state) → IfOk result (λ new. KeepsWhereSo env holds t state new)
kept_where_assumed (Ok new) env holds t state equal =
    subst (KeepsWhereSo env holds t state) (sym equal) (assumed_is_kept env holds t state)
kept_where_assumed (Err e) env holds t state equal = equal
