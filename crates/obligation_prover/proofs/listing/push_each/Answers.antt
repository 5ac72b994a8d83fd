use Rattle.std.proofs.Common.{◌∷◌, ◌++◌, [], ap, ◌∙◌}
use Rattle.cil_model.specs.declared.machine.Obligation.{Obligation}
use Rattle.obligation_prover.specs.ClausesTested.{clause_obligation}
use Rattle.obligation_prover.proofs.JudgingClauses.{one_more_owed}
use Rattle.obligation_prover.proofs.listing.push_each.Goals as goal

pub loop-before-preserved : goal.loop-before-preserved
loop-before-preserved c =
    one_more_owed (clause_obligation c.args.instr.now c.args.test) c.loop-before.found.items c.push.new.self.items
    c.args.found.now.items c.loop-before.before c.loop-before.invariant
    (c.in_ok-push.ensures.items
    ∙ ap (λ (o : Obligation). c.loop-before.found.items ++ o ∷ []) c.clause_obligation.ensures.value)
