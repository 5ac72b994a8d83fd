use Rattle.std.proofs.Common.{sym, ◌∙◌}
use Rattle.obligation_prover.proofs.RuledOut.{ruled_out}
use Rattle.obligation_prover.proofs.entailment.rules_out.Goals as goal

pub returns-clause-sound : goal.returns-clause-sound
returns-clause-sound c = λ shown.
    ruled_out c.args.unit.now c.args.op.now c.args.kind c.args.state.now c.is_ruled_out.ensures.form (sym c.is_ruled_out.ensures.value ∙ shown)
