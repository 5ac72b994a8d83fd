use Rattle.obligation_prover.proofs.Reading.{avoided_where_ok}
use Rattle.obligation_prover.proofs.RuledOut.{avoided}
use Rattle.obligation_prover.proofs.avoidance.avoid.Goals as goal

pub returns-clause-sound : goal.returns-clause-sound
returns-clause-sound c =
    let unit = c.args.unit.now in
    let op = c.args.op.now in
    avoided_where_ok c.assume_met.result unit op c.args.state _ c.assume_met.ensures.value
    (avoided unit op c.args.kind c.args.state c.assume_met.ensures.form)
