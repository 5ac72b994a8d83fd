use Rattle.obligation_prover.proofs.Reading.{avoided_where_ok}
use Rattle.obligation_prover.proofs.RuledOut.{all_avoided}
use Rattle.obligation_prover.proofs.avoidance.avoid_all.Goals as goal

pub returns-clause-sound : goal.returns-clause-sound
returns-clause-sound c =
    let unit = c.args.unit.now in
    let op = c.args.op.now in
    avoided_where_ok c.assume_all_met.result unit op c.args.state _ c.assume_all_met.ensures.value
    (all_avoided unit op c.args.state c.assume_all_met.ensures.form)
