use Rattle.std.proofs.Common.{◌≡◌, subst}
use Rattle.std.specs.Prelude.{IfOk}
use Rattle.state_facts.specs.StateFacts.{State}
use Rattle.transfer_rules.proofs.Walking.{from_last_is, last_ready}
use Rattle.transfer_rules.proofs.walks.go_on_from_last.Goals as goal

pub along-requires-clause-calls : goal.along-requires-clause-calls
along-requires-clause-calls c =
    last_ready c.args.unit.now c.args.instrs.now c.last-item.result c.args.state c.in-len1-up.len_at_least
    c.last-item.is c.requires.ready

pub returns : goal.returns
returns c =
    subst (λ (s : State). IfOk c.along.result (λ behind. behind ≡ s))
    (from_last_is c.args.unit.now c.args.number c.args.instrs.now c.last-item.result c.args.state
    c.in-len1-up.len_at_least c.last-item.is) c.along.ensures.value
