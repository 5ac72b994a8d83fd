use Rattle.std.proofs.Common.{◌≡◌, refl, subst}
use Rattle.std.specs.Prelude.{IfOk}
use Rattle.merged_states.specs.Merging.{normal}
use Rattle.state_facts.specs.StateFacts.{State}
use Rattle.transfer_rules.specs.Flow.{before_last, leaving}
use Rattle.transfer_rules.specs.Laws.FlowLaws.{source_below}
use Rattle.transfer_rules.specs.Laws.FlowSteps.{block_ready}
use Rattle.transfer_rules.proofs.Walking.{block_short, ready_to_leave}
use Rattle.transfer_rules.proofs.walks.leave.Goals as goal

pub block-instrs-requires-clause-there : goal.block-instrs-requires-clause-there
block-instrs-requires-clause-there c =
    rw c.as_slice.ensures (source_below c.args.code.now c.args.edge c.requires.lawful c.requires.there)

pub go_on_from_last-requires-clause-few : goal.go_on_from_last-requires-clause-few
go_on_from_last-requires-clause-few c = c.requires.lawful.formed.limits.variables

pub go_on_from_last-requires-clause-short : goal.go_on_from_last-requires-clause-short
go_on_from_last-requires-clause-short c = rw c.block-instrs.ensures (block_short c.args.code.now c.requires.lawful _)

pub go_on_from_last-requires-clause-ready : goal.go_on_from_last-requires-clause-ready
unfolding before_last
go_on_from_last-requires-clause-ready c =
    let (first, fits, is) = c.requires.came in
    rw (c.block-instrs.ensures, c.as_slice.ensures, is)
    (ready_to_leave c.args.code.now.unit _ first
    (block_ready c.args.code.now _ first c.requires.lawful
    (source_below c.args.code.now c.args.edge c.requires.lawful c.requires.there) fits))

pub returns : goal.returns
unfolding leaving
returns c =
    let same : normal c.in_ok-behind.behind ≡ leaving c.args.state c.args.code.now c.args.edge =
    rw (c.in_ok-behind.ensures, c.block-instrs.ensures, c.as_slice.ensures) refl in
    subst (λ (s : State). IfOk c.norm.result (λ behind. behind ≡ s)) same c.norm.ensures.value
