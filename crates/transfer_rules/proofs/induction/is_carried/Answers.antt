use Rattle.transfer_rules.proofs.Inducing.{are_alike, before_below, behind_is, comes_through, to_below, to_is, told_so}
use Rattle.transfer_rules.proofs.induction.is_carried.Goals as goal

pub bounds-befores-way : goal.bounds-befores-way
bounds-befores-way c =
    before_below c.args.code.now c.requires.lawful c.args.states.now c.requires.shape c.args.edge c.requires.edge
    c.as_slice.result.now c.as_slice.ensures c.args.befores.now c.requires.befores

pub bounds-states-way : goal.bounds-states-way
bounds-states-way c =
    to_below c.args.code.now c.requires.lawful c.args.states.now c.requires.shape c.args.edge c.requires.edge
    c.as_slice.result.now c.as_slice.ensures

pub leave-requires-clause-came : goal.leave-requires-clause-came
leave-requires-clause-came c =
    comes_through c.args.code.now c.requires.lawful c.args.states.now c.requires.shape c.args.edge c.requires.edge
    c.as_slice.result.now c.as_slice.ensures c.args.befores.now c.requires.befores c.index-befores-way.result c.in_ok-before.before
    c.index-befores-way.is c.in_ok-before.ensures

pub leq-requires : goal.leq-requires
leq-requires c =
    are_alike c.args.code.now c.requires.lawful c.args.states.now c.requires.shape c.args.edge c.requires.edge
    c.as_slice.result.now c.as_slice.ensures c.index-states-way.result c.in_ok-behind.behind c.index-states-way.is
    (behind_is c.args.code.now c.requires.lawful c.args.states.now c.requires.shape c.args.edge c.requires.edge
    c.as_slice.result.now c.as_slice.ensures c.args.befores.now c.requires.befores c.index-befores-way.result c.in_ok-before.before
    c.in_ok-behind.behind c.index-befores-way.is c.in_ok-before.ensures c.in_ok-behind.ensures)

pub returns : goal.returns
returns c =
    told_so c.leq.result _ _ _ _ c.leq.ensures
    (behind_is c.args.code.now c.requires.lawful c.args.states.now c.requires.shape c.args.edge c.requires.edge
    c.as_slice.result.now c.as_slice.ensures c.args.befores.now c.requires.befores c.index-befores-way.result c.in_ok-before.before
    c.in_ok-behind.behind c.index-befores-way.is c.in_ok-before.ensures c.in_ok-behind.ensures)
    (to_is c.args.code.now c.requires.lawful c.args.states.now c.requires.shape c.args.edge c.requires.edge
    c.as_slice.result.now c.as_slice.ensures c.index-states-way.result c.index-states-way.is)
