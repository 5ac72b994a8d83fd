use Rattle.transfer_rules.proofs.Inducing.{first_there, first_alike, item_is, told_so}
use Rattle.transfer_rules.proofs.induction.is_begun.Goals as goal

pub bounds-states-0 : goal.bounds-states-0
bounds-states-0 c = first_there c.args.code.now c.requires.lawful c.args.states.now c.requires.shape

pub leq-requires : goal.leq-requires
leq-requires c = first_alike c.args.code.now c.requires.lawful c.args.states.now c.requires.shape _ _ c.in_ok-entry.ensures.value c.index-states-0.is

pub returns : goal.returns
returns c =
    told_so c.leq.result _ _ _ _ c.leq.ensures c.in_ok-entry.ensures.value
    (item_is c.args.states.now 0 _ (first_there c.args.code.now c.requires.lawful c.args.states.now c.requires.shape) c.index-states-0.is)
