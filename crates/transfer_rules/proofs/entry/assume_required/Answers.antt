use Rattle.transfer_rules.proofs.Requiring.{can_test}
use Rattle.transfer_rules.proofs.entry.assume_required.Goals as goal

pub assume_tree-requires : goal.assume_tree-requires
assume_tree-requires c =
    record { readable = can_test c.args.unit.now c.args.clause.now c.args.state c.in-Requires.is c.requires.kinds c.requires.test }
