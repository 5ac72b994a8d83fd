use Rattle.tree_cases.proofs.Types.{may_test}
use Rattle.tree_cases.proofs.reading.can_test_by.Goals as goal

pub returns : goal.returns
returns c =
    may_test c.tested.result c.args.state.now c.args.env.now c.as_slice-2.result.now c.type_at-of.result c.args.tree.now
    (rw (c.as_slice.ensures.value, ← c.as_slice-2.ensures.value) at c.in_ok-readable.ensures) c.tested.ensures
