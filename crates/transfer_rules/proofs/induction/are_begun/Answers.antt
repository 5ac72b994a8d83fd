use Rattle.transfer_rules.proofs.Inducing.{begun_where}
use Rattle.transfer_rules.proofs.induction.are_begun.Goals as goal

pub returns : goal.returns
returns c =
    begun_where c.is_begun.result c.args.code.now c.args.states.now
    (c.has_shape.ensures.exact.0 c.if-not-has_shape.false) c.is_begun.ensures
