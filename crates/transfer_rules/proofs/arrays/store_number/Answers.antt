use Rattle.frame_names.specs.declared.var.Var.TheVariants as vars
use Rattle.transfer_rules.proofs.Calculating.{there_twice}
use Rattle.transfer_rules.proofs.arrays.store_number.Goals as goal

pub store-requires-clause-value : goal.store-requires-clause-value
store-requires-clause-value c =
    there_twice c.args.state.now c.take_two.new.state (vars.Number c.args.value) c.requires.there c.in_ok-r.ensures.pops
