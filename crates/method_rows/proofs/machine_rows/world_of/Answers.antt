use Rattle.std.proofs.Common.{rules}
use Rattle.method_rows.proofs.OneUnit.{in_world}
use Rattle.method_rows.proofs.machine_rows.world_of.Goals as goal

pub returns : goal.returns
returns c =
    in_world c.args.unit c.in-Some.callees.items c.from_vec-2.result c.from_vec-3.result (search rules) (search rules) (search rules) (search rules) c.requires.unit
