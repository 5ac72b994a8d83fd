use Rattle.std.proofs.Common.{rules}
use Rattle.unit_builder.proofs.HeaderFacts.{without_header}
use Rattle.unit_builder.proofs.header.read_variables.Goals as goal

pub returns : goal.returns
returns c = record { judged = without_header c.args.assembly.now c.args.method.now c.new.result (search rules) (search rules) (search rules) }
