use Rattle.std.proofs.Common.{rules}
use Rattle.unit_builder.specs.Scopes.{file_of}
use Rattle.unit_builder.specs.Sources.{files_of}
use Rattle.unit_builder.proofs.KeyFacts.{key_row}
use Rattle.unit_builder.proofs.code_checks.has_short_name.Goals as goal

pub unit_name-requires : goal.unit_name-requires
unit_name-requires c = record {
  row = ((files_of c.args.sources.now).bytes (file_of c.args.key), key_row c.args.sources.now c.args.key c.in-Some.method.now (search rules));
}
