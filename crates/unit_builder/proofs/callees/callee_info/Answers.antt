use Rattle.std.proofs.Common.{rules}
use Rattle.unit_builder.specs.Scopes.{file_of}
use Rattle.unit_builder.specs.Sources.{files_of}
use Rattle.unit_builder.proofs.CalleeFacts.{callee_fits}
use Rattle.unit_builder.proofs.KeyFacts.{key_row}
use Rattle.unit_builder.proofs.callees.callee_info.Goals as goal

pub info_with-requires : goal.info_with-requires
info_with-requires c = record {
  row = ((files_of c.args.sources.now).bytes (file_of c.args.key), key_row c.args.sources.now c.args.key c.in-Some.method.now (search rules));
}

pub returns-clause-callee : goal.returns-clause-callee
returns-clause-callee c =
    callee_fits (files_of c.args.sources.now) c.args.key c.in-Some.method.now ((files_of c.args.sources.now).bytes (file_of c.args.key)) c.in_ok-clauses.clauses.items c.in_ok-info.info
    (search rules) (key_row c.args.sources.now c.args.key c.in-Some.method.now (search rules)) c.in_ok-clauses.ensures.known c.in_ok-info.ensures
