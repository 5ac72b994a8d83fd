use Rattle.std.proofs.Common.{rules}
use Rattle.unit_builder.specs.Sources.{scope_with}
use Rattle.unit_builder.proofs.SlotFacts.{body_faulty, code_faulty, code_whole}
use Rattle.unit_builder.proofs.slots.find_in.Goals as goal

pub returns-in-Ok-read_code : goal.returns-in-Ok-read_code
returns-in-Ok-read_code c =
    let whole = code_whole (scope_with c.args.sources.now c.args.file c.args.assembly.now) c.args.method.now c.in-Ok.body.code.now c.in-Ok-read_code.code c.requires.body (search rules) (search rules) (search rules) (search rules) in
    (whole.faultless, whole)

pub returns-in-Err : goal.returns-in-Err
returns-in-Err c = body_faulty (scope_with c.args.sources.now c.args.file c.args.assembly.now) c.args.method.now c.in-Err.fault (search rules)

pub returns-in-Err-Bad : goal.returns-in-Err-Bad
returns-in-Err-Bad c =
    code_faulty (scope_with c.args.sources.now c.args.file c.args.assembly.now) c.args.method.now c.in-Ok.body.code.now c.in-Err-Bad.fault c.requires.body (search rules) (search rules) (search rules)
