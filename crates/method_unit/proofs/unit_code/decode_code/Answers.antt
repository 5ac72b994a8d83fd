use Rattle.method_unit.proofs.Places.{decoded_of}
use Rattle.method_unit.proofs.unit_code.decode_code.Goals as goal

pub returns-in-Ok-clause-found : goal.returns-in-Ok-clause-found
returns-in-Ok-clause-found c =
    decoded_of c.args.base c.args.code.now c.in-Ok.instrs.items c.requires.short c.requires.small c.in-Ok.ensures.judged.1 c.in-Ok.ensures.found
