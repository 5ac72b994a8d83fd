use Rattle.il_decoder.proofs.Sequence.{answer_code, answer_only_code}
use Rattle.il_decoder.proofs.code.decode.Goals as goal

pub returns-clause-found : goal.returns-clause-found
returns-clause-found c = answer_code c.args.code.now (λ instrs. instrs.items) c.read_code.result c.type_inv.code c.read_code.ensures

pub returns-clause-only : goal.returns-clause-only
returns-clause-only c = answer_only_code c.args.code.now (λ instrs. instrs.items) c.read_code.result c.read_code.ensures
