use Rattle.il_decoder.proofs.Decoded.{answer_only, answer_short}
use Rattle.il_decoder.proofs.instruction.decode_one.Goals as goal

pub returns-clause-only : goal.returns-clause-only
returns-clause-only c = answer_only c.args.code.now c.args.at c.decode_at.result c.decode_at.ensures

pub returns-clause-short : goal.returns-clause-short
returns-clause-short c = answer_short c.args.code.now c.args.at c.type_inv.code c.decode_at.result c.decode_at.ensures
