use Rattle.cc_base.proofs.ByteLemmas.{IsBytes-from_fits}
use Rattle.method_unit.proofs.ReadAnswers.{known}
use Rattle.method_unit.proofs.unit_reader.read_known.Goals as goal

pub returns : goal.returns
returns c = known c.args.bytes.now c.read_first.result (IsBytes-from_fits c.args.bytes.now c.type_inv.bytes) c.read_first.ensures
