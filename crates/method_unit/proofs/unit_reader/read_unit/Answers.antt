use Rattle.method_unit.proofs.ReadAnswers.{only_read}
use Rattle.method_unit.proofs.SpellingBytes.{spelling_is_bytes}
use Rattle.method_unit.proofs.UnitAgain.{one_unit, unit_spelled}
use Rattle.method_unit.proofs.unit_reader.read_unit.Goals as goal

pub returns-clause-only : goal.returns-clause-only
returns-clause-only c = only_read c.args.bytes.now c.read_known.result c.read_known.ensures

pub returns-clause-written : goal.returns-clause-written
returns-clause-written c = unit_spelled

pub returns-clause-bytes : goal.returns-clause-bytes
returns-clause-bytes c = spelling_is_bytes

pub returns-clause-one : goal.returns-clause-one
returns-clause-one c = one_unit
