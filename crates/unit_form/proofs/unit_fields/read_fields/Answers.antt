use Rattle.cc_base.proofs.ByteLemmas.{IsBytes-from_fits}
use Rattle.unit_form.specs.FieldsRead.{fields_told}
use Rattle.unit_form.proofs.UnitAgain.{added_within, fields_only, fields_spelled}
use Rattle.unit_form.proofs.unit_fields.read_fields.Goals as goal

pub returns-clause-added : goal.returns-clause-added
returns-clause-added c = added_within c.args.bytes.now fields_told c.read_first.result (IsBytes-from_fits c.args.bytes.now c.type_inv.bytes) c.read_first.ensures.judged

pub returns-clause-spelled : goal.returns-clause-spelled
returns-clause-spelled c = fields_spelled c.args.bytes.now fields_told c.read_first.result (IsBytes-from_fits c.args.bytes.now c.type_inv.bytes) c.read_first.ensures.judged

pub returns-clause-only : goal.returns-clause-only
returns-clause-only c unit is spelled = fields_only c.args.bytes.now unit fields_told c.read_first.result is spelled c.read_first.ensures.judged
