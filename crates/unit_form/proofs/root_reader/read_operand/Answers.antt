use Rattle.std.proofs.Common.{ap, ◌∙◌, sym}
use Rattle.std.specs.Option.{option_map}
use Rattle.std.proofs.lemmas.Result.{err_from_is_err_and}
use Rattle.unit_form.specs.Roots.{told}
use Rattle.unit_form.proofs.Operands.{operand_cut, operand_broken, operand_read}
use Rattle.unit_form.proofs.root_reader.read_operand.Goals as goal

pub returns-in_err-operand : goal.returns-in_err-operand
returns-in_err-operand c =
    let p = err_from_is_err_and c.from_residual.result c.from_residual.ensures.1 in
    rw (p.1, p.2) (operand_cut c.args.form c.args.bytes.now c.args.at c.args.tag _ _ c.operand_size-size.ensures c.in_err-operand.ensures)

pub returns-in-Some : goal.returns-in-Some
returns-in-Some c =
    operand_read c.args.form c.args.bytes.now _ c.args.at c.args.tag _ _ c.operand_size-size.ensures c.in_ok-operand.ensures.0 c.in_ok-operand.ensures.1.0 (sym c.root_of.ensures ∙ ap (option_map told) c.in-Some.is)

pub returns-in-None : goal.returns-in-None
returns-in-None c =
    operand_broken c.args.form c.args.bytes.now _ c.args.at c.args.tag _ c.operand_size-size.ensures c.in_ok-operand.ensures.0 c.in_ok-operand.ensures.1.0.0 (sym c.root_of.ensures ∙ ap (option_map told) c.in-None.is)
