use Rattle.std.proofs.Common.{refl, sym, subst, List}
use Rattle.frame_names.specs.declared.var.Var.{Var}
use Rattle.invariant_text.specs.VariableLines.{variable_line}
use Rattle.invariant_reader.specs.CodeNumbers.{IsCodeVar}
use Rattle.invariant_reader.proofs.Repeats.{AreUnderWay, goes_on, item_missed, item_stuck, starts, whole_read}
use Rattle.invariant_reader.proofs.SectionLoops.{variable_next, variables_loop, variables_readable, lines_headed}
use Rattle.invariant_reader.proofs.sections.read_variables.Goals as goal

pub loop-variable-init : goal.loop-variable-init
loop-variable-init c = λ unit. starts (variables_loop unit) c.new-variables.result.items 0 c.args.text.now

pub returns-in_default : goal.returns-in_default
returns-in_default c = λ unit.
    item_missed (variables_readable unit) (lines_headed (variable_line unit) (λ n v. IsCodeVar v) 1 0 c.args.text.now) (record { head_is = refl; start_is = c.new-variables.ensures.items })
    (c.loop-variable.invariant unit) c.loop-variable-test.ensures
    (variable_next unit c.loop-variable.rest.now) c.in_default.ensures

pub returns-then-left-rest : goal.returns-then-left-rest
returns-then-left-rest c = λ unit.
    item_stuck (variables_readable unit) (lines_headed (variable_line unit) (λ n v. IsCodeVar v) 1 0 c.args.text.now) (record { head_is = refl; start_is = c.new-variables.ensures.items })
    (c.loop-variable.invariant unit) c.loop-variable-test.ensures
    (variable_next unit c.loop-variable.rest.now) c.in-Some.variable c.in-Some.left.now c.in-Some.ensures c.if-left-rest.true

pub loop-variable-preserved : goal.loop-variable-preserved
loop-variable-preserved c = λ unit.
    let one = goes_on (variables_readable unit) (c.loop-variable.invariant unit) c.loop-variable-test.ensures (variable_next unit c.loop-variable.rest.now)
    c.in-Some.variable c.in-Some.left.now c.in-Some.ensures in
    subst (λ (items : List Var). AreUnderWay (variables_loop unit) c.new-variables.result.items 0 c.args.text.now items
    c.in-Some.left.now) (sym c.in_ok-push.ensures.items) one

pub returns : goal.returns
returns c = λ unit.
    whole_read (variables_readable unit) (lines_headed (variable_line unit) (λ n v. IsCodeVar v) 1 0 c.args.text.now) (record { head_is = refl; start_is = c.new-variables.ensures.items })
    (c.loop-variable.invariant unit) c.loop-variable-test.ensures
