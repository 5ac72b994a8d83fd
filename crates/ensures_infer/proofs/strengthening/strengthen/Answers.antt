use Rattle.std.proofs.Common.{rules, ◌≡◌, subst, sym}
use Rattle.cil_model.specs.Passes.{KindsOf}
use Rattle.cil_model.specs.Shapes.{shape_of}
use Rattle.cil_model.specs.WellFormed.{IsWellFormed}
use Rattle.cil_model.specs.declared.unit.Unit.{Unit as MethodUnit}
use Rattle.ensures_infer.proofs.Forming.{formed_again}
use Rattle.ensures_infer.proofs.SameTyping.{kinds_again}
use Rattle.ensures_infer.proofs.strengthening.strengthen.Goals as goal

pub returns-clause-value : goal.returns-clause-value
returns-clause-value c = search rules

pub returns-clause-formed : goal.returns-clause-formed
returns-clause-formed c = λ formed own each.
    subst IsWellFormed (sym (returns-clause-value c))
    (formed_again c.args.unit.now c.args.own.now c.args.callees.now formed own each)

pub returns-clause-kinds : goal.returns-clause-kinds
returns-clause-kinds c = λ stacks kinds.
    subst (λ (unit : MethodUnit). KindsOf (shape_of unit) unit.instrs stacks) (sym (returns-clause-value c))
    (kinds_again (shape_of c.args.unit.now) c.args.callees.now c.args.unit.now.instrs stacks kinds)
