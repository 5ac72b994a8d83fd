use Rattle.std.proofs.Common.{length}
use Rattle.cil_model.specs.declared.unit.Unit.{Unit as MethodUnit}
use Rattle.invariant_reader.proofs.Repeats.{AreUnderWay}
use Rattle.invariant_reader.proofs.SectionLoops.{variables_loop}
use Rattle.invariant_reader.proofs.sections.read_variables.Given as goal

abbrev pub invariant-loop-variable : goal.invariant-loop-variable
invariant-loop-variable l = (unit : MethodUnit) → AreUnderWay (variables_loop unit) l.initial.variables.items 0 l.initial.rest l.variables.items l.rest

abbrev pub decreases-loop-variable : goal.decreases-loop-variable
decreases-loop-variable l = length l.rest
