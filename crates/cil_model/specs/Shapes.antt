-- What the typing of a method's code depends on, besides the code.
use Rattle.cil_model.specs.declared.shape.Shape.{Shape}
use Rattle.cil_model.specs.declared.unit.Unit.{Unit as MethodUnit}

-- The shape of a unit.
abbrev pub shape_of : MethodUnit → Shape
shape_of unit = record {
  result = unit.result;
  args = unit.args;
  locals = unit.locals;
  max_stack = unit.max_stack;
  callees = unit.callees;
}
