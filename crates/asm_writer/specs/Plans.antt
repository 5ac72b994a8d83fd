-- Plans as plain lists.
use Rattle.std.specs.Prelude.{ℕ, List, Bool, map}
use Rattle.cil_model.specs.declared.place.Place.{Place}
use Rattle.asm_writer.specs.declared.plan.AsmPlan.{AsmPlan}
use Rattle.asm_writer.specs.declared.plan.MethodPlan.{MethodPlan}

-- A method without where it lies in memory.
pub record Method : Type 0 where
  pub name : List ℕ
  pub is_static : Bool
  pub result : Place
  pub args : List Place
  pub locals : List Place
  pub max_stack : ℕ
  pub code : List ℕ

-- An assembly of one class without where it lies in memory.
pub record Plan : Type 0 where
  pub namespace : List ℕ
  pub class : List ℕ
  pub wide : Bool
  pub methods : List Method

abbrev pub method_value : MethodPlan → Method
method_value m = record {
  name = m.name.items;
  is_static = m.is_static;
  result = m.result;
  args = m.args.items;
  locals = m.locals.items;
  max_stack = m.max_stack;
  code = m.code.items;
}

abbrev pub value : AsmPlan → Plan
value plan = record {
  namespace = plan.namespace.items;
  class = plan.class.items;
  wide = plan.wide;
  methods = map method_value plan.methods.items;
}
