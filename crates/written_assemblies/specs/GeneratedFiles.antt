-- Plans of plain lists, as the code holds them.
use Rattle.std.specs.Prelude.{ℕ, List, map}
use Rattle.asm_writer.specs.declared.plan.AsmPlan.{AsmPlan}
use Rattle.asm_writer.specs.declared.plan.MethodPlan.{MethodPlan}
use Rattle.asm_writer.specs.Assembly.{assembly_bytes}
use Rattle.asm_writer.specs.Generator.{generated}
use Rattle.asm_writer.specs.Plans.{Method, Plan}
use Rattle.written_assemblies.specs.Laws.HeldLists.{held}

unfoldable pub held_method : Method → MethodPlan
held_method m = record {
  name = held m.name;
  is_static = m.is_static;
  result = m.result;
  args = held m.args;
  locals = held m.locals;
  max_stack = m.max_stack;
  code = held m.code;
}

unfoldable pub held_plan : Plan → AsmPlan
held_plan plan = record {
  namespace = held plan.namespace;
  class = held plan.class;
  wide = plan.wide;
  methods = held (map held_method plan.methods);
}

-- The file of the assembly that is generated from a seed, with so many methods.
unfoldable pub generated_file : ℕ → ℕ → List ℕ
generated_file seed count = assembly_bytes (held_plan (generated seed count))
