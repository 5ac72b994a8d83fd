-- What is written: a plan, the name of its assembly, and the methods of other assemblies that its code may call.
use Rattle.std.specs.Prelude.{ℕ, List, []}
use Rattle.asm_writer.specs.declared.plan.AsmPlan.{AsmPlan}
use Rattle.asm_writer.specs.declared.plan.Extern.{Extern}

pub record Linked : Type 0 where
  pub plan : AsmPlan
  pub assembly : List ℕ
  pub externs : List Extern

abbrev pub linked : AsmPlan → List ℕ → List Extern → Linked
linked plan assembly externs = record { plan = plan; assembly = assembly; externs = externs }

-- A plan whose assembly has the name of its class, and whose code calls no methods of others.
abbrev pub alone : AsmPlan → Linked
alone plan = linked plan plan.class.items []
