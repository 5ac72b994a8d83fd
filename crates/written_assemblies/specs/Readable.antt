-- What the caller of the writer owes, that what is written reads back.
use Rattle.std.specs.List.{AllByRecursion}
use Rattle.asm_writer.specs.declared.plan.AsmPlan.{AsmPlan}
use Rattle.asm_writer.specs.declared.plan.Extern.{Extern}
use Rattle.asm_writer.specs.declared.plan.MethodPlan.{MethodPlan}
use Rattle.asm_writer.specs.Linked.{Linked}
use Rattle.signature_blobs.specs.Spelling.{AreValues}
use Rattle.written_assemblies.specs.Texts.{HasNoZero}

-- The name has no zero, and no argument and no local is Void.
pub record IsReadableMethod (m : MethodPlan) : Type 0 where
  pub name : HasNoZero m.name.items
  pub args : AreValues m.args.items
  pub locals : AreValues m.locals.items

-- The names have no zero, and the methods are such.
pub record IsReadable (plan : AsmPlan) : Type 0 where
  pub namespace : HasNoZero plan.namespace.items
  pub class : HasNoZero plan.class.items
  pub methods : AllByRecursion IsReadableMethod plan.methods.items

-- No name of an extern has a zero, and no argument is Void.
pub record IsReadableExtern (e : Extern) : Type 0 where
  pub assembly : HasNoZero e.assembly.items
  pub namespace : HasNoZero e.namespace.items
  pub class : HasNoZero e.class.items
  pub name : HasNoZero e.name.items
  pub args : AreValues e.args.items

-- The same of all that is written.
pub record IsReadableLinked (source : Linked) : Type 0 where
  pub plan : IsReadable source.plan
  pub assembly : HasNoZero source.assembly
  pub externs : AllByRecursion IsReadableExtern source.externs
