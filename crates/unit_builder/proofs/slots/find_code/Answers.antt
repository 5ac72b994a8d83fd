use Rattle.std.proofs.Common.{ℕ, List, subst, IfOk}
use Rattle.cc_base.specs.Tests.{Judges}
use Rattle.unit_builder.specs.Bodies.{il_fault}
use Rattle.unit_builder.specs.Slots.{IsWhole}
use Rattle.unit_builder.specs.Sources.{scope_with}
use Rattle.unit_builder.proofs.slots.find_code.Goals as goal

pub returns : goal.returns
returns c =
    subst (λ (asm : List ℕ). IfOk c.find_in.result (λ found. Judges found (il_fault asm c.args.method.now) (IsWhole (scope_with c.args.sources.now c.args.file asm) c.args.method.now)))
    c.assembly.ensures c.find_in.ensures
