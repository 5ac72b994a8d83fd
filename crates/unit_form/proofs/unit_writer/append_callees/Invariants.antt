use Rattle.std.proofs.Common.{◌≡◌, ◌++◌, drop}
use Rattle.std.specs.List.{flat_map}
use Rattle.unit_form.specs.Spelling.{callee_bytes}
use Rattle.unit_form.specs.declared.form.UnitForm.TheVariants.{Second}
use Rattle.unit_form.proofs.unit_writer.append_callees.Given as goal

abbrev pub invariant-loop-callee : goal.invariant-loop-callee
invariant-loop-callee l =
    l.out.items ++ flat_map (callee_bytes Second) (drop l.callee-index l.callees) ≡ l.initial.out.items ++ flat_map (callee_bytes Second) l.callees
