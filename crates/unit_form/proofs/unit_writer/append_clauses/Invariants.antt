use Rattle.std.proofs.Common.{◌≡◌, ◌++◌, drop}
use Rattle.std.specs.List.{flat_map}
use Rattle.unit_form.specs.Spelling.{clause_bytes}
use Rattle.unit_form.specs.declared.form.UnitForm.TheVariants.{Second}
use Rattle.unit_form.proofs.unit_writer.append_clauses.Given as goal

abbrev pub invariant-loop-clause : goal.invariant-loop-clause
invariant-loop-clause l =
    l.out.items ++ flat_map (clause_bytes Second) (drop l.clause-index l.clauses) ≡ l.initial.out.items ++ flat_map (clause_bytes Second) l.clauses
