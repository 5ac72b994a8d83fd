use Rattle.std.proofs.Common.{take}
use Rattle.std.specs.List.{AllByRecursion}
use Rattle.proof_files.specs.Held.{IsMadeOf}
use Rattle.proof_files.specs.Proofs.{IsEntry}
use Rattle.unit_verdicts.specs.ProofLeft.{spelled_entries}
use Rattle.unit_verdicts.proofs.proof_left.proof_text.Given as goal

abbrev pub invariant-loop-place : goal.invariant-loop-place
invariant-loop-place g l =
    IsMadeOf (spelled_entries (take l.place (g.E.Entries.entries l.entries))) l.text
    × AllByRecursion IsEntry (spelled_entries (take l.place (g.E.Entries.entries l.entries)))
