use Rattle.std.proofs.Common.{take}
use Rattle.proof_files.specs.Held.{IsMadeOf, entries_told}
use Rattle.proof_files.proofs.proof_text.text_of.Given as goal

abbrev pub invariant-loop-entry : goal.invariant-loop-entry
invariant-loop-entry l = IsMadeOf (entries_told (take l.entry-index l.entries)) l.text
