use Rattle.std.proofs.Common.{◌≡◌, ◌++◌, length}
use Rattle.std.specs.Vec.Iter.{into_iter_items, into_iter_len}
use Rattle.proof_files.specs.Held.{entries_told}
use Rattle.proof_files.specs.Proofs.{AreEntriesBehind, keys_of}
use Rattle.unit_verdicts.proofs.proved_units.ProvedUnits.of.Given as goal

abbrev pub invariant-loop-entry : goal.invariant-loop-entry
invariant-loop-entry l =
    (l.units ++ entries_told (into_iter_items l.entry-iterator) ≡ entries_told (into_iter_items l.initial.entry-iterator))
    × AreEntriesBehind (keys_of l.units) (entries_told (into_iter_items l.entry-iterator))
    × (into_iter_len l.entry-iterator ≡ length (into_iter_items l.entry-iterator))
