use Rattle.std.proofs.Common.{◌≡◌, ◌++◌, drop}
use Rattle.number_facts.specs.Fresh.{rows_of, definitions_of}
use Rattle.number_facts.proofs.fresh.note_all.Given as goal

-- What was noted so far, and then the rest of what is known, is the whole.
abbrev pub invariant-loop-relation : goal.invariant-loop-relation
invariant-loop-relation l = record {
  rows : l.bounds.items ++ rows_of l.t (drop l.relation-index l.known) ≡ l.initial.bounds.items ++ rows_of l.t l.known;
  definitions : l.definitions.items ++ definitions_of l.t (drop l.relation-index l.known) ≡ l.initial.definitions.items ++ definitions_of l.t l.known;
}
