use Rattle.std.proofs.Common.{◌≡◌, length, drop}
use Rattle.number_facts.specs.SpanLists.{AreLeftBy}
use Rattle.number_facts.proofs.numbers.Numbers.cut_all.Given as goal

-- What the rows so far have left, cut by the rest of them, is what all leave.
abbrev pub invariant-loop-row : goal.invariant-loop-row
invariant-loop-row l = record {
  left : AreLeftBy l.self (drop l.row-index l.rows) l.spans;
  many : length l.spans ≡ length l.initial.spans;
}
