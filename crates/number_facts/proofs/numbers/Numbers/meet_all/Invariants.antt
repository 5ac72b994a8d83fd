use Rattle.std.proofs.Common.{◌≡◌, length}
use Rattle.number_facts.specs.SpanLists.{AreUnderWay}
use Rattle.number_facts.proofs.numbers.Numbers.meet_all.Given as goal

-- The numbers of the symbols so far are made.
abbrev pub invariant-loop-symbol : goal.invariant-loop-symbol
invariant-loop-symbol l = record {
  under_way : AreUnderWay l.self l.symbol l.spans;
  many : length l.spans ≡ length l.initial.spans;
}
