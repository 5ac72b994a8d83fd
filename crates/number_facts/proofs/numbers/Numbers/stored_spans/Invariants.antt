use Rattle.std.proofs.Common.{◌≡◌, length}
use Rattle.number_facts.specs.SpanLists.{AreStored}
use Rattle.number_facts.proofs.numbers.Numbers.stored_spans.Given as goal

-- The ends of the symbols so far.
abbrev pub invariant-loop-symbol : goal.invariant-loop-symbol
invariant-loop-symbol l = record {
  stored : AreStored l.self l.spans.items;
  many : length l.spans.items ≡ l.symbol;
}
