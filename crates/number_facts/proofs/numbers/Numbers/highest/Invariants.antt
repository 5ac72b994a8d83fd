use Rattle.std.proofs.Common.{◌≡◌, drop}
use Rattle.number_facts.specs.Ends as rule
use Rattle.number_facts.specs.Facts.{AreNarrow, range_at}
use Rattle.number_facts.specs.Sizes.{IsCut, IsSum}
use Rattle.number_facts.proofs.numbers.Numbers.highest.Given as goal

-- What the bounds so far leave, and then the rest of them, is what all leave.
abbrev pub invariant-loop-row : goal.invariant-loop-row
invariant-loop-row l = record {
  left : rule.cut_by_all (rule.lowered_by l.self) (drop l.row-index l.rows) l.hi ≡ rule.cut_by_all (rule.lowered_by l.self) l.rows (range_at l.self l.s).hi;
  bound : IsSum l.hi;
  small : AreNarrow l.self → IsCut l.hi;
}
