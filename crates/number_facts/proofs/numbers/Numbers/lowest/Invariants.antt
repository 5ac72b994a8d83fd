use Rattle.std.proofs.Common.{◌≡◌, drop}
use Rattle.number_facts.specs.Ends as rule
use Rattle.number_facts.specs.Facts.{AreNarrow, range_at}
use Rattle.number_facts.specs.Sizes.{IsCut, IsSum}
use Rattle.number_facts.proofs.numbers.Numbers.lowest.Given as goal

-- What the bounds so far leave, and then the rest of them, is what all leave.
abbrev pub invariant-loop-row : goal.invariant-loop-row
invariant-loop-row l = record {
  left : rule.cut_by_all (rule.raised_by l.self) (drop l.row-index l.rows) l.lo ≡ rule.cut_by_all (rule.raised_by l.self) l.rows (range_at l.self l.t).lo;
  bound : IsSum l.lo;
  small : AreNarrow l.self → IsCut l.lo;
}
