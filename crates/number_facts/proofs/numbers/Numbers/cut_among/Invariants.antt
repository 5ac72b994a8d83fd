use Rattle.std.proofs.Common.{◌≡◌, drop}
use Rattle.pentagon_domain.specs.Rows.{rows_from, rows_to}
use Rattle.number_facts.specs.Ends.{cut_by_all, lowered_by, raised_by}
use Rattle.number_facts.specs.Facts.{AreNarrow, range_at}
use Rattle.number_facts.specs.Sizes.{AreCut, AreSums}
use Rattle.number_facts.proofs.numbers.Numbers.cut_among.Given as goal

-- What the bounds so far leave, and then the rest of them, is what all leave.
abbrev pub invariant-loop-row : goal.invariant-loop-row
invariant-loop-row l = record {
  low : cut_by_all (raised_by l.self) (rows_to (drop l.row-index l.rows) l.s) l.ends.lo ≡
      cut_by_all (raised_by l.self) (rows_to l.rows l.s) (range_at l.self l.s).lo;
  high : cut_by_all (lowered_by l.self) (rows_from (drop l.row-index l.rows) l.s) l.ends.hi ≡
      cut_by_all (lowered_by l.self) (rows_from l.rows l.s) (range_at l.self l.s).hi;
  sums : AreSums l.ends;
  small : AreNarrow l.self → AreCut l.ends;
}
