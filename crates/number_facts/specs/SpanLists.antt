-- Lists of the spans of symbols, that of symbol s at place s, while bounds cut them.
use Rattle.std.specs.Prelude.{◌≡◌, ℕ, ◌<◌, ◌≤◌, List, [], ◌∷◌, None, EachIndex, slice_index_or}
use Rattle.std.specs.List.{AllByRecursion}
use Rattle.pentagon_domain.specs.declared.bound_row.BoundRow.{BoundRow}
use Rattle.pentagon_domain.specs.declared.ends.Ends.{Ends}
use Rattle.pentagon_domain.specs.Rows.{rows_from, rows_to}
use Rattle.pentagon_domain.specs.Tight.{no_ends}
use Rattle.number_spans.specs.Sizes.{IsLong, IsLongHole}
use Rattle.number_spans.specs.Spans.{full}
use Rattle.number_spans.specs.declared.span.Span.{Span}
use Rattle.number_facts.specs.Ends.{cut_by_all, lowered_by, raised_by, span_at}
use Rattle.number_facts.specs.Facts.{Facts, range_at}
use Rattle.number_facts.specs.Sizes.{IsSum}

-- Both ends have no more than so many bits.
pub record HasSums (r : Span) : Type 0 where
  pub low : IsSum r.lo
  pub high : IsSum r.hi

abbrev pub HaveSums : List Span → Type 0
HaveSums spans = EachIndex spans (λ s. HasSums (slice_index_or spans s full))

-- A bound raises the lower end of the symbol to which it goes.
pub record IsRaised (facts : Facts) (row : BoundRow) (s : ℕ) (r q : Span) : Type 0 where
  pub low : q.lo ≡ cut_by_all (raised_by facts) (rows_to (row ∷ []) s) r.lo
  pub high : q.hi ≡ r.hi
  pub hole : q.hole ≡ r.hole

-- And it lowers the upper end of the symbol from which it goes.
pub record IsLowered (facts : Facts) (row : BoundRow) (s : ℕ) (r q : Span) : Type 0 where
  pub low : q.lo ≡ r.lo
  pub high : q.hi ≡ cut_by_all (lowered_by facts) (rows_from (row ∷ []) s) r.hi
  pub hole : q.hole ≡ r.hole

-- The ends of a symbol are those that are stored of it. There is no hole yet.
pub record IsStored (facts : Facts) (s : ℕ) (r : Span) : Type 0 where
  pub low : r.lo ≡ (range_at facts s).lo
  pub high : r.hi ≡ (range_at facts s).hi
  pub none : r.hole ≡ None
  pub sums : HasSums r

abbrev pub AreStored : Facts → List Span → Type 0
AreStored facts spans = EachIndex spans (λ s. IsStored facts s (slice_index_or spans s full))

-- The ends of a symbol as some bounds have left them: cut by the rest, they are what all bounds leave. There is no hole
-- yet.
pub record IsLeftBy (facts : Facts) (rest : List BoundRow) (s : ℕ) (r : Span) : Type 0 where
  pub low : cut_by_all (raised_by facts) (rows_to rest s) r.lo ≡
      cut_by_all (raised_by facts) (rows_to facts.bounds s) (range_at facts s).lo
  pub high : cut_by_all (lowered_by facts) (rows_from rest s) r.hi ≡
      cut_by_all (lowered_by facts) (rows_from facts.bounds s) (range_at facts s).hi
  pub none : r.hole ≡ None
  pub sums : HasSums r

abbrev pub AreLeftBy : Facts → List BoundRow → List Span → Type 0
AreLeftBy facts rest spans = EachIndex spans (λ s. IsLeftBy facts rest s (slice_index_or spans s full))

-- The numbers of a symbol.
pub record IsSpanOf (facts : Facts) (s : ℕ) (r : Span) : Type 0 where
  pub value : r ≡ span_at facts s
  pub ends : IsLong r
  pub hole : IsLongHole r.hole

abbrev pub AreSpans : Facts → List Span → Type 0
AreSpans facts spans = EachIndex spans (λ s. IsSpanOf facts s (slice_index_or spans s full))

-- They are made of the symbols below a number, and of the others there are the ends that all bounds leave.
pub record IsUnderWay (facts : Facts) (n s : ℕ) (r : Span) : Type 0 where
  pub made : s < n → IsSpanOf facts s r
  pub ahead : n ≤ s → IsLeftBy facts [] s r

abbrev pub AreUnderWay : Facts → ℕ → List Span → Type 0
AreUnderWay facts n spans = EachIndex spans (λ s. IsUnderWay facts n s (slice_index_or spans s full))

-- ---- ends that no bound cuts

-- These are the ends that are stored of a symbol.
pub record HasEnds (facts : Facts) (s : ℕ) (ends : Ends) : Type 0 where
  pub low : ends.lo ≡ (range_at facts s).lo
  pub high : ends.hi ≡ (range_at facts s).hi

-- So it is of each symbol that has a place in a list.
abbrev pub HaveEnds : Facts → List Ends → Type 0
HaveEnds facts ends = EachIndex ends (λ s. HasEnds facts s (slice_index_or ends s no_ends))

-- A bound raises no lower end that is stored, and lowers no upper one.
pub record LeavesEnds (facts : Facts) (row : BoundRow) : Type 0 where
  pub low : raised_by facts (range_at facts row.t).lo row ≡ (range_at facts row.t).lo
  pub high : lowered_by facts (range_at facts row.s).hi row ≡ (range_at facts row.s).hi

abbrev pub LeaveEnds : Facts → Type 0
LeaveEnds facts = AllByRecursion (LeavesEnds facts) facts.bounds
