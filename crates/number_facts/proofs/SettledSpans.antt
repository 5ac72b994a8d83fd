-- Ends that no bound cuts.
use Rattle.std.proofs.Common.{◌≡◌, ℕ, ◌+◌, ◌<◌, ◌==◌, ℤ, ◌+ℤ◌, ◌-ℤ◌, ◌≤ℤ◌, List, [], ◌∷◌, length, get_or, refl, sym, ap, ◌∙◌, arith, inl, inr}
use Rattle.std.specs.Int.{int_min, int_max}
use Rattle.std.specs.List.{AllByRecursion}
use Rattle.std.proofs.lemmas.Bool.{cases_Bool, cond_both, eqb-true, eqb-false}
use Rattle.std.proofs.lemmas.Int.{ints}
use Rattle.std.proofs.lemmas.List.{get_or_default}
use Rattle.pentagon_domain.specs.declared.bound_row.BoundRow.{BoundRow}
use Rattle.pentagon_domain.specs.declared.ends.Ends.{Ends}
use Rattle.pentagon_domain.specs.Gaps.{AreBelow}
use Rattle.pentagon_domain.specs.Rows.{rows_from, rows_to}
use Rattle.pentagon_domain.specs.Settled.{AreSettledOver, IsSettled}
use Rattle.pentagon_domain.specs.Tight.{AreTightOver, no_ends}
use Rattle.number_spans.specs.Spans.{full}
use Rattle.number_spans.specs.declared.span.Span.{Span}
use Rattle.number_facts.specs.Ends.{cut_by_all, lowered_by, raised_by}
use Rattle.number_facts.specs.Facts.{Facts, has, range_at}
use Rattle.number_facts.specs.SpanLists.{AreLeftBy, AreStored, HasEnds, HaveEnds, IsLeftBy, IsStored, LeaveEnds, LeavesEnds}

-- ---- the ends of one more symbol

pub has_more : (facts : Facts) (ends : List Ends) (s u : ℕ) (d : Ends) → s < length ends → HasEnds facts s (get_or ends s d)
    → ((v : ℕ) → v < s → HasEnds facts v (get_or ends v no_ends)) → u < s + 1 → HasEnds facts u (get_or ends u no_ends)
has_more facts ends s u d inside own each below =
    elim (cases_Bool (u == s)) [
      | inl same ↦ rw (eqb-true u s same, sym (get_or_any ends s d inside)) own
      | inr apart ↦ each u (omega (arith, eqb-false u s apart, below))
    ]
  where
    get_or_any : (ends : List Ends) (s : ℕ) (d : Ends) → s < length ends → get_or ends s d ≡ get_or ends s no_ends
    get_or_any ends s d inside = get_or_default ends s d no_ends inside

-- ---- one bound

not_raised : (lo n : ℤ) → n ≤ℤ lo → int_max lo n ≡ lo
not_raised lo n less = grind (arith, ints)

not_lowered : (hi n k : ℤ) → (n +ℤ k) ≤ℤ hi → int_min n (hi -ℤ k) ≡ n
not_lowered hi n k less = grind (arith, ints)

row_leaves : (facts : Facts) (ends : List Ends) (row : BoundRow) → HasEnds facts row.s (get_or ends row.s no_ends)
    → HasEnds facts row.t (get_or ends row.t no_ends) → IsSettled ends row → LeavesEnds facts row
row_leaves facts ends row from to settled =
    let low : ((range_at facts row.s).lo +ℤ row.k) ≤ℤ (range_at facts row.t).lo = rw (← from.low, ← to.low) settled.low in
    let high : ((range_at facts row.s).hi +ℤ row.k) ≤ℤ (range_at facts row.t).hi = rw (← from.high, ← to.high) settled.high in
    record {
      low = cond_both (has facts row.s) (int_max (range_at facts row.t).lo ((range_at facts row.s).lo +ℤ row.k)) (range_at facts row.t).lo
          (λ n. n ≡ (range_at facts row.t).lo) (λ e. not_raised (range_at facts row.t).lo ((range_at facts row.s).lo +ℤ row.k) low) (λ e. refl);
      high = cond_both (has facts row.t) (int_min (range_at facts row.s).hi ((range_at facts row.t).hi -ℤ row.k)) (range_at facts row.s).hi
          (λ n. n ≡ (range_at facts row.s).hi) (λ e. not_lowered (range_at facts row.t).hi (range_at facts row.s).hi row.k high) (λ e. refl);
    }

rows_leave : (facts : Facts) (ends : List Ends) (rows : List BoundRow) → HaveEnds facts ends → AllByRecursion (AreBelow (length ends)) rows
    → AllByRecursion (IsSettled ends) rows → AllByRecursion (LeavesEnds facts) rows
rows_leave facts ends [] have below settled = tt
rows_leave facts ends (row ∷ rows) have below settled =
    (row_leaves facts ends row (have row.s below.0.from) (have row.t below.0.to) settled.0, rows_leave facts ends rows have below.1 settled.1)

-- Bounds that are settled over the ends that are stored cut none of these.
pub settled_leave : (facts : Facts) (ends : List Ends) → HaveEnds facts ends → AreTightOver ends facts.bounds → AreSettledOver ends facts.bounds → LeaveEnds facts
settled_leave facts ends have tight settled = rows_leave facts ends facts.bounds have tight.below settled.each

-- ---- all bounds of a symbol

never_raised : (facts : Facts) (rows : List BoundRow) (s : ℕ) → AllByRecursion (LeavesEnds facts) rows
    → cut_by_all (raised_by facts) (rows_to rows s) (range_at facts s).lo ≡ (range_at facts s).lo
never_raised facts [] s leave = refl
never_raised facts (row ∷ rows) s leave =
    let rest = never_raised facts rows s leave.1 in
    elim (cases_Bool (row.t == s)) [
      | inl here ↦
          let same : raised_by facts (range_at facts s).lo row ≡ (range_at facts s).lo = rw (eqb-true row.t s here) at leave.0.low in
          rw here (ap (cut_by_all (raised_by facts) (rows_to rows s)) same ∙ rest)
      | inr other ↦ rw other rest
    ]

never_lowered : (facts : Facts) (rows : List BoundRow) (s : ℕ) → AllByRecursion (LeavesEnds facts) rows
    → cut_by_all (lowered_by facts) (rows_from rows s) (range_at facts s).hi ≡ (range_at facts s).hi
never_lowered facts [] s leave = refl
never_lowered facts (row ∷ rows) s leave =
    let rest = never_lowered facts rows s leave.1 in
    elim (cases_Bool (row.s == s)) [
      | inl here ↦
          let same : lowered_by facts (range_at facts s).hi row ≡ (range_at facts s).hi = rw (eqb-true row.s s here) at leave.0.high in
          rw here (ap (cut_by_all (lowered_by facts) (rows_from rows s)) same ∙ rest)
      | inr other ↦ rw other rest
    ]

-- ---- all symbols

-- Before a bound is looked at, the ends are those that are stored.
pub not_cut_yet : (facts : Facts) (spans : List Span) → AreStored facts spans → AreLeftBy facts facts.bounds spans
not_cut_yet facts spans each = λ s inside. of_stored (get_or spans s full) s (each s inside)
  where
    of_stored : (r : Span) (s : ℕ) → IsStored facts s r → IsLeftBy facts facts.bounds s r
    of_stored r s is = record {
      low = ap (cut_by_all (raised_by facts) (rows_to facts.bounds s)) is.low;
      high = ap (cut_by_all (lowered_by facts) (rows_from facts.bounds s)) is.high;
      none = is.none;
      sums = is.sums;
    }

-- Where no bound cuts an end, those that are stored are what all bounds leave.
pub never_cut : (facts : Facts) (spans : List Span) → LeaveEnds facts → AreStored facts spans → AreLeftBy facts [] spans
never_cut facts spans leave each = λ s inside. of_stored (get_or spans s full) s (each s inside)
  where
    of_stored : (r : Span) (s : ℕ) → IsStored facts s r → IsLeftBy facts [] s r
    of_stored r s is = record {
      low = is.low ∙ sym (never_raised facts facts.bounds s leave);
      high = is.high ∙ sym (never_lowered facts facts.bounds s leave);
      none = is.none;
      sums = is.sums;
    }

pub ruleset left = (not_cut_yet, never_cut)
