-- How far the numbers of an expression reach that is worth an int32.
use Rattle.std.proofs.Common.{ℕ, ℤ, ◌+ℤ◌, ◌-ℤ◌, ◌≤ℤ◌, Option, FitsSigned, w32, pos, arith}
use Rattle.std.specs.Prelude.{if◌then◌else◌}
use Rattle.std.proofs.lemmas.Bool.{cond_both}
use Rattle.std.proofs.lemmas.Int.{ints, clamps}
use Rattle.std.specs.Prelude.{List, [], ◌∷◌}
use Rattle.domain_api.specs.declared.expr.Expr.{Expr}
use Rattle.interval_domain.specs.Interval.{is_hole}
use Rattle.pentagon_domain.specs.declared.bound_row.BoundRow.{BoundRow}
use Rattle.pentagon_domain.specs.Rows.{rows_from, rows_to}
use Rattle.symbolic_values.specs.Worth.{worth}
use Rattle.number_spans.specs.Sizes.{IsSmall}
use Rattle.number_spans.specs.Spans.{shifted}
use Rattle.number_facts.specs.Ends.{range_of, span_at, cut_by_all, lowered_by, raised_by, met}
use Rattle.number_facts.specs.Facts.{Facts, AreNarrow, IsNamed, has, range_at}
use Rattle.number_facts.proofs.Small.{narrow_range}
use Rattle.number_facts.specs.Laws.Allowing.{AllowsNumbers, span_has}

raised_from : (facts : Facts) (row : BoundRow) (lo : ℤ) → lo ≤ℤ raised_by facts lo row
raised_from facts row lo = cond_both (has facts row.s) _ _ (λ n. lo ≤ℤ n) (λ e. omega (arith, ints, clamps))
    (λ e. omega (arith, ints))

raised_all : (facts : Facts) (rows : List BoundRow) (lo : ℤ) → lo ≤ℤ cut_by_all (raised_by facts) rows lo
raised_all facts [] lo = omega (arith, ints)
raised_all facts (row ∷ rows) lo =
    let rest = raised_all facts rows (raised_by facts lo row) in
    let more = raised_from facts row lo in
    omega (arith, ints, rest, more)

lowered_from : (facts : Facts) (row : BoundRow) (hi : ℤ) → lowered_by facts hi row ≤ℤ hi
lowered_from facts row hi = cond_both (has facts row.t) _ _ (λ n. n ≤ℤ hi) (λ e. omega (arith, ints, clamps))
    (λ e. omega (arith, ints))

lowered_all : (facts : Facts) (rows : List BoundRow) (hi : ℤ) → cut_by_all (lowered_by facts) rows hi ≤ℤ hi
lowered_all facts [] hi = omega (arith, ints)
lowered_all facts (row ∷ rows) hi =
    let rest = lowered_all facts rows (lowered_by facts hi row) in
    let more = lowered_from facts row hi in
    omega (arith, ints, rest, more)

hole_above : (hole : Option ℤ) (lo : ℤ) → lo ≤ℤ (if is_hole hole lo then lo +ℤ pos 1 else lo)
hole_above hole lo = cond_both (is_hole hole lo) _ _ (λ n. lo ≤ℤ n) (λ e. omega (arith, ints))
    (λ e. omega (arith, ints))

hole_below : (hole : Option ℤ) (hi : ℤ) → (if is_hole hole hi then hi -ℤ pos 1 else hi) ≤ℤ hi
hole_below hole hi = cond_both (is_hole hole hi) _ _ (λ n. n ≤ℤ hi) (λ e. omega (arith, ints))
    (λ e. omega (arith, ints))

-- the numbers of a symbol lie within its range
pub span_above : (facts : Facts) (s : ℕ) → (range_at facts s).lo ≤ℤ (span_at facts s).lo
unfolding span_at met
span_above facts s =
    let cut = raised_all facts (rows_to facts.bounds s) (range_at facts s).lo in
    let behind = hole_above (range_at facts s).hole
    (cut_by_all (raised_by facts) (rows_to facts.bounds s) (range_at facts s).lo) in
    omega (arith, ints, cut, behind)

span_below : (facts : Facts) (s : ℕ) → (span_at facts s).hi ≤ℤ (range_at facts s).hi
unfolding span_at met
span_below facts s =
    let cut = lowered_all facts (rows_from facts.bounds s) (range_at facts s).hi in
    let before = hole_below (range_at facts s).hole
    (cut_by_all (lowered_by facts) (rows_from facts.bounds s) (range_at facts s).hi) in
    omega (arith, ints, cut, before)

-- The numbers of an expression that is worth an int32 lie near int32.
pub range_small : (facts : Facts) (number : ℕ → ℤ) (e : Expr) → AllowsNumbers facts number → AreNarrow facts
    → IsNamed facts e → FitsSigned w32 (worth number e) → IsSmall (range_of facts e)
unfolding range_of shifted
range_small facts number e allowed all there fits =
    let numbers = span_has facts number e.sym there allowed in
    let own = allowed.ranges e.sym there in
    let narrow = narrow_range facts e.sym all in
    let low = span_above facts e.sym in
    let high = span_below facts e.sym in
    record {
      low = record {
        least = omega (arith, ints, low, narrow.least, fits, own.below, narrow.greatest);
        greatest = omega (arith, ints, numbers.above, fits);
      };
      high = record {
        least = omega (arith, ints, numbers.below, fits);
        greatest = omega (arith, ints, high, narrow.greatest, fits, own.above, narrow.least);
      };
    }
