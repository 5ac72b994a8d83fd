-- Lists of the spans of symbols, that of symbol s at place s, while bounds cut them.
use Rattle.std.proofs.Common.{◌≡◌, ◌≢◌, ℕ, suc, ◌+◌, ◌<◌, ◌≤◌, ◌==◌, ℤ, List, [], ◌∷◌, ◌++◌, length, get_or, set, inl, inr}
use Rattle.std.proofs.Common.{map, take, drop, sym, ◌∙◌, subst, true, false, Option, None, arith, refl}
use Rattle.std.proofs.lemmas.Bool.{cases_Bool, eqb-true, eqb-false, ne_eqb}
use Rattle.std.proofs.lemmas.List.{ext_get_or, get_or_append_left, get_or_push, get_or-set_other, length-set, length-append, take-append-le, take_all, drop_all}
use Rattle.std.proofs.lemmas.List.FromFn.{get_or-map-range_with_len, length-map-range_with_len}
use Rattle.std.proofs.lemmas.Grind.{get_or-set_at}
use Rattle.std.specs.List.{AllByRecursion, range_with_len}
use Rattle.interval_domain.specs.Interval.{inner_hole}
use Rattle.std.proofs.lemmas.Int.{ints}
use Rattle.pentagon_domain.specs.declared.bound_row.BoundRow.{BoundRow}
use Rattle.pentagon_domain.specs.Rows.{rows_from, rows_to}
use Rattle.number_spans.specs.Sizes.{IsLong, IsLongHole, IsWide}
use Rattle.number_spans.specs.Spans.{full}
use Rattle.number_spans.specs.declared.span.Span.{Span}
use Rattle.number_facts.specs.Ends.{cut_by_all, lowered_by, met, raised_by, span_at}
use Rattle.number_facts.specs.Facts.{Facts, range_at}
use Rattle.number_facts.specs.Sizes.{IsSum}
use Rattle.number_facts.specs.SpanLists.{AreLeftBy, AreSpans, AreStored, AreUnderWay, HasSums, HaveSums}
use Rattle.number_facts.specs.SpanLists.{IsLeftBy, IsLowered, IsRaised, IsSpanOf, IsStored, IsUnderWay}
use Rattle.number_facts.proofs.Cutting.{lowered_more, raised_more}
use Rattle.number_facts.proofs.Small.{is_same}

-- ---- one place of a list

each_pushed : {X : Type 0} (P : ℕ → X → Type 0) (xs : List X) (n : ℕ) (x d : X) → length xs ≡ n
    → ((i : ℕ) → i < length xs → P i (get_or xs i d)) → P n x
    → (i : ℕ) → i < length (xs ++ x ∷ []) → P i (get_or (xs ++ x ∷ []) i d)
each_pushed P xs n x d many each own i inside =
    elim (cases_Bool (i == length xs)) [
      | inl same ↦
          let here : i ≡ length xs = eqb-true i (length xs) same in
          rw (get_or_push xs x d i (sym here)) (subst (λ j. P j x) (sym (here ∙ many)) own)
      | inr apart ↦
          let other : i ≢ length xs = eqb-false i (length xs) apart in
          let before : i < length xs = omega (arith, other, inside, length-append xs (x ∷ [])) in
          rw (get_or_append_left xs (x ∷ []) d i before) (each i before)
    ]

each_set : {X : Type 0} (R : ℕ → X → X → Type 0) (xs : List X) (t : ℕ) (y d : X) → t < length xs → R t (get_or xs t d) y
    → ((i : ℕ) → i ≢ t → R i (get_or xs i d) (get_or xs i d))
    → (i : ℕ) → R i (get_or xs i d) (get_or (set xs t y) i d)
each_set R xs t y d inside own each i =
    elim (cases_Bool (i == t)) [
      | inl same ↦
          let here : i ≡ t = eqb-true i t same in
          rw (get_or-set_at xs t i y d here inside) (subst (λ j. R j (get_or xs j d) y) (sym here) own)
      | inr apart ↦
          let other : i ≢ t = eqb-false i t apart in
          rw (get_or-set_other xs t i y d other) (each i other)
    ]

-- ---- the ends that are stored

pub stored_pushed : (facts : Facts) (spans : List Span) (s : ℕ) (span : Span) → length spans ≡ s
    → AreStored facts spans → IsStored facts s span → AreStored facts (spans ++ span ∷ [])
stored_pushed facts spans s span many each own = each_pushed (IsStored facts) spans s span full many each own

pub ruleset pushed = (stored_pushed)

-- ---- one bound

to_other : (row : BoundRow) (s : ℕ) → s ≢ row.t → (row.t == s) ≡ false
to_other row s other = ne_eqb row.t s (λ e. other (sym e))

from_other : (row : BoundRow) (s : ℕ) → s ≢ row.s → (row.s == s) ≡ false
from_other row s other = ne_eqb row.s s (λ e. other (sym e))

pub raised_there : (facts : Facts) (row : BoundRow) (spans : List Span) (span : Span) → row.t < length spans
    → span.lo ≡ raised_by facts (get_or spans row.t full).lo row → span.hi ≡ (get_or spans row.t full).hi
    → span.hole ≡ (get_or spans row.t full).hole → (s : ℕ) → IsRaised facts row s (get_or spans s full) (get_or (set spans row.t span) s full)
raised_there facts row spans span inside low high hole =
    let here : (row.t == row.t) ≡ true = is_same row.t row.t refl in
    each_set (IsRaised facts row) spans row.t span full inside
    (record { low = rw here low; high = high; hole = hole })
    (λ s other. record { low = rw (to_other row s other) refl; high = refl; hole = refl })

pub raised_past : (facts : Facts) (row : BoundRow) (spans : List Span) (s : ℕ) → length spans ≤ row.t → s < length spans
    → IsRaised facts row s (get_or spans s full) (get_or spans s full)
raised_past facts row spans s past inside =
    record { low = rw (to_other row s (λ e. omega (arith, e, past, inside))) refl; high = refl; hole = refl }

pub lowered_there : (facts : Facts) (row : BoundRow) (spans : List Span) (span : Span) → row.s < length spans
    → span.lo ≡ (get_or spans row.s full).lo → span.hi ≡ lowered_by facts (get_or spans row.s full).hi row
    → span.hole ≡ (get_or spans row.s full).hole → (s : ℕ) → IsLowered facts row s (get_or spans s full) (get_or (set spans row.s span) s full)
lowered_there facts row spans span inside low high hole =
    let here : (row.s == row.s) ≡ true = is_same row.s row.s refl in
    each_set (IsLowered facts row) spans row.s span full inside
    (record { low = low; high = rw here high; hole = hole })
    (λ s other. record { low = refl; high = rw (from_other row s other) refl; hole = refl })

pub lowered_past : (facts : Facts) (row : BoundRow) (spans : List Span) (s : ℕ) → length spans ≤ row.s → s < length spans
    → IsLowered facts row s (get_or spans s full) (get_or spans s full)
lowered_past facts row spans s past inside =
    record { low = refl; high = rw (from_other row s (λ e. omega (arith, e, past, inside))) refl; hole = refl }

pub sums_set : (spans : List Span) (t : ℕ) (span : Span) → t < length spans → HaveSums spans → HasSums span
    → HaveSums (set spans t span)
sums_set spans t span inside each own = λ s within.
    let before : s < length spans = omega (arith, within, length-set spans t span) in
    each_set (λ i r q. i < length spans → HasSums q) spans t span full inside (λ i. own) (λ i other there. each i there) s before

pub ruleset raises = (raised_there, raised_past, sums_set)

pub ruleset lowers = (lowered_there, lowered_past, sums_set)

-- ---- all bounds

pub left_more : (facts : Facts) (rows : List BoundRow) (i s : ℕ) (d : BoundRow) (r m q : Span) → i < length rows
    → IsLeftBy facts (drop i rows) s r → IsRaised facts (get_or rows i d) s r m → IsLowered facts (get_or rows i d) s m q
    → HasSums q → IsLeftBy facts (drop (i + 1) rows) s q
left_more facts rows i s d r m q inside left raised lowered sums =
    let low : q.lo ≡ cut_by_all (raised_by facts) (rows_to (get_or rows i d ∷ []) s) r.lo = lowered.low ∙ raised.low in
    let high : q.hi ≡ cut_by_all (lowered_by facts) (rows_from (get_or rows i d ∷ []) s) r.hi = rw raised.high at lowered.high in
    record {
      low = raised_more facts s rows i r.lo q.lo _ d inside low left.low;
      high = lowered_more facts s rows i r.hi q.hi _ d inside high left.high;
      none = lowered.hole ∙ raised.hole ∙ left.none;
      sums = sums;
    }

pub left_all : (facts : Facts) (rows : List BoundRow) (i s : ℕ) (r : Span) → length rows ≤ i
    → IsLeftBy facts (drop i rows) s r → IsLeftBy facts [] s r
left_all facts rows i s r past left = let none : drop i rows ≡ [] = drop_all i rows past in rw none at left

pub ruleset cuts = (left_more, left_all)

-- ---- the spans are made

wide_sum : (n : ℤ) → IsSum n → IsWide n
wide_sum n is = record { least = omega (arith, ints, is.least); greatest = omega (arith, ints, is.greatest) }

same_span : (r : Span) (lo hi : ℤ) (hole : Option ℤ) → r.lo ≡ lo → r.hi ≡ hi → r.hole ≡ hole
    → r ≡ record { lo = lo; hi = hi; hole = hole }
same_span r lo hi hole low high same = rw (← low, ← high, ← same) refl

no_hole : (r : Span) (lo hi : ℤ) (hole : Option ℤ) → r.lo ≡ lo → r.hi ≡ hi → r.hole ≡ None → hole ≡ None → r ≡ met lo hi hole
unfolding met inner_hole
no_hole r lo hi hole low high own none = rw none (same_span r lo hi None low high own)

-- Where a symbol has no hole, its ends are its numbers.
pub whole_span : (facts : Facts) (s : ℕ) (r : Span) → (range_at facts s).hole ≡ None → IsLeftBy facts [] s r → IsSpanOf facts s r
unfolding span_at
whole_span facts s r none left = record {
  value = no_hole r _ _ _ left.low left.high left.none none;
  ends = record { low = wide_sum r.lo left.sums.low; high = wide_sum r.hi left.sums.high };
  hole = rw left.none tt;
}

pub none_made : (facts : Facts) (spans : List Span) → AreLeftBy facts [] spans → AreUnderWay facts 0 spans
none_made facts spans each = λ s inside. record {
  made = λ before. absurd (omega (arith, before));
  ahead = λ from. each s inside;
}

pub one_made : (facts : Facts) (n : ℕ) (spans : List Span) (span : Span) → n < length spans → AreUnderWay facts n spans
    → IsSpanOf facts n span → AreUnderWay facts (n + 1) (set spans n span)
one_made facts n spans span inside each own = λ s within.
    let before : s < length spans = omega (arith, within, length-set spans n span) in
    each_set (λ i r q. i < length spans → IsUnderWay facts (n + 1) i q) spans n span full inside
    (λ here. record { made = λ below. own; ahead = λ from. absurd (omega (arith, from)) })
    (λ i other there. record {
      made = λ below. (each i there).made (omega (arith, below, other));
      ahead = λ from. (each i there).ahead (omega (arith, from));
    }) s before

pub all_made : (facts : Facts) (n : ℕ) (spans : List Span) → length spans ≤ n → AreUnderWay facts n spans → AreSpans facts spans
all_made facts n spans past each = λ s inside. (each s inside).made (omega (arith, past, inside))

pub next_ahead : (facts : Facts) (n : ℕ) (spans : List Span) → n < length spans → AreUnderWay facts n spans
    → IsLeftBy facts [] n (get_or spans n full)
next_ahead facts n spans inside each = (each n inside).ahead (omega arith)

pub ruleset meets = (none_made, one_made, all_made, next_ahead)

-- ---- all spans

-- A list that was written back whole, over the start of another one.
written_back : (n : ℕ) (spans rest : List Span) → length spans ≡ n → take n (spans ++ rest) ≡ spans
written_back n spans rest is = take-append-le n spans rest (omega (arith, is)) ∙ take_all n spans (omega (arith, is))

all_spans : (facts : Facts) (n : ℕ) (spans : List Span) → length spans ≡ n → AreSpans facts spans
    → spans ≡ map (span_at facts) (range_with_len 0 n)
all_spans facts n spans many each =
    ext_get_or full spans (map (span_at facts) (range_with_len 0 n))
    (many ∙ sym (length-map-range_with_len (span_at facts) 0 n))
    (λ i inside. (each i inside).value
    ∙ sym (get_or-map-range_with_len (span_at facts) 0 n i i full (omega (arith, many, inside)) (omega arith)))

each_all : (P : Span → Type 0) (spans : List Span) → ((i : ℕ) → i < length spans → P (get_or spans i full)) → AllByRecursion P spans
each_all P [] each = tt
each_all P (span ∷ spans) each = (each 0 (omega arith), each_all P spans (λ i inside. each (suc i) (omega (arith, inside))))

pub spans_back : (facts : Facts) (n : ℕ) (spans rest : List Span) → length spans ≡ n → AreSpans facts spans
    → take n (spans ++ rest) ≡ map (span_at facts) (range_with_len 0 n)
spans_back facts n spans rest many each = written_back n spans rest many ∙ all_spans facts n spans many each

pub ends_back : (facts : Facts) (n : ℕ) (spans rest : List Span) → length spans ≡ n → AreSpans facts spans
    → AllByRecursion IsLong (take n (spans ++ rest))
ends_back facts n spans rest many each =
    rw (written_back n spans rest many) (each_all IsLong spans (λ i inside. (each i inside).ends))

pub holes_back : (facts : Facts) (n : ℕ) (spans rest : List Span) → length spans ≡ n → AreSpans facts spans
    → AllByRecursion (λ (r : Span). IsLongHole r.hole) (take n (spans ++ rest))
holes_back facts n spans rest many each =
    rw (written_back n spans rest many)
    (each_all (λ (r : Span). IsLongHole r.hole) spans (λ i inside. (each i inside).hole))

pub ruleset results = (spans_back)
