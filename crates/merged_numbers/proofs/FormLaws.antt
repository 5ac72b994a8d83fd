-- The form of what is known of new symbols.
use Rattle.std.proofs.Common.{◌≡◌, ℕ, zero, suc, ◌+◌, ◌<◌, ℤ, ◌&&◌, List, [], ◌∷◌, length, get_or, Option, Some, None, refl, inl, inr, arith}
use Rattle.std.specs.Prelude.{int_lt, option_and_then}
use Rattle.std.specs.List.{AllByRecursion}
use Rattle.std.proofs.lemmas.Bool.{cases_Bool, cond_both}
use Rattle.interval_domain.specs.Interval.{Interval}
use Rattle.pentagon_domain.specs.declared.bound_row.BoundRow.{BoundRow}
use Rattle.pentagon_domain.specs.Rows.{is_pair, is_before, is_of, put, with_bound}
use Rattle.pentagon_domain.specs.Gaps.{AreBelow}
use Rattle.number_spans.specs.Stored.{IsNarrow, range_without}
use Rattle.number_spans.specs.declared.span.Span.{Span}
use Rattle.number_spans.proofs.NarrowRanges.{SomeNarrow, without_narrow, range_without_narrow}
use Rattle.symbolic_values.specs.declared.pairs.Key.{Key}
use Rattle.symbolic_values.specs.Pairing.{origin}
use Rattle.merged_numbers.specs.declared.rule.Rule.{Rule}
use Rattle.merged_numbers.specs.Known.{Known}
use Rattle.merged_numbers.specs.Spans.{but_for, stored}
use Rattle.merged_numbers.specs.Merging.{put_before, ranges_of, steps, told, is_constant, with_gap, row_of, rows_of, with_bounds, outcome_of, merged_span, merged_gap, merged, own_span, own_gap, normed}
use Rattle.merged_numbers.specs.Meaning.{IsCut, HaveForm}
use Rattle.merged_numbers.proofs.CutLaws.{merged_span_cut, own_span_cut}
use Rattle.merged_numbers.proofs.RangeLists.{ranges_length}

-- ---- ranges

but_for_narrow : (r : Interval) (hole : Option ℤ) → IsNarrow r → SomeNarrow (but_for r hole)
but_for_narrow r None is = is
but_for_narrow r (Some h) is = without_narrow r h is

some_but_for_narrow : (r : Option Interval) (hole : Option ℤ) → SomeNarrow r → SomeNarrow (option_and_then (λ ends. but_for ends hole) r)
some_but_for_narrow None hole is = tt
some_but_for_narrow (Some r) hole is = but_for_narrow r hole is

stored_narrow : (r : Span) → IsCut r → SomeNarrow (stored r)
stored_narrow r is = some_but_for_narrow (range_without r.lo r.hi None) r.hole (range_without_narrow r.lo r.hi None is.least is.greatest)

abbrev AllNarrow : Option (List Interval) → Type 0
AllNarrow None = Unit {0}
AllNarrow (Some rs) = AllByRecursion IsNarrow rs

before_narrow : (r : Option Interval) (rs : Option (List Interval)) → SomeNarrow r → AllNarrow rs → AllNarrow (put_before r rs)
before_narrow None rs first others = tt
before_narrow (Some r) None first others = tt
before_narrow (Some r) (Some rs) first others = (first, others)

ranges_narrow : (span : Key → Span) (keys : List Key) → ((u : Key) → IsCut (span u)) → AllNarrow (ranges_of span keys)
ranges_narrow span [] cut = tt
ranges_narrow span (u ∷ us) cut = before_narrow (stored (span u)) (ranges_of span us) (stored_narrow (span u) (cut u)) (ranges_narrow span us cut)

-- ---- bounds

put_below : (rows : List BoundRow) (count s t : ℕ) (k : ℤ) → s < count → t < count → AllByRecursion (AreBelow count) rows
    → AllByRecursion (AreBelow count) (put rows s t k)
put_below [] count s t k from to all = (record { from = from; to = to }, tt)
put_below (row ∷ rows) count s t k from to all =
    elim (cases_Bool (is_before row s t)) [
      | inl before ↦ rw before (all.0, put_below rows count s t k from to all.1)
      | inr behind ↦
          elim (cases_Bool (is_of row s t)) [
            | inl here ↦ rw (behind, here) (record { from = all.0.from; to = all.0.to }, all.1)
            | inr other ↦ rw (behind, other) (record { from = from; to = to }, (all.0, all.1))
          ]
    ]

with_bound_below : (rows : List BoundRow) (count s t : ℕ) (k : ℤ) → s < count → t < count → AllByRecursion (AreBelow count) rows
    → AllByRecursion (AreBelow count) (with_bound rows s t k)
with_bound_below rows count s t k from to all =
    cond_both (is_pair s t) _ _ (AllByRecursion (AreBelow count)) (λ e. put_below rows count s t k from to all) (λ e. all)

gap_below : (count : ℕ) (apart : ℤ) (i j : ℕ) (known : Option ℤ) (rows : List BoundRow) → i < count → j < count
    → AllByRecursion (AreBelow (count + 1)) rows → AllByRecursion (AreBelow (count + 1)) (with_gap apart i j known rows)
gap_below count apart i j None rows from to all = all
gap_below count apart i j (Some k) rows from to all =
    cond_both (int_lt apart k && is_constant k) (with_bound rows (i + 1) (j + 1) k) rows (AllByRecursion (AreBelow (count + 1)))
    (λ e. with_bound_below rows (count + 1) (i + 1) (j + 1) k (omega (arith, from)) (omega (arith, to)) all) (λ e. all)

-- What each step below a count keeps, all of them keep.
steps_keep : {X : Type 0} (P : X → Type 0) (step : ℕ → X → X) (n : ℕ) → ((i : ℕ) (x : X) → i < n → P x → P (step i x)) → (x : X) → P x → P (steps step n x)
steps_keep P step zero keeps x so = so
steps_keep P step (suc n) keeps x so =
    keeps n (steps step n x) (omega arith) (steps_keep P step n (λ i y inside. keeps i y (omega (arith, inside))) x so)

pub bounds_below : (gap : Key → Key → Option ℤ) (keys : List Key) (rs : List Interval)
    → AllByRecursion (AreBelow (length keys + 1)) (rows_of gap keys rs (length keys) [])
bounds_below gap keys rs =
    steps_keep (AllByRecursion (AreBelow (length keys + 1))) (λ i. row_of gap keys rs i (length keys)) (length keys)
    (λ i rows from all.
    steps_keep (AllByRecursion (AreBelow (length keys + 1))) (λ j. with_gap (told rs i j) i j (gap (get_or keys i origin) (get_or keys j origin))) (length keys)
    (λ j rows to all. gap_below (length keys) (told rs i j) i j (gap (get_or keys i origin) (get_or keys j origin)) rows from to all) rows all)
    [] tt

-- ---- both

formed_with : (gap : Key → Key → Option ℤ) (keys : List Key) (rs : Option (List Interval)) → AllNarrow rs
    → ((found : List Interval) → rs ≡ Some found → length found ≡ length keys) → HaveForm keys (with_bounds gap keys rs)
formed_with gap keys None narrow count = tt
formed_with gap keys (Some rs) narrow count = record { count = count rs refl; narrow = narrow; named = bounds_below gap keys rs }

outcome_formed : (span : Key → Span) (gap : Key → Key → Option ℤ) (keys : List Key) → ((u : Key) → IsCut (span u)) → HaveForm keys (outcome_of span gap keys)
outcome_formed span gap keys cut =
    formed_with gap keys (ranges_of span keys) (ranges_narrow span keys cut) (λ found is. ranges_length span keys found is)

pub merged_formed : (rule : Rule) (keys : List Key) (a b : Known) → HaveForm keys (merged rule keys a b)
merged_formed rule keys a b = outcome_formed (merged_span rule a b) (merged_gap rule a b) keys (λ u. merged_span_cut rule a b u (merged_span rule a b u) refl)

pub normed_formed : (keys : List Key) (a : Known) → HaveForm keys (normed keys a)
normed_formed keys a = outcome_formed (own_span a) (own_gap a) keys (λ u. own_span_cut a u (own_span a u) refl)
