-- What is known of new symbols is so, where the span of each key has what it is worth and the gap of each two is so.
use Rattle.std.proofs.Common.{◌≡◌, ◌≢◌, ℕ, zero, suc, ◌+◌, ◌<◌, ℤ, pos, ◌+ℤ◌, ◌≤ℤ◌, ◌&&◌, List, [], ◌∷◌, length, get_or, Option, Some, None, refl, sym, ap, add-one, arith}
use Rattle.std.specs.Prelude.{int_lt, option_and_then}
use Rattle.std.specs.List.{AllByRecursion}
use Rattle.std.proofs.lemmas.Bool.{cond_both}
use Rattle.interval_domain.specs.Interval.{Interval, one}
use Rattle.pentagon_domain.specs.declared.bound_row.BoundRow.{BoundRow}
use Rattle.pentagon_domain.specs.Rows.{with_bound}
use Rattle.pentagon_domain.specs.Gaps as by_bounds
use Rattle.pentagon_domain.proofs.Allowing.{with_bound_allows}
use Rattle.number_spans.specs.Spans.{Has}
use Rattle.number_spans.specs.Stored as ranges
use Rattle.number_spans.specs.Stored.{range_without}
use Rattle.number_spans.specs.declared.span.Span.{Span}
use Rattle.number_spans.proofs.Lost.{without_allows, range_without_allows}
use Rattle.symbolic_values.specs.declared.pairs.Key.{Key}
use Rattle.symbolic_values.specs.Pairing.{origin}
use Rattle.merged_numbers.specs.Spans.{but_for, stored}
use Rattle.merged_numbers.specs.Merging.{put_before, ranges_of, steps, told, is_constant, with_gap, row_of, rows_of, with_bounds, outcome_of}
use Rattle.merged_numbers.specs.Meaning.{SomeSo}

-- ---- ranges

but_for_allows : (r : Interval) (hole : Option ℤ) (n : ℤ) → ranges.Allows r n → hole ≢ Some n → ranges.SomeAllows (but_for r hole) n
but_for_allows r None n allowed apart = allowed
but_for_allows r (Some h) n allowed apart = without_allows r h n allowed (λ same. apart (ap Some (sym same)))

some_but_for : (r : Option Interval) (hole : Option ℤ) (n : ℤ) → ranges.SomeAllows r n → hole ≢ Some n
    → ranges.SomeAllows (option_and_then (λ ends. but_for ends hole) r) n
some_but_for None hole n allowed apart = allowed
some_but_for (Some r) hole n allowed apart = but_for_allows r hole n allowed apart

-- The range that is stored of a span allows each number of it.
pub stored_allows : (r : Span) (n : ℤ) → Has r n → ranges.SomeAllows (stored r) n
stored_allows r n has =
    some_but_for (range_without r.lo r.hi None) r.hole n (range_without_allows r.lo r.hi n None has.above has.below (λ is. absurd cc)) has.no_hole

-- Each range allows what its key is worth.
abbrev pub AllowEach : (Key → ℤ) → List Key → List Interval → Type 0
AllowEach worth keys rs = (i : ℕ) → i < length rs → ranges.Allows (get_or rs i (one (pos 0))) (worth (get_or keys i origin))

abbrev SomeAllowEach : (Key → ℤ) → List Key → Option (List Interval) → Type 0
SomeAllowEach worth keys None = ⊥
SomeAllowEach worth keys (Some rs) = AllowEach worth keys rs

allow_more : (worth : Key → ℤ) (u : Key) (us : List Key) (r : Interval) (rs : List Interval) → ranges.Allows r (worth u) → AllowEach worth us rs
    → AllowEach worth (u ∷ us) (r ∷ rs)
allow_more worth u us r rs first others zero inside = first
allow_more worth u us r rs first others (suc i) inside = others i (omega (arith, inside))

before_allow : (worth : Key → ℤ) (u : Key) (us : List Key) (r : Option Interval) (rs : Option (List Interval)) → ranges.SomeAllows r (worth u)
    → SomeAllowEach worth us rs → SomeAllowEach worth (u ∷ us) (put_before r rs)
before_allow worth u us None rs first others = first
before_allow worth u us (Some r) None first others = others
before_allow worth u us (Some r) (Some rs) first others = allow_more worth u us r rs first others

ranges_so : (span : Key → Span) (worth : Key → ℤ) (keys : List Key) → AllByRecursion (λ u. Has (span u) (worth u)) keys
    → SomeAllowEach worth keys (ranges_of span keys)
ranges_so span worth [] has = λ i inside. absurd (omega (arith, inside))
ranges_so span worth (u ∷ us) has =
    before_allow worth u us (stored (span u)) (ranges_of span us)
    (stored_allows (span u) (worth u) has.0) (ranges_so span worth us has.1)

-- ---- bounds

-- What each step keeps, all of them keep.
pub steps_keep : {X : Type 0} (P : X → Type 0) (step : ℕ → X → X) → ((i : ℕ) (x : X) → P x → P (step i x)) → (n : ℕ) (x : X) → P x → P (steps step n x)
steps_keep P step keeps zero x so = so
steps_keep P step keeps (suc n) x so = keeps n (steps step n x) (steps_keep P step keeps n x so)

gap_kept : (number : ℕ → ℤ) (apart : ℤ) (i j : ℕ) (known : Option ℤ) (rows : List BoundRow)
    → ((k : ℤ) → known ≡ Some k → by_bounds.LiesAbove number (i + 1) (j + 1) k) → by_bounds.Allows rows number
    → by_bounds.Allows (with_gap apart i j known rows) number
gap_kept number apart i j None rows so allowed = allowed
gap_kept number apart i j (Some k) rows so allowed =
    cond_both (int_lt apart k && is_constant k) (with_bound rows (i + 1) (j + 1) k) rows (λ all. by_bounds.Allows all number)
    (λ e. with_bound_allows rows number (i + 1) (j + 1) k allowed (so k refl)) (λ e. allowed)

lies_so : (number : ℕ → ℤ) (m n k : ℤ) (i j : ℕ) → number (suc i) ≡ m → number (suc j) ≡ n → (m +ℤ k) ≤ℤ n → by_bounds.LiesAbove number (i + 1) (j + 1) k
lies_so number m n k i j first second above =
    let from : number (i + 1) ≡ m = rw (add-one i) first in
    let to : number (j + 1) ≡ n = rw (add-one j) second in
    rw (from, to) above

bounds_so : (gap : Key → Key → Option ℤ) (worth : Key → ℤ) (number : ℕ → ℤ) (keys : List Key) (rs : List Interval)
    → ((i : ℕ) → number (suc i) ≡ worth (get_or keys i origin)) → ((u v : Key) (k : ℤ) → gap u v ≡ Some k → (worth u +ℤ k) ≤ℤ worth v)
    → by_bounds.Allows (rows_of gap keys rs (length keys) []) number
bounds_so gap worth number keys rs names so =
    steps_keep (λ rows. by_bounds.Allows rows number) (λ i. row_of gap keys rs i (length keys))
    (λ i rows allowed.
    steps_keep (λ rows. by_bounds.Allows rows number) (λ j. with_gap (told rs i j) i j (gap (get_or keys i origin) (get_or keys j origin)))
    (λ j rows allowed. gap_kept number (told rs i j) i j (gap (get_or keys i origin) (get_or keys j origin)) rows
    (λ k is. lies_so number (worth (get_or keys i origin)) (worth (get_or keys j origin)) k i j (names i) (names j)
    (so (get_or keys i origin) (get_or keys j origin) k is)) allowed)
    (length keys) rows allowed)
    (length keys) [] tt

-- ---- both

with_bounds_so : (gap : Key → Key → Option ℤ) (worth : Key → ℤ) (number : ℕ → ℤ) (keys : List Key) (rs : Option (List Interval))
    → ((i : ℕ) → number (suc i) ≡ worth (get_or keys i origin)) → ((u v : Key) (k : ℤ) → gap u v ≡ Some k → (worth u +ℤ k) ≤ℤ worth v)
    → SomeAllowEach worth keys rs → SomeSo (with_bounds gap keys rs) number
with_bounds_so gap worth number keys None names so each = each
with_bounds_so gap worth number keys (Some rs) names so each = record {
  ranges = λ i inside. rw (names i) (each i inside);
  bounds = bounds_so gap worth number keys rs names so;
}

-- All that is known of new symbols is so.
pub outcome_so : (span : Key → Span) (gap : Key → Key → Option ℤ) (worth : Key → ℤ) (number : ℕ → ℤ) (keys : List Key)
    → ((i : ℕ) → number (suc i) ≡ worth (get_or keys i origin)) → AllByRecursion (λ u. Has (span u) (worth u)) keys
    → ((u v : Key) (k : ℤ) → gap u v ≡ Some k → (worth u +ℤ k) ≤ℤ worth v) → SomeSo (outcome_of span gap keys) number
outcome_so span gap worth number keys names has so = with_bounds_so gap worth number keys (ranges_of span keys) names so (ranges_so span worth keys has)
