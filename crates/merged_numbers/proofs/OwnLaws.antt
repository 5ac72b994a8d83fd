-- Where each bound that is stored says more than the new ranges, the normal form stores them all.
use Rattle.std.proofs.Common.{◌≡◌, ◌≢◌, ℕ, zero, suc, ◌+◌, ◌<◌, ◌≤◌, ℤ, pos, ◌+ℤ◌, ◌-ℤ◌, true, ◌&&◌, int_lt, List, [], ◌∷◌, length, get_or, Option, Some, None, refl, sym, ap, ◌∙◌, add-one, inl, inr, arith}
use Rattle.std.specs.Prelude.{option_map, option_and_then}
use Rattle.std.specs.List.{AllByRecursion, list_all}
use Rattle.std.proofs.lemmas.Bool.{and_parts, cases_eq}
use Rattle.std.proofs.lemmas.Int.{ints}
use Rattle.std.proofs.lemmas.Option.{slice_get-get_or}
use Rattle.interval_domain.specs.Interval.{Interval, one}
use Rattle.pentagon_domain.specs.declared.bound_row.BoundRow.{BoundRow}
use Rattle.pentagon_domain.specs.Rows.{AreBounds, is_pair, stored}
use Rattle.pentagon_domain.specs.Gaps.{AreBelow, cut, direct_gap}
use Rattle.pentagon_domain.proofs.TightGaps.{direct_apart, direct_same}
use Rattle.symbolic_values.specs.declared.pairs.Key.{Key}
use Rattle.symbolic_values.specs.Pairing.{origin}
use Rattle.merged_numbers.specs.Known.{Known}
use Rattle.merged_numbers.specs.Rows.{IsTight}
use Rattle.merged_numbers.specs.Merging.{is_constant, own_gap, own_span, ranges_of, row_of, rows_of, told, with_gap}
use Rattle.merged_numbers.specs.Own.{AreOwn, range_of, says_more, tells_more}
use Rattle.merged_numbers.proofs.ApartLaws.{by_row, with_itself}
use Rattle.merged_numbers.proofs.Prefixes.{all_prefix, prefix, prefix_next, none_first, put_prefix, put_some, stored_itself, stored_so}
use Rattle.merged_numbers.proofs.RangeLists.{ranges_length}
use Rattle.merged_numbers.proofs.RowLaws.{stored_tells}

-- ---- rows that say more

-- Each row says more.
abbrev SayMore : List Interval → List BoundRow → Type 0
SayMore ranges rows = AllByRecursion (λ row. says_more ranges row ≡ true) rows

each_says : (ranges : List Interval) (rows : List BoundRow) → list_all (says_more ranges) rows ≡ true → SayMore ranges rows
each_says ranges [] all = tt
each_says ranges (row ∷ rows) all =
    let parts = and_parts (says_more ranges row) (list_all (says_more ranges) rows) all in (parts.0, each_says ranges rows parts.1)

there : (ranges : List Interval) (s : ℕ) (r : Interval) → range_of ranges s ≡ Some r → s < length ranges + 1
there ranges zero r is = omega arith
there [] (suc s) r is = absurd cc
there (x ∷ ranges) (suc zero) r is = omega arith
there (x ∷ ranges) (suc (suc s)) r is = let rest = there ranges (suc s) r is in omega (arith, rest)

below_of : (ranges : List Interval) (row : BoundRow) (from to : Option Interval) → range_of ranges row.s ≡ from → range_of ranges row.t ≡ to
    → tells_more from to row.k ≡ true → AreBelow (length ranges + 1) row
below_of ranges row None to first second more = absurd cc
below_of ranges row (Some r) None first second more = absurd cc
below_of ranges row (Some r) (Some q) first second more = record { from = there ranges row.s r first; to = there ranges row.t q second }

all_below : (ranges : List Interval) (rows : List BoundRow) → SayMore ranges rows → AllByRecursion (AreBelow (length ranges + 1)) rows
all_below ranges [] more = tt
all_below ranges (row ∷ rows) more =
    (below_of ranges row (range_of ranges row.s) (range_of ranges row.t) refl refl more.0, all_below ranges rows more.1)

range_at : (ranges : List Interval) (i : ℕ) → i < length ranges → range_of ranges (i + 1) ≡ Some (get_or ranges i (one (pos 0)))
range_at ranges i inside = rw (add-one i) (slice_get-get_or ranges i (one (pos 0)) inside)

-- ---- one bound

fits_cut : (k : ℤ) → is_constant k ≡ true → cut k ≡ Some k
unfolding cut
fits_cut k fits = grind (arith, ints)

pair_at : (i j : ℕ) → i ≢ j → is_pair (i + 1) (j + 1) ≡ true
pair_at i j apart = grind arith

more_put : (apart : ℤ) (i j : ℕ) (k : ℤ) (rows : List BoundRow) → i ≢ j → (int_lt apart k && is_constant k) ≡ true
    → with_gap apart i j (cut k) rows ≡ put_some rows (i + 1) (j + 1) (Some k)
more_put apart i j k rows other more =
    let fits : cut k ≡ Some k = fits_cut k (and_parts (int_lt apart k) (is_constant k) more).1 in
    rw (fits, more, pair_at i j other) refl

stored_put : (ranges : List Interval) (rows x : List BoundRow) (i j : ℕ) (known : Option ℤ) → SayMore ranges rows → i < length ranges → j < length ranges
    → i ≢ j → stored rows (i + 1) (j + 1) ≡ known
    → with_gap (told ranges i j) i j (option_and_then cut known) x ≡ put_some x (i + 1) (j + 1) known
stored_put ranges rows x i j None more first second other is = refl
stored_put ranges rows x i j (Some k) more first second other is =
    let says : tells_more (range_of ranges (i + 1)) (range_of ranges (j + 1)) k ≡ true =
    stored_so (λ row. says_more ranges row ≡ true) rows (i + 1) (j + 1) k more is in
    more_put (told ranges i j) i j k x other (rw (range_at ranges i first, range_at ranges j second) at says)

direct_put : (ranges : List Interval) (rows x : List BoundRow) (i j : ℕ) → AreBounds rows → SayMore ranges rows → i < length ranges → j < length ranges
    → with_gap (told ranges i j) i j (direct_gap rows (i + 1) (j + 1)) x ≡ put_some x (i + 1) (j + 1) (stored rows (i + 1) (j + 1))
direct_put ranges rows x i j form more first second =
    elim (cases_eq i j) [
      | inl same ↦
          rw (sym same)
          (rw (direct_same rows (i + 1) (i + 1) refl, stored_itself rows (i + 1) form) (with_itself (told ranges i i) i (Some (pos 0)) x))
      | inr other ↦
          rw (direct_apart rows (i + 1) (j + 1) (λ e. other (omega (arith, e))))
          (stored_put ranges rows x i j (stored rows (i + 1) (j + 1)) more first second other refl)
    ]

-- ---- all bounds

-- Of the keys at two places the normal form stores what is stored.
own_put : (a : Known) (keys : List Key) (ranges : List Interval) (i j : ℕ) (x : List BoundRow) → IsTight a → AreBounds a.bounds → AreOwn keys
    → Some ranges ≡ ranges_of (own_span a) keys → SayMore ranges a.bounds → i < length keys → j < length keys
    → with_gap (told ranges i j) i j (own_gap a (get_or keys i origin) (get_or keys j origin)) x
    ≡ put_some x (i + 1) (j + 1) (stored a.bounds (i + 1) (j + 1))
own_put a keys ranges i j x tight form own is more first second =
    let u : Key = get_or keys i origin in
    let v : Key = get_or keys j origin in
    let count : length ranges ≡ length keys = ranges_length (own_span a) keys ranges (sym is) in
    let known : Option ℤ = direct_gap a.bounds u.s v.s in
    let stores = by_row a keys ranges i j x known is first second (stored_tells a u.s v.s known tight refl) in
    let from = own i first in
    let to = own j second in
    let alike : option_map (λ k. k +ℤ (v.first -ℤ u.first)) known ≡ direct_gap a.bounds (i + 1) (j + 1) =
    plain u.first v.first known from.plain to.plain ∙ ap (λ s. direct_gap a.bounds s v.s) from.symbol ∙ ap (direct_gap a.bounds (i + 1)) to.symbol in
    sym stores ∙ ap (λ gap. with_gap (told ranges i j) i j gap x) alike
    ∙ direct_put ranges a.bounds x i j form more (omega (arith, count, first)) (omega (arith, count, second))
  where
    plain : (m n : ℤ) (known : Option ℤ) → m ≡ pos 0 → n ≡ pos 0 → option_map (λ k. k +ℤ (n -ℤ m)) known ≡ known
    plain m n None first second = refl
    plain m n (Some k) first second = ap Some (omega (arith, ints, first, second))

-- A state in the names of its own symbols, and its new ranges: it is tight, and each of its bounds says more than
-- these.
record IsKept (a : Known) (keys : List Key) (ranges : List Interval) : Type 0 where
  tight : IsTight a
  form : AreBounds a.bounds
  own : AreOwn keys
  is : Some ranges ≡ ranges_of (own_span a) keys
  more : SayMore ranges a.bounds

row_prefix : (a : Known) (keys : List Key) (ranges : List Interval) (i m : ℕ) → IsKept a keys ranges → i < length keys → m ≤ length keys
    → row_of (own_gap a) keys ranges i m (prefix (i + 1) 1 a.bounds) ≡ prefix (i + 1) (m + 1) a.bounds
row_prefix a keys ranges i zero kept inside upto = refl
row_prefix a keys ranges i (suc j) kept inside upto =
    let so_far = row_prefix a keys ranges i j kept inside (omega (arith, upto)) in
    let here = own_put a keys ranges i j (prefix (i + 1) (j + 1) a.bounds) kept.tight kept.form kept.own kept.is kept.more inside (omega (arith, upto)) in
    ap (with_gap (told ranges i j) i j (own_gap a (get_or keys i origin) (get_or keys j origin))) so_far ∙ here
    ∙ put_prefix a.bounds (i + 1) (j + 1) kept.form ∙ ap (λ n. prefix (i + 1) (n + 1) a.bounds) (add-one j)

rows_prefix : (a : Known) (keys : List Key) (ranges : List Interval) (m : ℕ) → IsKept a keys ranges → m ≤ length keys
    → rows_of (own_gap a) keys ranges m [] ≡ prefix (m + 1) 1 a.bounds
rows_prefix a keys ranges zero kept upto = sym (none_first a.bounds kept.form)
rows_prefix a keys ranges (suc i) kept upto =
    let so_far = rows_prefix a keys ranges i kept (omega (arith, upto)) in
    let count : length ranges ≡ length keys = ranges_length (own_span a) keys ranges (sym kept.is) in
    let below : AllByRecursion (AreBelow (length keys + 1)) a.bounds = rw count at (all_below ranges a.bounds kept.more) in
    ap (row_of (own_gap a) keys ranges i (length keys)) so_far ∙ row_prefix a keys ranges i (length keys) kept (omega (arith, upto)) (omega arith)
    ∙ prefix_next a.bounds (i + 1) (length keys) kept.form below ∙ ap (λ n. prefix (n + 1) 1 a.bounds) (add-one i)

-- The bounds of the normal form are those of the state.
pub kept_bounds : (a : Known) (keys : List Key) (ranges : List Interval) → IsTight a → AreBounds a.bounds → AreOwn keys
    → Some ranges ≡ ranges_of (own_span a) keys → list_all (says_more ranges) a.bounds ≡ true
    → a.bounds ≡ rows_of (own_gap a) keys ranges (length keys) []
kept_bounds a keys ranges tight form own is more =
    let kept : IsKept a keys ranges = record { tight = tight; form = form; own = own; is = is; more = each_says ranges a.bounds more } in
    let count : length ranges ≡ length keys = ranges_length (own_span a) keys ranges (sym is) in
    let below : AllByRecursion (AreBelow (length keys + 1)) a.bounds = rw count at (all_below ranges a.bounds kept.more) in
    sym (rows_prefix a keys ranges (length keys) kept (omega arith) ∙ all_prefix a.bounds (length keys) below)
