-- Tests whether a side is settled.
use Rattle.std.proofs.Common.{◌≡◌, ◌≢◌, ℕ, zero, suc, ◌+◌, ◌<◌, ◌≤◌, ◌==◌, ℤ, pos, negsuc, ◌+ℤ◌, ◌-ℤ◌, ◌≤ℤ◌, Bool, true, false, not, ◌&&◌, int_lt, List, [], ◌∷◌, ◌++◌, length, get_or, map, drop, drop-cons, add-one, slice_get, Some, refl, sym, ap, ◌∙◌, arith, inl, inr}
use Rattle.std.specs.List.{AllByRecursion, list_all}
use Rattle.std.proofs.lemmas.Bool.{and_from, cases_Bool, eqb-false, eqb-true}
use Rattle.std.proofs.lemmas.Int.{ints}
use Rattle.std.proofs.lemmas.List.{append-nil, append_assoc, drop_all}
use Rattle.interval_domain.specs.Interval.{Interval, one}
use Rattle.number_spans.specs.declared.span.Span.{Span}
use Rattle.pentagon_domain.specs.declared.bound_row.BoundRow.{BoundRow}
use Rattle.pentagon_domain.specs.declared.ends.Ends.{Ends}
use Rattle.pentagon_domain.specs.Gaps.{AreBelow}
use Rattle.pentagon_domain.specs.Rows.{AreBounds, is_pair}
use Rattle.pentagon_domain.specs.Settled.{AreSettledOver, IsNarrow, IsSettled}
use Rattle.pentagon_domain.specs.Tight.{AreTightOver, apart, no_ends}
use Rattle.merged_numbers.specs.Merging.{is_constant}
use Rattle.merged_numbers.specs.Own.{AreOf, range_of, says_more}
use Rattle.merged_numbers.specs.Settled.{are_exact, ends_at, ends_of, is_exact}

-- ---- spans with these ends, one after another

exact_split : (ends : List Ends) (rs : List Span) (i : ℕ) (d : Ends) (e : Span) → i < length ends → i < length rs
    → are_exact (drop i ends) (drop i rs) ≡ (is_exact (get_or ends i d) (get_or rs i e) && are_exact (drop (i + 1) ends) (drop (i + 1) rs))
exact_split ends rs i d e inside also =
    let first : drop i ends ≡ get_or ends i d ∷ drop (suc i) ends = drop-cons ends i d inside in
    let second : drop i rs ≡ get_or rs i e ∷ drop (suc i) rs = drop-cons rs i e also in
    rw (add-one, first, second) refl

pub exact_more : (ends : List Ends) (rs : List Span) (i : ℕ) (d : Ends) (e : Span) (whole : Bool) → length ends ≡ length rs → i < length ends
    → is_exact (get_or ends i d) (get_or rs i e) ≡ true → are_exact (drop i ends) (drop i rs) ≡ whole → are_exact (drop (i + 1) ends) (drop (i + 1) rs) ≡ whole
exact_more ends rs i d e whole same inside here so_far =
    let split = exact_split ends rs i d e inside (omega (arith, same, inside)) in
    rw here at (rw split at so_far)

pub exact_fails : (ends : List Ends) (rs : List Span) (i : ℕ) (d : Ends) (e : Span) (whole : Bool) → length ends ≡ length rs → i < length ends
    → is_exact (get_or ends i d) (get_or rs i e) ≡ false → are_exact (drop i ends) (drop i rs) ≡ whole → false ≡ whole
exact_fails ends rs i d e whole same inside here so_far =
    let split = exact_split ends rs i d e inside (omega (arith, same, inside)) in
    rw here at (rw split at so_far)

pub exact_end : (ends : List Ends) (rs : List Span) (i : ℕ) (whole : Bool) → length ends ≡ length rs → length ends ≤ i
    → are_exact (drop i ends) (drop i rs) ≡ whole → true ≡ whole
exact_end ends rs i whole same past so_far =
    let none : drop i ends ≡ [] = drop_all i ends past in
    let also : drop i rs ≡ [] = drop_all i rs (omega (arith, same, past)) in
    rw (none, also) at so_far

pub lengths_differ : (ends : List Ends) (rs : List Span) → length ends ≢ length rs → false ≡ are_exact ends rs
lengths_differ [] [] other = absurd (other refl)
lengths_differ [] (r ∷ rs) other = refl
lengths_differ (e ∷ more) [] other = refl
lengths_differ (e ∷ more) (r ∷ rs) other =
    let rest = lengths_differ more rs (λ same. other (ap suc same)) in
    rw (sym rest) (sym (and_false (is_exact e r)))
  where
    and_false : (b : Bool) → (b && false) ≡ false
    and_false true = refl
    and_false false = refl

pub ruleset exacts = (exact_more, exact_fails, exact_end, lengths_differ)

-- ---- the ends of ranges

pub ends_more : (ranges : List Interval) (made : List Ends) (i : ℕ) (d : Interval) (e : Ends) → i < length ranges → e ≡ ends_at (get_or ranges i d)
    → made ++ map ends_at (drop i ranges) ≡ ends_of ranges → (made ++ e ∷ []) ++ map ends_at (drop (i + 1) ranges) ≡ ends_of ranges
ends_more ranges made i d e inside is so_far =
    let split : drop i ranges ≡ get_or ranges i d ∷ drop (suc i) ranges = drop-cons ranges i d inside in
    rw (append_assoc made (e ∷ []) (map ends_at (drop (i + 1) ranges)), add-one, is) (rw split at so_far)

pub ends_end : (ranges : List Interval) (made : List Ends) (i : ℕ) → length ranges ≤ i → made ++ map ends_at (drop i ranges) ≡ ends_of ranges → made ≡ ends_of ranges
ends_end ranges made i past so_far =
    let none : drop i ranges ≡ [] = drop_all i ranges past in
    sym (append-nil made) ∙ rw none at so_far

pub ruleset ends = (ends_more, ends_end)

-- ---- ends of ranges behind those of symbol 0

get_or_any : {X : Type 0} (xs : List X) (i : ℕ) (d e : X) → i < length xs → get_or xs i d ≡ get_or xs i e
get_or_any [] i d e inside = absurd (omega (arith, inside))
get_or_any (x ∷ xs) zero d e inside = refl
get_or_any (x ∷ xs) (suc i) d e inside = get_or_any xs i d e (omega (arith, inside))

pub own_more : (ends : List Ends) (ranges : List Interval) (n i : ℕ) (d : Ends) (e : Interval) → n + 1 < length ends → n < length ranges
    → get_or ends (n + 1) d ≡ ends_at (get_or ranges n e)
    → ((k : ℕ) → k < n → get_or ends (k + 1) no_ends ≡ ends_at (get_or ranges k (one (pos 0))))
    → i < n + 1 → get_or ends (i + 1) no_ends ≡ ends_at (get_or ranges i (one (pos 0)))
own_more ends ranges n i d e inside also own each below =
    elim (cases_Bool (i == n)) [
      | inl same ↦
          rw (eqb-true i n same)
          (get_or_any ends (n + 1) no_ends d inside ∙ own ∙ ap ends_at (get_or_any ranges n e (one (pos 0)) also))
      | inr apart ↦ each i (omega (arith, eqb-false i n apart, below))
    ]

-- ---- settled bounds say more than the ranges

constant_fits : (lo hi low high k : ℤ) → negsuc 2147483647 ≤ℤ lo → hi ≤ℤ pos 2147483647 → negsuc 2147483647 ≤ℤ low → high ≤ℤ pos 2147483647
    → low ≤ℤ high → lo ≤ℤ hi → int_lt (low -ℤ hi) k ≡ true → (hi +ℤ k) ≤ℤ high → is_constant k ≡ true
constant_fits lo hi low high k a b c d e f more upto = grind (arith, ints)

get_there : (ranges : List Interval) (i : ℕ) → i < length ranges → slice_get ranges i ≡ Some (get_or ranges i (one (pos 0)))
get_there [] i inside = absurd (omega (arith, inside))
get_there (r ∷ rs) zero inside = refl
get_there (r ∷ rs) (suc i) inside = get_there rs i (omega (arith, inside))

-- The range of a symbol is there, and these are its ends.
record HasRange (ends : List Ends) (ranges : List Interval) (s : ℕ) : Type 0 where
  range : Interval
  there : range_of ranges s ≡ Some range
  same : get_or ends s no_ends ≡ ends_at range

has_range : (ends : List Ends) (ranges : List Interval) (s : ℕ) → AreOf ends ranges → s ≢ 0 → s < length ends → HasRange ends ranges s
has_range ends ranges zero are other inside = absurd (other refl)
has_range ends ranges (suc i) are other inside =
    let within : i < length ranges = omega (arith, are.count, inside) in
    let own : get_or ends (i + 1) no_ends ≡ ends_at (get_or ranges i (one (pos 0))) = are.own i within in
    record { range = get_or ranges i (one (pos 0)); there = get_there ranges i within; same = rw add-one at own }

narrow_at : (ends : List Ends) (s : ℕ) → AllByRecursion IsNarrow ends → s < length ends → IsNarrow (get_or ends s no_ends)
narrow_at [] s all inside = absurd (omega (arith, inside))
narrow_at (e ∷ more) zero all inside = all.0
narrow_at (e ∷ more) (suc s) all inside = narrow_at more s all.1 (omega (arith, inside))

first_false : (a b c : Bool) → (not a && not b && not c) ≡ true → a ≡ false
first_false false b c e = refl
first_false true b c e = absurd cc

second_false : (a b c : Bool) → (not a && not b && not c) ≡ true → b ≡ false
second_false a false c e = refl
second_false true true c e = absurd cc
second_false false true c e = absurd cc

pair_symbols : (s t : ℕ) → is_pair s t ≡ true → (s ≢ 0) × (t ≢ 0)
pair_symbols s t pair =
    (eqb-false s 0 (first_false (s == 0) (t == 0) (s == t) pair), eqb-false t 0 (second_false (s == 0) (t == 0) (s == t) pair))

row_says_more : (ends : List Ends) (ranges : List Interval) (row : BoundRow) → AreOf ends ranges → is_pair row.s row.t ≡ true → AreBelow (length ends) row
    → AllByRecursion IsNarrow ends → IsSettled ends row → says_more ranges row ≡ true
row_says_more ends ranges row are pair below narrow settled =
    let apart_from = pair_symbols row.s row.t pair in
    let from = has_range ends ranges row.s are apart_from.0 below.from in
    let to = has_range ends ranges row.t are apart_from.1 below.to in
    let first : IsNarrow (ends_at from.range) = rw from.same at (narrow_at ends row.s narrow below.from) in
    let second : IsNarrow (ends_at to.range) = rw to.same at (narrow_at ends row.t narrow below.to) in
    let more : int_lt (to.range.lo -ℤ from.range.hi) row.k ≡ true = rw (from.same, to.same) at settled.more in
    let upto : (from.range.hi +ℤ row.k) ≤ℤ to.range.hi = rw (from.same, to.same) at settled.high in
    rw (from.there, to.there)
    (and_from (int_lt (to.range.lo -ℤ from.range.hi) row.k) (is_constant row.k) more
    (constant_fits from.range.lo from.range.hi to.range.lo to.range.hi row.k first.least first.greatest second.least second.greatest second.some first.some more upto))

all_say_more : (ends : List Ends) (ranges : List Interval) (rows : List BoundRow) → AreOf ends ranges → AreBounds rows
    → AllByRecursion (AreBelow (length ends)) rows → AllByRecursion IsNarrow ends → AllByRecursion (IsSettled ends) rows → list_all (says_more ranges) rows ≡ true
all_say_more ends ranges [] are form below narrow settled = refl
all_say_more ends ranges (row ∷ rows) are form below narrow settled =
    and_from (says_more ranges row) (list_all (says_more ranges) rows) (row_says_more ends ranges row are form.0 below.0 narrow settled.0)
    (all_say_more ends ranges rows are form.2 below.1 narrow settled.1)

-- Bounds that are settled over ranges say more than these.
pub settled_say_more : (ends : List Ends) (ranges : List Interval) (rows : List BoundRow) → AreBounds rows → AreTightOver ends rows → AreSettledOver ends rows
    → AreOf ends ranges → list_all (says_more ranges) rows ≡ true
settled_say_more ends ranges rows form tight settled are = all_say_more ends ranges rows are form tight.below settled.narrow settled.each
