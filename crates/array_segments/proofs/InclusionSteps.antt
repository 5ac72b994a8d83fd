-- Tests of each expression of a bound, and of some.
use Rattle.std.proofs.Common.{◌≡◌, ℕ, ◌+◌, ◌-◌, ◌<◌, ◌≤◌, ℤ, pos, ◌+ℤ◌, Bool, true, ◌&&◌, List, ◌∷◌, length, map, get_or, take, drop, Option, Some, arith, sym, ap, ◌∙◌}
use Rattle.std.proofs.lemmas.Int.{ints}
use Rattle.std.proofs.lemmas.List.{drop_more}
use Rattle.std.specs.List.{list_all, slice_range}
use Rattle.domain_api.specs.declared.expr.Expr.{Expr}
use Rattle.array_segments.specs.Inclusion.{all_equal, all_shown, equals_rest, more_than}
use Rattle.array_segments.specs.Meaning.{zipped}
use Rattle.array_segments.specs.SegmentLists.{Lists}
use Rattle.array_segments.proofs.NameSteps.{drop_past}
use Rattle.array_segments.proofs.Spans.{zipped_length}

pub none_more : (expr : Expr) → more_than (Some expr) (pos 0) ≡ Some expr
none_more expr = let e : (expr.k +ℤ pos 0) ≡ expr.k = omega (arith, ints) in λ i. Some (record { sym = expr.sym; k = e i })

pub all_equal_more : (gap : ℕ → ℕ → Option ℤ) (names : List (Option Expr)) (bound : List Expr) (place : ℕ) (expr : Expr) → place < length bound → expr ≡ get_or bound place expr →
    all_equal gap names (drop place bound) ≡ (equals_rest gap names expr (drop (place + 1) bound) && all_equal gap names (drop (place + 1) bound))
all_equal_more gap names bound place expr below is =
    ap (all_equal gap names) (drop_more bound place expr below ∙ ap (λ e. e ∷ drop (place + 1) bound) (sym is))

pub list_all_more : {X Y : Type 0} (test : Y → Bool) (view : X → Y) (xs : List X) (place : ℕ) (x : X) → place < length xs → x ≡ get_or xs place x →
    list_all test (map view (drop place xs)) ≡ (test (view x) && list_all test (map view (drop (place + 1) xs)))
list_all_more test view xs place x below is = ap (λ rest. list_all test (map view rest)) (drop_more xs place x below ∙ ap (λ y. y ∷ drop (place + 1) xs) (sym is))

pub none_between : {X : Type 0} (test : X → Bool) (xs : List X) (from to : ℕ) → to ≤ from → list_all test (slice_range xs from to) ≡ true
none_between test xs from to past = let e : to - from ≡ 0 = omega arith in ap (λ n. list_all test (take n (drop from xs))) e

pub shown_past : {C : Type 0} (within : C → C → Bool) (gap : ℕ → ℕ → Option ℤ) (names : List (Option Expr)) (lists : Lists C) (lower : List Expr) (uppers : List (List Expr)) (contents : List C) (marks : List Bool) (place : ℕ) →
    length contents ≤ place → all_shown within gap names lists lower (drop place (zipped uppers contents marks)) ≡ true
shown_past within gap names lists lower uppers contents marks place past =
    let count = zipped_length uppers contents marks in
    ap (all_shown within gap names lists lower) (drop_past place (zipped uppers contents marks) (omega arith))
