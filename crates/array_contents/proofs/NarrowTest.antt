-- The test for ranges of int32 decides.
use Rattle.std.proofs.Common.{ℤ, ◌≤ℤ◌, ◌<ℤ◌, int_le, int_lt, Decides, List, [], ◌∷◌, Option, None, Some, refl, arith}
use Rattle.std.specs.List.{AllByRecursion, list_all}
use Rattle.std.proofs.lemmas.Bool.{true_from_ne_false}
use Rattle.std.proofs.lemmas.Bool.Decides.{Decides-and, Decides-like}
use Rattle.std.proofs.lemmas.Int.{ints}
use Rattle.cil_model.specs.Arithmetic.{LEAST, GREATEST}
use Rattle.interval_domain.specs.Interval.{Interval}
use Rattle.number_spans.specs.Stored.{IsInner, IsNarrow}
use Rattle.array_contents.specs.FormTest.{is_inner, is_narrow}

le_decides : (m n : ℤ) → Decides (int_le m n) (m ≤ℤ n)
le_decides m n =
    (λ is. grind (arith, ints, is), λ below. true_from_ne_false (int_le m n) (λ e. grind (arith, ints, below, e)))

lt_decides : (m n : ℤ) → Decides (int_lt m n) (m <ℤ n)
lt_decides m n =
    (λ is. grind (arith, ints, is), λ below. true_from_ne_false (int_lt m n) (λ e. grind (arith, ints, below, e)))

inner_decides : (lo hi : ℤ) (hole : Option ℤ) → Decides (is_inner lo hi hole) (IsInner lo hi hole)
inner_decides lo hi None = (λ is. tt, λ inner. refl)
inner_decides lo hi (Some hole) =
    Decides-and (int_lt lo hole) (int_lt hole hi) (lt_decides lo hole) (lt_decides hole hi)

pub narrow_decides : (r : Interval) → Decides (is_narrow r) (IsNarrow r)
unfolding is_narrow
narrow_decides r =
    Decides-like _
    (λ is. record { least = is.0; ordered = is.1.0; greatest = is.1.1.0; inner = is.1.1.1 })
    (λ narrow. (narrow.least, (narrow.ordered, (narrow.greatest, narrow.inner))))
    (Decides-and (int_le LEAST r.lo) _ (le_decides LEAST r.lo)
    (Decides-and (int_le r.lo r.hi) _ (le_decides r.lo r.hi)
    (Decides-and (int_le r.hi GREATEST) _ (le_decides r.hi GREATEST) (inner_decides r.lo r.hi r.hole))))

-- That of all ranges of a list does too.
pub all_narrow : (ranges : List Interval) → Decides (list_all is_narrow ranges) (AllByRecursion IsNarrow ranges)
all_narrow [] = (λ is. tt, λ all. refl)
all_narrow (r ∷ ranges) = Decides-and (is_narrow r) (list_all is_narrow ranges) (narrow_decides r) (all_narrow ranges)
