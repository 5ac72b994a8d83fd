-- Numbers that a range has, and its hole.
use Rattle.std.proofs.Common.{◌≡◌, ◌≢◌, ℤ, ◌≤ℤ◌, Bool, true, false, ◌||◌, int_lt, Option, Some, None, refl, sym, ap, w64, FitsSigned, arith}
use Rattle.std.proofs.lemmas.Int.{ints}
use Rattle.std.proofs.lemmas.Bool.{cond_both, or_from}
use Rattle.std.proofs.lemmas.Bool.Decides.{Decides-int_eq}
use Rattle.interval_domain.specs.Interval.{Interval, Contains, inner_hole, is_inside, is_hole, excludes}

not_hole : (hole : Option ℤ) (n : ℤ) (b : Bool) → is_hole hole n ≡ b → hole ≢ Some n → b ≡ false
not_hole None n b is apart = sym is
not_hole (Some k) n false is apart = refl
not_hole (Some k) n true is apart = elim (apart (ap Some ((Decides-int_eq k n).0 is))) [ ]

-- a range excludes none of its numbers
pub has_excludes : (r : Interval) (n : ℤ) → Contains r n → excludes r n ≡ false
unfolding excludes
has_excludes r n has =
    or_from _ _ (grind (arith, ints, has.above))
    (or_from _ _ (grind (arith, ints, has.below)) (not_hole r.hole n (is_hole r.hole n) refl has.no_hole))

-- the hole of a range counts or not: a number that is not it is not the hole in the end
pub inner_apart : (lo hi n : ℤ) (hole : Option ℤ) → hole ≢ Some n → inner_hole lo hi hole ≢ Some n
unfolding inner_hole
inner_apart lo hi n None apart = apart
inner_apart lo hi n (Some k) apart = cond_both (is_inside lo hi k) (Some k) None (λ o. o ≢ Some n) (λ e. apart) (λ e is. grind arith)

-- a number between ends of 64 bits that is not excluded is one of the range
pub not_excluded : (r : Interval) (n : ℤ) → FitsSigned w64 r.lo → FitsSigned w64 r.hi → excludes r n ≡ false → Contains r n
unfolding excludes
not_excluded r n low high is =
    let apart = or_apart (int_lt n r.lo) _ is in
    let others = or_apart (int_lt r.hi n) _ apart.1 in
    let above : r.lo ≤ℤ n = grind (arith, ints, apart.0) in
    let below : n ≤ℤ r.hi = grind (arith, ints, others.0) in
    record { fits = omega (arith, ints, low, high, above, below); above = above; below = below; no_hole = is_no_hole r.hole n others.1 }
  where
    or_apart : (a b : Bool) → (a || b) ≡ false → (a ≡ false) × (b ≡ false)
    or_apart false b is = (refl, is)
    or_apart true b is = grind arith

    is_no_hole : (hole : Option ℤ) (n : ℤ) → is_hole hole n ≡ false → hole ≢ Some n
    is_no_hole None n is = λ same. grind arith
    is_no_hole (Some k) n is = λ same. grind (arith, ints)

-- the hole of a range is neither of its ends
pub inner_above : (lo hi : ℤ) (hole : Option ℤ) → inner_hole lo hi hole ≡ hole → hole ≢ Some lo
unfolding inner_hole
inner_above lo hi None inner = λ is. grind arith
inner_above lo hi (Some k) inner =
    cond_both (is_inside lo hi k) (Some k) None (λ o. o ≡ Some k → Some k ≢ Some lo) (λ e same is. grind (arith, ints)) (λ e same is. grind arith) inner

pub inner_below : (lo hi : ℤ) (hole : Option ℤ) → inner_hole lo hi hole ≡ hole → hole ≢ Some hi
unfolding inner_hole
inner_below lo hi None inner = λ is. grind arith
inner_below lo hi (Some k) inner =
    cond_both (is_inside lo hi k) (Some k) None (λ o. o ≡ Some k → Some k ≢ Some hi) (λ e same is. grind (arith, ints)) (λ e same is. grind arith) inner
