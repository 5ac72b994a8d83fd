-- Numbers modulo 2^32.
use Rattle.std.proofs.Common.{◌≡◌, ℕ, ◌<◌, to_z, ℤ, ◌+ℤ◌, ◌-ℤ◌, ◌≤ℤ◌, true, FitsSigned, sym, ap, ◌∙◌, arith, w32}
use Rattle.std.proofs.lemmas.Bool.{cond_both}
use Rattle.std.proofs.lemmas.Int.{ints, int_wrap_fits, int_wrap-add_left, SFits-int_wrap}
use Rattle.cc_base.specs.Wrap.{wrap32}
use Rattle.number_spans.specs.Spans.{Has, between, full, is_int32, wrapped}
use Rattle.number_spans.specs.declared.span.Span.{Span}

pub between_has : (lo hi n : ℤ) → lo ≤ℤ n → n ≤ℤ hi → Has (between lo hi) n
between_has lo hi n above below = record { above = above; below = below; no_hole = λ is. grind arith }

pub full_has : (n : ℤ) → FitsSigned w32 n → Has full n
full_has n fits = between_has _ _ n (omega (arith, ints, fits)) (omega (arith, ints, fits))

-- the bits of an int32, taken as a number
pub bits_of : (x : ℕ) → x < 4294967296 → FitsSigned w32 (to_z w32 x)
bits_of x h = omega (arith, ints)

pub int32_fits : (n : ℤ) → is_int32 n ≡ true → FitsSigned w32 n
int32_fits n e = grind (arith, ints, e)

-- a number that is moved by as much as lo is moved, and is then an int32, was wrapped itself
moved : (lo n : ℤ) → FitsSigned w32 (wrap32 lo +ℤ (n -ℤ lo)) → wrap32 n ≡ wrap32 lo +ℤ (n -ℤ lo)
moved lo n fits =
    let back : n ≡ lo +ℤ (n -ℤ lo) = omega (arith, ints) in
    ap wrap32 back ∙ sym (int_wrap-add_left w32 lo (n -ℤ lo)) ∙ int_wrap_fits w32 _ fits

moved_fits : (low lo n hi : ℤ) → FitsSigned w32 low → lo ≤ℤ n → n ≤ℤ hi → FitsSigned w32 (low +ℤ (hi -ℤ lo)) → FitsSigned w32 (low +ℤ (n -ℤ lo))
moved_fits low lo n hi fits above below greatest = omega (arith, ints)

moved_has : (lo n hi : ℤ) → lo ≤ℤ n → n ≤ℤ hi → FitsSigned w32 (wrap32 lo +ℤ (hi -ℤ lo)) → Has (between (wrap32 lo) (wrap32 lo +ℤ (hi -ℤ lo))) (wrap32 n)
moved_has lo n hi above below fits =
    rw (moved lo n (moved_fits (wrap32 lo) lo n hi (SFits-int_wrap w32 lo) above below fits))
    (between_has _ _ _ (omega (arith, ints, above)) (omega (arith, ints, below)))

-- a number of a range, wrapped, is one of the wrapped range
pub wrapped_has : (r : Span) (n : ℤ) → r.lo ≤ℤ n → n ≤ℤ r.hi → Has (wrapped r) (wrap32 n)
unfolding wrapped
wrapped_has r n above below = cond_both (is_int32 (wrap32 r.lo +ℤ (r.hi -ℤ r.lo))) _ _ (λ q. Has q (wrap32 n))
    (λ e. moved_has r.lo n r.hi above below (int32_fits _ e))
    (λ e. full_has (wrap32 n) (SFits-int_wrap w32 n))
