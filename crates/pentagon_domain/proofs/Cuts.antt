-- The greater of two gaps, before and behind the cut to 64 bits.
use Rattle.std.proofs.Common.{◌≡◌, ℤ, Option, Some, None, refl, sym, arith}
use Rattle.std.specs.Prelude.{option_and_then}
use Rattle.std.proofs.lemmas.Int.{ints}
use Rattle.domain_api.specs.Order.{greater_gap}
use Rattle.pentagon_domain.specs.Gaps.{cut}

-- The greater of three gaps does not depend on which two are taken first.
pub greater_gap_assoc : (a b c : Option ℤ) → greater_gap (greater_gap a b) c ≡ greater_gap a (greater_gap b c)
greater_gap_assoc None b c = refl
greater_gap_assoc (Some k) None c = refl
greater_gap_assoc (Some k) (Some l) None = grind (arith, ints)
greater_gap_assoc (Some k) (Some l) (Some m) = grind (arith, ints)

-- What is not known adds nothing.
pub greater_gap-none : (a : Option ℤ) → greater_gap a None ≡ a
greater_gap-none None = refl
greater_gap-none (Some k) = refl

cut_both : (k l : ℤ) → option_and_then cut (greater_gap (Some k) (Some l)) ≡ greater_gap (cut k) (cut l)
unfolding cut
cut_both k l = grind (arith, ints)

-- The greater of two, cut, is the greater of the two that are cut.
pub cut-greater_gap : (a b : Option ℤ) → option_and_then cut (greater_gap a b) ≡ greater_gap (option_and_then cut a) (option_and_then cut b)
cut-greater_gap None b = refl
cut-greater_gap (Some k) None = sym (greater_gap-none (cut k))
cut-greater_gap (Some k) (Some l) = cut_both k l
