-- How counts that rise or stay follow one another.
use Rattle.std.proofs.Common.{ℕ, inl, inr, arith}
use Rattle.std.proofs.lemmas.Bool.{cases_lt}
use Rattle.cc_base.specs.Counts.{Rose, Kept}

-- A count that did not change did not fall.
pub Kept-refl : (a : ℕ) → Kept a a
Kept-refl a = omega arith

pub Kept-trans : (a b c : ℕ) → Kept a b → Kept b c → Kept a c
Kept-trans a b c ab bc = omega arith

-- A count that rose, from one that had not fallen.
pub Kept-Rose : (a b c : ℕ) → Kept a b → Rose b c → Rose a c
Kept-Rose a b c ab (inl lt) = inl (omega arith)
Kept-Rose a b c ab (inr full) = inr full

-- A count that rose and then did not fall. At its end the count was not above that end before, so it
-- stands there still, or it passed it.
pub Rose-Kept : (a b c : ℕ) → Kept a b → Rose a b → Kept b c → Rose a c
Rose-Kept a b c ab (inl lt) bc = inl (omega arith)
Rose-Kept a b c ab (inr full) bc =
    elim (cases_lt b c) [ inl lt ↦ inl (omega arith) | inr ge ↦ inr (omega arith) ]

pub ruleset counts = (Kept-refl, Kept-trans, Kept-Rose, Rose-Kept)
