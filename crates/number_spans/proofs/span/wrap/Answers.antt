use Rattle.std.proofs.Common.{◌≡◌, ℤ, pos, FitsSigned, w32, to_z, of_z, nat_abs, to_z-of_z, ap, ◌∙◌, rules}
use Rattle.std.specs.Int.{w128, int_wrap, int_rem_euclid}
use Rattle.cc_base.specs.Wrap.{wrap32}
use Rattle.number_spans.proofs.span.wrap.Goals as goal

-- The remainder, taken as a signed number.
wrapped : (n r s : ℤ) → FitsSigned w128 n → FitsSigned w128 r → FitsSigned w32 s
    → r ≡ int_rem_euclid (to_z w128 (of_z w128 n)) (pos 4294967296)
    → s ≡ to_z w32 (nat_abs (to_z w128 (of_z w128 r))) → to_z w32 (of_z w32 s) ≡ wrap32 n
unfolding int_wrap
wrapped n r s nFits rFits sFits remainder signed =
    to_z-of_z sFits ∙ signed
    ∙ ap (λ (z : ℤ). to_z w32 (nat_abs z))
    (to_z-of_z rFits ∙ remainder ∙ ap (λ (z : ℤ). int_rem_euclid z (pos 4294967296)) (to_z-of_z nFits))

pub returns : goal.returns
returns c =
    let rFits : FitsSigned w128 c.rem_euclid-low.result = search rules in
    let sFits : FitsSigned w32 c.cast_signed.result = search rules in
    wrapped c.args.n c.rem_euclid-low.result c.cast_signed.result c.ranges.n rFits sFits
    c.rem_euclid-low.ensures.value c.cast_signed.ensures
