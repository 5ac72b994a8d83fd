-- What is assumed of an order, step by step.
use Rattle.std.proofs.Common.{◌≡◌, ℤ, pos, ◌+ℤ◌, ◌-ℤ◌, false, Some, sym, ap, ◌∙◌}
use Rattle.domain_api.specs.declared.expr.Expr.{Expr}
use Rattle.number_facts.specs.Assume as rule
use Rattle.number_facts.specs.Facts.{Facts}
use Rattle.number_facts.specs.Fresh.{bounded}
use Rattle.number_facts.specs.Gaps.{at_most}

-- the bound is stored, and then both are cut
pub cut_behind : (facts stored new : Facts) (a b : Expr) (more : ℤ) → at_most facts b (pos 1 -ℤ more) a ≡ false
    → stored ≡ bounded facts a.sym b.sym ((a.k +ℤ more) -ℤ b.k) → rule.cut_both stored a more b ≡ Some new → rule.assumed_at_most facts a more b ≡ Some new
unfolding rule.assumed_at_most
cut_behind facts stored new a b more other is cut = rw other (ap (λ f. rule.cut_both f a more b) (sym is) ∙ cut)
