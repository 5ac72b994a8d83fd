-- How far a symbol lies above itself.
use Rattle.std.proofs.Common.{◌≡◌, ℕ, pos, ◌&&◌, Some}
use Rattle.std.proofs.lemmas.Bool.{cond_both}
use Rattle.pentagon_domain.proofs.Reaches as by_bounds
use Rattle.number_facts.specs.Facts.{Facts, has}
use Rattle.number_facts.specs.Gaps.{gap}

pub gap_same : (facts : Facts) (s t : ℕ) → s ≡ t → gap facts s t ≡ Some (pos 0)
unfolding gap
gap_same facts s t same = cond_both (has facts s && has facts t) _ _ (λ o. o ≡ Some (pos 0))
    (λ e. by_bounds.gap_with_same facts.bounds _ s t same) (λ e. by_bounds.gap_same facts.bounds s t same)
