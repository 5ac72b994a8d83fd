-- Parameters and the kinds that they take.
use Rattle.std.proofs.Common.{◌≡◌, ◌≢◌, suc, Bool, true, false, ◌&&◌, List, [], ◌∷◌, length, refl, ap, ◌∙◌}
use Rattle.cil_model.specs.Kinds.{takes, take_each}
use Rattle.cil_model.specs.declared.place.Kind.{Kind}
use Rattle.cil_model.specs.declared.place.Place.{Place}

and_false : (b : Bool) → (b && false) ≡ false
and_false true = refl
and_false false = refl

-- There is a kind for each place.
pub take_each-lengths : (places : List Place) (kinds : List Kind) → length places ≢ length kinds → take_each places kinds ≡ false
take_each-lengths [] [] h = absurd (h refl)
take_each-lengths [] (kind ∷ kinds) h = refl
take_each-lengths (place ∷ places) [] h = refl
take_each-lengths (place ∷ places) (kind ∷ kinds) h =
    ap (λ b. takes place kind && b) (take_each-lengths places kinds (λ e. h (ap suc e))) ∙ and_false (takes place kind)

pub ruleset lengths = (take_each-lengths)
