-- What follows of a bound frame.
use Rattle.std.specs.Prelude.{ℕ, Bool, true, ◌&&◌, List, [], ◌∷◌, drop, get_or}
use Rattle.std.specs.List.{list_all}
use Rattle.alias_facts.specs.NullnessOf.{entailed}
use Rattle.alias_facts.specs.PairsOf.{Pair}
use Rattle.frame_names.specs.ApartPairs.{cannot_be_same}
use Rattle.frame_names.specs.Frames.{nullness_at}
use Rattle.frame_names.specs.declared.reference.Reference.{Reference}

-- What is known of each reference, from 1 on, is known of what it is bound to.
abbrev pub all_entailed : List Reference → List Reference → List ℕ → Bool
all_entailed a [] bound = true
all_entailed a (known ∷ b) bound =
    entailed (nullness_at a (get_or bound 0 0)) known.nullness && all_entailed a b (drop 1 bound)

-- What the references of each pair are bound to cannot be the same array.
abbrev pub all_apart : List Reference → List Pair → List ℕ → List Pair → Bool
all_apart a kept bound pairs =
    list_all (λ pair. cannot_be_same a kept (get_or bound pair.0 0) (get_or bound pair.1 0)) pairs
