-- The first two items of a vector made one.
use Rattle.std.proofs.Common.{◌≡◌, ◌≤◌, List, [], ◌∷◌, length, map, get_or, set, arith, refl}
use Rattle.std.specs.List.{remove}
use Rattle.array_segments.specs.Storing.{first_two}

pub second_removed : {X Y : Type 0} (view : X → Y) (xs : List X) → 2 ≤ length xs → map view (remove xs 1) ≡ first_two (λ first second. first) (map view xs)
second_removed view [] two = absurd (omega arith)
second_removed view (x ∷ []) two = absurd (omega arith)
second_removed view (x ∷ y ∷ xs) two = refl

pub two_made_one : {X : Type 0} (make : X → X → X) (xs : List X) (first second : X) → 2 ≤ length xs → first ≡ get_or xs 0 first → second ≡ get_or (remove xs 0) 0 second →
    set (remove xs 0) 0 (make first second) ≡ first_two make xs
two_made_one make [] first second two is_first is_second = absurd (omega arith)
two_made_one make (x ∷ []) first second two is_first is_second = absurd (omega arith)
two_made_one make (x ∷ y ∷ xs) first second two is_first is_second = λ i. make (is_first i) (is_second i) ∷ xs
