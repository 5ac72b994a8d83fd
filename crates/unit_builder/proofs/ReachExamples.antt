-- Small graphs, and what a number reaches in them.
use Rattle.std.proofs.Common.{◌≡◌, ℕ, ◌-◌, false, List, [], ◌∷◌, filter, filter_map, get_or, refl}
use Rattle.std.specs.Prelude.{nat_eq}
use Rattle.std.specs.List.{range_with_len}
use Rattle.unit_builder.specs.Met.{all_met, place_in}
use Rattle.unit_builder.specs.Reach.{reaches_in}

-- What stands after a number, in a list of lists; numbers are counted from 10.
abbrev behind : List (List ℕ) → ℕ → List ℕ
behind graph n = get_or graph (n - 10) []

-- All that is reached, rising.
abbrev all_reached : (ℕ → List ℕ) → ℕ → ℕ → List ℕ
all_reached next count from = filter (reaches_in nat_eq next count from) (range_with_len 10 count)

-- A cycle: 10 to 12, 12 to 11, 11 to 10. Each reaches all.
abbrev cycle : List (List ℕ)
cycle = (12 ∷ []) ∷ (10 ∷ []) ∷ (11 ∷ []) ∷ (10 ∷ []) ∷ []

pub cycle_reached : all_reached (behind cycle) 4 11 ≡ 10 ∷ 11 ∷ 12 ∷ []
cycle_reached = refl

-- One that calls itself reaches itself alone.
pub itself_reached : all_reached (behind ((10 ∷ []) ∷ (10 ∷ []) ∷ [])) 2 10 ≡ 10 ∷ []
itself_reached = refl

-- A diamond: two ways lead from 13 to 10, which stands in the list once.
abbrev diamond : List (List ℕ)
diamond = [] ∷ (10 ∷ []) ∷ (10 ∷ []) ∷ (12 ∷ 11 ∷ []) ∷ []

pub diamond_reached : all_reached (behind diamond) 4 13 ≡ 10 ∷ 11 ∷ 12 ∷ 13 ∷ []
diamond_reached = refl

-- As they are met, and their places in the order of the world: 13 first, and the others rising.
pub diamond_met : all_met (all_met (13 ∷ []) (12 ∷ 11 ∷ [])) (10 ∷ []) ≡ 13 ∷ 12 ∷ 11 ∷ 10 ∷ []
diamond_met = refl

pub diamond_places : filter_map (place_in (13 ∷ 10 ∷ 11 ∷ 12 ∷ [])) (12 ∷ 11 ∷ []) ≡ 3 ∷ 2 ∷ []
diamond_places = refl

-- 11 is not analysed, so that nothing stands after it: it is reached from 10, and 12 after it is not.
pub skipped_reached : all_reached (behind ((11 ∷ []) ∷ [] ∷ [] ∷ [])) 3 10 ≡ 10 ∷ 11 ∷ []
skipped_reached = refl

-- No more steps are needed than there are numbers, and with fewer a chain is not reached to its end.
pub chain_short : reaches_in nat_eq (behind ((11 ∷ []) ∷ (12 ∷ []) ∷ [] ∷ [])) 1 10 12 ≡ false
chain_short = refl
