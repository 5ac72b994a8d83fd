-- Methods in the order in which they are met, each once.
use Rattle.std.specs.Prelude.{◌≡◌, ℕ, suc, ◌+◌, ◌<◌, ◌≤◌, ◌==◌, ◌^◌, not, List, [], ◌∷◌, ◌++◌, length, slice_index, count_by, Option, Some, None, option_map, if◌then◌else◌}

-- So many methods of an assembly, and the tokens of those that were met.
pub record Order : Type 0 where
  pub count : ℕ
  pub tokens : List ℕ

-- The place of a token among others.
abbrev pub place_in : List ℕ → ℕ → Option ℕ
place_in [] token = None
place_in (first ∷ others) token = if first == token then Some 0 else option_map suc (place_in others token)

-- Behind those that were met comes this one, unless it is one of them.
abbrev pub met_by : List ℕ → ℕ → Option ℕ → List ℕ
met_by order token None = order ++ token ∷ []
met_by order token (Some place) = order

abbrev pub met : List ℕ → ℕ → List ℕ
met order token = met_by order token (place_in order token)

-- So do these, one after another.
abbrev pub all_met : List ℕ → List ℕ → List ℕ
all_met order [] = order
all_met order (token ∷ tokens) = all_met (met order token) tokens

-- ---- the table of places

-- The token of the first method of an assembly. The others follow it.
abbrev pub first_method : ℕ
first_method = 0x06000001

-- The token is that of one of so many methods.
pub record IsAmong (count token : ℕ) : Type 0 where
  pub from : first_method ≤ token
  pub below : token < first_method + count

-- A place counted from 1, and 0 for none.
abbrev pub counted : Option ℕ → ℕ
counted None = 0
counted (Some place) = suc place

-- The table tells the place of each method in the order.
pub record TellsPlaces (places order : List ℕ) : Type 0 where
  pub short : first_method + length places ≤ 2 ^ 32
  pub among : (place : ℕ) → place < length order → IsAmong (length places) (slice_index order place)
  pub each : (place : ℕ) → place < length order → place_in order (slice_index order place) ≡ Some place
  pub cells : (index : ℕ) → index < length places → slice_index places index ≡ counted (place_in order (first_method + index))
  pub filled : count_by (λ cell. not (cell == 0)) places ≡ length order
