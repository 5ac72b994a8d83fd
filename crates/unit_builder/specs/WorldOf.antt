-- The world of a method: the units of all that it reaches.
use Rattle.std.specs.Prelude.{◌≡◌, ℕ, ◌≤◌, ◌==◌, Bool, true, false, not, ◌&&◌, List, ◌∷◌, map, filter, filter_map, is_none, Option, Some, None, option_map, Result, Ok, Err, slice_index_or, if◌then◌else◌}
use Rattle.std.specs.List.{find}
use Rattle.std.specs.Option.{option_and_then}
use Rattle.asm_image.specs.Rows.{methods_of}
use Rattle.asm_image.specs.declared.method_row.MethodRow.{MethodRow}
use Rattle.cil_model.specs.declared.machine.World.{World}
use Rattle.cil_model.specs.declared.unit.Unit.{Unit as MethodUnit}
use Rattle.unit_builder.specs.Met.{met, place_in}
use Rattle.unit_builder.specs.Reach.{Reaches}
use Rattle.unit_builder.specs.Walks.{calls_of, is_reached, numbers, tokens_in, unit_at}
use Rattle.unit_builder.specs.declared.reach.Visited.{Visited}
use Rattle.unit_builder.specs.declared.world.WorldRefusal.{WorldRefusal}
use Rattle.unit_builder.specs.declared.world.WorldRefusal.TheVariants.{NotAnalysed, NoMemory}

-- ---- the world

-- The method, and after it the others among these that it reaches.
abbrev pub order_so_far : List ℕ → ℕ → List MethodRow → List ℕ
order_so_far asm from methods = from ∷ filter (λ token. not (token == from) && is_reached asm from token) (tokens_in methods)

-- The method, and after it the others that it reaches, by rising token.
unfoldable pub world_tokens : List ℕ → ℕ → List ℕ
world_tokens asm from = order_so_far asm from (methods_of asm)

-- The places of methods in such an order.
abbrev pub places_in : List ℕ → List ℕ → List ℕ
places_in order tokens = filter_map (place_in order) tokens

-- Their units, and for each of them the places of its callees.
unfoldable pub world_of : List ℕ → ℕ → World
world_of asm from = record {
  units = filter_map (unit_at asm) (world_tokens asm from);
  callee = map (λ token. places_in (world_tokens asm from) (calls_of asm token)) (world_tokens asm from);
}

-- ---- methods that are not analysed

-- The method is reached, and not analysed.
abbrev pub is_missing : List ℕ → ℕ → ℕ → Bool
is_missing asm from token = is_reached asm from token && is_none (unit_at asm token)

-- The token of the first such method among these.
abbrev pub first_missing : List ℕ → ℕ → List MethodRow → Option ℕ
first_missing asm from methods = find (is_missing asm from) (tokens_in methods)

-- The least token of such a method.
unfoldable pub least_skipped : List ℕ → ℕ → Option ℕ
least_skipped asm from = first_missing asm from (methods_of asm)

-- A method is reached that is not analysed, and no token of another such one is less.
pub record IsLeastSkipped (asm : List ℕ) (from : ℕ) (token : ℕ) : Type 0 where
  pub reached : Reaches (calls_of asm) from token
  pub skipped : unit_at asm token ≡ None
  pub least : (other : ℕ) → Reaches (calls_of asm) from other → unit_at asm other ≡ None → token ≤ other

-- ---- what comes of the call

-- A world of which P holds, where no method is missing; else the token of the first that is; unless memory ran out.
abbrev pub JudgesWorld : {X : Type 0} → Result X WorldRefusal → Option ℕ → (X → Type 0) → Type 0
JudgesWorld (Ok x) missing P = (missing ≡ None) × P x
JudgesWorld (Err (NotAnalysed token)) missing P = missing ≡ Some token.0
JudgesWorld (Err NoMemory) missing P = Unit {0}

-- The token is one of which P holds, where a method is missing.
abbrev pub IfNotAnalysed : {X : Type 0} → Result X WorldRefusal → (ℕ → Type 0) → Type 0
IfNotAnalysed (Err (NotAnalysed token)) P = P token.0
IfNotAnalysed result P = Unit {0}

-- P holds, unless memory ran out.
abbrev pub UnlessNoMemory : {X : Type 0} → Result X WorldRefusal → Type 0 → Type 0
UnlessNoMemory (Err NoMemory) P = Unit {0}
UnlessNoMemory result P = P

-- ---- the order, step by step

-- The method of this token comes next, where it is reached. It is refused where it is not analysed.
abbrev pub PutsNext : List ℕ → ℕ → ℕ → List ℕ → List ℕ → Result (Unit {0}) WorldRefusal → Type 0
PutsNext asm from token old new (Ok _) = (is_missing asm from token ≡ false) × (new ≡ (if is_reached asm from token then met old token else old))
PutsNext asm from token old new (Err (NotAnalysed refused)) = (is_missing asm from token ≡ true) × (refused.0 ≡ token)
PutsNext asm from token old new (Err NoMemory) = Unit {0}

-- ---- what was made of the methods

-- What was made of a method, where that is kept for each of those that were met.
abbrev pub made : List ℕ → List (Option Visited) → ℕ → Option Visited
made met visits token = option_and_then (λ place. slice_index_or visits place None) (place_in met token)

abbrev pub unit_made : List ℕ → List (Option Visited) → ℕ → Option MethodUnit
unit_made met visits token = option_map (λ visited. visited.unit) (made met visits token)

abbrev pub places_made : List ℕ → List ℕ → List (Option Visited) → ℕ → Option (List ℕ)
places_made order met visits token = option_map (λ visited. places_in order (numbers visited.callees.items)) (made met visits token)
