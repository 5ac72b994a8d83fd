-- Which methods of files a method reaches by calls, and its world.
use Rattle.std.specs.Prelude.{ℕ, Bool, not, ◌&&◌, ◌==◌, List, [], ◌∷◌, length, map, filter, filter_map, Option, nat_eq}
use Rattle.std.specs.List.{flat_map, range_with_len}
use Rattle.std.specs.Option.{option_and_then, option_map_or}
use Rattle.asm_image.specs.Rows.{methods_of}
use Rattle.asm_image.specs.declared.method_row.MethodRow.{MethodRow}
use Rattle.cil_model.specs.declared.machine.World.{World}
use Rattle.cil_model.specs.declared.unit.Unit.{Unit as MethodUnit}
use Rattle.unit_builder.specs.Bodies.{callee_keys}
use Rattle.unit_builder.specs.Outcomes.{outcome_in}
use Rattle.unit_builder.specs.Reach.{reaches_in}
use Rattle.unit_builder.specs.Scopes.{Files, Scope, file_of, key_at, scope_in}
use Rattle.unit_builder.specs.Walks.{calls_by, unit_by}
use Rattle.unit_builder.specs.WorldOf.{places_in}

-- ---- calls

-- The keys of the methods that are called in the body of a method, in order of first use; none where it is not
-- analysed.
abbrev pub calls_of_method : Scope → MethodRow → List ℕ
calls_of_method scope method = calls_by (callee_keys scope method) (outcome_in scope method)

-- The same of the method of a key.
unfoldable pub calls_in : Files → ℕ → List ℕ
calls_in files key = option_map_or (calls_of_method (scope_in files (file_of key))) (files.method key) []

-- The unit of the method of a key, where the method is analysed.
unfoldable pub unit_in : Files → ℕ → Option MethodUnit
unit_in files key = option_and_then (λ method. unit_by (outcome_in (scope_in files (file_of key)) method)) (files.method key)

-- ---- reach

-- The keys of the methods of a file.
abbrev pub keys_of_file : Files → ℕ → List ℕ
keys_of_file files file = map (λ method. key_at file method.token.0) (methods_of (files.bytes file))

-- The keys of all methods, one file after another.
unfoldable pub keys_in : Files → List ℕ
keys_in files = flat_map (keys_of_file files) (range_with_len 0 files.count)

-- A method reaches another. No way to it has to be longer than there are methods.
unfoldable pub is_reached_in : Files → ℕ → ℕ → Bool
is_reached_in files from key = reaches_in nat_eq (calls_in files) (length (keys_in files)) from key

-- ---- the world

-- The method, and after it the others that it reaches, in the order of all keys.
unfoldable pub world_keys : Files → ℕ → List ℕ
world_keys files from = from ∷ filter (λ key. not (key == from) && is_reached_in files from key) (keys_in files)

-- Their units, and for each of them the places of its callees.
unfoldable pub world_in : Files → ℕ → World
world_in files from = record {
  units = filter_map (unit_in files) (world_keys files from);
  callee = map (λ key. places_in (world_keys files from) (calls_in files key)) (world_keys files from);
}
