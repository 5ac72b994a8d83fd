-- Which methods of an assembly a method reaches, and a walk that meets them.
use Rattle.std.specs.Prelude.{◌≡◌, ◌↔◌, ℕ, ◌<◌, ◌≤◌, Bool, true, List, [], length, map, is_some, Option, Some, None, IsSome, Contains, nat_eq, slice_index, slice_index_or}
use Rattle.std.specs.Option.{option_and_then, option_map_or}
use Rattle.asm_image.specs.Bodies.{method_of}
use Rattle.asm_image.specs.Rows.{methods_of}
use Rattle.asm_image.specs.declared.method_row.MethodRow.{MethodRow}
use Rattle.cc_base.specs.declared.token.Token.{Token}
use Rattle.cil_model.specs.declared.unit.Unit.{Unit as MethodUnit}
use Rattle.unit_builder.specs.Met.{place_in}
use Rattle.unit_builder.specs.Bodies.{callee_keys}
use Rattle.unit_builder.specs.Meanings.{as_token}
use Rattle.method_unit.specs.Units.{IsUnit}
use Rattle.unit_builder.specs.Outcomes.{outcome_of}
use Rattle.unit_builder.specs.Reach.{Reaches, reaches_in}
use Rattle.unit_builder.specs.Scopes.{scope_of}
use Rattle.unit_builder.specs.declared.entry.Outcome.{Outcome}
use Rattle.unit_builder.specs.declared.entry.Outcome.TheVariants.{Analysed, Skipped}
use Rattle.unit_builder.specs.declared.reach.Visited.{Visited}

-- ---- calls

abbrev pub numbers : List Token → List ℕ
numbers tokens = map (λ token. token.0) tokens

abbrev pub unit_by : Outcome → Option MethodUnit
unit_by (Analysed unit) = Some unit
unit_by (Skipped reason) = None

abbrev pub calls_by : List ℕ → Outcome → List ℕ
calls_by callees (Analysed unit) = callees
calls_by callees (Skipped reason) = []

-- The tokens of the methods that are called in the body of a method, in order of first use; none where it is not
-- analysed.
abbrev pub body_calls : List ℕ → MethodRow → List ℕ
body_calls asm method = calls_by (callee_keys (scope_of asm) method) (outcome_of asm method)

-- The same of the method that a token names.
unfoldable pub calls_of : List ℕ → ℕ → List ℕ
calls_of asm token = option_map_or (body_calls asm) (method_of asm (as_token token)) []

-- The unit of the method that a token names, where the method is analysed.
unfoldable pub unit_at : List ℕ → ℕ → Option MethodUnit
unit_at asm token = option_and_then (λ method. unit_by (outcome_of asm method)) (method_of asm (as_token token))

-- ---- reach

-- A method reaches another. No way to it has to be longer than there are methods.
unfoldable pub is_reached : List ℕ → ℕ → ℕ → Bool
is_reached asm from token = reaches_in nat_eq (calls_of asm) (length (methods_of asm)) from token

-- The tokens of methods. Those of all methods of an assembly rise.
abbrev pub tokens_in : List MethodRow → List ℕ
tokens_in methods = map (λ method. method.token.0) methods

-- ---- a walk

-- This was made of the method that a token names.
pub record IsVisited (asm : List ℕ) (token : ℕ) (visited : Visited) : Type 0 where
  pub unit : unit_at asm token ≡ Some visited.unit
  pub is_unit : IsUnit visited.unit
  pub callees : numbers visited.callees.items ≡ calls_of asm token

abbrev pub Tells : List ℕ → ℕ → Option Visited → Type 0
Tells asm token None = unit_at asm token ≡ None
Tells asm token (Some visited) = IsVisited asm token visited

-- The methods that it calls.
abbrev pub calls_in : Option Visited → List Token
calls_in None = []
calls_in (Some visited) = visited.callees.items

-- The methods that were met on the way from a method, the first of which were visited.
pub record IsWalk (asm : List ℕ) (from : ℕ) (tokens : List ℕ) (visits : List (Option Visited)) : Type 0 where
  pub start : place_in tokens from ≡ Some 0
  pub there : (place : ℕ) → place < length tokens → IsSome (method_of asm (as_token (slice_index tokens place)))
  pub near : (place : ℕ) → place < length tokens → reaches_in nat_eq (calls_of asm) place from (slice_index tokens place) ≡ true
  pub visited : length visits ≤ length tokens
  pub told : (place : ℕ) → place < length visits → Tells asm (slice_index tokens place) (slice_index_or visits place None)
  pub closed : (place : ℕ) (token : ℕ) → place < length visits → Contains (calls_of asm (slice_index tokens place)) token → IsSome (place_in tokens token)

-- All methods that a method reaches were met, no others, and all of them visited.
pub record IsWhole (asm : List ℕ) (from : ℕ) (tokens : List ℕ) (visits : List (Option Visited)) : Type 0 where
  pub met : (token : ℕ) → is_some (place_in tokens token) ≡ is_reached asm from token
  pub reached : (token : ℕ) → (is_reached asm from token ≡ true) ↔ Reaches (calls_of asm) from token
  pub there : (token : ℕ) → is_reached asm from token ≡ true → IsSome (method_of asm (as_token token))
  pub all : length visits ≡ length tokens
  pub told : (place : ℕ) → place < length visits → Tells asm (slice_index tokens place) (slice_index_or visits place None)
