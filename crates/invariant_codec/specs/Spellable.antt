-- States of which each count and each number fits its field.
use Rattle.std.specs.Prelude.{◌<◌, ◌^◌, FitsSigned, List, length}
use Rattle.std.specs.Int.{w64}
use Rattle.std.specs.List.{AllByRecursion}
use Rattle.abs_state.specs.StateParts.{AreParts, StateParts, parts_of}
use Rattle.array_contents.specs.Contents.{Segments}
use Rattle.domain_api.specs.declared.expr.Expr.{Expr}
use Rattle.state_facts.specs.StateFacts.{State}
use Rattle.symbolic_values.specs.declared.def.Def.{Def}
use Rattle.symbolic_values.specs.declared.def.Def.TheVariants.{Eq, Lt, LtUn, NullTest, Sub}

-- The constant of an expression is a number of 64 bits.
abbrev pub IsShort : Expr → Type 0
IsShort e = FitsSigned w64 e.k

abbrev pub IsShortDef : Def → Type 0
IsShortDef (Eq a b) = IsShort a × IsShort b
IsShortDef (Lt a b) = IsShort a × IsShort b
IsShortDef (LtUn a b) = IsShort a × IsShort b
IsShortDef (NullTest r is) = Unit {0}
IsShortDef (Sub a b) = IsShort a × IsShort b

abbrev pub AreShortBounds : Segments → Type 0
AreShortBounds segments = AllByRecursion (AllByRecursion IsShort) segments.bounds

-- The constants of bounds, of definitions and of what is known of items are numbers of 64 bits.
pub record HasShortConstants (parts : StateParts) : Type 0 where
  pub bounds : AllByRecursion (λ row. FitsSigned w64 row.k) parts.bounds
  pub definitions : AllByRecursion (λ d. IsShortDef d.1) parts.definitions
  pub contents : AllByRecursion AreShortBounds parts.contents

-- The counts of a state fit two bytes, those of bounds and pairs four, and constants are numbers of 64 bits.
pub record Fits (parts : StateParts) : Type 0 where
  pub symbols : length parts.ranges < 2 ^ 16
  pub references : length parts.references < 2 ^ 16
  pub variables : length parts.variables < 2 ^ 16
  pub bounds : length parts.bounds < 2 ^ 32
  pub definitions : length parts.definitions < 2 ^ 16
  pub apart : length parts.apart < 2 ^ 32
  pub short : HasShortConstants parts

-- It is a state, and its counts and numbers fit.
pub record IsSpellable (state : State) : Type 0 where
  pub form : AreParts (parts_of state)
  pub fits : Fits (parts_of state)

pub record AreSpellable (states : List State) : Type 0 where
  pub count : length states < 2 ^ 16
  pub each : AllByRecursion IsSpellable states
