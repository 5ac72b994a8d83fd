-- What is asked of states whose text is made, and of those that are told apart by their texts.
use Rattle.std.specs.Prelude.{◌≡◌, ℕ, ◌^◌, ◌<◌, FitsSigned, List, length, Some, None}
use Rattle.std.specs.Int.{w64}
use Rattle.std.specs.List.{AllByRecursion}
use Rattle.array_contents.specs.Contents.{Contents, Segments}
use Rattle.array_segments.specs.SegmentLists.{HasForm as AreSegments}
use Rattle.domain_api.specs.declared.expr.Expr.{Expr}
use Rattle.frame_names.specs.declared.reference.Reference.{Reference}
use Rattle.state_facts.specs.Forms.{HasForm}
use Rattle.state_facts.specs.StateFacts.{StateFacts, State}
use Rattle.symbolic_values.specs.declared.def.Def.{Def}
use Rattle.symbolic_values.specs.declared.def.Def.TheVariants.{Eq, Lt, LtUn, NullTest, Sub}

-- There are segments for each reference, each of their form.
pub record AreSegmentsOf (references : List Reference) (contents : Contents) : Type 0 where
  pub each : length contents ≡ length references
  pub formed : AllByRecursion AreSegments contents

-- The constant of an expression has 64 bits.
abbrev pub IsShort : Expr → Type 0
IsShort e = FitsSigned w64 e.k

abbrev pub IsShortDef : Def → Type 0
IsShortDef (Eq a b) = IsShort a × IsShort b
IsShortDef (Lt a b) = IsShort a × IsShort b
IsShortDef (LtUn a b) = IsShort a × IsShort b
IsShortDef (NullTest r is_null) = Unit {0}
IsShortDef (Sub a b) = IsShort a × IsShort b

abbrev pub AreShortSegments : Segments → Type 0
AreShortSegments segments = AllByRecursion (AllByRecursion IsShort) segments.bounds

-- The numbers are those of the code: 64 bits count symbols and references, and constants have as many.
pub record HasShortNumbers (known : StateFacts) : Type 0 where
  pub symbols : length known.facts.ranges < 2 ^ 64
  pub references : length known.references < 2 ^ 64
  pub definitions : AllByRecursion (λ d. IsShortDef d.1) known.facts.definitions
  pub bounds : AllByRecursion (λ row. FitsSigned w64 row.k) known.facts.bounds
  pub contents : AllByRecursion AreShortSegments known.contents

-- What is known has its form and numbers of the code.
pub record IsPrintable (known : StateFacts) : Type 0 where
  pub form : HasForm known
  pub numbers : HasShortNumbers known

abbrev pub IsPrintableState : State → Type 0
IsPrintableState None = Unit {0}
IsPrintableState (Some known) = IsPrintable known

-- There is a state for each block, and each is printable.
pub record AreOfBlocks (blocks : List ℕ) (states : List State) : Type 0 where
  pub count : length states ≡ length blocks
  pub printable : AllByRecursion IsPrintableState states
