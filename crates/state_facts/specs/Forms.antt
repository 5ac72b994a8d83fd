-- The form of what is known: it speaks of what is there.
use Rattle.std.specs.Prelude.{ℕ, ◌<◌, ◌≤◌, List, [], ◌∷◌, length, map}
use Rattle.std.specs.List.{AllByRecursion}
use Rattle.alias_facts.specs.PairsOf.{Pair}
use Rattle.array_contents.specs.Contents.{AreFormed}
use Rattle.cil_model.specs.declared.place.Place.{Place}
use Rattle.cil_model.specs.declared.place.Place.TheVariants as places
use Rattle.domain_api.specs.declared.expr.Expr.{Expr}
use Rattle.number_facts.specs.Facts.{AreNarrow}
use Rattle.number_facts.specs.Holds.{AreNamed}
use Rattle.symbolic_values.specs.Pairing.{IsNear}
use Rattle.symbolic_values.specs.declared.def.Def.{Def}
use Rattle.symbolic_values.specs.declared.def.Def.TheVariants.{Eq, Lt, LtUn, NullTest, Sub}
use Rattle.state_facts.specs.StateFacts.{StateFacts}
use Rattle.frame_names.specs.declared.reference.Reference.{Reference}
use Rattle.frame_names.specs.declared.var.Var.{Var}
use Rattle.frame_names.specs.declared.var.Var.TheVariants as vars

-- The symbol of an expression is there, of so many, and its constant is one of -2^32 to 2^32.
pub record IsNumber (symbols : ℕ) (e : Expr) : Type 0 where
  pub there : e.sym ≤ symbols
  pub near : IsNear e

-- What a variable has is there, where there are so many symbols and references.
abbrev pub IsVar : (symbols references : ℕ) → Var → Type 0
IsVar symbols references (vars.Number e) = IsNumber symbols e
IsVar symbols references (vars.Reference r) = r ≤ references
IsVar symbols references vars.Text = Unit {0}
IsVar symbols references (vars.Address r e) = (r ≤ references) × IsNumber symbols e

abbrev pub IsArrayPlace : Place → Type 0
IsArrayPlace places.Void = ⊥
IsArrayPlace places.Bool = ⊥
IsArrayPlace places.Int = ⊥
IsArrayPlace places.Bools = Unit {0}
IsArrayPlace places.Ints = Unit {0}

pub record IsReference (symbols : ℕ) (r : Reference) : Type 0 where
  pub place : IsArrayPlace r.place
  pub length_is : IsNumber symbols r.length

-- The reference that a null test names is there.
abbrev pub TestsOf : ℕ → Def → Type 0
TestsOf references (Eq a b) = Unit {0}
TestsOf references (Lt a b) = Unit {0}
TestsOf references (LtUn a b) = Unit {0}
TestsOf references (NullTest r is) = r ≤ references
TestsOf references (Sub a b) = Unit {0}

-- The symbols that are defined rise, so that each is defined once at most.
abbrev pub SymbolsRise : List (ℕ × Def) → Type 0
SymbolsRise [] = Unit {0}
SymbolsRise (d ∷ definitions) = AllByRecursion (λ later. d.0 < later.0) definitions × SymbolsRise definitions

-- And they are symbols from 1 on: symbol 0 is the number 0, which has no definition.
abbrev pub AreRising : List (ℕ × Def) → Type 0
AreRising definitions = AllByRecursion (λ d. 1 ≤ d.0) definitions × SymbolsRise definitions

-- Both references of a pair are there, of so many.
abbrev pub EndsBy : ℕ → Pair → Type 0
EndsBy references p = (p.0 ≤ references) × (p.1 ≤ references)

-- The length of each reference.
abbrev pub lengths_of : List Reference → List Expr
lengths_of references = map (λ r. r.length) references

-- Ranges are of int32, what is named is there, and there are segments for each reference.
pub record HasForm (known : StateFacts) : Type 0 where
  pub narrow : AreNarrow known.facts
  pub named : AreNamed known.facts
  pub rising : AreRising known.facts.definitions
  pub tests : AllByRecursion (λ d. TestsOf (length known.references) d.1) known.facts.definitions
  pub variables : AllByRecursion (IsVar (length known.facts.ranges) (length known.references)) known.variables
  pub references : AllByRecursion (IsReference (length known.facts.ranges)) known.references
  pub pairs : AllByRecursion (EndsBy (length known.references)) known.apart
  pub contents : AreFormed (length known.facts.ranges) (lengths_of known.references) known.contents

-- What is handed to a call is there.
abbrev pub HasVar : StateFacts → Var → Type 0
HasVar known v = IsVar (length known.facts.ranges) (length known.references) v

abbrev pub HasReference : StateFacts → ℕ → Type 0
HasReference known r = r ≤ length known.references

abbrev pub HasNumber : StateFacts → Expr → Type 0
HasNumber known e = IsNumber (length known.facts.ranges) e
