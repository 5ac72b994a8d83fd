-- States of a unit's shape that bytes spell have a text.
use Rattle.std.proofs.Common.{ℕ, List, [], ◌∷◌, Some, None, refl, arith}
use Rattle.std.specs.List.{AllByRecursion}
use Rattle.abs_state.specs.StateParts.{AreParts, parts_of}
use Rattle.invariant_codec.specs.Spellable as codec
use Rattle.invariant_codec.specs.Spellable.{AreSpellable, IsSpellable}
use Rattle.invariant_text.specs.Shape as texts
use Rattle.invariant_text.specs.Shape.{AreOfBlocks, IsPrintableState}
use Rattle.state_facts.specs.StateFacts.{State}
use Rattle.symbolic_values.specs.declared.def.Def.{Def}
use Rattle.symbolic_values.specs.declared.def.Def.TheVariants.{Eq, Lt, LtUn, NullTest, Sub}
use Rattle.transfer_rules.specs.Inductive.{HasShape}
use Rattle.unit_flow.specs.declared.unit_flow.UnitFlow.{UnitFlow}

short_def : (def : Def) → codec.IsShortDef def → texts.IsShortDef def
short_def (Eq a b) is = is
short_def (Lt a b) is = is
short_def (LtUn a b) is = is
short_def (NullTest r test) is = tt
short_def (Sub a b) is = is

short_definitions : (definitions : List (ℕ × Def)) → AllByRecursion (λ d. codec.IsShortDef d.1) definitions
    → AllByRecursion (λ d. texts.IsShortDef d.1) definitions
short_definitions [] all = tt
short_definitions (d ∷ definitions) all = (short_def d.1 all.0, short_definitions definitions all.1)

printable : (state : State) → IsSpellable state → IsPrintableState state
printable None is = tt
printable (Some known) is = record {
  form = (is.form.reached refl).form;
  numbers = record {
    symbols = omega (arith, is.fits.symbols);
    references = omega (arith, is.fits.references);
    definitions = short_definitions known.facts.definitions is.fits.short.definitions;
    bounds = is.fits.short.bounds;
    contents = is.fits.short.contents;
  };
}

all_printable : (states : List State) → AllByRecursion IsSpellable states → AllByRecursion IsPrintableState states
all_printable [] all = tt
all_printable (state ∷ states) all = (printable state all.0, all_printable states all.1)

pub of_blocks : (code : UnitFlow) (states : List State) → HasShape code states → AreSpellable states
    → AreOfBlocks code.graph.blocks states
of_blocks code states shape are = record { count = shape.count; printable = all_printable states are.each }

-- Their bounds and pairs are in order.
pub all_ordered : (states : List State) → AllByRecursion IsSpellable states
    → AllByRecursion (λ state. AreParts (parts_of state)) states
all_ordered [] all = tt
all_ordered (state ∷ states) all = (all.0.form, all_ordered states all.1)
