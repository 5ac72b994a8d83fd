-- States that are seen to be printable.
use Rattle.std.proofs.Common.{◌≡◌, true, Some, None, refl, sym, subst}
use Rattle.abs_state.specs.StateParts.{AreParts, StateParts, known_of, parts_of}
use Rattle.state_facts.specs.StateFacts.{State}
use Rattle.invariant_text.specs.Shape.{HasShortNumbers, IsPrintableState}

-- Of a state with these parts, whose numbers are those of the code.
pub printable_state : (state : State) (parts : StateParts) → parts ≡ parts_of state → AreParts (parts_of state)
    → HasShortNumbers (known_of parts) → IsPrintableState state
printable_state None parts is are short = tt
printable_state (Some known) parts is are short = record {
  form = (are.reached refl).form;
  numbers = subst (λ (p : StateParts). HasShortNumbers (known_of p)) is short;
}
