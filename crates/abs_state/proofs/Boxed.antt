-- What a state keeps in a box is what its view has.
use Rattle.std.proofs.Common.{◌≡◌, Box, Global, Option, Some, sym, ap, ◌∙◌, subst}
use Rattle.std.specs.Option.{option_map}
use Rattle.frame_names.specs.Frames.{AreAlike}
use Rattle.merged_states.specs.Alike.{AreLikeStates}
use Rattle.merged_states.proofs.Handed.{comparable_alike}
use Rattle.state_facts.specs.StateFacts.{State, StateFacts}
use Rattle.state_facts.specs.declared.known.Known.{Known}

pub boxed : {o : Option (Box Known Global)} {held : Box Known Global} {known : StateFacts} → o ≡ Some held → known ≡ held.value
    → option_map (λ b. b.value) o ≡ Some known
boxed is value = ap (option_map (λ b. b.value)) is ∙ ap Some (sym value)

pub alike_known : (first second : State) (a b : StateFacts) → first ≡ Some a → second ≡ Some b → AreLikeStates first second
    → AreAlike a.variables b.variables
alike_known first second a b first_is second_is like = comparable_alike a b
    (subst (λ s. AreLikeStates s (Some b)) first_is (subst (λ s. AreLikeStates first s) second_is like))
