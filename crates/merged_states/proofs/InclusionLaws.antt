-- What an answer of inclusion tells.
use Rattle.std.proofs.Common.{◌≡◌, Bool, sym, ◌∙◌}
use Rattle.merged_states.specs.Following.{TellsFollowing}
use Rattle.merged_states.specs.Inclusion.{is_included_known}
use Rattle.merged_states.specs.Laws.StatesHold.{known_included}
use Rattle.state_facts.specs.Forms.{HasForm}
use Rattle.state_facts.specs.StateFacts.{StateFacts}

pub answer_tells : (a b : StateFacts) → HasForm a → HasForm b → (answer : Bool) → answer ≡ is_included_known a b
    → TellsFollowing a b answer
answer_tells a b first second answer told = λ is. known_included a b first second (sym told ∙ is)
