-- Conditions one after another, each judged in the state that assumes those before it.
use Rattle.std.specs.Prelude.{Bool, true, ◌&&◌, List, [], ◌∷◌}
use Rattle.state_facts.specs.StateFacts.{State}
use Rattle.state_obligations.specs.Assumed.{assume}
use Rattle.state_obligations.specs.Entailed.{is_entailed}
use Rattle.state_obligations.specs.declared.condition.Condition.{Condition}

-- Whether all are entailed, and the state that assumes them.
pub record Judged : Type 0 where
  pub entailed : Bool
  pub state : State

abbrev pub with_entailed : Bool → Judged → Judged
with_entailed is j = record j { entailed = is && j.entailed }

abbrev pub judged : List Condition → State → Judged
judged [] state = record { entailed = true; state = state }
judged (c ∷ cs) state = with_entailed (is_entailed c state) (judged cs (assume c state))
