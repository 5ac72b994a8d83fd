-- What stays where a condition is assumed.
use Rattle.std.specs.Prelude.{◌≡◌, ◌≤◌, length, map, Some, None}
use Rattle.cil_model.specs.declared.place.Place.{Place}
use Rattle.domain_api.specs.declared.expr.Expr.{Expr}
use Rattle.frame_names.specs.declared.reference.Reference.{Reference}
use Rattle.state_facts.specs.Forms.{HasForm}
use Rattle.state_facts.specs.StateFacts.{StateFacts, State}

-- The type and the length of a reference.
abbrev pub shape_of : Reference → Place × Expr
shape_of r = (r.place, r.length)

-- What was there is there still: no symbol is lost, variables are as they were, and each reference has its type and its
-- length.
pub record StaysThere (before after : StateFacts) : Type 0 where
  pub form : HasForm after
  pub symbols : length before.facts.ranges ≤ length after.facts.ranges
  pub variables : after.variables ≡ before.variables
  pub references : map shape_of after.references ≡ map shape_of before.references

-- So it is in the state, where something is reached.
abbrev pub StaysThereIn : StateFacts → State → Type 0
StaysThereIn before None = Unit {0}
StaysThereIn before (Some after) = StaysThere before after
