-- How many variables, references and symbols states have.
use Rattle.std.specs.Prelude.{◌+◌, ◌^◌, ◌<◌, ◌≤◌, List, length}
use Rattle.std.specs.List.{AllByRecursion}
use Rattle.std.specs.Option.{ForSome}
use Rattle.state_facts.specs.StateFacts.{StateFacts, State}

-- There are no more references than variables, and no more symbols than variables and references together. So it is
-- where each is numbered by its first use.
pub record HasFewNames (known : StateFacts) : Type 0 where
  pub references : length known.references ≤ length known.variables
  pub symbols : length known.facts.ranges ≤ length known.variables + length known.references

-- There are fewer than 2^16 of each.
pub record IsSmall (known : StateFacts) : Type 0 where
  pub variables : length known.variables < 2 ^ 16
  pub references : length known.references < 2 ^ 16
  pub symbols : length known.facts.ranges < 2 ^ 16

-- There are fewer than 2^16 states, and each in which something is reached is small.
pub record AreSmall (states : List State) : Type 0 where
  pub count : length states < 2 ^ 16
  pub each : AllByRecursion (λ state. ForSome state IsSmall) states
