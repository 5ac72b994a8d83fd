-- What flows into a block, joined edge by edge.
use Rattle.std.specs.Prelude.{ℕ, List, Option, Some, None}
use Rattle.std.specs.List.{reduce}
use Rattle.widening_engine.specs.Rounds.{Flow, incoming_by}

-- The state joined to the ones before it, if there are any.
abbrev pub joined : {S : Type 0} → (S → S → S) → Option S → S → S
joined join None state = state
joined join (Some first) state = join first state

-- The join of what flows into a block by these edges, if anything does.
unfoldable pub merged_by : {S : Type 0} → Flow S → List ℕ → List S → ℕ → Option S
merged_by flow edges states block = reduce flow.join (incoming_by flow edges states block)
