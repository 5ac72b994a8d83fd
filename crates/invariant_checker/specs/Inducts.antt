-- Whether states are an invariant, as a test. transfer_rules says what it means (specs/Inductive.antt there).
use Rattle.std.specs.Prelude.{ℕ, ◌==◌, Bool, true, false, ◌&&◌, List, length, reverse, Option, Some, None}
use Rattle.std.specs.List.{list_all, range_with_len}
use Rattle.abs_state.specs.FormTests.{has_form}
use Rattle.abs_state.specs.StateParts.{parts_of}
use Rattle.cil_model.specs.declared.place.Kind.{Kind}
use Rattle.cil_model.specs.declared.unit.Unit.{Unit as MethodUnit}
use Rattle.merged_states.specs.Inclusion.{is_included}
use Rattle.state_facts.specs.StateFacts.{State}
use Rattle.transfer_rules.specs.Entry.{entry}
use Rattle.transfer_rules.specs.FitTests.{fit_stack}
use Rattle.transfer_rules.specs.Flow.{along_edge}
use Rattle.transfer_rules.specs.Inductive.{state_at}
use Rattle.unit_flow.specs.Flow.{edge_at, kinds_at}
use Rattle.unit_flow.specs.declared.unit_flow.UnitFlow.{UnitFlow}

-- Nothing is reached, or what is known has its form and the variables fit. Where typing does not come, nothing is
-- reached.
abbrev pub fits_stack : MethodUnit → Option (List Kind) → State → Bool
fits_stack unit stack None = true
fits_stack unit None (Some known) = false
fits_stack unit (Some stack) (Some known) =
    has_form (parts_of (Some known)) && fit_stack unit (reverse stack) (Some known)

-- The state of a block fits it.
abbrev pub fits_block : UnitFlow → List State → ℕ → Bool
fits_block code states block = fits_stack code.unit (kinds_at code block) (state_at states block)

-- There is a state for each block, and it fits the block.
abbrev pub has_shape : UnitFlow → List State → Bool
has_shape code states =
    length states == length code.graph.blocks
    && list_all (fits_block code states) (range_with_len 0 (length states))

-- The state along an edge from that of its source is included in that of its target.
abbrev pub is_carried : UnitFlow → List State → ℕ → Bool
is_carried code states edge =
    is_included (along_edge (state_at states (edge_at code edge).from) code edge)
    (state_at states (edge_at code edge).to)

-- The states have the unit's shape. The one where the unit begins is included in that of the first block, and the one
-- along each edge in that of its target.
unfoldable pub is_inductive : UnitFlow → List State → Bool
is_inductive code states =
    has_shape code states && is_included (entry code.unit) (state_at states 0)
    && list_all (is_carried code states) (range_with_len 0 (length code.graph.edges))
