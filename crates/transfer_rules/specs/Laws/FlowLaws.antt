-- States flow along edges as points do.
use Rattle.std.proofs.Common.{◌≡◌, ℕ, ◌<◌, List, [], ◌∷◌, length, Option, refl, sym, ap, subst}
use Rattle.cil_model.specs.declared.instruction.Instr.{Instr}
use Rattle.cil_model.specs.declared.place.Kind.{Kind}
use Rattle.cil_model.specs.declared.unit.Unit.{Unit as MethodUnit}
use Rattle.machine_points.specs.declared.point.Point.{Point}
use Rattle.merged_states.specs.Merging.{normal}
use Rattle.state_facts.specs.Holds.{HoldsAt}
use Rattle.state_facts.specs.StateFacts.{State}
use Rattle.transfer_rules.specs.Entry.{entry}
use Rattle.transfer_rules.specs.Flow.{Fits, along_edge, before_last, from_last, leaving, through, up_to_last}
use Rattle.transfer_rules.specs.Forms.{FitsStack}
use Rattle.transfer_rules.specs.Post.{post}
use Rattle.transfer_rules.specs.Laws.EntryLaws as begins_so
use Rattle.transfer_rules.specs.Laws.FlowSteps as flows
use Rattle.unit_flow.proofs.LawfulCode as lawful_code
use Rattle.unit_flow.specs.Flow.{Begins, GoesAlong, IsLawful, block_instrs, edge_at}
use Rattle.unit_flow.specs.declared.unit_flow.UnitFlow.{UnitFlow}

pub has_block : (code : UnitFlow) → IsLawful code → 0 < length code.graph.blocks
has_block code lawful = lawful_code.has_block code lawful

pub source_below : (code : UnitFlow) (edge : ℕ) → IsLawful code → edge < length code.graph.edges
    → (edge_at code edge).from < length code.graph.blocks
source_below code edge lawful below = (lawful_code.joins code lawful edge below).from

pub target_below : (code : UnitFlow) (edge : ℕ) → IsLawful code → edge < length code.graph.edges
    → (edge_at code edge).to < length code.graph.blocks
target_below code edge lawful below = (lawful_code.joins code lawful edge below).to

-- Through all instructions of a block but the last, and from there on.
through_parts : (unit : MethodUnit) (number : ℕ) (is : List Instr) (state : State)
    → through unit number is state ≡ from_last unit number is (up_to_last unit is state)
through_parts unit number [] state = refl
through_parts unit number (i ∷ []) state = refl
through_parts unit number (i ∷ j ∷ is) state = through_parts unit number (j ∷ is) (post unit i.op state)

-- A block up to its last instruction and then the edge come to the same as the edge.
pub along_is : (code : UnitFlow) (edge : ℕ) (a : State)
    → along_edge a code edge ≡ leaving (before_last a code (edge_at code edge).from) code edge
unfolding along_edge before_last leaving
along_is code edge a =
    ap normal (through_parts code.unit (edge_at code edge).number (block_instrs code (edge_at code edge).from) a)

pub along_fits : (code : UnitFlow) (edge : ℕ) (a : State) → IsLawful code → edge < length code.graph.edges
    → Fits code (edge_at code edge).from a → Fits code (edge_at code edge).to (along_edge a code edge)
along_fits code edge a lawful below fits = flows.along_fits code edge a lawful below fits

pub along_holds : (code : UnitFlow) (edge : ℕ) (a : State) (p q : Point) → IsLawful code
    → edge < length code.graph.edges → Fits code (edge_at code edge).from a → HoldsAt a p
    → GoesAlong code edge p q → HoldsAt (along_edge a code edge) q
along_holds code edge a p q lawful below fits holds goes =
    flows.along_holds code edge a p q lawful below fits holds goes

pub entry_fits : (code : UnitFlow) → IsLawful code → Fits code 0 (entry code.unit)
entry_fits code lawful =
    subst (λ (at : Option (List Kind)). FitsStack code.unit at (entry code.unit))
    (sym (lawful_code.first_kinds code lawful)) (begins_so.entry_fits code.unit lawful.formed)

pub entry_holds : (code : UnitFlow) (p : Point) → IsLawful code → Begins code.unit p → HoldsAt (entry code.unit) p
entry_holds code p lawful begins =
    subst (HoldsAt (entry code.unit)) (sym begins.is)
    (begins_so.entry_holds code.unit lawful.formed begins.index begins.args begins.heap begins.may)
