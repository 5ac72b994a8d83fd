-- A unit with its flow graph and the kinds of its code, and how points of runs go along the edges of the graph.
use Rattle.std.specs.Prelude.{◌≡◌, ℕ, ◌+◌, Bool, true, nat_le, nat_lt, List, [], ◌∷◌, filter, get_or, slice_get, Option, Some, None}
use Rattle.cil_model.specs.Calls.{entry_frame}
use Rattle.cil_model.specs.Passes.{KindsOf, stack_at}
use Rattle.cil_model.specs.Runs.{LocalStep, MayBegin, instr_at}
use Rattle.cil_model.specs.Shapes.{shape_of}
use Rattle.cil_model.specs.Values.{Heap}
use Rattle.cil_model.specs.WellFormed.{IsWellFormed}
use Rattle.cil_model.specs.declared.instruction.Instr.{Instr}
use Rattle.cil_model.specs.declared.machine.Value.{Value}
use Rattle.cil_model.specs.declared.place.Kind.{Kind}
use Rattle.cil_model.specs.declared.unit.Unit.{Unit as MethodUnit}
use Rattle.flow_graph.specs.GraphOf.{graph_of}
use Rattle.flow_graph.specs.declared.graph.Edge.{Edge}
use Rattle.machine_points.specs.Points.{IsPointOf, lives_at, point}
use Rattle.machine_points.specs.declared.point.Point.{Point}
use Rattle.unit_flow.specs.Ways.{way_of}
use Rattle.unit_flow.specs.declared.unit_flow.UnitFlow.{UnitFlow}

-- The unit is well formed, and the graph and the kinds are its own.
pub record IsLawful (code : UnitFlow) : Type 0 where
  pub formed : IsWellFormed code.unit
  pub graph : code.graph ≡ graph_of code.unit
  pub kinds : KindsOf (shape_of code.unit) code.unit.instrs code.kinds

-- ---- blocks and edges

-- The offset lies before this one, if it is given.
abbrev pub is_before : Option ℕ → ℕ → Bool
is_before None at = true
is_before (Some end) at = nat_lt at end

-- The instructions from one IL offset on and before another, if it is given.
abbrev pub instrs_between : ℕ → Option ℕ → List Instr → List Instr
instrs_between start end is = filter (λ i. is_before end i.at) (filter (λ i. nat_le start i.at) is)

-- The IL offset where a block starts.
abbrev pub start_of : UnitFlow → ℕ → ℕ
start_of code block = get_or code.graph.blocks block 0

-- The instructions of a block: from its start to that of the next one.
abbrev pub block_instrs : UnitFlow → ℕ → List Instr
block_instrs code block =
    instrs_between (start_of code block) (slice_get code.graph.blocks (block + 1)) code.unit.instrs

-- The kinds at the start of a block, the top first. There are none where typing does not come.
abbrev pub kinds_at : UnitFlow → ℕ → Option (List Kind)
kinds_at code block = stack_at code.unit.instrs code.kinds (start_of code block)

abbrev pub no_edge : Edge
no_edge = record { from = 0; to = 0; number = 0 }

-- An edge is its place among the edges of the graph.
abbrev pub edge_at : UnitFlow → ℕ → Edge
edge_at code edge = get_or code.graph.edges edge no_edge

-- ---- points that go along an edge

-- The unit's frame at the one point is about to do this instruction, and by a step of its own it is at the other. A
-- call of a method gives any result and any heap that what the method ensures allows.
pub record Steps (unit : MethodUnit) (i : Instr) (p q : Point) : Type 0 where
  pub of : IsPointOf unit p
  pub to : instr_at unit.instrs p.frame.at ≡ Some i
  pub goes : LocalStep unit (lives_at p) (lives_at q)

-- It goes on by each of these instructions in turn, and by the last on the way of this number.
abbrev pub GoesThrough : MethodUnit → ℕ → List Instr → Point → Point → Type 0
GoesThrough unit number [] p q = ⊥
GoesThrough unit number (i ∷ []) p q = Steps unit i p q × (way_of i.op p.frame.stack ≡ number)
GoesThrough unit number (i ∷ j ∷ is) p q = (mid : Point) × Steps unit i p mid × GoesThrough unit number (j ∷ is) mid q

-- A point goes from the start of an edge's source through that block, and along the edge.
abbrev pub GoesAlong : UnitFlow → ℕ → Point → Point → Type 0
GoesAlong code edge p q =
    GoesThrough code.unit (edge_at code edge).number (block_instrs code (edge_at code edge).from) p q

-- The point is one with which a call of the unit may begin.
pub record Begins (unit : MethodUnit) (p : Point) : Type 0 where
  pub index : ℕ
  pub args : List Value
  pub heap : Heap
  pub may : MayBegin unit args heap
  pub is : p ≡ point (entry_frame unit index args heap) heap
