-- The graphs of three small codes: straight, a loop whose test stands at its end, and a switch with a target twice.
use Rattle.std.proofs.Common.{◌≡◌, ℕ, List, [], ◌∷◌, refl}
use Rattle.cil_model.specs.declared.instruction.Op.{Op}
use Rattle.cil_model.specs.declared.instruction.Op.TheVariants as ops
use Rattle.cil_model.specs.declared.instruction.Test.TheVariants as tests
use Rattle.cil_model.specs.declared.place.Place.TheVariants as places
use Rattle.cil_model.specs.declared.unit.Unit.{Unit as MethodUnit}
use Rattle.cil_model.proofs.Laid.{method}
use Rattle.flow_graph.specs.GraphOf.{graph_of}
use Rattle.flow_graph.specs.declared.graph.Edge.{Edge}

-- A method with a body alone, and an edge.
abbrev code : List (ℕ × Op) → MethodUnit
code = method [] places.Void [] [] [] 0 []

abbrev edge : ℕ → ℕ → ℕ → Edge
edge from to number = record { from = from; to = to; number = number }

pub straight : graph_of (code ((1, ops.Nop) ∷ (1, ops.Return) ∷ [])) ≡ record { blocks = 0 ∷ []; edges = []; heads = [] }
straight = refl

-- 0 goes to 3, 2 runs into 3, 3 goes back to 2 or on to 6.
pub loop :
    graph_of (code ((2, ops.Branch tests.Always 3) ∷ (1, ops.Nop) ∷ (1, ops.LoadArg 0) ∷ (2, ops.Branch tests.True 2) ∷ (1, ops.Return) ∷ []))
    ≡ record { blocks = 0 ∷ 2 ∷ 3 ∷ 6 ∷ []; edges = edge 0 2 0 ∷ edge 1 2 0 ∷ edge 2 1 0 ∷ edge 2 3 1 ∷ []; heads = 1 ∷ [] }
loop = refl

-- A switch to 19 twice and to 0, and on to 18.
pub switch :
    graph_of (code ((1, ops.LoadArg 0) ∷ (17, ops.Switch (19 ∷ 19 ∷ 0 ∷ [])) ∷ (1, ops.Return) ∷ (1, ops.Return) ∷ []))
    ≡ record { blocks = 0 ∷ 18 ∷ 19 ∷ []; edges = edge 0 2 0 ∷ edge 0 2 1 ∷ edge 0 0 2 ∷ edge 0 1 3 ∷ []; heads = 0 ∷ [] }
switch = refl
