-- The kinds of a unit's code are those that enough passes bring.
use Rattle.std.proofs.Common.{◌≡◌, [], Result, Ok, Err, refl}
use Rattle.std.specs.Result.{result_unwrap_or}
use Rattle.cil_model.specs.Passes.{Stacks, after_passes, KindsOf}
use Rattle.cil_model.specs.Shapes.{shape_of}
use Rattle.cil_model.specs.declared.type_fault.TypeFault.{TypeFault}
use Rattle.cil_model.specs.declared.unit.Unit.{Unit as MethodUnit}
use Rattle.stack_typer.specs.FirstTypeFault.{most_passes}
use Rattle.stack_typer.proofs.Settling.{settles}
use Rattle.stack_typer.proofs.Unique.{kinds_once, not_both}
use Rattle.flow_graph.specs.GraphOf.{graph_of}
use Rattle.flow_graph.specs.declared.graph.Graph.{Graph}
use Rattle.unit_flow.specs.FlowOf.{flow_of, kinds_of}
use Rattle.unit_flow.specs.declared.unit_flow.UnitFlow.{UnitFlow}

pub found_kinds : (unit : MethodUnit) (stacks : Stacks) → KindsOf (shape_of unit) unit.instrs stacks
    → stacks ≡ kinds_of unit
unfolding kinds_of
found_kinds unit stacks are =
    by_answer (after_passes (shape_of unit) unit.instrs (most_passes (shape_of unit) unit.instrs)) refl
  where
    by_answer : (answer : Result Stacks TypeFault)
        → after_passes (shape_of unit) unit.instrs (most_passes (shape_of unit) unit.instrs) ≡ answer
        → stacks ≡ result_unwrap_or answer []
    by_answer (Ok others) e =
        kinds_once (shape_of unit) unit.instrs stacks others are (settles (shape_of unit) unit.instrs others e)
    by_answer (Err fault) e =
        absurd (not_both (shape_of unit) unit.instrs stacks fault are
        (record { passes = most_passes (shape_of unit) unit.instrs; met = e }))

abbrev flow_with : MethodUnit → Graph → Stacks → UnitFlow
flow_with unit graph kinds = record { unit = unit; graph = graph; kinds = kinds }

-- A unit with what is found of it is its flow.
pub made_flow : (unit of : MethodUnit) (graph : Graph) (kinds : Stacks) → unit ≡ of → graph ≡ graph_of of → kinds ≡ kinds_of of
    → flow_with unit graph kinds ≡ flow_of of
made_flow unit of graph kinds same graphs typed = λ i. record { unit = same i; graph = graphs i; kinds = typed i }
