-- A unit with its graph and the kinds of its code, as a function of the unit.
use Rattle.std.specs.Prelude.{[]}
use Rattle.std.specs.Result.{result_unwrap_or}
use Rattle.cil_model.specs.Passes.{Stacks, after_passes}
use Rattle.cil_model.specs.Shapes.{shape_of}
use Rattle.cil_model.specs.declared.unit.Unit.{Unit as MethodUnit}
use Rattle.flow_graph.specs.GraphOf.{graph_of}
use Rattle.stack_typer.specs.FirstTypeFault.{most_passes}
use Rattle.unit_flow.specs.declared.unit_flow.UnitFlow.{UnitFlow}

-- The kinds of a unit's code: what so many passes bring as settle any code. There are none where one meets a fault.
unfoldable pub kinds_of : MethodUnit → Stacks
kinds_of unit = result_unwrap_or (after_passes (shape_of unit) unit.instrs (most_passes (shape_of unit) unit.instrs)) []

abbrev pub flow_of : MethodUnit → UnitFlow
flow_of unit = record { unit = unit; graph = graph_of unit; kinds = kinds_of unit }
