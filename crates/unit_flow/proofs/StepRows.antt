-- What a step of a frame that lives on does by an instruction that calls no method: one of its effects.
use Rattle.std.proofs.Common.{◌≡◌, [], ◌∷◌, Option, Some, None, sym}
use Rattle.std.proofs.lemmas.Option.{none-some}
use Rattle.cil_model.specs.Calls.{FreeCall}
use Rattle.cil_model.specs.Effects.{GoesOn, HasEffect, effects}
use Rattle.cil_model.specs.Runs.{CallsBy, Row}
use Rattle.cil_model.specs.UnitCalls.{callee_of, unit_call}
use Rattle.cil_model.specs.Values.{Heap}
use Rattle.cil_model.specs.WellFormed.{called_by}
use Rattle.cil_model.specs.declared.instruction.Instr.{Instr}
use Rattle.cil_model.specs.declared.instruction.Op.{Op}
use Rattle.cil_model.specs.declared.instruction.Op.TheVariants as ops
use Rattle.cil_model.specs.declared.machine.Config.TheVariants as configs
use Rattle.cil_model.specs.declared.machine.Frame.{Frame}
use Rattle.cil_model.specs.declared.unit.Unit.{Unit as MethodUnit}
use Rattle.cil_model.specs.declared.unit_numbers.UnitCall.{UnitCall}
use Rattle.cil_model.specs.declared.unit_numbers.UnitCall.TheVariants as calls
use Rattle.flow_graph.proofs.StepsGo.{goes_on, no_return, row_found}
use Rattle.machine_points.specs.Points.{lives_at}
use Rattle.machine_points.specs.declared.point.Point.{Point}
use Rattle.unit_flow.specs.Flow.{Steps}

module _ (unit : MethodUnit) (i : Instr) (f : Frame) (heap : Heap) (g : Frame) (after : Heap) where
  by_call : (call : Option UnitCall) → callee_of call ≡ None
      → CallsBy (FreeCall unit) call [] unit i f heap (configs.Live (g ∷ []) after)
      → HasEffect (effects unit i f heap) (GoesOn g after)
  by_call (Some (calls.Callee number)) calls_none row = absurd (none-some number (sym calls_none))
  by_call _ calls_none row = goes_on unit i f heap g after row

  by_row : (op : Op) → called_by op ≡ None → Row (FreeCall unit) op [] unit i f heap (configs.Live (g ∷ []) after)
      → HasEffect (effects unit i f heap) (GoesOn g after)
  by_row ops.Return calls_none row = absurd (no_return unit i f heap g after row)
  by_row (ops.Call number) calls_none row = by_call (unit_call number) calls_none row
  by_row _ calls_none row = goes_on unit i f heap g after row

-- A step by an instruction that calls no method is one of its effects.
pub effect_of : (unit : MethodUnit) (i : Instr) (p q : Point) → called_by i.op ≡ None → Steps unit i p q
    → HasEffect (effects unit i p.frame p.heap) (GoesOn q.frame q.heap)
effect_of unit i p q calls_none step =
    by_row unit i p.frame p.heap q.frame q.heap i.op calls_none
    (row_found unit i p.frame p.heap (lives_at q) step.to step.goes)
