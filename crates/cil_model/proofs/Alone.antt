-- A method that calls no method: its steps in a world are its steps by itself.
use Rattle.std.proofs.Common.{◌≡◌, ℕ, suc, true, false, List, [], ◌∷◌, ◌++◌, length, get_or, length-append, slice_get, Option, Some, None, refl, sym, ap, subst, subst₂, ◌∙◌, arith}
use Rattle.std.proofs.lemmas.Bool.{false≢true}
use Rattle.std.proofs.lemmas.Option.{same_Some, none-some}
use Rattle.cil_model.specs.Calls.{WorldCall, FreeCall}
use Rattle.cil_model.specs.Runs.{instr_at, CallRow, CallsBy, Row, Step, LocalStep}
use Rattle.cil_model.specs.UnitCalls.{unit_call, callee_of, is_assert}
use Rattle.cil_model.specs.Values.{Heap}
use Rattle.cil_model.specs.WellFormed.{called_by}
use Rattle.cil_model.specs.declared.instruction.Instr.{Instr}
use Rattle.cil_model.specs.declared.instruction.Op.{Op}
use Rattle.cil_model.specs.declared.instruction.Op.TheVariants as ops
use Rattle.cil_model.specs.declared.machine.Config.{Config}
use Rattle.cil_model.specs.declared.machine.Config.TheVariants as configs
use Rattle.cil_model.specs.declared.machine.Frame.{Frame}
use Rattle.cil_model.specs.declared.machine.World.{World}
use Rattle.cil_model.specs.declared.unit.Unit.{Unit as MethodUnit}
use Rattle.cil_model.specs.declared.unit_numbers.UnitCall.{UnitCall}
use Rattle.cil_model.specs.declared.unit_numbers.UnitCall.TheVariants as calls

-- ---- rows

calls_by : (A B : CallRow) (call : Option UnitCall) (callers : List Frame) (unit : MethodUnit) (i : Instr) (f : Frame) (heap : Heap) (new : Config)
    → callee_of call ≡ None → CallsBy A call callers unit i f heap new → CallsBy B call callers unit i f heap new
calls_by A B (Some (calls.Callee number)) callers unit i f heap new none row = absurd (none-some number (sym none))
calls_by A B _ callers unit i f heap new none row = row

-- The row of an operation that calls no method does not depend on what calls do.
pub row_by : (A B : CallRow) (op : Op) (callers : List Frame) (unit : MethodUnit) (i : Instr) (f : Frame) (heap : Heap) (new : Config)
    → called_by op ≡ None → Row A op callers unit i f heap new → Row B op callers unit i f heap new
row_by A B (ops.Call number) callers unit i f heap new none row = calls_by A B (unit_call number) callers unit i f heap new none row
row_by A B _ callers unit i f heap new none row = row

-- ---- steps

-- The only frame is the one that runs.
pub only_frame : (callers : List Frame) (f g : Frame) → f ∷ [] ≡ callers ++ g ∷ [] → (callers ≡ []) × (f ≡ g)
only_frame [] f g e = (refl, ap (λ (fs : List Frame). get_or fs 0 f) e)
only_frame (caller ∷ callers) f g e =
    let lengths : 1 ≡ suc (length (callers ++ g ∷ [])) = ap length e in
    absurd (omega (arith, length-append callers (g ∷ [])))

-- The unit's code calls no method.
abbrev pub CallsNoMethod : MethodUnit → Type 0
CallsNoMethod unit = (at : ℕ) (i : Instr) → instr_at unit.instrs at ≡ Some i → called_by i.op ≡ None

row_local : (w : World) (callers : List Frame) (f g : Frame) (unit other : MethodUnit) (i : Instr) (heap : Heap) (new : Config)
    → callers ≡ [] → f ≡ g → unit ≡ other → instr_at other.instrs g.at ≡ Some i → called_by i.op ≡ None
    → Row (WorldCall w callers) i.op callers other i g heap new → LocalStep unit (configs.Live (f ∷ []) heap) new
row_local w callers f g unit other i heap new none same one found calls row =
    let bare : Row (FreeCall other) i.op callers other i g heap new = row_by (WorldCall w callers) (FreeCall other) i.op callers other i g heap new calls row in
    let here : LocalStep other (configs.Live (g ∷ []) heap) new = (i, found, subst (λ (outer : List Frame). Row (FreeCall other) i.op outer other i g heap new) none bare) in
    subst₂ (λ (u : MethodUnit) (h : Frame). LocalStep u (configs.Live (h ∷ []) heap) new) (sym one) (sym same) here

-- A step of a single frame in a world is a step of the frame by itself.
pub step_is_local : (w : World) (unit : MethodUnit) (f : Frame) (heap : Heap) (new : Config) → slice_get w.units f.unit ≡ Some unit → CallsNoMethod unit
    → Step w (configs.Live (f ∷ []) heap) new → LocalStep unit (configs.Live (f ∷ []) heap) new
step_is_local w unit f heap new of calls (callers, g, other, i, frames, about, row) =
    let only = only_frame callers f g frames in
    let one : unit ≡ other = same_Some unit other (sym of ∙ ap (λ (h : Frame). slice_get w.units h.unit) only.1 ∙ about.of) in
    let none : called_by i.op ≡ None = calls g.at i (ap (λ (u : MethodUnit). instr_at u.instrs g.at) one ∙ about.to) in
    row_local w callers f g unit other i heap new only.0 only.1 one about.to none row

-- And the other way round.
pub local_is_step : (w : World) (unit : MethodUnit) (f : Frame) (heap : Heap) (new : Config) → slice_get w.units f.unit ≡ Some unit → CallsNoMethod unit
    → LocalStep unit (configs.Live (f ∷ []) heap) new → Step w (configs.Live (f ∷ []) heap) new
local_is_step w unit f heap new of calls (i, found, row) =
    ([], f, unit, i, refl, record { of = of; to = found }, row_by (FreeCall unit) (WorldCall w []) i.op [] unit i f heap new (calls f.at i found) row)

-- ---- Assert

-- A call that is an Assert calls no method.
pub is_assert-true : (call : Option UnitCall) → is_assert call ≡ true → call ≡ Some (calls.Assert false)
is_assert-true (Some (calls.Assert false)) e = refl
is_assert-true _ e = absurd (false≢true e)
