-- A step of a world is a step of its last frame by itself, or a call, or a return.
use Rattle.std.proofs.Common.{◌≡◌, ◌⊎◌, ℕ, List, [], ◌∷◌, ◌++◌, Option, Some, refl, ◌∙◌, inl, inr}
use Rattle.cil_model.specs.Calls.{WorldCall, FreeCall, ReturnRow}
use Rattle.cil_model.specs.Effects.{Effect, GoesOn, Faults, Assumes, FindsNoRoom}
use Rattle.cil_model.specs.Runs.{CallRow, CallsBy, IsAbout, LocalStep, Row, Step, config_after}
use Rattle.cil_model.specs.UnitCalls.{unit_call, callee_of}
use Rattle.cil_model.specs.Values.{Heap}
use Rattle.cil_model.specs.WellFormed.{called_by}
use Rattle.cil_model.specs.declared.instruction.Instr.{Instr}
use Rattle.cil_model.specs.declared.instruction.Op.{Op}
use Rattle.cil_model.specs.declared.instruction.Op.TheVariants as ops
use Rattle.cil_model.specs.declared.machine.Config.{Config}
use Rattle.cil_model.specs.declared.machine.Config.TheVariants as configs
use Rattle.cil_model.specs.declared.machine.Frame.{Frame}
use Rattle.cil_model.specs.declared.machine.World.{World}
use Rattle.cil_model.specs.declared.unit.Unit.{Unit as MethodUnit}
use Rattle.cil_model.specs.declared.unit_numbers.UnitCall.{UnitCall}
use Rattle.cil_model.specs.declared.unit_numbers.UnitCall.TheVariants as calls

-- A configuration with these frames below.
abbrev pub above : List Frame → Config → Config
above callers (configs.Live frames heap) = configs.Live (callers ++ frames) heap
above callers c = c

above_after : (callers : List Frame) (f : Frame) (i : Instr) (effect : Effect) → config_after callers f i effect ≡ above callers (config_after [] f i effect)
above_after callers f i (GoesOn new heap) = refl
above_after callers f i (Faults kind) = refl
above_after callers f i Assumes = refl
above_after callers f i FindsNoRoom = refl

module _ (A B : CallRow) (callers : List Frame) (unit : MethodUnit) (i : Instr) (f : Frame) (heap : Heap) (new : Config) where
  -- The row is one of the frame by itself, with the callers below.
  abbrev pub IsLocalRow : Op → Type 0
  IsLocalRow op = (local : Config) × Row B op [] unit i f heap local × (new ≡ above callers local)

  -- It is the row of a return.
  abbrev pub IsReturnRow : Op → Type 0
  IsReturnRow op = (op ≡ ops.Return) × ReturnRow callers unit i f heap new

  -- It is the row of a call of a callee.
  abbrev pub IsCallRow : Op → Type 0
  IsCallRow op = (number : ℕ) × (called_by op ≡ Some number) × A number i f heap new

  call_kind : (call : Option UnitCall) → CallsBy A call callers unit i f heap new
      → ((local : Config) × CallsBy B call [] unit i f heap local × (new ≡ above callers local)) ⊎ ((number : ℕ) × (callee_of call ≡ Some number) × A number i f heap new)
  call_kind (Some (calls.Callee number)) row = inr (number, refl, row)
  call_kind _ (effect, has, to) = inl (config_after [] f i effect, (effect, has, refl), to ∙ above_after callers f i effect)

  -- Each row is one of the three.
  pub row_kind : (op : Op) → Row A op callers unit i f heap new → IsLocalRow op ⊎ (IsReturnRow op ⊎ IsCallRow op)
  row_kind ops.Return row = inr (inl (refl, row))
  row_kind (ops.Call number) row = elim (call_kind (unit_call number) row) [ inl local ↦ inl local | inr call ↦ inr (inr call) ]
  row_kind _ (effect, has, to) = inl (config_after [] f i effect, (effect, has, refl), to ∙ above_after callers f i effect)

-- A step of a world, by its kind.
pub record StepKind (w : World) (frames : List Frame) (heap : Heap) (new : Config) : Type 0 where
  pub callers : List Frame
  pub last : Frame
  pub unit : MethodUnit
  pub instr : Instr
  pub frames_are : frames ≡ callers ++ last ∷ []
  pub about : IsAbout w.units last unit instr
  pub kind : ((local : Config) × LocalStep unit (configs.Live (last ∷ []) heap) local × (new ≡ above callers local))
      ⊎ (((instr.op ≡ ops.Return) × ReturnRow callers unit instr last heap new)
      ⊎ ((number : ℕ) × (called_by instr.op ≡ Some number) × WorldCall w callers number instr last heap new))

pub step_kind : (w : World) (frames : List Frame) (heap : Heap) (new : Config) → Step w (configs.Live frames heap) new → StepKind w frames heap new
step_kind w frames heap new (callers, f, unit, i, are, about, row) =
    record {
      callers = callers;
      last = f;
      unit = unit;
      instr = i;
      frames_are = are;
      about = about;
      kind = elim (row_kind (WorldCall w callers) (FreeCall unit) callers unit i f heap new i.op row) [
        | inl (local, local_row, same) ↦ inl (local, (i, about.to, local_row), same)
        | inr others ↦ inr others
      ];
    }
