-- Runs that are computed: a function that gives what comes after some steps, and that it comes.
use Rattle.std.proofs.Common.{◌≡◌, ℕ, zero, suc, Bool, true, false, List, [], ◌∷◌, ◌++◌, Option, Some, None, option_map, slice_get, refl, sym, ap, subst, inl, inr}
use Rattle.std.specs.Option.{option_and_then}
use Rattle.std.proofs.lemmas.Option.{same_Some, none-some}
use Rattle.cil_model.proofs.Options.{and_then_from, map_from}
use Rattle.cil_model.specs.Calls.{WorldCall, ReturnRow, Returned, Returns, args_of, callee_index, called, ensures_fault, pushed, result_of}
use Rattle.cil_model.specs.Clauses.{false_requires}
use Rattle.cil_model.specs.Effects.{Effect, HasEffect, effects}
use Rattle.cil_model.specs.Runs.{CallsBy, EffectRow, Row, Step, StepsTo, config_after, instr_at}
use Rattle.cil_model.specs.UnitCalls.{unit_call}
use Rattle.cil_model.specs.Values.{Heap}
use Rattle.cil_model.specs.declared.instruction.Instr.{Instr}
use Rattle.cil_model.specs.declared.instruction.Op.{Op}
use Rattle.cil_model.specs.declared.instruction.Op.TheVariants as ops
use Rattle.cil_model.specs.declared.machine.Config.{Config}
use Rattle.cil_model.specs.declared.machine.Config.TheVariants as configs
use Rattle.cil_model.specs.declared.machine.FaultKind.TheVariants as faults
use Rattle.cil_model.specs.declared.machine.Frame.{Frame}
use Rattle.cil_model.specs.declared.machine.Value.{Value}
use Rattle.cil_model.specs.declared.machine.World.{World}
use Rattle.cil_model.specs.declared.unit.Unit.{Unit as MethodUnit}
use Rattle.cil_model.specs.declared.unit_numbers.UnitCall.{UnitCall}
use Rattle.cil_model.specs.declared.unit_numbers.UnitCall.TheVariants as calls

-- ---- the running frame

-- Frames, and the one above them.
pub record Split : Type 0 where
  pub callers : List Frame
  pub last : Frame

abbrev pub below : Frame → Option Split → Split
below f None = record { callers = []; last = f }
below f (Some split) = record split { callers = f ∷ split.callers }

abbrev pub split_last : List Frame → Option Split
split_last [] = None
split_last (f ∷ fs) = Some (below f (split_last fs))

-- The frames are the ones below and the last, or none.
abbrev IsSplit : List Frame → Option Split → Type 0
IsSplit fs None = fs ≡ []
IsSplit fs (Some split) = fs ≡ split.callers ++ split.last ∷ []

below_is : (f : Frame) (fs : List Frame) (split : Option Split) → IsSplit fs split → IsSplit (f ∷ fs) (Some (below f split))
below_is f fs None e = ap (λ (frames : List Frame). f ∷ frames) e
below_is f fs (Some split) e = ap (λ (frames : List Frame). f ∷ frames) e

split_is : (fs : List Frame) → IsSplit fs (split_last fs)
split_is [] = refl
split_is (f ∷ fs) = below_is f fs (split_last fs) (split_is fs)

-- ---- the rows

-- The effect that comes: the last of them where there is room for arrays, and else the first.
abbrev effect_that_comes : Bool → List Effect → Option Effect
effect_that_comes room [] = None
effect_that_comes false (effect ∷ others) = Some effect
effect_that_comes true (effect ∷ []) = Some effect
effect_that_comes true (effect ∷ other ∷ others) = effect_that_comes true (other ∷ others)

it_comes : (room : Bool) (es : List Effect) (effect : Effect) → effect_that_comes room es ≡ Some effect → HasEffect es effect
it_comes room [] effect e = absurd (none-some effect e)
it_comes false (first ∷ others) effect e = inl (sym (same_Some first effect e))
it_comes true (first ∷ []) effect e = inl (sym (same_Some first effect e))
it_comes true (first ∷ other ∷ others) effect e = inr (it_comes true (other ∷ others) effect e)

abbrev after_effect : Bool → List Frame → MethodUnit → Instr → Frame → Heap → Option Config
after_effect room callers unit i f heap = option_map (config_after callers f i) (effect_that_comes room (effects unit i f heap))

after_effect_row : (room : Bool) (callers : List Frame) (unit : MethodUnit) (i : Instr) (f : Frame) (heap : Heap) (new : Config)
    → after_effect room callers unit i f heap ≡ Some new → EffectRow callers unit i f heap new
after_effect_row room callers unit i f heap new e =
    let (effect, is, gives) = map_from (config_after callers f i) (effect_that_comes room (effects unit i f heap)) new e in
    (effect, it_comes room (effects unit i f heap) effect is, gives)

-- What comes of a call of the unit of this index.
abbrev calling : List Frame → Instr → Frame → Heap → ℕ → MethodUnit → Option Config
calling callers i f heap index callee =
    option_map (λ args. called callers callee index args i f heap (false_requires callee.clauses args heap)) (args_of heap callee.args f.stack)

abbrev calling_index : World → List Frame → Instr → Frame → Heap → ℕ → Option Config
calling_index w callers i f heap index = option_and_then (calling callers i f heap index) (slice_get w.units index)

abbrev after_call : World → List Frame → ℕ → Instr → Frame → Heap → Option Config
after_call w callers number i f heap = option_and_then (calling_index w callers i f heap) (callee_index w f.unit number)

after_call_row : (w : World) (callers : List Frame) (number : ℕ) (i : Instr) (f : Frame) (heap : Heap) (new : Config)
    → after_call w callers number i f heap ≡ Some new → WorldCall w callers number i f heap new
after_call_row w callers number i f heap new e =
    let named = and_then_from (calling_index w callers i f heap) (callee_index w f.unit number) new e in
    let found = and_then_from (calling callers i f heap named.value) (slice_get w.units named.value) new named.gave in
    let (args, are, gives) = map_from (λ args. called callers found.value named.value args i f heap (false_requires found.value.clauses args heap)) (args_of heap found.value.args f.stack) new found.gave in
    record { index = named.value; callee = found.value; args = args; index_is = named.is; callee_is = found.is; args_are = are; new_is = gives }

abbrev pub resumed : Option Split → Option Value → Heap → Config
resumed None result heap = configs.Returned result
resumed (Some split) result heap = configs.Live (split.callers ++ pushed split.last result ∷ []) heap

resumed_returns : (callers : List Frame) (split : Option Split) (result : Option Value) (heap : Heap) → IsSplit callers split
    → Returns callers result heap (resumed split result heap)
resumed_returns callers None result heap e = inl (e, refl)
resumed_returns callers (Some split) result heap e = inr (split.callers, split.last, e, refl)

abbrev pub returning : List Frame → Instr → Frame → Heap → Option Value → Option ℕ → Config
returning callers i f heap result (Some k) = configs.Fault (faults.Ensures k) f.unit i.at
returning callers i f heap result None = resumed (split_last callers) result heap

pub returning_row : (callers : List Frame) (i : Instr) (f : Frame) (heap : Heap) (result : Option Value) (fault : Option ℕ)
    → Returned callers i f heap result fault (returning callers i f heap result fault)
returning_row callers i f heap result (Some k) = refl
returning_row callers i f heap result None = resumed_returns callers (split_last callers) result heap (split_is callers)

abbrev after_return : List Frame → MethodUnit → Instr → Frame → Heap → Option Config
after_return callers unit i f heap =
    option_map (λ result. returning callers i f heap result (ensures_fault unit f heap result)) (result_of heap unit.result f.stack)

after_return_row : (callers : List Frame) (unit : MethodUnit) (i : Instr) (f : Frame) (heap : Heap) (new : Config)
    → after_return callers unit i f heap ≡ Some new → ReturnRow callers unit i f heap new
after_return_row callers unit i f heap new e =
    let (result, is, gives) = map_from (λ result. returning callers i f heap result (ensures_fault unit f heap result)) (result_of heap unit.result f.stack) new e in
    (result, is, subst (λ (c : Config). Returned callers i f heap result (ensures_fault unit f heap result) c) (sym gives) (returning_row callers i f heap result (ensures_fault unit f heap result)))

-- ---- steps

module _ (w : World) (room : Bool) (callers : List Frame) (unit : MethodUnit) (i : Instr) (f : Frame) (heap : Heap) where
  abbrev after_number : Option UnitCall → Option Config
  after_number (Some (calls.Callee number)) = after_call w callers number i f heap
  after_number _ = after_effect room callers unit i f heap

  after_number_row : (call : Option UnitCall) (new : Config) → after_number call ≡ Some new → CallsBy (WorldCall w callers) call callers unit i f heap new
  after_number_row (Some (calls.Callee number)) new e = after_call_row w callers number i f heap new e
  after_number_row _ new e = after_effect_row room callers unit i f heap new e

  abbrev after_op : Op → Option Config
  after_op ops.Return = after_return callers unit i f heap
  after_op (ops.Call number) = after_number (unit_call number)
  after_op _ = after_effect room callers unit i f heap

  after_op_row : (op : Op) (new : Config) → after_op op ≡ Some new → Row (WorldCall w callers) op callers unit i f heap new
  after_op_row ops.Return new e = after_return_row callers unit i f heap new e
  after_op_row (ops.Call number) new e = after_number_row (unit_call number) new e
  after_op_row _ new e = after_effect_row room callers unit i f heap new e

-- What an instruction of the unit leads to.
abbrev after_instr : World → Bool → Split → Heap → MethodUnit → Instr → Option Config
after_instr w room split heap unit i = after_op w room split.callers unit i split.last heap i.op

abbrev after_unit : World → Bool → Split → Heap → MethodUnit → Option Config
after_unit w room split heap unit = option_and_then (after_instr w room split heap unit) (instr_at unit.instrs split.last.at)

abbrev after_split : World → Bool → Heap → Split → Option Config
after_split w room heap split = option_and_then (after_unit w room split heap) (slice_get w.units split.last.unit)

-- The configuration after one step.
abbrev pub after_step : World → Bool → Config → Option Config
after_step w room (configs.Live frames heap) = option_and_then (after_split w room heap) (split_last frames)
after_step w room _ = None

after_step_steps : (w : World) (room : Bool) (c new : Config) → after_step w room c ≡ Some new → Step w c new
after_step_steps w room (configs.Live frames heap) new e =
    let split = and_then_from (after_split w room heap) (split_last frames) new e in
    let unit = and_then_from (after_unit w room split.value heap) (slice_get w.units split.value.last.unit) new split.gave in
    let instr = and_then_from (after_instr w room split.value heap unit.value) (instr_at unit.value.instrs split.value.last.at) new unit.gave in (
      split.value.callers,
      split.value.last,
      unit.value,
      instr.value,
      subst (IsSplit frames) split.is (split_is frames),
      record { of = unit.is; to = instr.is },
      after_op_row w room split.value.callers unit.value instr.value split.value.last heap instr.value.op new instr.gave,
    )
after_step_steps w room _ new e = absurd (none-some new e)

-- The configuration after n steps.
abbrev pub after_steps : World → Bool → Config → ℕ → Option Config
after_steps w room start zero = Some start
after_steps w room start (suc n) = option_and_then (after_step w room) (after_steps w room start n)

-- It comes.
pub steps_to : (w : World) (room : Bool) (start : Config) (n : ℕ) (c : Config) → after_steps w room start n ≡ Some c → StepsTo (Step w) start n c
steps_to w room start zero c e = sym (same_Some start c e)
steps_to w room start (suc n) c e =
    let last = and_then_from (after_step w room) (after_steps w room start n) c e in
    (last.value, steps_to w room start n last.value last.is, after_step_steps w room last.value c last.gave)
