-- A step of a frame that lives on: it is one of the effects of its instruction, or a call of a method, and goes to one
-- of the offsets to which the instruction goes on.
use Rattle.std.proofs.Common.{◌≡◌, ℕ, ◌+◌, List, [], ◌∷◌, ◌++◌, length, Option, Some, None, refl, sym, ap, subst, ◌∙◌, inl, inr}
use Rattle.std.proofs.lemmas.Option.{same_Some}
use Rattle.cil_model.specs.Calls.{FreeCall, FreelyCalled, ReturnRow, Returned, behind_call, ensures_fault, pushed}
use Rattle.cil_model.specs.Clauses.{false_requires}
use Rattle.cil_model.specs.Effects.{Assumes, Effect, Faults, FindsNoRoom, GoesOn, HasEffect, effects}
use Rattle.cil_model.specs.Passes.{successors}
use Rattle.cil_model.specs.Runs.{CallsBy, EffectRow, LocalStep, Row, config_after, instr_at}
use Rattle.cil_model.specs.UnitCalls.{unit_call}
use Rattle.cil_model.specs.Values.{Heap}
use Rattle.cil_model.specs.declared.instruction.Instr.{Instr}
use Rattle.cil_model.specs.declared.instruction.Op.{Op}
use Rattle.cil_model.specs.declared.instruction.Op.TheVariants as ops
use Rattle.cil_model.specs.declared.machine.Config.{Config}
use Rattle.cil_model.specs.declared.machine.Config.TheVariants as configs
use Rattle.cil_model.specs.declared.machine.Frame.{Frame}
use Rattle.cil_model.specs.declared.machine.Value.{Value}
use Rattle.cil_model.specs.declared.unit.CalleeInfo.{CalleeInfo}
use Rattle.cil_model.specs.declared.unit.Unit.{Unit as MethodUnit}
use Rattle.cil_model.specs.declared.unit_numbers.UnitCall.{UnitCall}
use Rattle.cil_model.specs.declared.unit_numbers.UnitCall.TheVariants as calls
use Rattle.flow_graph.proofs.EffectsGo.{IsOneOf, effect_goes}

no_caller : (outer : List Frame) (caller : Frame) → [] ≡ outer ++ caller ∷ [] → ⊥
no_caller [] caller e = cc
no_caller (g ∷ outer) caller e = cc

module _ (unit : MethodUnit) (i : Instr) (f : Frame) (heap : Heap) (g : Frame) (after : Heap) where
  no_return_on : (result : Option Value) (fault : Option ℕ) → Returned [] i f heap result fault (configs.Live (g ∷ []) after) → ⊥
  no_return_on result (Some k) returned = cc
  no_return_on result None (inl ends) = let to = ends.1 in cc
  no_return_on result None (inr (outer, caller, are, to)) = no_caller outer caller are

  -- A frame that returns does not live on.
  pub no_return : ReturnRow [] unit i f heap (configs.Live (g ∷ []) after) → ⊥
  no_return (result, is, returned) = no_return_on result (ensures_fault unit f heap result) returned

  on_effect : (effect : Effect) → configs.Live (g ∷ []) after ≡ config_after [] f i effect → effect ≡ GoesOn g after
  on_effect (GoesOn new heap) is = cc
  on_effect (Faults kind) is = absurd cc
  on_effect Assumes is = absurd cc
  on_effect FindsNoRoom is = absurd cc

  -- Where it lives on by an effect, it goes on by it.
  pub goes_on : EffectRow [] unit i f heap (configs.Live (g ∷ []) after) → HasEffect (effects unit i f heap) (GoesOn g after)
  goes_on (effect, has, is) = subst (HasEffect (effects unit i f heap)) (on_effect effect is) has

  -- ---- where it goes on

  by_effect : (op : Op) → i.op ≡ op → EffectRow [] unit i f heap (configs.Live (g ∷ []) after) → IsOneOf (successors op (i.at + i.size)) g.at
  by_effect op is row =
      subst (λ (o : Op). IsOneOf (successors o (i.at + i.size)) g.at) is (effect_goes unit i f heap (GoesOn g after) (goes_on row))

  pushed_at : (count : ℕ) (result : Option Value) → (pushed (behind_call i count f) result).at ≡ i.at + i.size
  pushed_at count None = refl
  pushed_at count (Some value) = refl

  -- Behind a call it stands at the next instruction.
  behind : (callee : CalleeInfo) (args : List Value) (fault : Option ℕ) → FreelyCalled callee args i f heap fault (configs.Live (g ∷ []) after)
      → g.at ≡ i.at + i.size
  behind callee args (Some k) is = absurd cc
  behind callee args None (inl is) = absurd cc
  behind callee args None (inr (new, result, returned, is)) =
      let same : g ≡ pushed (behind_call i (length callee.args) f) result = cc in
      ap (λ (h : Frame). h.at) same ∙ pushed_at (length callee.args) result

  by_call : (number : ℕ) (call : Option UnitCall) → i.op ≡ ops.Call number → CallsBy (FreeCall unit) call [] unit i f heap (configs.Live (g ∷ []) after)
      → IsOneOf (successors (ops.Call number) (i.at + i.size)) g.at
  by_call number (Some (calls.Callee callee)) is row =
      (0, ap Some (sym (behind row.callee row.args (false_requires row.callee.clauses row.args heap) row.freely)))
  by_call number _ is row = by_effect (ops.Call number) is row

  by_row : (op : Op) → i.op ≡ op → Row (FreeCall unit) op [] unit i f heap (configs.Live (g ∷ []) after) → IsOneOf (successors op (i.at + i.size)) g.at
  by_row ops.Return is row = absurd (no_return row)
  by_row (ops.Call number) is row = by_call number (unit_call number) is row
  by_row op is row = by_effect op is row

-- The row of the instruction that is found.
pub row_found : (unit : MethodUnit) (i : Instr) (f : Frame) (heap : Heap) (new : Config) → instr_at unit.instrs f.at ≡ Some i
    → LocalStep unit (configs.Live (f ∷ []) heap) new → Row (FreeCall unit) i.op [] unit i f heap new
row_found unit i f heap new found (j, found_j, row) =
    let same : j ≡ i = same_Some j i (sym found_j ∙ found) in
    subst (λ (k : Instr). Row (FreeCall unit) k.op [] unit k f heap new) same row

pub step_goes : (unit : MethodUnit) (i : Instr) (f new : Frame) (heap after : Heap)
    → LocalStep unit (configs.Live (f ∷ []) heap) (configs.Live (new ∷ []) after)
    → instr_at unit.instrs f.at ≡ Some i → IsOneOf (successors i.op (i.at + i.size)) new.at
step_goes unit i f new heap after step found =
    by_row unit i f heap new after i.op refl (row_found unit i f heap (configs.Live (new ∷ []) after) found step)
