-- What an instruction ends in by its operation is no fault of a clause.
use Rattle.std.proofs.Common.{◌≡◌, ℕ, false, List, [], ◌∷◌, Option, Some, refl, sym, subst, inl, inr}
use Rattle.std.specs.List.{AllByRecursion}
use Rattle.cil_model.specs.Effects.{Effect, Assumes, Faults, FindsNoRoom, GoesOn, HasEffect, effects}
use Rattle.cil_model.specs.Runs.{EffectRow, config_after}
use Rattle.cil_model.specs.UnitCalls.{unit_call}
use Rattle.cil_model.specs.Values.{Heap}
use Rattle.cil_model.specs.declared.instruction.BinOp.{BinOp}
use Rattle.cil_model.specs.declared.instruction.BinOp.TheVariants as operators
use Rattle.cil_model.specs.declared.instruction.Instr.{Instr}
use Rattle.cil_model.specs.declared.instruction.Op.{Op}
use Rattle.cil_model.specs.declared.instruction.Op.TheVariants as ops
use Rattle.cil_model.specs.declared.machine.Config.TheVariants as configs
use Rattle.cil_model.specs.declared.machine.FaultKind.{FaultKind}
use Rattle.cil_model.specs.declared.machine.Frame.{Frame}
use Rattle.cil_model.specs.declared.unit.Unit.{Unit as MethodUnit}
use Rattle.cil_model.specs.declared.unit_numbers.UnitCall.{UnitCall}
use Rattle.cil_model.specs.declared.unit_numbers.UnitCall.TheVariants as calls
use Rattle.obligation_prover.specs.Faults.{IsAmong, call_faults, faults_of, is_of_clause, operator_faults}
use Rattle.obligation_prover.proofs.Complete.{no_other}

operator_plain : (op : BinOp) → AllByRecursion (λ kind. is_of_clause kind ≡ false) (operator_faults op)
operator_plain operators.Div = (refl, (refl, tt))
operator_plain operators.Rem = (refl, (refl, tt))
operator_plain operators.DivUn = (refl, tt)
operator_plain operators.RemUn = (refl, tt)
operator_plain operators.Shl = (refl, tt)
operator_plain operators.Shr = (refl, tt)
operator_plain operators.ShrUn = (refl, tt)
operator_plain operators.AddOvf = (refl, tt)
operator_plain operators.MulOvf = (refl, tt)
operator_plain operators.SubOvf = (refl, tt)
operator_plain _ = tt

call_plain : (call : Option UnitCall) → AllByRecursion (λ kind. is_of_clause kind ≡ false) (call_faults call)
call_plain (Some (calls.Assert message)) = (refl, tt)
call_plain _ = tt

each_plain : (unit : MethodUnit) (op : Op) → AllByRecursion (λ kind. is_of_clause kind ≡ false) (faults_of unit op)
each_plain unit (ops.Bin operator) = operator_plain operator
each_plain unit (ops.Call number) = call_plain (unit_call number)
each_plain unit (ops.NewArray number) = (refl, tt)
each_plain unit ops.Length = (refl, tt)
each_plain unit (ops.LoadElem place) = (refl, (refl, (refl, tt)))
each_plain unit (ops.StoreElem place) = (refl, (refl, (refl, tt)))
each_plain unit (ops.LoadAddr number) = (refl, (refl, (refl, tt)))
each_plain unit _ = tt

among_plain : (kinds : List FaultKind) (kind : FaultKind) → AllByRecursion (λ k. is_of_clause k ≡ false) kinds
    → IsAmong kinds kind → is_of_clause kind ≡ false
among_plain [] kind all among = absurd among
among_plain (k ∷ kinds) kind all (inl same) = subst (λ (x : FaultKind). is_of_clause x ≡ false) (sym same) all.0
among_plain (k ∷ kinds) kind all (inr among) = among_plain kinds kind all.1 among

pub effect_plain : (unit : MethodUnit) (i : Instr) (f : Frame) (heap : Heap) (kind : FaultKind)
    → HasEffect (effects unit i f heap) (Faults kind) → is_of_clause kind ≡ false
effect_plain unit i f heap kind ends =
    among_plain (faults_of unit i.op) kind (each_plain unit i.op) (no_other unit i.op i f heap kind refl ends)

module _ (unit : MethodUnit) (i : Instr) (f : Frame) (heap : Heap) (kind : FaultKind) (index at : ℕ) where
  faults : (effect : Effect) → configs.Fault kind index at ≡ config_after [] f i effect → effect ≡ Faults kind
  faults (GoesOn new after) is = absurd cc
  faults (Faults fault) is = cc
  faults Assumes is = absurd cc
  faults FindsNoRoom is = absurd cc

  pub row_plain : EffectRow [] unit i f heap (configs.Fault kind index at) → is_of_clause kind ≡ false
  row_plain (effect, has, to) =
      effect_plain unit i f heap kind (subst (HasEffect (effects unit i f heap)) (faults effect to) has)
