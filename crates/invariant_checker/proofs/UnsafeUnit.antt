-- A unit that is not safe, so that safety says something: with the argument 0 its Assert fails.
use Rattle.std.proofs.Common.{ℕ, pos, FitsSigned, List, [], ◌∷◌, codes, refl, w32, arith, inl}
use Rattle.std.proofs.lemmas.Int.{ints}
use Rattle.cil_model.specs.Effects.{GoesOn, Faults}
use Rattle.cil_model.specs.Runs.{LocalStep, LocalRuns, LocalSafe, MayBegin}
use Rattle.cil_model.specs.UnitCalls.{unit_call}
use Rattle.cil_model.specs.declared.instruction.BinOp.TheVariants as operators
use Rattle.cil_model.specs.declared.instruction.Instr.{Instr}
use Rattle.cil_model.specs.declared.instruction.Op.{Op}
use Rattle.cil_model.specs.declared.instruction.Op.TheVariants as ops
use Rattle.cil_model.specs.declared.machine.Config.{Config}
use Rattle.cil_model.specs.declared.machine.Config.TheVariants as configs
use Rattle.cil_model.specs.declared.machine.FaultKind.TheVariants.{Assert}
use Rattle.cil_model.specs.declared.machine.Frame.{Frame}
use Rattle.cil_model.specs.declared.machine.Value.{Value}
use Rattle.cil_model.specs.declared.machine.Value.TheVariants as values
use Rattle.cil_model.specs.declared.place.Place.TheVariants as places
use Rattle.cil_model.specs.declared.unit.Unit.{Unit as MethodUnit}

abbrev instr : ℕ → ℕ → Op → Instr
instr at size op = record { at = at; size = size; op = op }

abbrev code : List ℕ
code = 0x02 ∷ 0x17 ∷ 0xfe ∷ 0x02 ∷ 0x28 ∷ 5 ∷ 0 ∷ 0 ∷ 0 ∷ 0x02 ∷ 0x2a ∷ []

abbrev unit : MethodUnit
unit = record {
  name = codes "T::g";
  result = places.Int;
  args = places.Int ∷ [];
  locals = [];
  max_stack = 2;
  callees = [];
  code = code;
  clauses = [];
  body_start = 0;
  instrs = instr 0 1 (ops.LoadArg 0) ∷ instr 1 1 (ops.Const (pos 1)) ∷ instr 2 2 (ops.Bin operators.Cgt)
      ∷ instr 4 5 (ops.Call 5) ∷ instr 9 1 (ops.LoadArg 0) ∷ instr 10 1 ops.Return ∷ [];
}

abbrev args : List Value
args = values.Int (pos 0) ∷ []

abbrev frame : ℕ → List Value → Frame
frame at stack =
    record { unit = 0; at = at; stack = stack; locals = []; args = args; entry_args = args; entry_heap = [] }

abbrev live : ℕ → List Value → Config
live at stack = configs.Live (frame at stack ∷ []) []

zero_fits : FitsSigned w32 (pos 0)
zero_fits = omega (arith, ints)

begins : MayBegin unit args []
begins = record { heap_is = tt; fit = (zero_fits, tt); required = refl }

step0 : LocalStep unit (live 0 []) (live 1 (values.Int (pos 0) ∷ []))
step0 = (instr 0 1 (ops.LoadArg 0), refl, (GoesOn (frame 1 (values.Int (pos 0) ∷ [])) [], inl refl, refl))

step1 : LocalStep unit (live 1 (values.Int (pos 0) ∷ [])) (live 2 (values.Int (pos 1) ∷ values.Int (pos 0) ∷ []))
step1 = (
  instr 1 1 (ops.Const (pos 1)),
  refl,
  (GoesOn (frame 2 (values.Int (pos 1) ∷ values.Int (pos 0) ∷ [])) [], inl refl, refl),
)

step2 : LocalStep unit (live 2 (values.Int (pos 1) ∷ values.Int (pos 0) ∷ [])) (live 4 (values.Int (pos 0) ∷ []))
step2 = (instr 2 2 (ops.Bin operators.Cgt), refl, (GoesOn (frame 4 (values.Int (pos 0) ∷ [])) [], inl refl, refl))

step3 : LocalStep unit (live 4 (values.Int (pos 0) ∷ [])) (configs.Fault Assert 0 4)
unfolding unit_call
step3 = (instr 4 5 (ops.Call 5), refl, (Faults Assert, inl refl, refl))

runs : LocalRuns unit 0 args [] 4 (configs.Fault Assert 0 4)
runs = record {
  begins = begins;
  steps = (
    live 4 (values.Int (pos 0) ∷ []),
    (
      live 2 (values.Int (pos 1) ∷ values.Int (pos 0) ∷ []),
      (live 1 (values.Int (pos 0) ∷ []), (live 0 [], refl, step0), step1),
      step2,
    ),
    step3,
  );
}

pub unit_is_not_safe : LocalSafe unit → ⊥
unit_is_not_safe safe = (safe 0 args [] 4 (configs.Fault Assert 0 4) runs).0
