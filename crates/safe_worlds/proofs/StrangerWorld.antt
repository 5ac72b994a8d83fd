-- A caller that does not know what its callee requires: both are safe by themselves, and their world is not. So units
-- have to agree on what they say of each other.
use Rattle.std.proofs.Common.{◌≡◌, ℕ, zero, suc, pos, true, List, [], ◌∷◌, codes, Option, Some, None, refl, sym, ap, subst, subst₂, ◌∙◌, inl, inr}
use Rattle.std.proofs.lemmas.Option.{none-some, same_Some}
use Rattle.cil_model.specs.Calls.{FreeCall, FreelyCalled, FreeReturn, ReturnRow, Returns, args_of, behind_call, pushed}
use Rattle.cil_model.specs.Clauses.{false_requires, value_of}
use Rattle.cil_model.specs.Runs.{IsDefined, IsNoFault, LocalSafe, LocalStep, Row, Runs, Safe, StepsTo, entry_config}
use Rattle.cil_model.specs.Terms as terms
use Rattle.cil_model.specs.UnitCalls.{unit_call}
use Rattle.cil_model.specs.Values.{FitPlaces, Heap}
use Rattle.cil_model.specs.Worlds.{Agree}
use Rattle.cil_model.specs.declared.clause.Clause.{Clause}
use Rattle.cil_model.specs.declared.clause.ClauseKind.TheVariants as kinds
use Rattle.cil_model.specs.declared.instruction.Instr.{Instr}
use Rattle.cil_model.specs.declared.instruction.Op.TheVariants as ops
use Rattle.cil_model.specs.declared.machine.Config.{Config}
use Rattle.cil_model.specs.declared.machine.Config.TheVariants as configs
use Rattle.cil_model.specs.declared.machine.FaultKind.TheVariants as faults
use Rattle.cil_model.specs.declared.machine.Frame.{Frame}
use Rattle.cil_model.specs.declared.machine.Value.{Value}
use Rattle.cil_model.specs.declared.machine.World.{World}
use Rattle.cil_model.specs.declared.place.Place.TheVariants as places
use Rattle.cil_model.specs.declared.unit.CalleeInfo.{CalleeInfo}
use Rattle.cil_model.specs.declared.unit.Unit.{Unit as MethodUnit}
use Rattle.cil_model.proofs.CallsDefined.{free_call_defined, return_defined}
use Rattle.cil_model.proofs.Laid.{method}
use Rattle.cil_model.proofs.Running.{steps_to}
use Rattle.cil_model.proofs.StepsKeep.{AllMakeValues, MakesValues}
use Rattle.safe_worlds.proofs.SafeWorlds.{safe}
use Rattle.safe_worlds.proofs.StepsReach.{no_caller}

-- 0
abbrev never_true : List Clause
never_true = record { kind = kinds.Requires; tree = terms.Const (pos 0) } ∷ []

-- void Never() with Requires(false) { }
abbrev never : MethodUnit
never = method (codes "Demo.Calc::Never") places.Void [] [] never_true 0 [] ((1, ops.Return) ∷ [])

-- What the caller says of it.
abbrev stranger : CalleeInfo
stranger = record { name = codes "Demo.Calc::Never"; result = places.Void; args = []; clauses = [] }

-- void Careless() { Never(); }
abbrev careless : MethodUnit
careless =
    method (codes "Demo.Calc::Careless") places.Void [] (stranger ∷ []) [] 0 []
    ((5, ops.Call 100) ∷ (1, ops.Return) ∷ [])

abbrev world : World
world = record { units = careless ∷ never ∷ []; callee = (1 ∷ []) ∷ [] ∷ [] }

-- ---- both are safe by themselves

-- Nothing may begin it.
never_is_safe_alone : LocalSafe never
unfolding value_of
never_is_safe_alone index args heap n c runs = absurd (none-some 1 (sym runs.begins.required))

module _ (index : ℕ) (entry : Heap) where
  abbrev frame : ℕ → Frame
  frame at = record { unit = index; at = at; stack = []; locals = []; args = []; entry_args = []; entry_heap = entry }

  abbrev live : ℕ → Heap → Config
  live at heap = configs.Live (frame at ∷ []) heap

  -- Before the call, before the return, or at an end without a fault.
  data IsWay (c : Config) : Type 0 where
    AtCall : (heap : Heap) → c ≡ live 0 heap → IsWay c
    AtReturn : (heap : Heap) → c ≡ live 5 heap → IsWay c
    HasReturned : (result : Option Value) → c ≡ configs.Returned result → IsWay c
    HasNoRoom : c ≡ configs.NoRoom → IsWay c

  abbrev call : Instr
  call = record { at = 0; size = 5; op = ops.Call 100 }

  abbrev return : Instr
  return = record { at = 5; size = 1; op = ops.Return }

  calls : (heap : Heap) (new : Config) → LocalStep careless (live 0 heap) new → IsWay new
  unfolding unit_call
  calls heap new (i, found, row) =
      let made : FreeCall careless 0 call (frame 0) heap new =
      subst (λ (j : Instr). Row (FreeCall careless) j.op [] careless j (frame 0) heap new)
      (sym (same_Some call i found)) row in
      let one : made.callee ≡ stranger = sym (same_Some stranger made.callee made.callee_is) in
      let passed : made.args ≡ [] =
      same_Some made.args [] (sym made.args_are ∙ ap (λ (c : CalleeInfo). args_of heap c.args []) one) in
      called (subst₂ (λ (c : CalleeInfo) (vs : List Value). FreelyCalled c vs call (frame 0) heap
      (false_requires c.clauses vs heap) new)
      one passed made.freely)
    where
      given : (after : Heap) (result : Option Value) → FreeReturn stranger [] heap after result
          → new ≡ configs.Live (pushed (behind_call call 0 (frame 0)) result ∷ []) after → IsWay new
      given after None free to = AtReturn after to
      given after (Some v) free to = absurd free.fits

      called : FreelyCalled stranger [] call (frame 0) heap None new → IsWay new
      called (inl ends) = HasNoRoom ends
      called (inr (after, result, free, to)) = given after result free to

  returns : (heap : Heap) (new : Config) → LocalStep careless (live 5 heap) new → IsWay new
  returns heap new (i, found, row) =
      returned (subst (λ (o : Instr). Row (FreeCall careless) o.op [] careless o (frame 5) heap new)
      (sym (same_Some return i found)) row)
    where
      comes : (result : Option Value) → Returns [] result heap new → IsWay new
      comes result (inl ends) = HasReturned result ends.1
      comes result (inr (outer, caller, none, to)) = absurd (no_caller outer caller none)

      returned : ReturnRow [] careless return (frame 5) heap new → IsWay new
      returned (result, is, to) = comes result to

  step_on : (c new : Config) → IsWay c → LocalStep careless c new → IsWay new
  step_on c new (AtCall heap is) step = calls heap new (subst (λ (d : Config). LocalStep careless d new) is step)
  step_on c new (AtReturn heap is) step = returns heap new (subst (λ (d : Config). LocalStep careless d new) is step)
  step_on c new (HasReturned result is) step = absurd (subst (λ (d : Config). LocalStep careless d new) is step)
  step_on c new (HasNoRoom is) step = absurd (subst (λ (d : Config). LocalStep careless d new) is step)

  steps_on : (n : ℕ) (c : Config) → StepsTo (LocalStep careless) (live 0 entry) n c → IsWay c
  steps_on zero c start = AtCall entry start
  steps_on (suc n) c (mid, before, step) = step_on mid c (steps_on n mid before) step

  abbrev Good : Config → Type 0
  Good c = IsNoFault c × IsDefined (LocalStep careless) c

  call_defined : (heap : Heap) → IsDefined (LocalStep careless) (live 0 heap)
  unfolding unit_call
  call_defined heap =
      let (new, row) = free_call_defined careless 0 stranger [] call (frame 0) heap refl refl in
      (new, (call, refl, row))

  return_has_row : (heap : Heap) → IsDefined (LocalStep careless) (live 5 heap)
  return_has_row heap =
      let (new, row) = return_defined [] careless None return (frame 5) heap refl in (new, (return, refl, row))

  good : (c : Config) → IsWay c → Good c
  good c (AtCall heap is) = subst Good (sym is) (tt, call_defined heap)
  good c (AtReturn heap is) = subst Good (sym is) (tt, return_has_row heap)
  good c (HasReturned result is) = subst Good (sym is) (tt, tt)
  good c (HasNoRoom is) = subst Good (sym is) (tt, tt)

no_arguments : (heap : Heap) (args : List Value) → FitPlaces heap [] args → args ≡ []
no_arguments heap [] fit = refl
no_arguments heap (v ∷ vs) fit = absurd fit

careless_is_safe_alone : LocalSafe careless
careless_is_safe_alone index args heap n c runs =
    good index heap c
    (steps_on index heap n c
    (subst (λ (vs : List Value). StepsTo (LocalStep careless) (entry_config careless index vs heap) n c)
    (no_arguments heap args runs.begins.fit) runs.steps))

-- ---- their world is not

abbrev fault : Config
fault = configs.Fault (faults.Requires 1) 0 0

call_faults : Runs world 0 [] [] 1 fault
unfolding value_of unit_call
call_faults = record {
  unit = careless;
  unit_is = refl;
  begins = record { heap_is = tt; fit = tt; required = refl };
  steps = steps_to world true (entry_config careless 0 [] []) 1 fault refl;
}

pub world_is_not_safe : Safe world 0 → ⊥
world_is_not_safe all = (all [] [] 1 fault call_faults).0

world_makes_values : AllMakeValues world
world_makes_values zero unit of =
    subst MakesValues (same_Some careless unit of) (record { locals = tt; constants = (tt, (tt, tt)) })
world_makes_values (suc zero) unit of =
    subst MakesValues (same_Some never unit of) (record { locals = tt; constants = (tt, tt) })
world_makes_values (suc (suc m)) unit of = absurd (none-some unit of)

pub strangers_do_not_agree : Agree world → ⊥
strangers_do_not_agree agree =
    world_is_not_safe (safe world agree world_makes_values (careless_is_safe_alone, (never_is_safe_alone, tt)) 0)
