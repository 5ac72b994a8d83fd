-- A method that calls itself: it is safe by itself, since its callee gives what it ensures, and so it is safe in its
-- world.
use Rattle.std.proofs.Common.{◌≡◌, ℕ, zero, suc, ℤ, List, [], ◌∷◌, length, codes, Option, Some, None, slice_get, refl, sym, ap, subst, subst₂, ◌∙◌, inl, inr}
use Rattle.std.proofs.lemmas.Option.{none-some, same_Some}
use Rattle.cil_model.specs.Calls.{FreeCall, FreelyCalled, FreeReturn, Returned, Returns, ReturnRow, args_of, behind_call, ensures_fault, pushed}
use Rattle.cil_model.specs.Clauses.{false_ensures, false_requires, value_of}
use Rattle.cil_model.specs.Effects.{GoesOn}
use Rattle.cil_model.specs.Runs.{EffectRow, IsDefined, IsNoFault, LocalSafe, LocalStep, Row, Safe, StepsTo, config_after, entry_config}
use Rattle.cil_model.specs.Terms as terms
use Rattle.cil_model.specs.UnitCalls.{unit_call}
use Rattle.cil_model.specs.Values.{FitPlaces, Heap}
use Rattle.cil_model.specs.Worlds.{Agree, Names}
use Rattle.cil_model.specs.declared.clause.Clause.{Clause}
use Rattle.cil_model.specs.declared.clause.ClauseKind.TheVariants as kinds
use Rattle.cil_model.specs.declared.instruction.BinOp.TheVariants as operators
use Rattle.cil_model.specs.declared.instruction.Instr.{Instr}
use Rattle.cil_model.specs.declared.instruction.Op.TheVariants as ops
use Rattle.cil_model.specs.declared.machine.Config.{Config}
use Rattle.cil_model.specs.declared.machine.Config.TheVariants as configs
use Rattle.cil_model.specs.declared.machine.Frame.{Frame}
use Rattle.cil_model.specs.declared.machine.Value.{Value}
use Rattle.cil_model.specs.declared.machine.Value.TheVariants as values
use Rattle.cil_model.specs.declared.machine.World.{World}
use Rattle.cil_model.specs.declared.place.Place.TheVariants as places
use Rattle.cil_model.specs.declared.unit.CalleeInfo.{CalleeInfo}
use Rattle.cil_model.specs.declared.unit.Unit.{Unit as MethodUnit}
use Rattle.cil_model.proofs.CallsDefined.{free_call_defined, return_defined}
use Rattle.cil_model.proofs.Laid.{method}
use Rattle.cil_model.proofs.StepsKeep.{AllMakeValues, MakesValues}
use Rattle.safe_worlds.proofs.SafeWorlds.{safe}
use Rattle.safe_worlds.proofs.StepsReach.{no_caller}

-- Result == n
abbrev clauses : List Clause
clauses = record { kind = kinds.Ensures; tree = terms.Bin operators.Ceq terms.Result (terms.Arg 0) } ∷ []

abbrev info : CalleeInfo
info = record { name = codes "Demo.Calc::Same"; result = places.Int; args = places.Int ∷ []; clauses = clauses }

-- int Same(int n) with Ensures(Result == n) { return Same(n); }
abbrev same : MethodUnit
same =
    method (codes "Demo.Calc::Same") places.Int (places.Int ∷ []) (info ∷ []) clauses 0 []
    ((1, ops.LoadArg 0) ∷ (5, ops.Call 100) ∷ (1, ops.Return) ∷ [])

-- Its callee is itself.
abbrev world : World
world = record { units = same ∷ []; callee = (0 ∷ []) ∷ [] }

-- ---- the world

world_agrees : Agree world
world_agrees = record { lists = refl; counts = counts; entries = entries }
  where
    counts : (m : ℕ) (unit : MethodUnit) (callees : List ℕ) → slice_get world.units m ≡ Some unit
        → slice_get world.callee m ≡ Some callees
        → length callees ≡ length unit.callees
    counts zero unit callees of list =
        ap (λ (ks : List ℕ). length ks) (sym (same_Some (0 ∷ []) callees list))
        ∙ ap (λ (u : MethodUnit). length u.callees) (same_Some same unit of)
    counts (suc m) unit callees of list = absurd (none-some unit of)

    entry_of_same : (number : ℕ) (callee : CalleeInfo) → slice_get same.callees number ≡ Some callee
        → Names world 0 number callee
    entry_of_same zero callee is =
        record { index = 0; named = same; index_is = refl; named_is = refl; same = sym (same_Some info callee is) }
    entry_of_same (suc number) callee is = absurd (none-some callee is)

    entries : (m : ℕ) (unit : MethodUnit) (number : ℕ) (callee : CalleeInfo) → slice_get world.units m ≡ Some unit
        → slice_get unit.callees number ≡ Some callee → Names world m number callee
    entries zero unit number callee of is =
        entry_of_same number callee (ap (λ (u : MethodUnit). slice_get u.callees number) (same_Some same unit of) ∙ is)
    entries (suc m) unit number callee of is = absurd (none-some unit of)

world_makes_values : AllMakeValues world
world_makes_values zero unit of =
    subst MakesValues (same_Some same unit of) (record { locals = tt; constants = (tt, (tt, (tt, tt))) })
world_makes_values (suc m) unit of = absurd (none-some unit of)

-- ---- the method by itself

-- The first Ensures that is not true of a result.
abbrev ensured : ℤ → ℤ → Option ℕ
ensured k j =
    false_ensures clauses
    (record { args = values.Int k ∷ []; entry_heap = []; heap = []; result = Some (values.Int j) })

module _ (index : ℕ) (entry : Heap) (k : ℤ) where
  abbrev frame : ℕ → List Value → Frame
  frame at stack = record {
    unit = index;
    at = at;
    stack = stack;
    locals = [];
    args = values.Int k ∷ [];
    entry_args = values.Int k ∷ [];
    entry_heap = entry;
  }

  abbrev live : ℕ → List Value → Heap → Config
  live at stack heap = configs.Live (frame at stack ∷ []) heap

  -- Before the argument is loaded, before the call, before the return, or at an end without a fault.
  data IsWay (c : Config) : Type 0 where
    AtLoad : (heap : Heap) → c ≡ live 0 [] heap → IsWay c
    AtCall : (heap : Heap) → c ≡ live 1 (values.Int k ∷ []) heap → IsWay c
    AtReturn : (heap : Heap) (j : ℤ) → ensured k j ≡ None → c ≡ live 6 (values.Int j ∷ []) heap → IsWay c
    HasReturned : (result : Option Value) → c ≡ configs.Returned result → IsWay c
    HasNoRoom : c ≡ configs.NoRoom → IsWay c

  abbrev load : Instr
  load = record { at = 0; size = 1; op = ops.LoadArg 0 }

  abbrev call : Instr
  call = record { at = 1; size = 5; op = ops.Call 100 }

  abbrev return : Instr
  return = record { at = 6; size = 1; op = ops.Return }

  loads : (heap : Heap) (new : Config) → LocalStep same (live 0 [] heap) new → IsWay new
  loads heap new (i, found, row) =
      loaded (subst (λ (j : Instr). Row (FreeCall same) j.op [] same j (frame 0 []) heap new)
      (sym (same_Some load i found)) row)
    where
      loaded : EffectRow [] same load (frame 0 []) heap new → IsWay new
      loaded (effect, inl is, to) = AtCall heap (to ∙ ap (config_after [] (frame 0 []) load) is)
      loaded (effect, inr others, to) = absurd others

  -- What the call gives has the value that it ensures.
  given : (heap : Heap) (new : Config) (after : Heap) (result : Option Value)
      → FreeReturn info (values.Int k ∷ []) heap after result
      → new ≡ configs.Live (pushed (behind_call call 1 (frame 1 (values.Int k ∷ []))) result ∷ []) after → IsWay new
  unfolding value_of
  given heap new after (Some (values.Int j)) free to = AtReturn after j free.ensured to
  given heap new after None free to = absurd free.fits
  given heap new after _ free to = absurd free.fits

  calls : (heap : Heap) (new : Config) → LocalStep same (live 1 (values.Int k ∷ []) heap) new → IsWay new
  unfolding unit_call
  calls heap new (i, found, row) =
      let made : FreeCall same 0 call (frame 1 (values.Int k ∷ [])) heap new =
      subst (λ (j : Instr). Row (FreeCall same) j.op [] same j (frame 1 (values.Int k ∷ [])) heap new)
      (sym (same_Some call i found)) row in
      let one : made.callee ≡ info = sym (same_Some info made.callee made.callee_is) in
      let passed : made.args ≡ values.Int k ∷ [] =
      same_Some made.args (values.Int k ∷ [])
      (sym made.args_are ∙ ap (λ (c : CalleeInfo). args_of heap c.args (values.Int k ∷ [])) one) in
      called (subst₂ (λ (c : CalleeInfo) (vs : List Value).
      FreelyCalled c vs call (frame 1 (values.Int k ∷ [])) heap (false_requires c.clauses vs heap) new) one passed
      made.freely)
    where
      called : FreelyCalled info (values.Int k ∷ []) call (frame 1 (values.Int k ∷ [])) heap None new → IsWay new
      called (inl ends) = HasNoRoom ends
      called (inr (after, result, free, to)) = given heap new after result free to

  returns : (heap : Heap) (j : ℤ) (new : Config) → ensured k j ≡ None
      → LocalStep same (live 6 (values.Int j ∷ []) heap) new → IsWay new
  unfolding value_of
  returns heap j new ensures (i, found, row) =
      returned (subst (λ (o : Instr). Row (FreeCall same) o.op [] same o (frame 6 (values.Int j ∷ [])) heap new)
      (sym (same_Some return i found)) row)
    where
      comes : (result : Option Value) → Returns [] result heap new → IsWay new
      comes result (inl ends) = HasReturned result ends.1
      comes result (inr (outer, caller, none, to)) = absurd (no_caller outer caller none)

      tested : (fault : Option ℕ) → fault ≡ None
          → Returned [] return (frame 6 (values.Int j ∷ [])) heap (Some (values.Int j)) fault new → IsWay new
      tested None e to = comes (Some (values.Int j)) to
      tested (Some n) e to = absurd (none-some n (sym e))

      returned : ReturnRow [] same return (frame 6 (values.Int j ∷ [])) heap new → IsWay new
      returned (result, is, to) =
          let one : result ≡ Some (values.Int j) = sym (same_Some (Some (values.Int j)) result is) in
          tested (ensures_fault same (frame 6 (values.Int j ∷ [])) heap (Some (values.Int j))) ensures
          (subst (λ (r : Option Value). Returned [] return (frame 6 (values.Int j ∷ [])) heap r
          (ensures_fault same (frame 6 (values.Int j ∷ [])) heap r) new) one to)

  step_on : (c new : Config) → IsWay c → LocalStep same c new → IsWay new
  step_on c new (AtLoad heap is) step = loads heap new (subst (λ (d : Config). LocalStep same d new) is step)
  step_on c new (AtCall heap is) step = calls heap new (subst (λ (d : Config). LocalStep same d new) is step)
  step_on c new (AtReturn heap j ensures is) step =
      returns heap j new ensures (subst (λ (d : Config). LocalStep same d new) is step)
  step_on c new (HasReturned result is) step = absurd (subst (λ (d : Config). LocalStep same d new) is step)
  step_on c new (HasNoRoom is) step = absurd (subst (λ (d : Config). LocalStep same d new) is step)

  steps_on : (n : ℕ) (c : Config) → StepsTo (LocalStep same) (live 0 [] entry) n c → IsWay c
  steps_on zero c start = AtLoad entry start
  steps_on (suc n) c (mid, before, step) = step_on mid c (steps_on n mid before) step

  abbrev Good : Config → Type 0
  Good c = IsNoFault c × IsDefined (LocalStep same) c

  load_defined : (heap : Heap) → IsDefined (LocalStep same) (live 0 [] heap)
  load_defined heap =
      (live 1 (values.Int k ∷ []) heap, (load, refl, (GoesOn (frame 1 (values.Int k ∷ [])) heap, inl refl, refl)))

  call_defined : (heap : Heap) → IsDefined (LocalStep same) (live 1 (values.Int k ∷ []) heap)
  unfolding unit_call
  call_defined heap =
      let here = frame 1 (values.Int k ∷ []) in
      let (new, row) = free_call_defined same 0 info (values.Int k ∷ []) call here heap refl refl in
      (new, (call, refl, row))

  return_has_row : (heap : Heap) (j : ℤ) → IsDefined (LocalStep same) (live 6 (values.Int j ∷ []) heap)
  return_has_row heap j =
      let (new, row) = return_defined [] same (Some (values.Int j)) return (frame 6 (values.Int j ∷ [])) heap refl in
      (new, (return, refl, row))

  good : (c : Config) → IsWay c → Good c
  good c (AtLoad heap is) = subst Good (sym is) (tt, load_defined heap)
  good c (AtCall heap is) = subst Good (sym is) (tt, call_defined heap)
  good c (AtReturn heap j ensures is) = subst Good (sym is) (tt, return_has_row heap j)
  good c (HasReturned result is) = subst Good (sym is) (tt, tt)
  good c (HasNoRoom is) = subst Good (sym is) (tt, tt)

-- The arguments of a method with one int32.
one_number : (heap : Heap) (args : List Value) → FitPlaces heap (places.Int ∷ []) args
    → (k : ℤ) × (args ≡ values.Int k ∷ [])
one_number heap (values.Int k ∷ []) fit = (k, refl)
one_number heap (values.Int k ∷ v ∷ vs) fit = absurd fit.1
one_number heap [] fit = absurd fit
one_number heap (_ ∷ vs) fit = absurd fit.0

pub same_is_safe_alone : LocalSafe same
same_is_safe_alone index args heap n c runs =
    let (k, are) = one_number heap args runs.begins.fit in
    good index heap k c
    (steps_on index heap k n c
    (subst (λ (vs : List Value). StepsTo (LocalStep same) (entry_config same index vs heap) n c) are runs.steps))

-- However deep it calls itself.
pub same_is_safe : Safe world 0
same_is_safe = safe world world_agrees world_makes_values (same_is_safe_alone, tt) 0
