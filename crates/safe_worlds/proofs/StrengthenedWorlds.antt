-- A strengthened world takes the steps of the world as written until it faults. So where it is safe, that one is; and
-- where the units as written agree, the strengthened ones do.
use Rattle.std.proofs.Common.{◌≡◌, ◌⊎◌, ℕ, zero, suc, ◌+◌, Bool, true, false, cond, if◌then◌else◌, List, [], ◌∷◌, ◌++◌, length, map, get_or, Option, Some, None, option_map, slice_get, refl, sym, ap, subst, ◌∙◌, arith, append-nil, inl, inr}
use Rattle.std.specs.List.{AllByRecursion, enumerate_from}
use Rattle.std.proofs.lemmas.List.{length-map}
use Rattle.std.proofs.lemmas.List.Elements.{filter-append}
use Rattle.std.proofs.lemmas.List.FromFn.{length-enumerate_from}
use Rattle.std.proofs.lemmas.Option.{get_or_from_slice_get, none-some, same_Some, slice_get-map}
use Rattle.cil_model.specs.Calls.{Returned, ReturnRow, WorldCall, args_of, callee_index, called, ensures_fault}
use Rattle.cil_model.specs.Clauses.{Reading, clause_holds, clauses_of, false_requires, first_false, is_kind}
use Rattle.cil_model.specs.Effects.{Effect, HasEffect, effects_of, stores_arg, stores_local}
use Rattle.cil_model.specs.Runs.{CallsBy, EffectRow, IsDefined, IsNoFault, LocalSafe, MayBegin, Row, Runs, Safe, Step, StepsTo, entry_config, instr_at}
use Rattle.cil_model.specs.UnitCalls.{unit_call}
use Rattle.cil_model.specs.Values.{Heap}
use Rattle.cil_model.specs.WellFormed.{IsWellFormed}
use Rattle.cil_model.specs.Worlds.{Agree, Names}
use Rattle.cil_model.specs.declared.clause.Clause.{Clause}
use Rattle.cil_model.specs.declared.clause.ClauseKind.{ClauseKind}
use Rattle.cil_model.specs.declared.clause.ClauseKind.TheVariants as kinds
use Rattle.cil_model.specs.declared.instruction.Instr.{Instr}
use Rattle.cil_model.specs.declared.instruction.Op.{Op}
use Rattle.cil_model.specs.declared.instruction.Op.TheVariants as ops
use Rattle.cil_model.specs.declared.machine.Config.{Config}
use Rattle.cil_model.specs.declared.machine.Config.TheVariants as configs
use Rattle.cil_model.specs.declared.machine.FaultKind.{FaultKind}
use Rattle.cil_model.specs.declared.machine.FaultKind.TheVariants as faults
use Rattle.cil_model.specs.declared.machine.Frame.{Frame}
use Rattle.cil_model.specs.declared.machine.Value.{Value}
use Rattle.cil_model.specs.declared.machine.World.{World}
use Rattle.cil_model.specs.declared.unit.CalleeInfo.{CalleeInfo}
use Rattle.cil_model.specs.declared.unit.Unit.{Unit as MethodUnit}
use Rattle.cil_model.specs.declared.unit_numbers.UnitCall.{UnitCall}
use Rattle.cil_model.specs.declared.unit_numbers.UnitCall.TheVariants as calls
use Rattle.cil_model.proofs.Options.{and_then_from}
use Rattle.safe_worlds.specs.Strengthened.{AreEnsures, MayFault, MayFaultOnTheWay, RunAlike, StepAlike, added_to, strengthen_world, strengthened, strengthened_in, with_clauses, with_each}
use Rattle.safe_worlds.specs.Worlds.{AreSafe}
use Rattle.safe_worlds.proofs.SafeWorlds.{world_is_safe}

-- ---- clauses

no_requires : (own : List Clause) → AreEnsures own → clauses_of kinds.Requires own ≡ []
no_requires [] are = refl
no_requires (clause ∷ own) are =
    let others = clauses_of kinds.Requires own in
    subst (λ (kind : ClauseKind). cond (is_kind kinds.Requires kind) (clause ∷ others) others ≡ []) (sym are.0)
    (no_requires own are.1)

same_requires : (written own : List Clause) (args : List Value) (heap : Heap) → AreEnsures own
    → false_requires (written ++ own) args heap ≡ false_requires written args heap
same_requires written own args heap are =
    let r : Reading = record { args = args; entry_heap = heap; heap = heap; result = None } in
    let before = clauses_of kinds.Requires written in
    ap (first_false 1 r)
    (filter-append (λ (clause : Clause). is_kind kinds.Requires clause.kind) written own
    ∙ ap (λ (others : List Clause). before ++ others) (no_requires own are)
    ∙ append-nil before)

-- The first false clause stays the first one where others follow.
kept_first : (holds : Bool) (number : ℕ) (before after : Option ℕ) (k : ℕ) → (before ≡ Some k → after ≡ Some k)
    → (if holds then before else Some number) ≡ Some k → (if holds then after else Some number) ≡ Some k
kept_first true number before after k later e = later e
kept_first false number before after k later e = e

still_first : (number : ℕ) (r : Reading) (clauses others : List Clause) (k : ℕ) → first_false number r clauses ≡ Some k
    → first_false number r (clauses ++ others) ≡ Some k
still_first number r [] others k e = absurd (none-some k e)
still_first number r (clause ∷ clauses) others k e =
    kept_first (clause_holds r clause) number (first_false (number + 1) r clauses)
    (first_false (number + 1) r (clauses ++ others)) k
    (still_first (number + 1) r clauses others k) e

-- What is the first false clause among some is so among more.
abbrev Stays : Option ℕ → Option ℕ → Type 0
Stays (Some k) more = more ≡ Some k
Stays None more = Unit {0}

stays : (first more : Option ℕ) → ((k : ℕ) → first ≡ Some k → more ≡ Some k) → Stays first more
stays (Some k) more all = all k refl
stays None more all = tt

-- ---- units

module _ (unit : MethodUnit) (own : List Clause) (of_callees : List (List Clause)) where
  abbrev stronger : MethodUnit
  stronger = strengthened unit own of_callees

  ensures_stay : (f : Frame) (heap : Heap) (result : Option Value)
      → Stays (ensures_fault unit f heap result) (ensures_fault stronger f heap result)
  ensures_stay f heap result =
      let r : Reading =
      record { args = f.entry_args; entry_heap = f.entry_heap; heap = heap; result = result } in
      let written = clauses_of kinds.Ensures unit.clauses in
      stays (ensures_fault unit f heap result) (ensures_fault stronger f heap result)
      (λ k e. ap (first_false 1 r)
      (filter-append (λ (clause : Clause). is_kind kinds.Ensures clause.kind) unit.clauses own)
      ∙ still_first 1 r written (clauses_of kinds.Ensures own) k e)

  same_args : (n : ℕ) (i : Instr) (f : Frame) (heap : Heap) (stack : List Value)
      → stores_arg stronger n i f heap stack ≡ stores_arg unit n i f heap stack
  same_args n i f heap [] = refl
  same_args n i f heap (value ∷ rest) = refl

  same_locals : (n : ℕ) (i : Instr) (f : Frame) (heap : Heap) (stack : List Value)
      → stores_local stronger n i f heap stack ≡ stores_local unit n i f heap stack
  same_locals n i f heap [] = refl
  same_locals n i f heap (value ∷ rest) = refl

  same_effects : (op : Op) (i : Instr) (f : Frame) (heap : Heap)
      → effects_of op stronger i f heap ≡ effects_of op unit i f heap
  same_effects (ops.StoreArg n) i f heap = same_args n i f heap f.stack
  same_effects (ops.StoreLocal n) i f heap = same_locals n i f heap f.stack
  same_effects _ i f heap = refl

  same_called : (callers : List Frame) (index : ℕ) (args : List Value) (i : Instr) (f : Frame) (heap : Heap)
      (fault : Option ℕ)
      → called callers stronger index args i f heap fault ≡ called callers unit index args i f heap fault
  same_called callers index args i f heap (Some k) = refl
  same_called callers index args i f heap None = refl

  -- ---- rows of effects and returns

  module _ (callers : List Frame) (i : Instr) (f : Frame) (heap : Heap) where
    effects_forth : (new : Config) → EffectRow callers unit i f heap new → EffectRow callers stronger i f heap new
    effects_forth new (effect, has, to) =
        (effect, subst (λ (es : List Effect). HasEffect es effect) (sym (same_effects i.op i f heap)) has, to)

    effects_back : (new : Config) → EffectRow callers stronger i f heap new → EffectRow callers unit i f heap new
    effects_back new (effect, has, to) =
        (effect, subst (λ (es : List Effect). HasEffect es effect) (same_effects i.op i f heap) has, to)

    -- A return may fault.
    abbrev FaultsAtReturn : Type 0
    FaultsAtReturn = (k : ℕ) × ReturnRow callers stronger i f heap (configs.Fault (faults.Ensures k) f.unit i.at)

    returned_forth : (result : Option Value) (before after : Option ℕ) (new : Config) → Stays before after
        → Returned callers i f heap result before new
        → Returned callers i f heap result after new
        ⊎ ((k : ℕ) × Returned callers i f heap result after (configs.Fault (faults.Ensures k) f.unit i.at))
    returned_forth result (Some k) after new same to =
        inl (subst (λ (o : Option ℕ). Returned callers i f heap result o new) (sym same) to)
    returned_forth result None None new same to = inl to
    returned_forth result None (Some k) new same to = inr (k, refl)

    returned_back : (result : Option Value) (before after : Option ℕ) (new : Config) → Stays before after
        → Returned callers i f heap result after new → IsNoFault new → Returned callers i f heap result before new
    returned_back result (Some k) after new same to none =
        subst (λ (o : Option ℕ). Returned callers i f heap result o new) same to
    returned_back result None None new same to none = to
    returned_back result None (Some k) new same to none = absurd (subst IsNoFault to none)

    return_forth : (new : Config) → ReturnRow callers unit i f heap new
        → ReturnRow callers stronger i f heap new ⊎ FaultsAtReturn
    return_forth new (result, is, returned) =
        go
        (returned_forth result (ensures_fault unit f heap result) (ensures_fault stronger f heap result) new
        (ensures_stay f heap result) returned)
      where
        go : Returned callers i f heap result (ensures_fault stronger f heap result) new
            ⊎ ((k : ℕ)
            × Returned callers i f heap result (ensures_fault stronger f heap result)
            (configs.Fault (faults.Ensures k) f.unit i.at))
            → ReturnRow callers stronger i f heap new ⊎ FaultsAtReturn
        go (inl on) = inl (result, is, on)
        go (inr (k, faulted)) = inr (k, (result, is, faulted))

    return_back : (new : Config) → ReturnRow callers stronger i f heap new → IsNoFault new
        → ReturnRow callers unit i f heap new
    return_back new (result, is, returned) none = (
      result,
      is,
      returned_back result (ensures_fault unit f heap result) (ensures_fault stronger f heap result) new
          (ensures_stay f heap result) returned none,
    )

  -- ---- entries

  module _ (args : List Value) (heap : Heap) (are : AreEnsures own) where
    begins_forth : MayBegin unit args heap → MayBegin stronger args heap
    begins_forth begins = record {
      heap_is = begins.heap_is;
      fit = begins.fit;
      required = same_requires unit.clauses own args heap are ∙ begins.required;
    }

    begins_back : MayBegin stronger args heap → MayBegin unit args heap
    begins_back begins = record {
      heap_is = begins.heap_is;
      fit = begins.fit;
      required = sym (same_requires unit.clauses own args heap are) ∙ begins.required;
    }

-- ---- lists with numbers

module _ {X Y : Type 0} (f : ℕ → X → Y) where
  abbrev each : ℕ → List X → List Y
  each n xs = map (λ (numbered : ℕ × X). f numbered.0 numbered.1) (enumerate_from n xs)

  item_there : (n : ℕ) (xs : List X) (m k : ℕ) (x : X) → n + m ≡ k → slice_get xs m ≡ Some x
      → slice_get (each n xs) m ≡ Some (f k x)
  item_there n [] m k x at e = absurd (none-some x e)
  item_there n (x₀ ∷ xs) zero k x at e =
      let same : n ≡ k = omega arith in
      ap (λ (j : ℕ). Some (f j x₀)) same ∙ ap (λ (y : X). Some (f k y)) (same_Some x₀ x e)
  item_there n (x₀ ∷ xs) (suc m) k x at e = item_there (n + 1) xs m k x (omega arith) e

  item_from : (n : ℕ) (xs : List X) (m k : ℕ) (y : Y) → n + m ≡ k → slice_get (each n xs) m ≡ Some y
      → (x : X) × (slice_get xs m ≡ Some x) × (y ≡ f k x)
  item_from n [] m k y at e = absurd (none-some y e)
  item_from n (x ∷ xs) zero k y at e =
      let same : n ≡ k = omega arith in
      (x, refl, sym (same_Some (f n x) y e) ∙ ap (λ (j : ℕ). f j x) same)
  item_from n (x ∷ xs) (suc m) k y at e = item_from (n + 1) xs m k y (omega arith) e

  all_each : (P : Y → Type 0) (n : ℕ) (xs : List X)
      → ((m : ℕ) (x : X) → slice_get xs m ≡ Some x → P (f (n + m) x)) → AllByRecursion P (each n xs)
  all_each P n [] each_is = tt
  all_each P n (x ∷ xs) each_is =
      let here : n + 0 ≡ n = omega arith in (
        subst (λ (k : ℕ). P (f k x)) here (each_is 0 x refl),
        all_each P (n + 1) xs
            (λ m y e. let behind : n + suc m ≡ n + 1 + m = omega arith in
            subst (λ (k : ℕ). P (f k y)) behind (each_is (suc m) y e)),
      )

  length_each : (n : ℕ) (xs : List X) → length (each n xs) ≡ length xs
  length_each n xs =
      length-map (enumerate_from n xs) (λ (numbered : ℕ × X). f numbered.0 numbered.1) ∙ length-enumerate_from n xs

ensures_at : (added : List (List Clause)) (index : ℕ) → AllByRecursion AreEnsures added
    → AreEnsures (added_to added index)
ensures_at [] index are = tt
ensures_at (own ∷ added) zero are = are.0
ensures_at (own ∷ added) (suc index) are = ensures_at added index are.1

-- ---- worlds

module _ (added : List (List Clause)) (w : World) where
  abbrev strong : World
  strong = strengthen_world added w

  -- The unit of an index, with its clauses and those of its callees.
  abbrev made : ℕ → MethodUnit → MethodUnit
  made index unit = strengthened_in added w index unit

  abbrev known : ℕ → List (List Clause)
  known index = map (added_to added) (get_or w.callee index [])

  pub unit_there : (m : ℕ) (unit : MethodUnit) → slice_get w.units m ≡ Some unit
      → slice_get strong.units m ≡ Some (made m unit)
  unit_there m unit e = item_there (strengthened_in added w) 0 w.units m m unit (omega arith) e

  pub unit_from : (m : ℕ) (unit : MethodUnit) → slice_get strong.units m ≡ Some unit
      → (written : MethodUnit) × (slice_get w.units m ≡ Some written) × (unit ≡ made m written)
  unit_from m unit e = item_from (strengthened_in added w) 0 w.units m m unit (omega arith) e

  -- What is true of each unit that is made so is true of all units of the strengthened world.
  pub all_strengthened : (P : MethodUnit → Type 0)
      → ((m : ℕ) (unit : MethodUnit) → slice_get w.units m ≡ Some unit → P (made m unit))
      → AllByRecursion P strong.units
  all_strengthened P each_is =
      all_each (strengthened_in added w) P 0 w.units
      (λ m unit e. let here : m ≡ 0 + m = omega arith in
      subst (λ (k : ℕ). P (made k unit)) here (each_is m unit e))

  -- ---- rows

  module _ (are : AllByRecursion AreEnsures added) (callers : List Frame) (i : Instr) (f : Frame) (heap : Heap) where
    call_forth : (number : ℕ) (new : Config) → WorldCall w callers number i f heap new
        → WorldCall strong callers number i f heap new
    call_forth number new row =
        let callee = made row.index row.callee in
        let own = added_to added row.index in
        record {
          index = row.index;
          callee = callee;
          args = row.args;
          index_is = row.index_is;
          callee_is = unit_there row.index row.callee row.callee_is;
          args_are = row.args_are;
          new_is =
              row.new_is
              ∙ ap (called callers row.callee row.index row.args i f heap)
              (sym (same_requires row.callee.clauses own row.args heap (ensures_at added row.index are)))
              ∙ sym
              (same_called row.callee own (known row.index) callers row.index row.args i f heap
              (false_requires callee.clauses row.args heap));
        }

    -- A call whose callee is a strengthened unit.
    call_of : (number index : ℕ) (written callee : MethodUnit) (args : List Value) (new : Config)
        → callee ≡ made index written
        → slice_get w.units index ≡ Some written → callee_index w f.unit number ≡ Some index
        → args_of heap callee.args f.stack ≡ Some args
        → new ≡ called callers callee index args i f heap (false_requires callee.clauses args heap)
        → WorldCall w callers number i f heap new
    call_of number index written callee args new same written_is index_is args_are new_is =
        let own = added_to added index in
        record {
          index = index;
          callee = written;
          args = args;
          index_is = index_is;
          callee_is = written_is;
          args_are = ap (λ (u : MethodUnit). args_of heap u.args f.stack) (sym same) ∙ args_are;
          new_is =
              new_is
              ∙ ap (λ (u : MethodUnit). called callers u index args i f heap (false_requires u.clauses args heap)) same
              ∙ same_called written own (known index) callers index args i f heap
              (false_requires (written.clauses ++ own) args heap)
              ∙ ap (called callers written index args i f heap)
              (same_requires written.clauses own args heap (ensures_at added index are));
        }

    call_back : (number : ℕ) (new : Config) → WorldCall strong callers number i f heap new
        → WorldCall w callers number i f heap new
    call_back number new row =
        let (written, written_is, same) = unit_from row.index row.callee row.callee_is in
        call_of number row.index written row.callee row.args new same written_is row.index_is row.args_are row.new_is

    module _ (unit : MethodUnit) (index : ℕ) where
      calls_forth : (call : Option UnitCall) (new : Config)
          → CallsBy (WorldCall w callers) call callers unit i f heap new
          → CallsBy (WorldCall strong callers) call callers (made index unit) i f heap new
      calls_forth (Some (calls.Callee number)) new row = call_forth number new row
      calls_forth _ new row = effects_forth unit (added_to added index) (known index) callers i f heap new row

      calls_back : (call : Option UnitCall) (new : Config)
          → CallsBy (WorldCall strong callers) call callers (made index unit) i f heap new
          → CallsBy (WorldCall w callers) call callers unit i f heap new
      calls_back (Some (calls.Callee number)) new row = call_back number new row
      calls_back _ new row = effects_back unit (added_to added index) (known index) callers i f heap new row

      -- The row of an operation that may fault.
      abbrev FaultsAt : Op → Type 0
      FaultsAt op =
          (kind : FaultKind)
          × Row (WorldCall strong callers) op callers (made index unit) i f heap (configs.Fault kind f.unit i.at)

      row_forth : (op : Op) (new : Config) → Row (WorldCall w callers) op callers unit i f heap new
          → Row (WorldCall strong callers) op callers (made index unit) i f heap new ⊎ FaultsAt op
      row_forth ops.Return new row =
          go (return_forth unit (added_to added index) (known index) callers i f heap new row)
        where
          go : ReturnRow callers (made index unit) i f heap new
              ⊎ ((k : ℕ) × ReturnRow callers (made index unit) i f heap (configs.Fault (faults.Ensures k) f.unit i.at))
              → Row (WorldCall strong callers) ops.Return callers (made index unit) i f heap new ⊎ FaultsAt ops.Return
          go (inl on) = inl on
          go (inr (k, faulted)) = inr (faults.Ensures k, faulted)
      row_forth (ops.Call number) new row = inl (calls_forth (unit_call number) new row)
      row_forth _ new row = inl (effects_forth unit (added_to added index) (known index) callers i f heap new row)

      row_back : (op : Op) (new : Config)
          → Row (WorldCall strong callers) op callers (made index unit) i f heap new
          → IsNoFault new → Row (WorldCall w callers) op callers unit i f heap new
      row_back ops.Return new row none =
          return_back unit (added_to added index) (known index) callers i f heap new row none
      row_back (ops.Call number) new row none = calls_back (unit_call number) new row
      row_back _ new row none = effects_back unit (added_to added index) (known index) callers i f heap new row

  -- ---- steps

  module _ (are : AllByRecursion AreEnsures added) where
    step_forth : (c new : Config) → Step w c new → Step strong c new ⊎ MayFault strong c
    step_forth (configs.Live frames heap) new (callers, f, unit, i, is, about, row) =
        go (row_forth are callers i f heap unit f.unit i.op new row)
      where
        of : slice_get strong.units f.unit ≡ Some (made f.unit unit)
        of = unit_there f.unit unit about.of

        go : Row (WorldCall strong callers) i.op callers (made f.unit unit) i f heap new
            ⊎ ((kind : FaultKind)
            × Row (WorldCall strong callers) i.op callers (made f.unit unit) i f heap
            (configs.Fault kind f.unit i.at))
            → Step strong (configs.Live frames heap) new ⊎ MayFault strong (configs.Live frames heap)
        go (inl on) = inl (callers, f, made f.unit unit, i, is, record { of = of; to = about.to }, on)
        go (inr (kind, faulted)) =
            inr (
              kind,
              f.unit,
              i.at,
              (callers, f, made f.unit unit, i, is, record { of = of; to = about.to }, faulted),
            )
    step_forth _ new step = absurd step

    step_back : (c new : Config) → Step strong c new → IsNoFault new → Step w c new
    step_back (configs.Live frames heap) new (callers, f, unit, i, is, about, row) none =
        let (written, of, same) = unit_from f.unit unit about.of in
        let stronger_row : Row (WorldCall strong callers) i.op callers (made f.unit written) i f heap new =
        subst (λ (u : MethodUnit). Row (WorldCall strong callers) i.op callers u i f heap new) same row in
        let to = ap (λ (u : MethodUnit). instr_at u.instrs f.at) (sym same) ∙ about.to in (
          callers,
          f,
          written,
          i,
          is,
          record { of = of; to = to },
          row_back are callers i f heap written f.unit i.op new stronger_row none,
        )
    step_back _ new step none = absurd step

    -- Until a fault, both take the same steps.
    pub steps_alike : StepAlike w strong
    steps_alike = record { forth = step_forth; back = step_back }

    -- ---- runs

    module _ (m : ℕ) (args : List Value) (heap : Heap) where
      -- The strengthened world's run from the entry of the unit as written.
      stronger_runs : (unit : MethodUnit) (n : ℕ) (c : Config) → slice_get w.units m ≡ Some unit
          → MayBegin unit args heap
          → StepsTo (Step strong) (entry_config unit m args heap) n c → Runs strong m args heap n c
      stronger_runs unit n c of begins steps = record {
        unit = made m unit;
        unit_is = unit_there m unit of;
        begins = begins_forth unit (added_to added m) (known m) args heap (ensures_at added m are) begins;
        steps = steps;
      }

      module _ (unit : MethodUnit) (of : slice_get w.units m ≡ Some unit) (begins : MayBegin unit args heap) where
        abbrev start : Config
        start = entry_config unit m args heap

        abbrev OnTheWay : ℕ → Config → Type 0
        OnTheWay n c = MayFaultOnTheWay w strong m args heap n c

        one_more : (n : ℕ) (mid c : Config) → OnTheWay n mid → Step w mid c → OnTheWay (suc n) c
        one_more n mid c way step =
            let all = way.all in
            record {
              passed = way.passed;
              before = way.before;
              behind = suc way.behind;
              all = omega arith;
              comes = way.comes;
              faults = way.faults;
              goes_on = (mid, way.goes_on, step);
            }

        last_step : (n : ℕ) (mid c : Config) → StepsTo (Step strong) start n mid → Step w mid c
            → Step strong mid c ⊎ MayFault strong mid → StepsTo (Step strong) start (suc n) c ⊎ OnTheWay (suc n) c
        last_step n mid c steps step (inl on) = inl (mid, steps, on)
        last_step n mid c steps step (inr faulted) =
            inr
            (record {
              passed = mid;
              before = n;
              behind = 1;
              all = omega arith;
              comes = stronger_runs unit n mid of begins steps;
              faults = faulted;
              goes_on = (mid, refl, step);
            })

        next_step : (n : ℕ) (mid c : Config) → StepsTo (Step strong) start n mid ⊎ OnTheWay n mid → Step w mid c
            → StepsTo (Step strong) start (suc n) c ⊎ OnTheWay (suc n) c
        next_step n mid c (inl steps) step = last_step n mid c steps step (step_forth mid c step)
        next_step n mid c (inr way) step = inr (one_more n mid c way step)

        steps_forth : (n : ℕ) (c : Config) → StepsTo (Step w) start n c
            → StepsTo (Step strong) start n c ⊎ OnTheWay n c
        steps_forth zero c same = inl same
        steps_forth (suc n) c (mid, steps, step) = next_step n mid c (steps_forth n mid steps) step

        runs_from : (n : ℕ) (c : Config) → StepsTo (Step strong) start n c ⊎ OnTheWay n c
            → Runs strong m args heap n c ⊎ OnTheWay n c
        runs_from n c (inl steps) = inl (stronger_runs unit n c of begins steps)
        runs_from n c (inr way) = inr way

      runs_forth : (n : ℕ) (c : Config) → Runs w m args heap n c
          → Runs strong m args heap n c ⊎ MayFaultOnTheWay w strong m args heap n c
      runs_forth n c runs =
          runs_from runs.unit runs.unit_is runs.begins n c
          (steps_forth runs.unit runs.unit_is runs.begins n c runs.steps)

      -- What has a step is no fault.
      moves : (c new : Config) → Step strong c new → IsNoFault c
      moves (configs.Live frames after) new step = tt
      moves _ new step = absurd step

      steps_back : (begin : Config) (n : ℕ) (c : Config) → StepsTo (Step strong) begin n c → IsNoFault c
          → StepsTo (Step w) begin n c
      steps_back begin zero c same none = same
      steps_back begin (suc n) c (mid, steps, step) none =
          (mid, steps_back begin n mid steps (moves mid c step), step_back mid c step none)

      runs_back : (n : ℕ) (c : Config) → Runs strong m args heap n c → IsNoFault c → Runs w m args heap n c
      runs_back n c runs none =
          let (written, of, same) = unit_from m runs.unit runs.unit_is in
          let begins = subst (λ (u : MethodUnit). MayBegin u args heap) same runs.begins in
          let steps =
          subst (λ (u : MethodUnit). StepsTo (Step strong) (entry_config u m args heap) n c) same runs.steps in
          record {
            unit = written;
            unit_is = of;
            begins = begins_back written (added_to added m) (known m) args heap (ensures_at added m are) begins;
            steps = steps_back (entry_config written m args heap) n c steps none;
          }

    -- Until a fault, both have the same runs.
    pub runs_alike : RunAlike w strong
    runs_alike = record { forth = runs_forth; back = runs_back }

    -- ---- safety

    module _ (m : ℕ) (safe : Safe strong m) (args : List Value) (heap : Heap) where
      one_step_more : (n : ℕ) (c new : Config) → Runs strong m args heap n c → Step strong c new
          → Runs strong m args heap (suc n) new
      one_step_more n c new runs step =
          record { unit = runs.unit; unit_is = runs.unit_is; begins = runs.begins; steps = (c, runs.steps, step) }

      none_on_the_way : (n : ℕ) (c : Config) → MayFaultOnTheWay w strong m args heap n c → ⊥
      none_on_the_way n c way =
          let (kind, unit, at, step) = way.faults in
          (safe args heap (suc way.before) (configs.Fault kind unit at)
          (one_step_more way.before way.passed (configs.Fault kind unit at) way.comes step)).0

      defined : (n : ℕ) (c : Config) → Runs strong m args heap n c → IsDefined (Step strong) c → IsDefined (Step w) c
      defined n (configs.Live frames after) runs (next, step) =
          let c = configs.Live frames after in
          (next, step_back c next step (safe args heap (suc n) next (one_step_more n c next runs step)).0)
      defined n _ runs is = tt

      as_written : (n : ℕ) (c : Config) → Runs strong m args heap n c ⊎ MayFaultOnTheWay w strong m args heap n c
          → IsNoFault c × IsDefined (Step w) c
      as_written n c (inl runs) = let good = safe args heap n c runs in (good.0, defined n c runs good.1)
      as_written n c (inr way) = absurd (none_on_the_way n c way)

    -- Where the strengthened world is safe for a method, the world as written is.
    pub safe_as_written : (m : ℕ) → Safe strong m → Safe w m
    safe_as_written m safe args heap n c runs = as_written m safe args heap n c (runs_forth m args heap n c runs)

  -- ---- agreement

  length_with_each : (callees : List CalleeInfo) (lists : List (List Clause))
      → length (with_each callees lists) ≡ length callees
  length_with_each [] lists = refl
  length_with_each (callee ∷ callees) [] = refl
  length_with_each (callee ∷ callees) (own ∷ lists) = ap (λ (n : ℕ). suc n) (length_with_each callees lists)

  nothing_added : (callee : CalleeInfo) → callee ≡ with_clauses callee []
  nothing_added callee =
      ap (λ (clauses : List Clause). record callee { clauses = clauses }) (sym (append-nil callee.clauses))

  -- The entry of a number, of which the clauses added there are those of its list.
  entry_from : (callees : List CalleeInfo) (lists : List (List Clause)) (number : ℕ) (entry : CalleeInfo)
      → slice_get (with_each callees lists) number ≡ Some entry
      → (callee : CalleeInfo) × (slice_get callees number ≡ Some callee)
      × (entry ≡ with_clauses callee (get_or lists number []))
  entry_from [] lists number entry e = absurd (none-some entry e)
  entry_from (callee ∷ callees) [] number entry e =
      let plain : slice_get (callee ∷ callees) number ≡ Some entry = e in (entry, plain, nothing_added entry)
  entry_from (callee ∷ callees) (own ∷ lists) zero entry e =
      (callee, refl, sym (same_Some (with_clauses callee own) entry e))
  entry_from (callee ∷ callees) (own ∷ lists) (suc number) entry e = entry_from callees lists number entry e

  -- The clauses for the entry of a number are those added to the unit that it names.
  pub known_at : (m number index : ℕ) → callee_index w m number ≡ Some index
      → get_or (known m) number [] ≡ added_to added index
  known_at m number index e =
      let list = and_then_from (λ (callees : List ℕ). slice_get callees number) (slice_get w.callee m) index e in
      let here : get_or w.callee m [] ≡ list.value = get_or_from_slice_get w.callee m list.value [] list.is in
      let there : slice_get (map (added_to added) list.value) number ≡ Some (added_to added index) =
      slice_get-map (added_to added) list.value number ∙ ap (option_map (added_to added)) list.gave in
      ap (λ (callees : List ℕ). get_or (map (added_to added) callees) number []) here
      ∙ get_or_from_slice_get (map (added_to added) list.value) number (added_to added index) [] there

  module _ (agree : Agree w) where
    counts : (m : ℕ) (unit : MethodUnit) (callees : List ℕ) → slice_get strong.units m ≡ Some unit
        → slice_get w.callee m ≡ Some callees → length callees ≡ length unit.callees
    counts m unit callees is list =
        let (written, of, same) = unit_from m unit is in
        agree.counts m written callees of list ∙ sym (length_with_each written.callees (known m))
        ∙ ap (λ (u : MethodUnit). length u.callees) (sym same)

    entries : (m : ℕ) (unit : MethodUnit) (number : ℕ) (callee : CalleeInfo) → slice_get strong.units m ≡ Some unit
        → slice_get unit.callees number ≡ Some callee → Names strong m number callee
    entries m unit number callee is there =
        let (written, of, same) = unit_from m unit is in
        let (plain, plain_is, callee_is) =
        entry_from written.callees (known m) number callee
        (ap (λ (u : MethodUnit). slice_get u.callees number) (sym same) ∙ there) in
        let names = agree.entries m written number plain of plain_is in
        record {
          index = names.index;
          named = made names.index names.named;
          index_is = names.index_is;
          named_is = unit_there names.index names.named names.named_is;
          same =
              callee_is ∙ ap (with_clauses plain) (known_at m number names.index names.index_is)
              ∙ ap (λ (c : CalleeInfo). with_clauses c (added_to added names.index)) names.same;
        }

    -- Units that agree as written agree when they are strengthened.
    pub agrees : Agree strong
    agrees = record {
      lists = agree.lists ∙ sym (length_each (strengthened_in added w) 0 w.units);
      counts = counts;
      entries = entries;
    }

    -- Where the strengthened units are safe by themselves, each method is safe in the world as written.
    pub written_is_safe : AllByRecursion AreEnsures added → AllByRecursion IsWellFormed strong.units
        → AllByRecursion LocalSafe strong.units → AreSafe w
    written_is_safe are formed all m = safe_as_written are m (world_is_safe strong agrees formed all m)
