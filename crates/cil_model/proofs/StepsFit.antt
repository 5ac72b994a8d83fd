-- What typing is for: typed code has a step, and where its frame goes on, the stack fits the kinds there.
use Rattle.std.proofs.Common.{◌≡◌, ℕ, ◌+◌, true, List, [], ◌∷◌, ◌++◌, length, reverse, take, drop, slice_get, Option, Some, None, option_map, refl, sym, ap, subst, ◌∙◌, arith, length-append, inl, inr}
use Rattle.std.specs.List.{AllByRecursion}
use Rattle.std.proofs.lemmas.Bool.{false≢true}
use Rattle.std.proofs.lemmas.Option.{cond_some, none-some, same_Some}
use Rattle.cil_model.specs.Calls.{FreeCall, FreelyCalled, FitsResult, Returned, args_of, behind_call as frame_behind_call, ensures_fault, pushed, result_of}
use Rattle.cil_model.specs.Clauses.{false_requires}
use Rattle.cil_model.specs.Effects.{Effect, GoesOn, Faults, Assumes, FindsNoRoom, HasEffect, contract_call, effects, effects_of}
use Rattle.cil_model.specs.Bodies.{is_executed, is_executed_call}
use Rattle.cil_model.specs.Kinds.{behind, behind_call, behind_callee, behind_return, kind_of, pushed_kind, take_each, takes}
use Rattle.cil_model.specs.Passes.{successors}
use Rattle.cil_model.specs.Runs.{CallRow, CallsBy, EffectRow, Row, config_after}
use Rattle.cil_model.specs.Shapes.{shape_of}
use Rattle.cil_model.specs.UnitCalls.{unit_call}
use Rattle.cil_model.specs.Values.{Heap, FitPlaces}
use Rattle.cil_model.specs.declared.instruction.Instr.{Instr}
use Rattle.cil_model.specs.declared.instruction.Op.{Op}
use Rattle.cil_model.specs.declared.instruction.Op.TheVariants as ops
use Rattle.cil_model.specs.declared.machine.Config.{Config}
use Rattle.cil_model.specs.declared.machine.Config.TheVariants as configs
use Rattle.cil_model.specs.declared.machine.Frame.{Frame}
use Rattle.cil_model.specs.declared.machine.Value.{Value}
use Rattle.cil_model.specs.declared.place.Kind.{Kind}
use Rattle.cil_model.specs.declared.place.Place.{Place}
use Rattle.cil_model.specs.declared.place.Place.TheVariants as places
use Rattle.cil_model.specs.declared.unit.CalleeInfo.{CalleeInfo}
use Rattle.cil_model.specs.declared.unit.Unit.{Unit as MethodUnit}
use Rattle.cil_model.specs.declared.unit_numbers.UnitCall.{UnitCall}
use Rattle.cil_model.specs.declared.unit_numbers.UnitCall.TheVariants as calls
use Rattle.cil_model.proofs.CallsDefined.{return_defined}
use Rattle.cil_model.proofs.EffectsFit.{AllFit, EffectFits, FitBehind, IsOneOf, IsOwn, IsOwnCall, contract_call_fits, effects_fit}
use Rattle.cil_model.proofs.KindForms.{HaveForms, HaveForms-kept, args_defined, form_of_place, forms_drop, put_defined}

-- ---- calls and returns

-- A callee whose arguments are typed.
record TypedCall (callee : Option CalleeInfo) (kinds after : List Kind) : Type 0 where
  info : CalleeInfo
  is : callee ≡ Some info
  taken : take_each info.args (reverse (take (length info.args) kinds)) ≡ true
  after_is : after ≡ pushed_kind (kind_of info.result) (drop (length info.args) kinds)

typed_call : (callee : Option CalleeInfo) (kinds after : List Kind) → behind_callee callee kinds ≡ Some after → TypedCall callee kinds after
typed_call None kinds after e = absurd (none-some after e)
typed_call (Some info) kinds after e = let both = cond_some _ _ after e in record { info = info; is = refl; taken = both.0; after_is = sym both.1 }

result_defined : (heap : Heap) (place : Place) (kinds after : List Kind) (stack : List Value) → behind_return place kinds ≡ Some after
    → HaveForms heap kinds stack
    → (result : Option Value) × (result_of heap place stack ≡ Some result)
result_defined heap places.Void [] after [] e h = (None, refl)
result_defined heap places.Bool [] after stack e h = absurd (none-some after e)
result_defined heap places.Int [] after stack e h = absurd (none-some after e)
result_defined heap places.Bools [] after stack e h = absurd (none-some after e)
result_defined heap places.Ints [] after stack e h = absurd (none-some after e)
result_defined heap place (kind ∷ []) after (v ∷ []) e h =
    let taken = cond_some (takes place kind) [] after e in
    let (w, is) = put_defined heap place kind v taken.0 h.0 in (Some w, ap (option_map Some) is)
result_defined heap place (kind ∷ other ∷ kinds) after stack e h = absurd (none-some after e)
result_defined heap place _ after _ e h = absurd (search)

-- A result has the form of its place's kind.
result_forms : (heap : Heap) (place : Place) (result : Option Value) (rest : List Kind) (f : Frame) → FitsResult heap place result
    → HaveForms heap rest f.stack
    → HaveForms heap (pushed_kind (kind_of place) rest) (pushed f result).stack
result_forms heap places.Void None rest f fits h = h
result_forms heap places.Void (Some v) rest f fits h = absurd fits
result_forms heap places.Bool (Some v) rest f fits h = form_of_place heap places.Bool v rest f.stack fits h
result_forms heap places.Int (Some v) rest f fits h = form_of_place heap places.Int v rest f.stack fits h
result_forms heap places.Bools (Some v) rest f fits h = form_of_place heap places.Bools v rest f.stack fits h
result_forms heap places.Ints (Some v) rest f fits h = form_of_place heap places.Ints v rest f.stack fits h
result_forms heap _ None rest f fits h = absurd fits

pushed_at : (f : Frame) (result : Option Value) → (pushed f result).at ≡ f.at
pushed_at f None = refl
pushed_at f (Some v) = refl

first_effect : (ats : List ℕ) (kinds : List Kind) (es : List Effect) → AllFit ats kinds es → (effect : Effect) × HasEffect es effect
first_effect ats kinds [] fit = absurd fit
first_effect ats kinds (e ∷ es) fit = (e, inl refl)

each_effect : (ats : List ℕ) (kinds : List Kind) (es : List Effect) → AllFit ats kinds es → AllByRecursion (EffectFits ats kinds) es
each_effect ats kinds [] fit = absurd fit
each_effect ats kinds (e ∷ es) fit = fit

this_effect : (P : Effect → Type 0) (es : List Effect) (effect : Effect) → AllByRecursion P es → HasEffect es effect → P effect
this_effect P [] effect all has = absurd has
this_effect P (e ∷ es) effect all (inl same) = subst P (sym same) all.0
this_effect P (e ∷ es) effect all (inr others) = this_effect P es effect all.1 others

-- ---- one instruction whose operands are typed

-- A configuration of one frame, which went on to one of the offsets with values of these kinds, or an end.
abbrev pub ConfigFits : List ℕ → List Kind → Config → Type 0
ConfigFits ats kinds (configs.Live (g ∷ []) new) = IsOneOf ats g.at × HaveForms new kinds g.stack
ConfigFits ats kinds (configs.Live _ new) = ⊥
ConfigFits ats kinds _ = Unit {0}

module _ (unit : MethodUnit) (i : Instr) (f : Frame) (heap : Heap) (kinds after : List Kind)
    (typed : behind (shape_of unit) i.op kinds ≡ Some after) (args : FitPlaces heap unit.args f.args) (locals : FitPlaces heap unit.locals f.locals)
    (forms : HaveForms heap kinds f.stack) where
  own_fit : (op : Op) → IsOwn op → behind (shape_of unit) op kinds ≡ Some after
      → AllFit (successors op (i.at + i.size)) after (effects_of op unit i f heap)
  own_fit op own e =
      subst (λ (o : Option (List Kind)). FitBehind (successors op (i.at + i.size)) o (effects_of op unit i f heap)) e
      (effects_fit unit i f heap op kinds own args locals forms)

  own_defined : (callers : List Frame) → IsOwn i.op → (new : Config) × EffectRow callers unit i f heap new
  own_defined callers own =
      let (effect, has) = first_effect (successors i.op (i.at + i.size)) after (effects unit i f heap) (own_fit i.op own typed) in
      (config_after callers f i effect, (effect, has, refl))

  -- ---- a row

  -- A call of a callee has a row where it finds its arguments.
  abbrev CallsDefined : CallRow → Type 0
  CallsDefined A =
      (number : ℕ) (callee : CalleeInfo) (args : List Value) → slice_get unit.callees number ≡ Some callee
      → args_of heap callee.args f.stack ≡ Some args
      → (new : Config) × A number i f heap new

  call_defined : (A : CallRow) (callers : List Frame) (call : Option UnitCall) → behind_call (shape_of unit) call kinds ≡ Some after
      → is_executed_call call ≡ true
      → CallsDefined A → (IsOwnCall call → (new : Config) × EffectRow callers unit i f heap new)
      → (new : Config) × CallsBy A call callers unit i f heap new
  call_defined A callers (Some (calls.Callee number)) e executed defined own =
      let t = typed_call (slice_get unit.callees number) kinds after e in
      let (args, are) = args_defined heap t.info.args kinds f.stack t.taken forms in
      defined number t.info args t.is are
  call_defined A callers (Some (calls.Assert message)) e executed defined own = own tt
  call_defined A callers (Some (calls.Assume message)) e executed defined own = own tt
  call_defined A callers None e executed defined own = own tt
  call_defined A callers (Some _) e executed defined own = absurd (false≢true executed)

  row_defined : (A : CallRow) (callers : List Frame) (op : Op) → behind (shape_of unit) op kinds ≡ Some after → is_executed op ≡ true → CallsDefined A
      → (IsOwn op → (new : Config) × EffectRow callers unit i f heap new) → (new : Config) × Row A op callers unit i f heap new
  row_defined A callers ops.Return e executed defined own =
      let (result, is) = result_defined heap unit.result kinds after f.stack e forms in return_defined callers unit result i f heap is
  row_defined A callers (ops.Call number) e executed defined own = call_defined A callers (unit_call number) e executed defined own
  row_defined A callers _ e executed defined own = own tt

  pub defined : (A : CallRow) (callers : List Frame) → is_executed i.op ≡ true → CallsDefined A
      → (new : Config) × Row A i.op callers unit i f heap new
  defined A callers executed calls = row_defined A callers i.op typed executed calls (own_defined callers)

  -- ---- what a row comes to

  each_own : (op : Op) → IsOwn op → behind (shape_of unit) op kinds ≡ Some after
      → AllByRecursion (EffectFits (successors op (i.at + i.size)) after) (effects_of op unit i f heap)
  each_own op own e = each_effect (successors op (i.at + i.size)) after (effects_of op unit i f heap) (own_fit op own e)

  each_own_call : (call : Option UnitCall) → IsOwnCall call → behind_call (shape_of unit) call kinds ≡ Some after
      → AllByRecursion (EffectFits ((i.at + i.size) ∷ []) after) (contract_call call i f heap)
  each_own_call call own e =
      each_effect ((i.at + i.size) ∷ []) after (contract_call call i f heap)
      (subst (λ (o : Option (List Kind)). FitBehind ((i.at + i.size) ∷ []) o (contract_call call i f heap)) e (contract_call_fits unit i f heap call kinds own forms))

  each_call : (call : Option UnitCall) → behind_call (shape_of unit) call kinds ≡ Some after
      → AllByRecursion (EffectFits ((i.at + i.size) ∷ []) after) (contract_call call i f heap)
  each_call (Some (calls.Assert message)) e = each_own_call (Some (calls.Assert message)) tt e
  each_call (Some (calls.Assume message)) e = each_own_call (Some (calls.Assume message)) tt e
  each_call _ e = tt

  each_fits : (op : Op) → behind (shape_of unit) op kinds ≡ Some after
      → AllByRecursion (EffectFits (successors op (i.at + i.size)) after) (effects_of op unit i f heap)
  each_fits ops.Return e = tt
  each_fits (ops.Call number) e = each_call (unit_call number) e
  each_fits op e = each_own op tt e

  effect_comes : (ats : List ℕ) (effect : Effect) → EffectFits ats after effect → ConfigFits ats after (config_after [] f i effect)
  effect_comes ats (GoesOn g new) fits = fits
  effect_comes ats (Faults kind) fits = tt
  effect_comes ats Assumes fits = tt
  effect_comes ats FindsNoRoom fits = tt

  effects_come : (new : Config) → EffectRow [] unit i f heap new → ConfigFits (successors i.op (i.at + i.size)) after new
  effects_come new (effect, has, to) =
      let ats = successors i.op (i.at + i.size) in
      let fits = this_effect (EffectFits ats after) (effects unit i f heap) effect (each_fits i.op typed) has in
      subst (ConfigFits ats after) (sym to) (effect_comes ats effect fits)

  returned_comes : (result : Option Value) (fault : Option ℕ) (new : Config) → Returned [] i f heap result fault new → ConfigFits [] after new
  returned_comes result (Some k) new to = subst (ConfigFits [] after) (sym to) tt
  returned_comes result None new (inl ends) = subst (ConfigFits [] after) (sym ends.1) tt
  returned_comes result None new (inr (outer, caller, none, to)) =
      absurd (let lengths : 0 ≡ length (outer ++ caller ∷ []) = ap length none in omega (arith, length-append outer (caller ∷ [])))

  freely_comes : (callee : CalleeInfo) (passed : List Value) (fault : Option ℕ) (new : Config) → TypedCall (Some callee) kinds after
      → FreelyCalled callee passed i f heap fault new → ConfigFits ((i.at + i.size) ∷ []) after new
  freely_comes callee passed (Some k) new t to = subst (ConfigFits ((i.at + i.size) ∷ []) after) (sym to) tt
  freely_comes callee passed None new t (inl ends) = subst (ConfigFits ((i.at + i.size) ∷ []) after) (sym ends) tt
  freely_comes callee passed None new t (inr (heap_after, result, free, to)) =
      let same : t.info ≡ callee = sym (same_Some callee t.info t.is) in
      let behind_frame = frame_behind_call i (length callee.args) f in
      let rest = forms_drop heap_after (length callee.args) kinds f.stack (HaveForms-kept heap heap_after free.keeps.forms kinds f.stack forms) in
      let made = result_forms heap_after callee.result result (drop (length callee.args) kinds) behind_frame free.fits rest in
      let kinds_are : pushed_kind (kind_of callee.result) (drop (length callee.args) kinds) ≡ after =
      sym (t.after_is ∙ ap (λ (c : CalleeInfo). pushed_kind (kind_of c.result) (drop (length c.args) kinds)) same) in
      subst (ConfigFits ((i.at + i.size) ∷ []) after) (sym to)
      (inl (pushed_at behind_frame result), subst (λ (ks : List Kind). HaveForms heap_after ks (pushed behind_frame result).stack) kinds_are made)

  call_comes : (call : Option UnitCall) (new : Config) → behind_call (shape_of unit) call kinds ≡ Some after
      → CallsBy (FreeCall unit) call [] unit i f heap new
      → (EffectRow [] unit i f heap new → ConfigFits ((i.at + i.size) ∷ []) after new) → ConfigFits ((i.at + i.size) ∷ []) after new
  call_comes (Some (calls.Callee number)) new e row own =
      let t = typed_call (slice_get unit.callees number) kinds after e in
      let here : TypedCall (Some row.callee) kinds after = subst (λ (c : Option CalleeInfo). TypedCall c kinds after) row.callee_is t in
      freely_comes row.callee row.args (false_requires row.callee.clauses row.args heap) new here row.freely
  call_comes _ new e row own = own row

  row_comes : (op : Op) (new : Config) → behind (shape_of unit) op kinds ≡ Some after → Row (FreeCall unit) op [] unit i f heap new
      → (EffectRow [] unit i f heap new → ConfigFits (successors op (i.at + i.size)) after new) → ConfigFits (successors op (i.at + i.size)) after new
  row_comes ops.Return new e (result, is, returned) own = returned_comes result (ensures_fault unit f heap result) new returned
  row_comes (ops.Call number) new e row own = call_comes (unit_call number) new e row own
  row_comes _ new e row own = own row

  -- A frame that goes on has values of the kinds after the instruction.
  pub comes : (new : Config) → Row (FreeCall unit) i.op [] unit i f heap new → ConfigFits (successors i.op (i.at + i.size)) after new
  comes new row = row_comes i.op new typed row (effects_come new)
