-- The machine's run is the run of the definition.
use Rattle.std.proofs.Common.{◌≡◌, ◌≢◌, ℕ, ◌+◌, ◌≤◌, min, nat_le, Bool, true, false, if◌then◌else◌, List, [], ◌∷◌, length, Option, Some, None, slice_get, refl, sym, ap, subst, ◌∙◌, arith}
use Rattle.std.proofs.lemmas.Option.{none-some}
use Rattle.cil_model.specs.Clauses.{false_requires}
use Rattle.cil_model.specs.Values.{Heap}
use Rattle.cil_model.specs.declared.machine.World.{World}
use Rattle.cil_model.specs.declared.place.Place.{Place}
use Rattle.cil_model.specs.declared.unit.Unit.{Unit as MethodUnit}
use Rattle.cil_eval.specs.Machines.{IsNew, IsRun, IsSameMachine, Machinery, end_after, state_after}
use Rattle.cil_eval.specs.Outcome.{State, last_state, outcome}
use Rattle.cil_eval.specs.RunWorlds.{CanBeRun}
use Rattle.clause_eval.specs.GivenArrays.{heap_of}
use Rattle.cil_eval.specs.Given.{args_fit, values_of}
use Rattle.cil_eval.specs.Starts.{Begins, requires_refusal, start_refusal, start_state, unit_refusal}
use Rattle.clause_eval.specs.Stores.{cells_of}
use Rattle.cil_model.specs.declared.arg.Arg.{Arg}
use Rattle.cil_eval.specs.declared.limits.Limits.{Limits}
use Rattle.cil_eval.specs.declared.start_refusal.StartRefusal.{StartRefusal}
use Rattle.cil_eval.specs.declared.start_refusal.StartRefusal.TheVariants as refusals
use Rattle.cil_eval.specs.declared.stop.Stop.{Stop}
use Rattle.cil_eval.specs.declared.stop.Stop.TheVariants as stops
use Rattle.cil_eval.proofs.MachineLemmas.{heap_at_end}
use Rattle.method_run.specs.ArgumentWords.{arguments_of}
use Rattle.method_run.specs.RunAnswers.{end_answer, entry_answer, outcome_answer, run_answer, run_limits, start_answer, unit_answer}

-- Of an end, only what was returned is read in the heap.
same_heap : (w : World) (limits : Limits) (place : Place) (a b : Heap) (stop : Stop) → (stop ≢ stops.Steps → a ≡ b)
    → end_answer w limits place a stop ≡ end_answer w limits place b stop
same_heap w limits place a b (stops.Returned result) same = ap (λ heap. end_answer w limits place heap (stops.Returned result)) (same (λ e. absurd cc))
same_heap w limits place a b (stops.Fault kind index at) same = refl
same_heap w limits place a b (stops.Assumed index at) same = refl
same_heap w limits place a b stops.Steps same = refl
same_heap w limits place a b stops.Depth same = refl
same_heap w limits place a b stops.Cells same = refl

-- ---- refusals

no_cells : (few : Bool) (refusal : StartRefusal) → (if few then None else Some refusals.Cells) ≡ Some refusal → refusal ≢ refusals.Unit
no_cells false refusal e is = absurd cc
no_cells true refusal e is = absurd cc

no_fit : (limits : Limits) (args : List Arg) (fit : Bool) (required : Option ℕ) (refusal : StartRefusal)
    → (if fit then requires_refusal limits args required else Some refusals.Arguments) ≡ Some refusal → refusal ≢ refusals.Unit
no_fit limits args false required refusal e is = absurd cc
no_fit limits args true (Some k) refusal e is = absurd cc
no_fit limits args true None refusal e is = no_cells (nat_le (cells_of (heap_of args)) limits.cells) refusal e is

-- Where a world has a first method, that there is none is not told.
pub has_unit : (w v : World) (limits : Limits) (args : List Arg) (unit : MethodUnit) (refusal : StartRefusal) → start_refusal v limits 0 args ≡ Some refusal
    → v ≡ w → slice_get w.units 0 ≡ Some unit → refusal ≢ refusals.Unit
has_unit w v limits args unit refusal e same first =
    no_fit limits args (args_fit unit.args args) (false_requires unit.clauses (values_of args) (heap_of args)) refusal
    (sym (ap (unit_refusal limits args) (ap (λ world. slice_get world.units 0) same ∙ first)) ∙ e)

pub some_first : (units : List MethodUnit) → None ≡ slice_get units 0 → 1 ≤ length units → ⊥
some_first [] none some = omega (arith, some)
some_first (unit ∷ units) none some = none-some unit none

-- ---- runs

-- All steps of a machine's limit are taken.
module _ (m : Machinery) (w : World) (limits : Limits) (start : State) (world : m.world ≡ w) (limits_are : m.limits ≡ limits) where
  all_steps : (n : ℕ) → n ≡ limits.steps → min m.limits.steps n ≡ limits.steps
  all_steps n e = ap (λ l. min l.steps n) limits_are ∙ omega (arith, e)

  end_is : (n : ℕ) → n ≡ limits.steps → end_after m n start ≡ outcome w limits limits.steps start
  end_is n e =
      ap (λ v. outcome v m.limits (min m.limits.steps n) start) world ∙ ap (λ k. outcome w m.limits k start) (all_steps n e)
      ∙ ap (λ l. outcome w l limits.steps start) limits_are

  state_is : (n : ℕ) → n ≡ limits.steps → state_after m n start ≡ last_state w limits limits.steps start
  state_is n e =
      ap (λ v. last_state v m.limits (min m.limits.steps n) start) world ∙ ap (λ k. last_state w m.limits k start) (all_steps n e)
      ∙ ap (λ l. last_state w l limits.steps start) limits_are

-- A machine that was made for a world and its limits, that started a run of its first method, and that ran to its end.
module _ (w : World) (limits : Limits) (unit : MethodUnit) (args : List Arg) (made started ran : Machinery) (stop : Stop)
    (is_new : IsNew w limits made) (can : CanBeRun w) (first : slice_get w.units 0 ≡ Some unit)
    (free : start_refusal made.world made.limits 0 args ≡ None) (begins : Begins made 0 args started)
    (ends : (start : State) → IsRun started start → end_after started (started.taken + limits.steps) start ≡ Some stop)
    (kept : (start : State) → IsRun started start → IsRun ran start) (ended : stop ≢ stops.Steps → ran.ended ≡ Some stop)
    (same : IsSameMachine started ran) where
  abbrev start : State
  start = start_state unit 0 args

  is_unit : begins.unit ≡ unit
  is_unit = let both : Some begins.unit ≡ Some unit = sym begins.unit_is ∙ ap (λ v. slice_get v.units 0) is_new.world ∙ first in cc

  is_run : IsRun started start
  is_run = subst (λ u. IsRun started (start_state u 0 args)) is_unit (begins.run (subst CanBeRun (sym is_new.world) can))

  outcome_is : outcome w limits limits.steps start ≡ Some stop
  outcome_is =
      sym (end_is started w limits start (begins.world ∙ is_new.world) (begins.limits ∙ is_new.limits) (started.taken + limits.steps) (omega (arith, begins.taken)))
      ∙ ends start is_run

  heap_is : stop ≢ stops.Steps → ran.store.heap ≡ (last_state w limits limits.steps start).heap
  heap_is stopped =
      let limits_are : ran.limits ≡ limits = same.limits ∙ begins.limits ∙ is_new.limits in
      let running = kept start is_run in
      let within = running.within in
      heap_at_end ran start running limits.steps (λ none. absurd (none-some stop (sym none ∙ ended stopped))) (omega (arith, within, ap (λ l. l.steps) limits_are))
      ∙ ap (λ s. s.heap) (state_is ran w limits start (same.world ∙ begins.world ∙ is_new.world) limits_are limits.steps refl)

  no_refusal : start_refusal w limits 0 args ≡ None
  no_refusal = sym (ap (λ v. start_refusal v made.limits 0 args) is_new.world ∙ ap (λ l. start_refusal w l 0 args) is_new.limits) ∙ free

  pub run_answered : end_answer w limits unit.result ran.store.heap stop ≡ unit_answer w limits unit args
  run_answered =
      same_heap w limits unit.result ran.store.heap (last_state w limits limits.steps start).heap stop heap_is
      ∙ sym (ap (λ o. start_answer w limits unit args o) no_refusal
      ∙ ap (λ o. outcome_answer w limits unit.result (last_state w limits limits.steps start).heap o) outcome_is)

-- The answer by the first unit, if there is one.
pub answered_by : (w : World) (words : List (List ℕ)) (steps : ℕ) (units : List MethodUnit) (first : Option MethodUnit) → units ≡ w.units
    → first ≡ slice_get units 0 → entry_answer w (run_limits steps) words first ≡ run_answer w words steps
unfolding run_answer
answered_by w words steps units first all e = ap (λ unit. entry_answer w (run_limits steps) words unit) (e ∙ ap (λ us. slice_get us 0) all)

-- The same, by the unit and the arguments that the words are for it.
pub answered_of : (w : World) (words : List (List ℕ)) (steps : ℕ) (units : List MethodUnit) (unit : MethodUnit) (limits : Limits) (types : List Place) (args : List Arg)
    → units ≡ w.units → Some unit ≡ slice_get units 0 → limits ≡ run_limits steps → types ≡ unit.args → args ≡ arguments_of types words
    → unit_answer w limits unit args ≡ run_answer w words steps
answered_of w words steps units unit limits types args all first limits_are types_are args_are =
    ap (λ l. unit_answer w l unit args) limits_are
    ∙ ap (λ given. unit_answer w (run_limits steps) unit given) (args_are ∙ ap (λ ts. arguments_of ts words) types_are)
    ∙ answered_by w words steps units (Some unit) all first
