-- Steps of the machine are those of the run that it does.
use Rattle.std.specs.Prelude.{unwrap_or}
use Rattle.std.proofs.Common.{◌≡◌, ◌≢◌, ℕ, zero, suc, ◌+◌, ◌-◌, ◌<◌, ◌≤◌, min, false, is_some, Option, Some, None, IfSome, refl, sym, ap, subst, ◌∙◌, arith}
use Rattle.cil_model.specs.Runs.{Step, StepsTo}
use Rattle.cil_model.specs.declared.machine.Config.{Config}
use Rattle.cil_model.specs.declared.machine.World.{World}
use Rattle.cil_eval.specs.Held.{Holds, Turned}
use Rattle.cil_eval.specs.MachineSteps.{EndsAfter, EndsBy}
use Rattle.cil_eval.specs.Machines.{Advances, ComesBySteps, ComesTo, GoesOn, IsLive, IsOneStep, IsRun, IsSameMachine, Leads, Machinery, StopsIn, end_after, state_after}
use Rattle.cil_eval.specs.Outcome.{State, Turn, To, Ends, Stuck, config_of, last_state, outcome, turn}
use Rattle.cil_eval.specs.declared.limits.Limits.{Limits}
use Rattle.cil_eval.specs.declared.stop.Stop.{Stop}
use Rattle.cil_eval.specs.declared.stop.Stop.TheVariants as stops
use Rattle.cil_eval.proofs.TurnSteps.{Comes, turn_steps}

-- ---- the definition, one step on

module _ (w : World) (limits : Limits) where
  abbrev behind_turn : Turn → ℕ → Option Stop
  behind_turn (To next) n = outcome w limits n next
  behind_turn (Ends stop) n = Some stop
  behind_turn Stuck n = None

  none_left : (s : State) → outcome w limits 0 s ≡ Some stops.Steps
  unfolding outcome
  none_left s = refl

  one_more : (n : ℕ) (s : State) → outcome w limits (suc n) s ≡ behind_turn (turn w limits s) n
  unfolding outcome
  one_more n s = by (turn w limits s)
    where
      by : (t : Turn) → elim t [ To next ↦ outcome w limits n next | Ends stop ↦ Some stop | Stuck ↦ None ] ≡ behind_turn t n
      by (To next) = refl
      by (Ends stop) = refl
      by Stuck = refl

  abbrev last_behind : State → Turn → ℕ → State
  last_behind s (To next) n = last_state w limits n next
  last_behind s (Ends stop) n = s
  last_behind s Stuck n = s

  last_of_none : (s : State) → last_state w limits 0 s ≡ s
  unfolding last_state
  last_of_none s = refl

  last_of_more : (n : ℕ) (s : State) → last_state w limits (suc n) s ≡ last_behind s (turn w limits s) n
  unfolding last_state
  last_of_more n s = by (turn w limits s)
    where
      by : (t : Turn) → elim t [ To next ↦ last_state w limits n next | Ends stop ↦ s | Stuck ↦ s ] ≡ last_behind s t n
      by (To next) = refl
      by (Ends stop) = refl
      by Stuck = refl

  -- A run that goes on and on has an end, whatever the limit on its steps.
  pub has_end : (n : ℕ) (s : State) → GoesOn w limits n s → outcome w limits n s ≢ None
  has_end zero s on = λ none. absurd (let both = sym (none_left s) ∙ none in cc)
  has_end (suc n) s on = λ none. by (turn w limits s) (λ next onward. has_end n next onward) on.1 (sym (one_more n s) ∙ none)
    where
      by : (t : Turn) → ((next : State) → GoesOn w limits n next → outcome w limits n next ≢ None) → Leads (GoesOn w limits n) t → behind_turn t n ≡ None → ⊥
      by (To next) later onward none = later next onward none
      by (Ends stop) later onward none = cc
      by Stuck later onward none = onward

-- ---- a step of a live machine

module _ (old new : Machinery) (start : State) (live : IsLive old start) (world : new.world ≡ old.world) (limits : new.limits ≡ old.limits)
    (taken : new.taken ≡ old.taken + 1) (kept : new.ended ≢ None → new.store.heap ≡ old.store.heap) where
  abbrev w : World
  w = old.world

  abbrev l : Limits
  l = old.limits

  on : (n : ℕ) → outcome new.world new.limits (new.taken + n) start ≡ behind_turn w l (turn w l live.state) n
  on n =
      ap (λ v. outcome v new.limits (new.taken + n) start) world ∙ ap (λ k. outcome w k (new.taken + n) start) limits
      ∙ ap (λ k. outcome w l k start) (omega arith) ∙ live.same (suc n) ∙ one_more w l n live.state

  went : (n : ℕ) (t : Turn) → turn w l live.state ≡ t → outcome new.world new.limits (new.taken + n) start ≡ behind_turn w l t n
  went n t e = on n ∙ ap (λ t. behind_turn w l t n) e

  last_on : (n : ℕ) → last_state new.world new.limits (new.taken + n) start ≡ last_behind w l live.state (turn w l live.state) n
  last_on n =
      ap (λ v. last_state v new.limits (new.taken + n) start) world ∙ ap (λ k. last_state w k (new.taken + n) start) limits
      ∙ ap (λ k. last_state w l k start) (omega arith) ∙ live.last (suc n) ∙ last_of_more w l n live.state

  last_went : (n : ℕ) (t : Turn) → turn w l live.state ≡ t → last_state new.world new.limits (new.taken + n) start ≡ last_behind w l live.state t n
  last_went n t e = last_on n ∙ ap (λ t. last_behind w l live.state t n) e

  leads : (n : ℕ) → Leads (GoesOn w l n) (turn w l live.state)
  leads n = (live.onward (suc n)).1

  step_of : (t : Turn) → turn w l live.state ≡ t → Comes l (Step w (config_of live.state)) t
  step_of t e = subst (Comes l (Step w (config_of live.state))) e (turn_steps w l live.state)

  steps_on : (c : Config) → Step w (config_of live.state) c → StepsTo (Step new.world) (config_of start) new.taken c
  steps_on c step =
      let at : new.taken ≡ suc old.taken = omega (arith, taken) in
      subst (λ n. StepsTo (Step new.world) (config_of start) n c) (sym at)
      (subst (λ (v : World). StepsTo (Step v) (config_of start) (suc old.taken) c) (sym world) (config_of live.state, live.steps, step))

  ends_so : (stop : Stop) → EndsBy l (Step w (config_of live.state)) stop → EndsAfter new.world new.limits (config_of start) new.taken stop
  ends_so stop ends =
      subst (λ (v : World). EndsAfter v new.limits (config_of start) new.taken stop) (sym world)
      (subst (λ (k : Limits). EndsAfter w k (config_of start) new.taken stop) (sym limits)
      (record { before = old.taken; last = config_of live.state; steps = live.steps; stops = ends; taken_is = taken }))

  comes_by : (t : Turn) → turn w l live.state ≡ t → ((n : ℕ) → Leads (GoesOn w l n) t) → Turned w t new.frames new.store.heap new.ended → ComesTo new start new.ended
  comes_by (To next) e onward (none, holds) =
      subst (ComesTo new start) (sym none) (record {
        state = next;
        holds = subst (λ v. Holds v new.frames new.store.heap next) (sym world) holds;
        steps = steps_on (config_of next) (step_of (To next) e);
        onward = λ n. subst (λ v. GoesOn v new.limits n next) (sym world) (subst (λ k. GoesOn w k n next) (sym limits) (onward n));
        same = λ n. went n (To next) e ∙ ap (λ v. outcome v l n next) (sym world) ∙ ap (λ k. outcome new.world k n next) (sym limits);
        last = λ n. last_went n (To next) e ∙ ap (λ v. last_state v l n next) (sym world) ∙ ap (λ k. last_state new.world k n next) (sym limits);
      })
  comes_by (Ends end) e onward ended =
      let stopped : new.ended ≢ None = λ none. absurd (let both = sym none ∙ ended in cc) in
      subst (ComesTo new start) (sym ended) (record {
        no_limit = limited end (onward 0);
        steps = ends_so end (step_of (Ends end) e);
        same = λ n. went n (Ends end) e;
        heap = λ n. kept stopped ∙ live.holds.heap_is ∙ ap (λ (s : State). s.heap) (sym (last_went n (Ends end) e));
      })
    where
      limited : (end : Stop) → Leads (GoesOn w l 0) (Ends end) → end ≢ stops.Steps
      limited stops.Steps h = absurd h
      limited (stops.Returned value) h = λ e. cc
      limited (stops.Fault kind unit at) h = λ e. cc
      limited (stops.Assumed unit at) h = λ e. cc
      limited stops.Depth h = λ e. cc
      limited stops.Cells h = λ e. cc
  comes_by Stuck e onward turned = absurd (onward 0)

  pub advanced : Advances w l old.frames old.store new.frames new.store new.ended → ComesTo new start new.ended
  advanced advances = comes_by (turn w l live.state) refl leads (advances live.state live.holds (live.onward 1).0)

-- ---- where a run is

module _ (m : Machinery) (start : State) (run : IsRun m start) where
  pub ended_after : (stop : Stop) (n : ℕ) → m.ended ≡ Some stop → m.taken ≤ n → end_after m n start ≡ Some stop
  ended_after stop n e more =
      let k = min m.limits.steps n - m.taken in
      let at : min m.limits.steps n ≡ m.taken + k = omega (arith, run.within) in
      ap (λ n. outcome m.world m.limits n start) at ∙ (subst (ComesTo m start) e run.comes).same k

  pub live_after : (n : ℕ) → m.ended ≡ None → min m.limits.steps n ≡ m.taken → end_after m n start ≡ Some stops.Steps
  live_after n e at =
      let live : IsLive m start = subst (ComesTo m start) e run.comes in
      let here : min m.limits.steps n ≡ m.taken + 0 = omega (arith, at) in
      ap (λ n. outcome m.world m.limits n start) here ∙ live.same 0 ∙ none_left m.world m.limits live.state

  pub ended_by_itself : m.ended ≡ Some stops.Steps → ⊥
  ended_by_itself e = (subst (ComesTo m start) e run.comes).no_limit refl

  -- A machine that stopped answers the stop again.
  pub stops_again : IfSome m.ended (StopsIn m start)
  stops_again = by m.ended refl
    where
      by : (ended : Option Stop) → m.ended ≡ ended → IfSome ended (StopsIn m start)
      by None e = tt
      by (Some stop) e = λ n. ended_after stop (m.taken + 1 + n) e (omega arith)

  pub stops_at_limit : m.ended ≡ None → m.limits.steps ≤ m.taken → StopsIn m start stops.Steps
  stops_at_limit e all n = live_after (m.taken + 1 + n) e (omega (arith, run.within))

  -- ---- its arrays

  pub state_now : (live : m.ended ≡ None) → state_after m m.taken start ≡ (subst (ComesTo m start) live run.comes).state
  state_now live =
      let here : min m.limits.steps m.taken ≡ m.taken + 0 = omega (arith, run.within) in
      let is : IsLive m start = subst (ComesTo m start) live run.comes in
      ap (λ n. last_state m.world m.limits n start) here ∙ is.last 0 ∙ last_of_none m.world m.limits is.state

  pub by_steps : ComesBySteps m start m.ended
  by_steps = by m.ended refl
    where
      by : (ended : Option Stop) → m.ended ≡ ended → ComesBySteps m start ended
      by None e =
          subst (λ (s : State). StepsTo (Step m.world) (config_of start) m.taken (config_of s)) (sym (state_now e)) (subst (ComesTo m start) e run.comes).steps
      by (Some stop) e = (subst (ComesTo m start) e run.comes).steps

  pub heap_so_far : m.store.heap ≡ (state_after m m.taken start).heap
  heap_so_far = by m.ended refl
    where
      here : min m.limits.steps m.taken ≡ m.taken + 0
      here = omega (arith, run.within)

      by : (ended : Option Stop) → m.ended ≡ ended → m.store.heap ≡ (state_after m m.taken start).heap
      by None e =
          let live : IsLive m start = subst (ComesTo m start) e run.comes in
          live.holds.heap_is
          ∙ ap (λ (s : State). s.heap) (sym (ap (λ n. last_state m.world m.limits n start) here ∙ live.last 0 ∙ last_of_none m.world m.limits live.state))
      by (Some stop) e = (subst (ComesTo m start) e run.comes).heap 0 ∙ ap (λ n. (last_state m.world m.limits n start).heap) (sym here)

  pub heap_at_end : (n : ℕ) → m.ended ≢ None → m.taken ≤ n → m.store.heap ≡ (state_after m n start).heap
  heap_at_end n some more = by m.ended refl
    where
      by : (ended : Option Stop) → m.ended ≡ ended → m.store.heap ≡ (state_after m n start).heap
      by None e = absurd (some e)
      by (Some stop) e =
          let k = min m.limits.steps n - m.taken in
          let at : min m.limits.steps n ≡ m.taken + k = omega (arith, run.within) in
          (subst (ComesTo m start) e run.comes).heap k ∙ ap (λ n. (last_state m.world m.limits n start).heap) (sym at)

-- ---- a step

pub no_stop : (ended : Option Stop) → false ≡ is_some ended → ended ≡ None
no_stop None e = refl
no_stop (Some stop) e = absurd cc

module _ (old new : Machinery) (start : State) (run : IsRun old start) (live : old.ended ≡ None) (same : IsSameMachine old new)
    (taken : new.taken ≡ old.taken + 1) (few : old.taken < old.limits.steps)
    (advances : Advances old.world old.limits old.frames old.store new.frames new.store new.ended) (kept : new.ended ≢ None → new.store.heap ≡ old.store.heap) where
  pub step_kept : IsRun new start
  step_kept = record {
    within = let most : new.limits.steps ≡ old.limits.steps = ap (λ (l : Limits). l.steps) same.limits in omega (arith, most, few, taken);
    comes = advanced old new start (subst (ComesTo old start) live run.comes) same.world same.limits taken kept advances;
  }

  abbrev before : IsLive old start
  before = subst (ComesTo old start) live run.comes

  next_state : (next : State) → turn old.world old.limits before.state ≡ To next → state_after new new.taken start ≡ next
  next_state next e =
      let here : min new.limits.steps new.taken ≡ new.taken + 0 = omega (arith, step_kept.within) in
      ap (λ n. last_state new.world new.limits n start) here
      ∙ last_went old new start before same.world same.limits taken kept 0 (To next) e ∙ last_of_none old.world old.limits next

  told : (stop : Stop) → EndsBy old.limits (Step old.world (config_of (state_after old old.taken start))) stop → IsOneStep old new start (Some stop)
  told stops.Steps h = absurd h
  told (stops.Returned value) h = h
  told (stops.Fault kind unit at) h = h
  told (stops.Assumed unit at) h = h
  told stops.Depth h = h
  told stops.Cells h = h

  pub one_step : IsOneStep old new start new.ended
  one_step = by (turn old.world old.limits before.state) refl (advances before.state before.holds (before.onward 1).0)
    where
      here : state_after old old.taken start ≡ before.state
      here = state_now old start run live

      by : (t : Turn) → turn old.world old.limits before.state ≡ t → Turned old.world t new.frames new.store.heap new.ended → IsOneStep old new start new.ended
      by (To next) e (none, holds) =
          subst (IsOneStep old new start) (sym none)
          (subst (λ (s : State). Step old.world (config_of s) (config_of (state_after new new.taken start))) (sym here)
          (subst (λ (s : State). Step old.world (config_of before.state) (config_of s)) (sym (next_state next e))
          (step_of old new start before same.world same.limits taken kept (To next) e)))
      by (Ends stop) e ended =
          subst (IsOneStep old new start) (sym ended)
          (told stop (subst (λ (s : State). EndsBy old.limits (Step old.world (config_of s)) stop) (sym here)
          (step_of old new start before same.world same.limits taken kept (Ends stop) e)))
      by Stuck e turned = absurd (subst (Leads (GoesOn old.world old.limits 0)) e (before.onward 1).1)

  same_end : (n : ℕ) → end_after new n start ≡ end_after old n start
  same_end n = ap (λ v. outcome v new.limits (min new.limits.steps n) start) same.world ∙ ap (λ (l : Limits). outcome old.world l (min l.steps n) start) same.limits

  pub step_stops : IfSome new.ended (StopsIn old start)
  step_stops = by new.ended refl
    where
      by : (ended : Option Stop) → new.ended ≡ ended → IfSome ended (StopsIn old start)
      by None e = tt
      by (Some stop) e = λ n. sym (same_end (old.taken + 1 + n)) ∙ ended_after new start step_kept stop (old.taken + 1 + n) e (omega (arith, taken))

-- ---- many steps

pub same_on : (old mid new : Machinery) → IsSameMachine old mid → IsSameMachine mid new → IsSameMachine old new
same_on old mid new same on = record { world = on.world ∙ same.world; limits = on.limits ∙ same.limits }

module _ (old mid : Machinery) (start : State) (same : IsSameMachine old mid) where
  ends_as : (n : ℕ) → end_after old n start ≡ end_after mid n start
  ends_as n =
      ap (λ (l : Limits). outcome old.world l (min l.steps n) start) (sym same.limits)
      ∙ ap (λ v. outcome v mid.limits (min mid.limits.steps n) start) (sym same.world)

  pub stops_of_run : (stop : Stop) (n i : ℕ) → mid.taken ≡ old.taken + i → i < n → StopsIn mid start stop → end_after old (old.taken + n) start ≡ Some stop
  stops_of_run stop n i taken more stops =
      let k = n - i - 1 in
      let at : old.taken + n ≡ mid.taken + 1 + k = omega (arith, taken, more) in
      ap (λ n. end_after old n start) at ∙ ends_as (mid.taken + 1 + k) ∙ stops k

  pub stops_now : (n : ℕ) → mid.taken ≡ old.taken + n → IsRun mid start → end_after old (old.taken + n) start ≡ Some (unwrap_or mid.ended stops.Steps)
  stops_now n taken run =
      ap (λ n. end_after old n start) (sym taken) ∙ ends_as mid.taken ∙ by mid.ended refl
    where
      by : (ended : Option Stop) → mid.ended ≡ ended → end_after mid mid.taken start ≡ Some (unwrap_or ended stops.Steps)
      by None e = live_after mid start run mid.taken e (omega (arith, run.within))
      by (Some stop) e = ended_after mid start run stop mid.taken e (omega arith)
