-- An action of the frames that hold a state is that of the state.
use Rattle.std.proofs.Common.{◌≡◌, ◌≢◌, false, None, ℕ, ◌+◌, List, ◌∷◌, drop, Option, ◌<◌, refl, sym, ap, subst, ◌∙◌, arith}
use Rattle.std.specs.List.{AllByRecursion}
use Rattle.cil_model.specs.Effects.{effects_of}
use Rattle.cil_model.specs.Values.{Heap}
use Rattle.cil_model.specs.declared.instruction.Instr.{Instr}
use Rattle.cil_model.specs.declared.machine.Value.{Value}
use Rattle.cil_model.specs.declared.machine.World.{World}
use Rattle.cil_model.specs.declared.unit.Unit.{Unit as MethodUnit}
use Rattle.cil_eval.specs.Actions.{acted, goes_on, with_parts, with_variables}
use Rattle.cil_eval.specs.Effect.{Effects}
use Rattle.clause_eval.specs.Piles.{length_of_all, size_of}
use Rattle.cil_eval.specs.StackRows.{IsLength}
use Rattle.cil_eval.specs.declared.stop.Stop.{Stop}
use Rattle.cil_eval.specs.Held.{Holds, Turned, acted_frames, stop_of}
use Rattle.cil_eval.specs.Outcome.{State, Turn, after_effects}
use Rattle.cil_eval.specs.Performs.{Performs, Stays}
use Rattle.cil_eval.specs.declared.action.Action.{Action}
use Rattle.cil_eval.specs.declared.action.Action.TheVariants as actions
use Rattle.cil_eval.specs.declared.frames.Frames.{Frames}
use Rattle.cil_eval.specs.declared.frames.Position.{Position}

-- The parts of the frames that hold a state are its own.
own_parts : (w : World) (frames : Frames) (heap : Heap) (s : State) → Holds w frames heap s → with_parts frames.stack.top frames.args.top frames.locals.top s ≡ s
own_parts w frames heap s h = rw (h.stack.top, h.args.top, h.locals.top) refl

-- The frames go on with this stack, at an IL offset.
goes_on_holds : (w : World) (old mid : Frames) (heap after : Heap) (s : State) (at : ℕ) (stack : List Value) → Holds w old heap s → Stays old mid
    → Holds w (record mid { stack = record mid.stack { top = stack }; positions = record mid.positions { top = record { unit = s.running.unit; at = at } ∷ drop 1 mid.positions.top } }) after
    (record s { running = record s.running { at = at; stack = stack; args = mid.args.top; locals = mid.locals.top }; heap = after })
goes_on_holds w old mid heap after s at stack h stays = record {
  stack = record { top = refl; below = stays.stack.below ∙ h.stack.below };
  args = record { top = refl; below = stays.args.below ∙ h.args.below };
  locals = record { top = refl; below = stays.locals.below ∙ h.locals.below };
  entry_args = record { top = ap (λ p. p.top) stays.entry_args ∙ h.entry_args.top; below = ap (λ p. p.below) stays.entry_args ∙ h.entry_args.below };
  olds = record { top = ap (λ p. p.top) stays.olds ∙ h.olds.top; below = ap (λ p. p.below) stays.olds ∙ h.olds.below };
  positions = ap (λ (ps : List Position). record { unit = s.running.unit; at = at } ∷ drop 1 ps) (ap (λ p. p.top) stays.positions ∙ h.positions);
  heap_is = refl;
}

acted_holds : (w : World) (action : Action) (old mid : Frames) (heap after : Heap) (s : State) (i : Instr) → Holds w old heap s → Stays old mid
    → Turned w (acted action mid.stack.top after (with_variables mid.args.top mid.locals.top s) i) (acted_frames action s.running.unit i mid) after (stop_of action s.running.unit i)
acted_holds w (actions.Push value) old mid heap after s i h stays = (refl, goes_on_holds w old mid heap after s (i.at + i.size) (value ∷ mid.stack.top) h stays)
acted_holds w actions.Next old mid heap after s i h stays = (refl, goes_on_holds w old mid heap after s (i.at + i.size) mid.stack.top h stays)
acted_holds w (actions.Jump at) old mid heap after s i h stays = (refl, goes_on_holds w old mid heap after s at mid.stack.top h stays)
acted_holds w (actions.Fault kind) old mid heap after s i h stays = refl
acted_holds w actions.Assumed old mid heap after s i h stays = refl
acted_holds w actions.Cells old mid heap after s i h stays = refl
acted_holds w actions.Stuck old mid heap after s i h stays = tt

-- What is performed on frames that hold a state, and then acted, is what comes of the state.
pub performed_holds : (w : World) (cells : ℕ) (unit : MethodUnit) (action : Action) (old mid : Frames) (heap after : Heap) (s : State) (i : Instr)
    → Holds w old heap s → Performs cells unit i.op action old mid heap after → Stays old mid
    → Turned w (after_effects cells s i (effects_of i.op unit i s.running s.heap)) (acted_frames action s.running.unit i mid) after (stop_of action s.running.unit i)
performed_holds w cells unit action old mid heap after s i h performs stays =
    let own = own_parts w old heap s h in
    let is : after_effects cells s i (effects_of i.op unit i s.running s.heap) ≡ acted action mid.stack.top after (with_variables mid.args.top mid.locals.top s) i =
    ap (λ (x : Heap). after_effects cells s i (effects_of i.op unit i s.running x)) (sym h.heap_is)
    ∙ subst (λ (x : State). after_effects cells x i (effects_of i.op unit i x.running heap) ≡ acted action mid.stack.top after (with_variables mid.args.top mid.locals.top x) i)
    own (performs s i) in
    subst (λ (t : Turn). Turned w t (acted_frames action s.running.unit i mid) after (stop_of action s.running.unit i)) (sym is)
    (acted_holds w action old mid heap after s i h stays)

pub performed_effects : (cells : ℕ) (unit : MethodUnit) (index : ℕ) (i : Instr) (old new mid : Frames) (heap after : Heap) (stop : Option Stop) (action : Action)
    → (AllByRecursion IsLength old.stack.top → Performs cells unit i.op action old mid heap after) → Stays old mid
    → new ≡ acted_frames action index i mid → stop ≡ stop_of action index i → Effects cells unit index i old heap new after stop
performed_effects cells unit index i old new mid heap after stop action performs stays frames stops w s h same lengths =
    rw (frames, stops, ← same)
    (performed_holds w cells unit action old mid heap after s i h (performs (rw h.stack.top lengths)) stays)

-- An action that stops the run ends it.
pub stops_end : (action : Action) (index : ℕ) (i : Instr) (stop : Option Stop) → stop ≡ stop_of action index i → stop ≢ None → goes_on action ≡ false
stops_end (actions.Push value) index i stop e some = absurd (some e)
stops_end actions.Next index i stop e some = absurd (some e)
stops_end (actions.Jump at) index i stop e some = absurd (some e)
stops_end _ index i stop e some = refl

pub no_larger : (old mid : Frames) → Stays old mid → size_of old.stack < old.stack.room → size_of mid.stack < mid.stack.room
no_larger old mid stays few =
    let below : length_of_all mid.stack.below ≡ length_of_all old.stack.below = ap length_of_all stays.stack.below in
    omega (arith, below, stays.stack.shorter, stays.stack.room, few)
