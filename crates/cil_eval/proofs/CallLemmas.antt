-- Calls of frames that hold a state are those of the state.
use Rattle.std.proofs.Common.{◌≡◌, ℕ, ◌+◌, Bool, true, false, nat_le, List, [], ◌∷◌, ◌++◌, length, reverse, map, take, drop, Option, Some, None, option_map, if◌then◌else◌, slice_get, refl, sym, ap, subst, ◌∙◌, append-nil, arith}
use Rattle.std.proofs.lemmas.List.{length-reverse, reverse-reverse}
use Rattle.std.proofs.lemmas.Option.{none-some, same_Some}
use Rattle.cil_model.proofs.Options.{map_from}
use Rattle.cil_model.specs.Calls.{args_of, behind_call, clauses_in_force, entry_frame}
use Rattle.cil_model.specs.Clauses.{false_requires}
use Rattle.cil_model.specs.Values.{Heap, put, put_all}
use Rattle.cil_model.specs.declared.instruction.Instr.{Instr}
use Rattle.cil_model.specs.declared.machine.FaultKind.TheVariants as faults
use Rattle.cil_model.specs.declared.machine.Value.{Value}
use Rattle.cil_model.specs.declared.machine.World.{World}
use Rattle.cil_model.specs.declared.place.Place.{Place}
use Rattle.cil_model.specs.declared.unit.Unit.{Unit as MethodUnit}
use Rattle.cil_eval.specs.Actions.{when}
use Rattle.cil_eval.specs.Called.{HasRoomToCall}
use Rattle.cil_eval.specs.Entered.{HasRoomToEnter, entered}
use Rattle.cil_eval.specs.Held.{Holds, Turned, olds_of, olds_of_unit, position_of}
use Rattle.cil_eval.specs.Outcome.{State, To, Ends, after_args, after_requires}
use Rattle.clause_eval.specs.Piles.{Piled}
use Rattle.cil_eval.specs.Taken.{Taken, taken, taken_with}
use Rattle.clause_eval.specs.Told.{olds_of_clauses}
use Rattle.cil_eval.specs.declared.frames.Frames.{Frames}
use Rattle.cil_eval.specs.declared.frames.Position.{Position}
use Rattle.cil_eval.specs.declared.limits.Limits.{Limits}
use Rattle.cil_eval.specs.declared.stop.Stop.{Stop}
use Rattle.cil_eval.specs.declared.stop.Stop.TheVariants as stops
use Rattle.cil_eval.proofs.TakenLemmas.{taken_from}

-- ---- the arguments

abbrev taken_of : ℕ → List Value → List Value → Taken
taken_of n stack args = record { args = args; rest = drop n stack }

with_none : (n : ℕ) (stack : List Value) (args : Option (List Value)) → option_map (λ values. record { args = values ++ []; rest = drop n stack }) args ≡ option_map (taken_of n stack) args
with_none n stack None = refl
with_none n stack (Some args) = ap (λ (xs : List Value). Some (record { args = xs; rest = drop n stack })) (append-nil args)

pub taken_is : (heap : Heap) (places : List Place) (stack : List Value) → taken heap (reverse places) [] stack ≡ option_map (taken_of (length places) stack) (args_of heap places stack)
taken_is heap places stack =
    taken_from heap (reverse places) [] stack
    ∙ ap (λ ps. option_map (λ values. record { args = values ++ []; rest = drop (length (reverse places)) stack }) (put_all heap ps (reverse (take (length (reverse places)) stack)))) (reverse-reverse places)
    ∙ ap (λ n. option_map (λ values. record { args = values ++ []; rest = drop n stack }) (put_all heap places (reverse (take n stack)))) (length-reverse places)
    ∙ with_none (length places) stack (args_of heap places stack)

-- As many as there are places.
with_length : (heap : Heap) (places : List Place) (args stack : List Value) (put : Option Value) (t : Taken)
    → ((value : Value) → taken heap places (value ∷ args) stack ≡ Some t → length t.args ≡ length places + length (value ∷ args))
    → taken_with put (λ value. taken heap places (value ∷ args) stack) ≡ Some t → length t.args ≡ length places + length args + 1
with_length heap places args stack None t h e = absurd (none-some t e)
with_length heap places args stack (Some value) t h e = let long = h value e in omega (arith, long)

taken_length : (heap : Heap) (places : List Place) (args stack : List Value) (t : Taken) → taken heap places args stack ≡ Some t → length t.args ≡ length places + length args
taken_length heap [] args stack t e =
    let same = ap (λ (x : Taken). length x.args) (same_Some (record { args = args; rest = stack }) t e) in omega (arith, same)
taken_length heap (place ∷ places) args [] t e = absurd (none-some t e)
taken_length heap (place ∷ places) args (value ∷ stack) t e =
    let long = with_length heap places args stack (put heap place value) t (λ v. taken_length heap places (v ∷ args) stack t) e in omega (arith, long)

pub as_many : (heap : Heap) (places : List Place) (stack : List Value) (t : Taken) → Some t ≡ taken heap (reverse places) [] stack → length t.args ≡ length places
as_many heap places stack t e = let long = taken_length heap (reverse places) [] stack t (sym e) in omega (arith, long, length-reverse places)

none_back : {X Y : Type 0} (f : X → Y) (o : Option X) → None ≡ option_map f o → o ≡ None
none_back f None e = refl
none_back f (Some x) e = absurd (none-some (f x) e)

-- ---- what comes of a call

module _ (w : World) (limits : Limits) (s : State) (i : Instr) (callee : MethodUnit) (index : ℕ) (old new : Frames) (heap : Heap) (stop : Option Stop)
    (stack args : Piled Value) (h : Holds w old heap s) where
  abbrev turned : Option (List Value) → Type 0
  turned o = Turned w (after_args limits s i index callee o) new heap stop

  abbrev all : Option (List Value)
  all = args_of s.heap callee.args s.running.stack

  abbrev IsTaken : Bool → Type 0
  IsTaken ok = when ok (record { args = args.top; rest = stack.top }) ≡ taken heap (reverse callee.args) [] old.stack.top

  of_state : args_of heap callee.args old.stack.top ≡ all
  of_state = rw (h.heap_is, h.stack.top) refl

  pub stuck : IsTaken false → turned all
  stuck taken =
      let none = none_back (taken_of (length callee.args) old.stack.top) (args_of heap callee.args old.stack.top) (taken ∙ taken_is heap callee.args old.stack.top) in
      subst turned (sym (sym of_state ∙ none)) tt

  pub record Takes : Type 0 where
    pub args_are : all ≡ Some args.top
    pub rest_is : stack.top ≡ drop (length callee.args) s.running.stack

  pub takes : IsTaken true → Takes
  takes taken =
      let (found, are, same) = map_from (taken_of (length callee.args) old.stack.top) (args_of heap callee.args old.stack.top) (record { args = args.top; rest = stack.top })
      (sym (taken ∙ taken_is heap callee.args old.stack.top)) in
      record {
        args_are = sym of_state ∙ are ∙ ap (λ (t : Taken). Some t.args) (sym same);
        rest_is = ap (λ (t : Taken). t.rest) same ∙ ap (drop (length callee.args)) h.stack.top;
      }

  abbrev required : Option ℕ → Type 0
  required fault = Turned w (after_requires limits s i index callee args.top fault) new heap stop

  by_requires : Takes → (fault : Option ℕ) → fault ≡ false_requires (clauses_in_force callee) args.top heap → required fault → turned all
  by_requires takes fault is turns =
      subst turned (sym takes.args_are)
      (subst required (is ∙ ap (false_requires (clauses_in_force callee) args.top) h.heap_is) turns)

  pub refused : IsTaken true → (k unit : ℕ) → Some k ≡ false_requires (clauses_in_force callee) args.top heap → s.running.unit ≡ unit
      → stop ≡ Some (stops.Fault (faults.Requires k) unit i.at) → turned all
  refused taken k unit is same stops = by_requires (takes taken) (Some k) is (rw same stops)

  abbrev next : State
  next = record {
    running = entry_frame callee index args.top s.heap;
    below = behind_call i (length callee.args) s.running ∷ s.below;
    heap = s.heap;
  }

  abbrev deep : Bool → Type 0
  deep deeper = Turned w (if deeper then To next else Ends stops.Depth) new heap stop

  by_depth : IsTaken true → (deeper : Bool) → None ≡ false_requires (clauses_in_force callee) args.top heap → deeper ≡ nat_le (length s.below + 2) limits.depth → deep deeper → turned all
  by_depth taken deeper is depth turns = by_requires (takes taken) None is (subst deep depth turns)

  pub too_deep : IsTaken true → (deeper : Bool) → None ≡ false_requires (clauses_in_force callee) args.top heap → deeper ≡ nat_le (length s.below + 2) limits.depth
      → deeper ≡ false → stop ≡ Some stops.Depth → turned all
  too_deep taken deeper is depth full stops = by_depth taken deeper is depth (rw full stops)

  -- ---- the new frame

  abbrev mid : Frames
  mid = record old { stack = stack; args = args }

  module _ (taken : IsTaken true) (found : slice_get w.units index ≡ Some callee) (unit : ℕ) (same : s.running.unit ≡ unit)
      (stack_below : stack.below ≡ old.stack.below) (args_below : args.below ≡ old.args.top ∷ old.args.below) where
    entered_holds : Holds w (entered callee index (record { unit = unit; at = i.at + i.size }) heap mid) heap next
    entered_holds =
        let rest = (takes taken).rest_is in
        record {
          stack = record { top = refl; below = ap (λ xs. xs ∷ stack.below) rest ∙ ap (λ xss. drop (length callee.args) s.running.stack ∷ xss) (stack_below ∙ h.stack.below) };
          args = record { top = refl; below = args_below ∙ ap (λ xs. xs ∷ old.args.below) h.args.top ∙ ap (λ xss. s.running.args ∷ xss) h.args.below };
          locals = record { top = refl; below = ap (λ xs. xs ∷ old.locals.below) h.locals.top ∙ ap (λ xss. s.running.locals ∷ xss) h.locals.below };
          entry_args = record { top = refl; below = ap (λ xs. xs ∷ old.entry_args.below) h.entry_args.top ∙ ap (λ xss. s.running.entry_args ∷ xss) h.entry_args.below };
          olds = record {
            top = ap (olds_of_clauses (clauses_in_force callee) args.top) h.heap_is ∙ sym (ap (λ o. olds_of_unit o args.top s.heap) found);
            below = ap (λ xs. xs ∷ old.olds.below) h.olds.top ∙ ap (λ xss. olds_of w s.running ∷ xss) h.olds.below;
          };
          positions = ap (λ (ps : List Position). record { unit = index; at = callee.body_start } ∷ record { unit = unit; at = i.at + i.size } ∷ drop 1 ps) h.positions
              ∙ ap (λ n. record { unit = index; at = callee.body_start } ∷ record { unit = n; at = i.at + i.size } ∷ map position_of s.below) (sym same);
          heap_is = h.heap_is;
        }

    pub enters : (deeper : Bool) → None ≡ false_requires (clauses_in_force callee) args.top heap → deeper ≡ nat_le (length s.below + 2) limits.depth
        → deeper ≡ true → stop ≡ None → new ≡ entered callee index (record { unit = unit; at = i.at + i.size }) heap mid → turned all
    enters deeper is depth more goes are = by_depth taken deeper is depth (rw (more, are) (goes, entered_holds))

-- ---- room

pub room_to_enter : (unit : MethodUnit) (old : Frames) (heap : Heap) (stack args : Piled Value) (ok : Bool) → HasRoomToCall unit old
    → ok ≡ true → when ok (record { args = args.top; rest = stack.top }) ≡ taken heap (reverse unit.args) [] old.stack.top
    → stack.below ≡ old.stack.below → stack.depth ≡ old.stack.depth
    → HasRoomToEnter unit (record old { stack = stack; args = args })
room_to_enter unit old heap stack args ok room is_ok took below depth =
    let some = rw is_ok at took in
    let many = as_many heap unit.args old.stack.top (record { args = args.top; rest = stack.top }) some in
    record {
      stack = rw (below, depth) room.stack;
      locals = room.locals;
      entry_args = record { items = rw many room.entry_args.items; lists = room.entry_args.lists };
      olds = room.olds;
      positions = room.positions;
      caller = room.caller;
    }
