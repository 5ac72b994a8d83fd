-- Returns of frames that hold a state are those of the state.
use Rattle.std.proofs.Common.{◌≡◌, ℕ, ◌+◌, ◌<◌, ◌≤◌, List, [], ◌∷◌, length, map, drop, Option, Some, None, slice_get, refl, sym, ap, subst, ◌∙◌, arith}
use Rattle.std.specs.List.{AllByRecursion}
use Rattle.std.proofs.lemmas.List.{length-map}
use Rattle.cil_model.specs.Calls.{clauses_in_force, ensures_fault, pushed, result_of}
use Rattle.cil_model.specs.Clauses.{false_ensures}
use Rattle.cil_model.specs.Values.{Heap}
use Rattle.cil_model.specs.declared.clause.Clause.{Clause}
use Rattle.cil_model.specs.declared.instruction.Instr.{Instr}
use Rattle.cil_model.specs.declared.machine.FaultKind.TheVariants as faults
use Rattle.cil_model.specs.declared.machine.Frame.{Frame}
use Rattle.cil_model.specs.declared.machine.Value.{Value}
use Rattle.cil_model.specs.declared.machine.World.{World}
use Rattle.cil_model.specs.declared.unit.Unit.{Unit as MethodUnit}
use Rattle.cil_eval.specs.Called.{with_result}
use Rattle.cil_eval.specs.Entered.{left}
use Rattle.cil_eval.specs.Held.{HasPart, Holds, Turned, olds_of, olds_of_unit, position_of}
use Rattle.cil_eval.specs.Outcome.{State, after_ensures, after_result, resumed}
use Rattle.clause_eval.specs.Piles.{Piled, closed, length_of_all, size_of}
use Rattle.clause_eval.specs.Told.{OldsLackResult, TellsEnsures, olds_of_clauses}
use Rattle.cil_eval.specs.declared.frames.Frames.{Frames}
use Rattle.cil_eval.specs.declared.stop.Stop.{Stop}
use Rattle.cil_eval.specs.declared.stop.Stop.TheVariants as stops

-- ---- room

closed_less : {X : Type 0} (below : List (List X)) (p : Piled X) → p.below ≡ below → size_of (closed below p) ≤ size_of p
closed_less [] p e = omega arith
closed_less (xs ∷ others) p e = let all = ap length_of_all e in omega (arith, all)

same_room : {X : Type 0} (below : List (List X)) (p : Piled X) → (closed below p).room ≡ p.room
same_room [] p = refl
same_room (xs ∷ others) p = refl

pub less : (frames : Frames) → size_of frames.stack < frames.stack.room → size_of (closed frames.stack.below frames.stack) < (closed frames.stack.below frames.stack).room
less frames few = rw (same_room frames.stack.below frames.stack) (omega (arith, closed_less frames.stack.below frames.stack refl))

-- ---- the frame below

closed_part : {X : Type 0} (part : Frame → List X) (s next : State) (p : Piled X) → HasPart part s p → s.below ≡ next.running ∷ next.below → HasPart part next (closed p.below p)
closed_part part s next p h e =
    let is = h.below ∙ ap (map part) e in
    subst (λ below. HasPart part next (closed below p)) (sym is) (record { top = refl; below = refl })

left_holds : (w : World) (old : Frames) (heap : Heap) (s next : State) → Holds w old heap s → s.below ≡ next.running ∷ next.below → next.heap ≡ s.heap → Holds w (left old) heap next
left_holds w old heap s next h e same = record {
  stack = closed_part (λ f. f.stack) s next old.stack h.stack e;
  args = closed_part (λ f. f.args) s next old.args h.args e;
  locals = closed_part (λ f. f.locals) s next old.locals h.locals e;
  entry_args = closed_part (λ f. f.entry_args) s next old.entry_args h.entry_args e;
  olds = closed_part (olds_of w) s next old.olds h.olds e;
  positions = ap (drop 1) h.positions ∙ ap (map position_of) e;
  heap_is = h.heap_is ∙ sym same;
}

with_result_holds : (w : World) (frames : Frames) (heap : Heap) (result : Option Value) (caller : Frame) (outer : List Frame) (after : Heap)
    → Holds w frames heap (record { running = caller; below = outer; heap = after })
    → Holds w (with_result result frames) heap (record { running = pushed caller result; below = outer; heap = after })
with_result_holds w frames heap None caller outer after h = h
with_result_holds w frames heap (Some value) caller outer after h = record {
  stack = record { top = ap (λ xs. value ∷ xs) h.stack.top; below = h.stack.below };
  args = record { top = h.args.top; below = h.args.below };
  locals = record { top = h.locals.top; below = h.locals.below };
  entry_args = record { top = h.entry_args.top; below = h.entry_args.below };
  olds = record { top = h.olds.top; below = h.olds.below };
  positions = h.positions;
  heap_is = h.heap_is;
}

-- ---- what comes of a return

module _ (w : World) (s : State) (i : Instr) (unit : MethodUnit) (index : ℕ) (old new : Frames) (heap : Heap) (stop : Option Stop) (h : Holds w old heap s)
    (found : slice_get w.units index ≡ Some unit) (same : s.running.unit ≡ index) (lacks : AllByRecursion (λ (clause : Clause). OldsLackResult clause.tree) (clauses_in_force unit)) where
  abbrev turned : Option (Option Value) → Type 0
  turned o = Turned w (after_result s unit i o) new heap stop

  abbrev all : Option (Option Value)
  all = result_of s.heap unit.result s.running.stack

  of_state : result_of heap unit.result old.stack.top ≡ all
  of_state = rw (h.heap_is, h.stack.top) refl

  pub no_result : None ≡ result_of heap unit.result old.stack.top → turned all
  no_result is = subst turned (is ∙ of_state) tt

  abbrev ensured : Option Value → Option ℕ → Type 0
  ensured result fault = Turned w (after_ensures s i result fault) new heap stop

  told : old.olds.top ≡ olds_of_clauses (clauses_in_force unit) old.entry_args.top s.running.entry_heap
  told =
      h.olds.top ∙ ap (λ n. olds_of_unit (slice_get w.units n) s.running.entry_args s.running.entry_heap) same
      ∙ ap (λ o. olds_of_unit o s.running.entry_args s.running.entry_heap) found
      ∙ ap (λ xs. olds_of_clauses (clauses_in_force unit) xs s.running.entry_heap) (sym h.entry_args.top)

  -- The fault of the Ensures is the state's.
  fault_is : (result : Option Value) (fault : Option ℕ) → TellsEnsures (clauses_in_force unit) old.entry_args.top old.olds.top heap result fault
      → fault ≡ ensures_fault unit s.running s.heap result
  fault_is result fault tells =
      tells s.running.entry_heap lacks told
      ∙ ap (λ xs. false_ensures (clauses_in_force unit) (record { args = xs; entry_heap = s.running.entry_heap; heap = heap; result = result })) h.entry_args.top
      ∙ ap (λ (x : Heap). false_ensures (clauses_in_force unit) (record { args = s.running.entry_args; entry_heap = s.running.entry_heap; heap = x; result = result })) h.heap_is

  by_ensures : (result : Option Value) (fault : Option ℕ) → Some result ≡ result_of heap unit.result old.stack.top
      → TellsEnsures (clauses_in_force unit) old.entry_args.top old.olds.top heap result fault → ensured result fault → turned all
  by_ensures result fault is tells turns = subst turned (is ∙ of_state) (subst (ensured result) (fault_is result fault tells) turns)

  pub denied : (result : Option Value) (k : ℕ) → Some result ≡ result_of heap unit.result old.stack.top
      → TellsEnsures (clauses_in_force unit) old.entry_args.top old.olds.top heap result (Some k) → stop ≡ Some (stops.Fault (faults.Ensures k) index i.at) → turned all
  denied result k is tells stops = by_ensures result (Some k) is tells (rw same stops)

  how_deep : length old.positions.top ≡ length s.below + 1
  how_deep = let many = ap length h.positions in omega (arith, many, length-map s.below position_of)

  last : (below : List Frame) (result : Option Value) → length below ≡ 0 → stop ≡ Some (stops.Returned result) → Turned w (resumed below result s.heap) new heap stop
  last [] result none stops = stops
  last (caller ∷ outer) result none stops = absurd (omega arith)

  pub ends : (result : Option Value) → Some result ≡ result_of heap unit.result old.stack.top → TellsEnsures (clauses_in_force unit) old.entry_args.top old.olds.top heap result None
      → length old.positions.top ≤ 1 → stop ≡ Some (stops.Returned result) → turned all
  ends result is tells few stops = by_ensures result None is tells (last s.below result (omega (arith, how_deep)) stops)

  resumes : (below : List Frame) (result : Option Value) → s.below ≡ below → 1 ≤ length below → stop ≡ None → new ≡ with_result result (left old)
      → Turned w (resumed below result s.heap) new heap stop
  resumes [] result e some goes are = absurd (omega arith)
  resumes (caller ∷ outer) result e some goes are =
      rw are (goes, with_result_holds w (left old) heap result caller outer s.heap (left_holds w old heap s (record { running = caller; below = outer; heap = s.heap }) h e refl))

  pub goes_on : (result : Option Value) → Some result ≡ result_of heap unit.result old.stack.top → TellsEnsures (clauses_in_force unit) old.entry_args.top old.olds.top heap result None
      → 1 < length old.positions.top → stop ≡ None → new ≡ with_result result (left old) → turned all
  goes_on result is tells deep goes are = by_ensures result None is tells (resumes s.below result refl (omega (arith, how_deep)) goes are)
