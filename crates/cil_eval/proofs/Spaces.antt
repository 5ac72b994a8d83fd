-- Frames that hold a state have space for a step.
use Rattle.std.proofs.Common.{◌≡◌, ℕ, ◌+◌, ◌*◌, ◌≤◌, List, [], ◌∷◌, length, map, sym, ap, subst, ◌∙◌, arith}
use Rattle.std.specs.List.{AllByRecursion}
use Rattle.std.proofs.lemmas.List.{length-map}
use Rattle.cil_model.specs.Limits.{MAX_OLD_VALUES, MAX_VARIABLES}
use Rattle.cil_model.specs.Values.{Heap}
use Rattle.cil_model.specs.declared.machine.Frame.{Frame}
use Rattle.cil_model.specs.declared.machine.World.{World}
use Rattle.cil_model.specs.declared.unit.Unit.{Unit as MethodUnit}
use Rattle.cil_eval.specs.Called.{HasRoomToCall}
use Rattle.cil_eval.specs.Capacity.{HasSpace, HoldDepth, IsFor}
use Rattle.clause_eval.specs.Piles.{HasRoomFor}
use Rattle.cil_eval.specs.Flows.{IsRunnable}
use Rattle.cil_eval.specs.Held.{HasPart, Holds, olds_of, position_of}
use Rattle.cil_eval.specs.Machines.{Fits, IsSmall}
use Rattle.cil_eval.specs.Outcome.{State}
use Rattle.clause_eval.specs.Piles.{Piled, length_of_all}
use Rattle.cil_eval.specs.declared.frames.Frames.{Frames}
use Rattle.cil_eval.specs.declared.limits.Limits.{Limits}

-- ---- calls

fewer : {X : Type 0} (most count : ℕ) (p : Piled X) → HasRoomFor most p → count ≤ most → HasRoomFor count p
fewer most count p h few = record { items = omega (arith, h.items); lists = h.lists }

pub room_to_call : (unit : MethodUnit) (frames : Frames) → HasSpace frames → IsRunnable unit → HasRoomToCall unit frames
room_to_call unit frames space runs = record {
  stack = space.stack.lists;
  args = fewer MAX_VARIABLES (length unit.args) frames.args space.args runs.args;
  locals = fewer MAX_VARIABLES (length unit.locals) frames.locals space.locals runs.locals;
  entry_args = fewer MAX_VARIABLES (length unit.args) frames.entry_args space.entry_args runs.args;
  olds = fewer MAX_OLD_VALUES _ frames.olds space.olds runs.few_olds;
  positions = omega (arith, space.positions.items);
  caller = space.caller;
}

-- ---- sizes

in_all : {X : Type 0} (most : ℕ) (part : Frame → List X) (fs : List Frame) → AllByRecursion (λ f. length (part f) ≤ most) fs
    → length_of_all (map part fs) ≤ length fs * most
in_all most part [] h = omega arith
in_all most part (f ∷ fs) h = omega (arith, h.0, in_all most part fs h.1)

room_for : {X : Type 0} (most depth : ℕ) (part : Frame → List X) (s : State) (p : Piled X) → HasPart part s p → IsFor most depth p
    → length s.below + 1 ≤ depth → AllByRecursion (λ f. length (part f) ≤ most) (s.running ∷ s.below) → HasRoomFor most p
room_for most depth part s p has for deep small =
    let below : length p.below ≡ length s.below = ap length has.below ∙ length-map s.below part in
    let top : length p.top ≡ length (part s.running) = ap length has.top in
    let all : length_of_all p.below ≤ length s.below * most = subst (λ xs. length_of_all xs ≤ length s.below * most) (sym has.below) (in_all most part s.below small.1) in
    let enough : (length s.below + 1) * most ≤ depth * most = grind (arith, deep) in
    record { items = omega (arith, small.0, top, all, enough, for.items); lists = omega (arith, below, deep, for.lists) }

each : (P Q : Frame → Type 0) → ((f : Frame) → P f → Q f) → (fs : List Frame) → AllByRecursion P fs → AllByRecursion Q fs
each P Q on [] h = tt
each P Q on (f ∷ fs) h = (on f h.0, each P Q on fs h.1)

pub space : (w : World) (limits : Limits) (frames : Frames) (heap : Heap) (s : State) → Holds w frames heap s → HoldDepth limits.depth frames → Fits w limits s
    → HasSpace frames
space w limits frames heap s holds room fits =
    let all = s.running ∷ s.below in
    let places : length frames.positions.top ≡ length s.below + 1 = (let many = ap length holds.positions in omega (arith, many, length-map s.below position_of)) in
    let one : length_of_all frames.positions.below ≡ 0 = ap length_of_all room.line in
    let flat : length frames.positions.below ≡ 0 = ap length room.line in
    record {
      stack = fewer MAX_VARIABLES 1 frames.stack (room_for MAX_VARIABLES limits.depth (λ f. f.stack) s frames.stack holds.stack room.stack fits.deep (each (IsSmall w) _ (λ f h. h.stack) all fits.frames)) (omega arith);
      args = room_for MAX_VARIABLES limits.depth (λ f. f.args) s frames.args holds.args room.args fits.deep (each (IsSmall w) _ (λ f h. h.args) all fits.frames);
      locals = room_for MAX_VARIABLES limits.depth (λ f. f.locals) s frames.locals holds.locals room.locals fits.deep (each (IsSmall w) _ (λ f h. h.locals) all fits.frames);
      entry_args = room_for MAX_VARIABLES limits.depth (λ f. f.entry_args) s frames.entry_args holds.entry_args room.entry_args fits.deep (each (IsSmall w) _ (λ f h. h.entry_args) all fits.frames);
      olds = room_for MAX_OLD_VALUES limits.depth (olds_of w) s frames.olds holds.olds room.olds fits.deep (each (IsSmall w) _ (λ f h. h.olds) all fits.frames);
      positions = record { items = omega (arith, one, places, fits.deep, room.positions.items); lists = omega (arith, flat, fits.deep, room.positions.lists) };
      caller = omega (arith, places);
    }
