-- The frames of a run that begins.
use Rattle.std.proofs.Common.{◌≡◌, ℕ, ◌≤◌, true, List, [], ◌∷◌, length, reverse, refl, ap, arith}
use Rattle.std.proofs.lemmas.List.{length-reverse}
use Rattle.cil_model.specs.Limits.{MAX_OLD_VALUES, MAX_VARIABLES}
use Rattle.cil_model.specs.Values.{Heap}
use Rattle.cil_model.specs.declared.machine.Value.{Value}
use Rattle.cil_model.specs.declared.unit.Unit.{Unit as MethodUnit}
use Rattle.cil_eval.specs.Capacity.{HoldDepth, IsFor}
use Rattle.cil_eval.specs.Entered.{HasRoomToBegin, HoldNothing, IsEmpty, begun}
use Rattle.cil_eval.specs.Flows.{IsRunnable}
use Rattle.cil_eval.specs.Given.{args_fit, values_back, values_of}
use Rattle.clause_eval.specs.Piles.{Piled, length_of_all, size_of}
use Rattle.cil_model.specs.declared.arg.Arg.{Arg}
use Rattle.cil_eval.specs.declared.frames.Frames.{Frames}
use Rattle.cil_eval.proofs.StartLemmas.{fit_long}

-- ---- arguments

pub values_many : (given : List Arg) → length (values_back given) ≡ length given
values_many [] = refl
values_many (arg ∷ given) = omega (arith, values_many given)

pub few_values : (unit : MethodUnit) (given : List Arg) (values : List Value) → IsRunnable unit → args_fit unit.args given ≡ true → values ≡ values_of given → length values ≤ MAX_VARIABLES
few_values unit given values runs fit is =
    let many = ap length is in
    omega (arith, many, length-reverse (values_back (reverse given)), values_many (reverse given), length-reverse given, fit_long unit.args given fit, runs.args)

-- ---- room

none_in : {X : Type 0} (p : Piled X) → IsEmpty p → size_of p ≡ 0
none_in p h = let top = ap length h.top in let below = ap length_of_all h.below in omega (arith, top, below)

pub room_to_begin : (depth : ℕ) (frames : Frames) → HoldNothing frames → HoldDepth depth frames → HasRoomToBegin frames
room_to_begin depth frames nothing room = record {
  args = omega (arith, none_in frames.args nothing.args, room.args.items);
  locals = omega (arith, none_in frames.locals nothing.locals, room.locals.items);
  entry_args = omega (arith, none_in frames.entry_args nothing.entry_args, room.entry_args.items);
  olds = omega (arith, none_in frames.olds nothing.olds, room.olds.items);
  positions = omega (arith, none_in frames.positions nothing.positions, room.positions.items);
}

for_top : {X : Type 0} (count depth : ℕ) (p : Piled X) (xs : List X) → IsFor count depth p → IsFor count depth (record p { top = xs })
for_top count depth p xs h = record { items = h.items; lists = h.lists }

pub begun_for : (depth : ℕ) (unit : MethodUnit) (index : ℕ) (args : List Value) (heap : Heap) (frames : Frames) → HoldDepth depth frames
    → HoldDepth depth (begun unit index args heap frames)
begun_for depth unit index args heap frames h = record {
  stack = h.stack;
  args = for_top MAX_VARIABLES depth frames.args _ h.args;
  locals = for_top MAX_VARIABLES depth frames.locals _ h.locals;
  entry_args = for_top MAX_VARIABLES depth frames.entry_args _ h.entry_args;
  olds = for_top MAX_OLD_VALUES depth frames.olds _ h.olds;
  positions = for_top 1 depth frames.positions _ h.positions;
  line = h.line;
}
