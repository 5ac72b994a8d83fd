-- What it means: of points of runs.
use Rattle.std.specs.Prelude.{◌≡◌, true, List, [], ◌∷◌, ◌++◌, length, reverse, drop, Option, Some, None}
use Rattle.cil_model.specs.Calls.{FreeReturn, args_of, behind_call, ensures_fault, pushed, result_of}
use Rattle.cil_model.specs.Clauses.{Reading, clause_holds, false_requires}
use Rattle.cil_model.specs.Values.{FitPlaces, Heap}
use Rattle.cil_model.specs.declared.clause.Clause.{Clause}
use Rattle.cil_model.specs.declared.instruction.Instr.{Instr}
use Rattle.cil_model.specs.declared.machine.Frame.{Frame}
use Rattle.cil_model.specs.declared.machine.Value.{Value}
use Rattle.cil_model.specs.declared.place.Place.{Place}
use Rattle.cil_model.specs.declared.unit.CalleeInfo.{CalleeInfo}
use Rattle.cil_model.specs.declared.unit.Unit.{Unit as MethodUnit}
use Rattle.machine_points.specs.Points.{point}
use Rattle.machine_points.specs.declared.point.Point.{Point}
use Rattle.state_facts.specs.Holds.{HoldsAt}
use Rattle.state_facts.specs.Keeps.{listed}
use Rattle.state_facts.specs.StateFacts.{State}
use Rattle.contract_calls.specs.CallStates.{ensures_assumed, ensures_shown, requires_assumed, requires_shown}

-- ---- points

-- The point with another stack.
abbrev pub with_stack : List Value → Point → Point
with_stack stack p = point (record p.frame { stack = stack }) p.heap

-- The point of a call whose arguments lie on the stack as they were put into the places of its parameters.
abbrev pub passing : List Place → List Value → Point → Point
passing places args p = with_stack (reverse args ++ drop (length places) p.frame.stack) p

-- The point of a return whose result lies on the stack as it was put into its place.
abbrev pub returning : Option Value → Point → Point
returning result p = with_stack (listed result) p

-- The point behind a call that gave a result over a new heap.
abbrev pub back : CalleeInfo → Instr → Option Value → Heap → Point → Point
back callee i result new p = point (pushed (behind_call i (length callee.args) p.frame) result) new

-- ---- arguments and results

-- Where a call takes arguments from the stack of a point of which the old state holds, the new one holds of the point
-- where they were put.
abbrev pub KeepsArgs : List Place → State → State → Type 0
KeepsArgs places before after =
    (p : Point) (args : List Value) → args_of p.heap places p.frame.stack ≡ Some args → HoldsAt before p
    → HoldsAt after (passing places args p)

-- So for the result that a return takes.
abbrev pub KeepsResult : Place → State → State → Type 0
KeepsResult place before after =
    (p : Point) (result : Option Value) → result_of p.heap place p.frame.stack ≡ Some result → HoldsAt before p
    → HoldsAt after (returning result p)

-- ---- calls

-- What a Requires is read over.
abbrev pub reading_at_call : List Value → Heap → Reading
reading_at_call args heap = record { args = args; entry_heap = heap; heap = heap; result = None }

-- A Requires of the callee is true at each call of which the state holds.
abbrev pub IsRequiredAt : CalleeInfo → Clause → State → Type 0
IsRequiredAt callee clause state =
    (p : Point) (args : List Value) → args_of p.heap callee.args p.frame.stack ≡ Some args
    → HoldsAt state (passing callee.args args p) → clause_holds (reading_at_call args p.heap) clause ≡ true

-- Where it is true, the new state holds of each call of which the old one does.
abbrev pub KeepsRequired : CalleeInfo → Clause → State → State → Type 0
KeepsRequired callee clause before after =
    (p : Point) (args : List Value) → args_of p.heap callee.args p.frame.stack ≡ Some args
    → clause_holds (reading_at_call args p.heap) clause ≡ true → HoldsAt before (passing callee.args args p)
    → HoldsAt after (passing callee.args args p)

-- Where all Requires are true.
abbrev pub KeepsAllRequired : CalleeInfo → State → State → Type 0
KeepsAllRequired callee before after =
    (p : Point) (args : List Value) → args_of p.heap callee.args p.frame.stack ≡ Some args
    → false_requires callee.clauses args p.heap ≡ None → HoldsAt before (passing callee.args args p)
    → HoldsAt after (passing callee.args args p)

-- Where a call comes back with all that its callee's Ensures allow, the new state holds of the point behind it.
abbrev pub KeepsReturned : CalleeInfo → State → State → Type 0
KeepsReturned callee before after =
    (i : Instr) (p : Point) (args : List Value) (new : Heap) (result : Option Value)
    → args_of p.heap callee.args p.frame.stack ≡ Some args → FreeReturn callee args p.heap new result
    → HoldsAt before (passing callee.args args p) → HoldsAt after (back callee i result new p)

-- Where a call takes its arguments from the stack of a point of which the old state holds, no Requires is false, and it
-- comes back with all that its callee's Ensures allow, the new state holds of the point behind it.
abbrev pub KeepsCall : CalleeInfo → State → State → Type 0
KeepsCall callee before after =
    (i : Instr) (p : Point) (args : List Value) (new : Heap) (result : Option Value)
    → args_of p.heap callee.args p.frame.stack ≡ Some args → false_requires callee.clauses args p.heap ≡ None
    → FreeReturn callee args p.heap new result → HoldsAt before p → HoldsAt after (back callee i result new p)

-- Each Requires is shown, where those before it are assumed.
abbrev pub AreRequired : CalleeInfo → List Clause → State → Type 0
AreRequired callee [] state = Unit {0}
AreRequired callee (clause ∷ clauses) state =
    (requires_shown callee clause state ≡ true) × AreRequired callee clauses (requires_assumed callee clause state)

-- ---- returns

-- What an Ensures is read over at the return of a frame.
abbrev pub reading_at_return : Frame → Heap → Option Value → Reading
reading_at_return frame heap result =
    record { args = frame.entry_args; entry_heap = frame.entry_heap; heap = heap; result = result }

-- A frame of the unit returns this: its arguments at the entry are of their types, and the result was put into its
-- place.
pub record Returns (unit : MethodUnit) (p : Point) (result : Option Value) : Type 0 where
  pub args_fit : FitPlaces p.frame.entry_heap unit.args p.frame.entry_args
  pub result_is : result_of p.heap unit.result p.frame.stack ≡ Some result

-- An Ensures of the unit is true at each return of which the state holds.
abbrev pub IsEnsuredAt : MethodUnit → Clause → State → Type 0
IsEnsuredAt unit clause state =
    (p : Point) (result : Option Value) → Returns unit p result → HoldsAt state (returning result p)
    → clause_holds (reading_at_return p.frame p.heap result) clause ≡ true

-- Where it is true, the new state holds of each return of which the old one does.
abbrev pub KeepsEnsured : MethodUnit → Clause → State → State → Type 0
KeepsEnsured unit clause before after =
    (p : Point) (result : Option Value) → Returns unit p result
    → clause_holds (reading_at_return p.frame p.heap result) clause ≡ true → HoldsAt before (returning result p)
    → HoldsAt after (returning result p)

-- Where all Ensures are true.
abbrev pub KeepsAllEnsured : MethodUnit → State → State → Type 0
KeepsAllEnsured unit before after =
    (p : Point) (result : Option Value) → Returns unit p result → ensures_fault unit p.frame p.heap result ≡ None
    → HoldsAt before (returning result p) → HoldsAt after (returning result p)

-- Where a return finds no Ensures false, the new state holds of it, with the result on the stack as it was put into its
-- place.
abbrev pub KeepsReturn : MethodUnit → State → State → Type 0
KeepsReturn unit before after =
    (p : Point) (result : Option Value) → Returns unit p result → ensures_fault unit p.frame p.heap result ≡ None
    → HoldsAt before p → HoldsAt after (returning result p)

-- Each Ensures is shown, where those before it are assumed.
abbrev pub AreEnsured : MethodUnit → List Clause → State → Type 0
AreEnsured unit [] state = Unit {0}
AreEnsured unit (clause ∷ clauses) state =
    (ensures_shown unit clause state ≡ true) × AreEnsured unit clauses (ensures_assumed unit clause state)
