-- What is answered of a run of the first method of a world, whose arguments are words.
use Rattle.std.specs.Prelude.{ℕ, ◌≤◌, List, [], ◌++◌, length, decimal, Option, Some, None, slice_get, codes}
use Rattle.cil_model.specs.Values.{Heap}
use Rattle.cil_model.specs.declared.machine.World.{World}
use Rattle.cil_model.specs.declared.place.Place.{Place}
use Rattle.cil_model.specs.declared.unit.Unit.{Unit as MethodUnit}
use Rattle.cil_eval.specs.Outcome.{State, last_state, outcome}
use Rattle.cil_eval.specs.Starts.{start_refusal, start_state}
use Rattle.cil_model.specs.declared.arg.Arg.{Arg}
use Rattle.cil_eval.specs.declared.limits.Limits.{Limits}
use Rattle.cil_eval.specs.declared.start_refusal.StartRefusal.{StartRefusal}
use Rattle.cil_eval.specs.declared.start_refusal.StartRefusal.TheVariants as refusals
use Rattle.cil_eval.specs.declared.stop.Stop.{Stop}
use Rattle.method_run.specs.ArgumentWords.{arguments_of}
use Rattle.method_run.specs.EndTexts.{end_status, end_text}
use Rattle.method_run.specs.declared.answer.RunAnswer.{RunAnswer}
use Rattle.method_run.specs.declared.answer.RunAnswer.TheVariants as answers

-- The limits of a run of so many steps.
abbrev pub run_limits : ℕ → Limits
run_limits steps = record { steps = steps; cells = 16777216; depth = 1000 }

-- The line of an end.
abbrev pub end_answer : World → Limits → Place → Heap → Stop → RunAnswer
end_answer w limits place heap stop = answers.Line (end_status stop) (end_text w limits place heap stop ++ codes "\n")

-- The same, where there may be no end: a run that gets stuck has none. In a world that can be run none gets stuck.
abbrev pub outcome_answer : World → Limits → Place → Heap → Option Stop → RunAnswer
outcome_answer w limits place heap None = answers.Misfit []
outcome_answer w limits place heap (Some stop) = end_answer w limits place heap stop

-- The end of the run from a state, with the arrays of its last state.
abbrev pub answer_from : World → Limits → Place → State → RunAnswer
answer_from w limits place start =
    outcome_answer w limits place (last_state w limits limits.steps start).heap (outcome w limits limits.steps start)

-- Arguments whose arrays have too many cells are answered as a run that stops at this limit.
abbrev pub cells_answer : Limits → RunAnswer
cells_answer limits = answers.Line 9 (codes "stopped: cells " ++ decimal limits.cells ++ codes "\n")

-- Why a run does not start. That there is no method is no reason to be told.
abbrev pub refusal_answer : Limits → StartRefusal → RunAnswer
refusal_answer limits refusals.Unit = answers.Misfit []
refusal_answer limits refusals.Arguments = answers.Misfit (codes "arguments")
refusal_answer limits (refusals.Requires k) = answers.Misfit (codes "requires " ++ decimal k)
refusal_answer limits refusals.Cells = cells_answer limits

abbrev pub start_answer : World → Limits → MethodUnit → List Arg → Option StartRefusal → RunAnswer
start_answer w limits unit args (Some refusal) = refusal_answer limits refusal
start_answer w limits unit args None = answer_from w limits unit.result (start_state unit 0 args)

-- A run of this unit's method, the first of the world, with these arguments.
abbrev pub unit_answer : World → Limits → MethodUnit → List Arg → RunAnswer
unit_answer w limits unit args = start_answer w limits unit args (start_refusal w limits 0 args)

abbrev pub entry_answer : World → Limits → List (List ℕ) → Option MethodUnit → RunAnswer
entry_answer w limits words None = answers.Misfit []
entry_answer w limits words (Some unit) = unit_answer w limits unit (arguments_of unit.args words)

-- What is answered of the run of a world's first method, with arguments that are these words, in so many steps at most.
unfoldable pub run_answer : World → List (List ℕ) → ℕ → RunAnswer
run_answer w words steps = entry_answer w (run_limits steps) words (slice_get w.units 0)

-- There is something to print: a line, or a reason.
abbrev pub IsTold : RunAnswer → Type 0
IsTold (answers.Line status text) = Unit {0}
IsTold (answers.Misfit reason) = 1 ≤ length reason
