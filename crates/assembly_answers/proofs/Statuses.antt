-- The statuses of the answers to `list`, `il`, `run` and `refute`.
use Rattle.std.proofs.Common.{◌≢◌, ℕ, ◌<◌, ◌≤◌, slice_get, List, Option, Some, None, Result, Ok, Err, arith}
use Rattle.std.specs.Option.{option_and_then}
use Rattle.asm_image.specs.Bodies.{method_of}
use Rattle.asm_image.specs.Find.{find_of}
use Rattle.asm_image.specs.declared.fault.AsmFault.{AsmFault}
use Rattle.asm_image.specs.declared.found.Found.{Found}
use Rattle.asm_image.specs.declared.found.Found.TheVariants.{One, Several}
use Rattle.cil_eval.specs.Outcome.{last_state, outcome}
use Rattle.cil_eval.specs.Starts.{start_refusal, start_state}
use Rattle.cil_eval.specs.declared.limits.Limits.{Limits}
use Rattle.cil_eval.specs.declared.start_refusal.StartRefusal.{StartRefusal}
use Rattle.cil_eval.specs.declared.start_refusal.StartRefusal.TheVariants as refusals
use Rattle.cil_eval.specs.declared.stop.Stop.{Stop}
use Rattle.cil_eval.specs.declared.stop.Stop.TheVariants as stops
use Rattle.cil_model.specs.Values.{Heap}
use Rattle.cil_model.specs.declared.arg.Arg.{Arg}
use Rattle.cil_model.specs.declared.instruction.Instr.{Instr}
use Rattle.cil_model.specs.declared.machine.World.{World}
use Rattle.cil_model.specs.declared.place.Place.{Place}
use Rattle.cil_model.specs.declared.unit.Unit.{Unit as MethodUnit}
use Rattle.method_run.specs.ArgumentWords.{arguments_of}
use Rattle.method_run.specs.EndTexts.{end_status}
use Rattle.method_run.specs.RunAnswers.{entry_answer, outcome_answer, refusal_answer, run_answer, run_limits, start_answer}
use Rattle.answer_lines.specs.Answers.{Answer}
use Rattle.answer_lines.proofs.Leaving.{IsUninterrupted}
use Rattle.assembly_answers.specs.Answers.{found_answer, il_answer, instrs_answer, list_answer, no_world_answer, refute_file_answer, run_file_answer, run_told, search_told, world_answer, world_named}
use Rattle.assembly_answers.specs.IlText.{method_instrs}
use Rattle.assembly_answers.specs.declared.method_world.NoWorld.{NoWorld}
use Rattle.assembly_answers.specs.declared.method_world.NoWorld.TheVariants.{NoMethod, NotAnalysed, Refused, SeveralMethods}
use Rattle.witness_search.specs.Searches.{searched}
use Rattle.witness_search.specs.declared.answer.Search.{Search}
use Rattle.witness_search.specs.declared.answer.Search.TheVariants as searches

-- ---- statuses

pub plain_below : (status : ℕ) → status ≤ 3 → IsUninterrupted status
plain_below status few = record { read = λ e. omega (arith, e); written = λ e. omega (arith, e); memory = λ e. omega (arith, e) }

-- The status of an answer to bytes that were read tells neither words that are no command nor a file that is missing.
pub record IsOfBytes (status : ℕ) : Type 0 where
  pub usage : status ≢ 2
  pub missing : status ≢ 3
  pub plain : IsUninterrupted status

pub of_few : (status : ℕ) → status ≤ 1 → IsOfBytes status
of_few status few = record { usage = λ e. omega (arith, e, few); missing = λ e. omega (arith, e, few); plain = plain_below status (omega (arith, few)) }

plain_above : (status : ℕ) → 7 < status → IsUninterrupted status
plain_above status above = record { read = λ e. omega (arith, e, above); written = λ e. omega (arith, e, above); memory = λ e. omega (arith, e, above) }

of_high : (status : ℕ) → 7 < status → IsOfBytes status
of_high status above = record { usage = λ e. omega (arith, e, above); missing = λ e. omega (arith, e, above); plain = plain_above status above }

plain_refused : IsUninterrupted 5
plain_refused = record { read = λ e. omega (arith, e); written = λ e. omega (arith, e); memory = λ e. omega (arith, e) }

pub of_refused : IsOfBytes 5
of_refused = record { usage = λ e. omega (arith, e); missing = λ e. omega (arith, e); plain = plain_refused }

of_misfit : IsOfBytes 11
of_misfit = of_high 11 (omega arith)

-- ---- answers

pub of_list : (name bytes : List ℕ) (fault : Option AsmFault) → IsOfBytes (list_answer name bytes fault).status
of_list name bytes None = of_few 0 (omega arith)
of_list name bytes (Some fault) = of_refused

of_instrs : (instrs : Option (List Instr)) → IsOfBytes (instrs_answer instrs).status
of_instrs None = of_misfit
of_instrs (Some instrs) = of_few 0 (omega arith)

of_found : (bytes : List ℕ) (found : Option Found) → IsOfBytes (found_answer bytes found).status
of_found bytes None = of_misfit
of_found bytes (Some Several) = of_misfit
of_found bytes (Some (One token)) = of_instrs (option_and_then (method_instrs bytes) (method_of bytes token))

pub of_il : (name method bytes : List ℕ) (fault : Option AsmFault) → IsOfBytes (il_answer name method bytes fault).status
of_il name method bytes None = of_found bytes (find_of bytes method)
of_il name method bytes (Some fault) = of_refused

-- ---- runs

of_stop : (stop : Stop) → IsOfBytes (end_status stop)
of_stop (stops.Returned value) = of_few 0 (omega arith)
of_stop (stops.Fault kind unit at) = of_high 8 (omega arith)
of_stop (stops.Assumed unit at) = of_high 10 (omega arith)
of_stop stops.Steps = of_high 9 (omega arith)
of_stop stops.Depth = of_high 9 (omega arith)
of_stop stops.Cells = of_high 9 (omega arith)

of_outcome : (w : World) (limits : Limits) (place : Place) (heap : Heap) (end : Option Stop) → IsOfBytes (run_told (outcome_answer w limits place heap end)).status
of_outcome w limits place heap None = of_misfit
of_outcome w limits place heap (Some stop) = of_stop stop

of_refusal : (limits : Limits) (refusal : StartRefusal) → IsOfBytes (run_told (refusal_answer limits refusal)).status
of_refusal limits refusals.Unit = of_misfit
of_refusal limits refusals.Arguments = of_misfit
of_refusal limits (refusals.Requires k) = of_misfit
of_refusal limits refusals.Cells = of_high 9 (omega arith)

of_start : (w : World) (limits : Limits) (unit : MethodUnit) (args : List Arg) (refusal : Option StartRefusal) → IsOfBytes (run_told (start_answer w limits unit args refusal)).status
of_start w limits unit args (Some refusal) = of_refusal limits refusal
of_start w limits unit args None =
    of_outcome w limits unit.result (last_state w limits limits.steps (start_state unit 0 args)).heap (outcome w limits limits.steps (start_state unit 0 args))

of_entry : (w : World) (limits : Limits) (words : List (List ℕ)) (unit : Option MethodUnit) → IsOfBytes (run_told (entry_answer w limits words unit)).status
of_entry w limits words None = of_misfit
of_entry w limits words (Some unit) = of_start w limits unit (arguments_of unit.args words) (start_refusal w limits 0 (arguments_of unit.args words))

of_run : (w : World) (words : List (List ℕ)) (steps : ℕ) → IsOfBytes (run_told (run_answer w words steps)).status
unfolding run_answer
of_run w words steps = of_entry w (run_limits steps) words (slice_get w.units 0)

-- ---- methods and their worlds

of_none : (name : List ℕ) (none : NoWorld) → IsOfBytes (no_world_answer name none).status
of_none name (Refused fault) = of_refused
of_none name NoMethod = of_misfit
of_none name SeveralMethods = of_misfit
of_none name NotAnalysed = of_misfit

of_world : (name : List ℕ) (answer : World → Answer) (named : Result World NoWorld) → ((w : World) → IsOfBytes (answer w).status)
    → IsOfBytes (world_answer name answer named).status
of_world name answer (Ok w) of = of w
of_world name answer (Err none) of = of_none name none

pub of_run_file : (name method : List ℕ) (args : List (List ℕ)) (steps : ℕ) (bytes : List ℕ) (fault : Option AsmFault) → IsOfBytes (run_file_answer name method args steps bytes fault).status
of_run_file name method args steps bytes fault = of_world name (λ w. run_told (run_answer w args steps)) (world_named method bytes fault) (λ w. of_run w args steps)

of_search : (w : World) (found : Search) → IsOfBytes (search_told w found).status
of_search w (searches.Found args kind unit at) = of_high 8 (omega arith)
of_search w (searches.NotFound tried started) = of_few 0 (omega arith)

pub of_refute_file : (name method : List ℕ) (runs : ℕ) (bytes : List ℕ) (fault : Option AsmFault) → IsOfBytes (refute_file_answer name method runs bytes fault).status
of_refute_file name method runs bytes fault =
    of_world name (λ w. search_told w (searched w 0 runs)) (world_named method bytes fault) (λ w. of_search w (searched w 0 runs))
