-- The answers to `list`, `il`, `run` and `refute` where nothing interrupts them.
use Rattle.std.specs.Prelude.{◌≡◌, ℕ, List, Option, Some, None, Result, Ok, Err, codes}
use Rattle.std.specs.Option.{option_and_then}
use Rattle.asm_image.specs.Bodies.{method_of}
use Rattle.asm_image.specs.Find.{find_of}
use Rattle.asm_image.specs.declared.fault.AsmFault.{AsmFault}
use Rattle.asm_image.specs.declared.found.Found.{Found}
use Rattle.asm_image.specs.declared.found.Found.TheVariants.{One, Several}
use Rattle.asm_image.specs.declared.method_row.MethodRow.{MethodRow}
use Rattle.cc_base.specs.declared.token.Token.{Token}
use Rattle.cil_model.specs.declared.instruction.Instr.{Instr}
use Rattle.cil_model.specs.declared.machine.World.{World}
use Rattle.method_run.specs.RunAnswers.{run_answer}
use Rattle.method_run.specs.declared.answer.RunAnswer.{RunAnswer}
use Rattle.method_run.specs.declared.answer.RunAnswer.TheVariants as runs
use Rattle.unit_builder.specs.WorldOf.{least_skipped, world_of}
use Rattle.answer_lines.specs.Answers.{Answer, misfit_answer, output_answer, refused_answer}
use Rattle.answer_lines.specs.LineCounts.{line_count}
use Rattle.assembly_answers.specs.FaultText.{assembly_fault_text}
use Rattle.assembly_answers.specs.IlText.{il_text, method_instrs}
use Rattle.assembly_answers.specs.ListText.{list_text}
use Rattle.assembly_answers.specs.RefuteText.{not_refuted_line, refuted_text}
use Rattle.assembly_answers.specs.declared.method_world.NoWorld.{NoWorld}
use Rattle.assembly_answers.specs.declared.method_world.NoWorld.TheVariants.{NoMethod, NotAnalysed, Refused, SeveralMethods}
use Rattle.witness_search.specs.Searches.{searched}
use Rattle.witness_search.specs.declared.answer.Search.{Search}
use Rattle.witness_search.specs.declared.answer.Search.TheVariants as searches

-- The answer to `list FILE` for the bytes of the file, which have this first fault or none.
abbrev pub list_answer : List ℕ → List ℕ → Option AsmFault → Answer
list_answer name bytes (Some fault) = refused_answer name (assembly_fault_text fault.cause) fault.at
list_answer name bytes None = output_answer 0 (list_text bytes)

-- The answer to `il` for the instructions of the method, or that it has none that read.
abbrev pub instrs_answer : Option (List Instr) → Answer
instrs_answer None = misfit_answer (codes "not analysed")
instrs_answer (Some instrs) = output_answer 0 (il_text instrs)

-- The answer for what the name means in the assembly that a file is.
abbrev pub found_answer : List ℕ → Option Found → Answer
found_answer bytes None = misfit_answer (codes "no method")
found_answer bytes (Some Several) = misfit_answer (codes "several methods")
found_answer bytes (Some (One token)) = instrs_answer (option_and_then (method_instrs bytes) (method_of bytes token))

-- The answer to `il FILE METHOD` for the bytes of the file, which have this first fault or none.
abbrev pub il_answer : List ℕ → List ℕ → List ℕ → Option AsmFault → Answer
il_answer name method bytes (Some fault) = refused_answer name (assembly_fault_text fault.cause) fault.at
il_answer name method bytes None = found_answer bytes (find_of bytes method)

-- ---- the world of a method

-- The world of the method of a token, where this is the least token that it reaches of a method that is not analysed,
-- or there is none.
abbrev pub world_unless : List ℕ → Token → Option ℕ → Result World NoWorld
world_unless bytes token (Some skipped) = Err NotAnalysed
world_unless bytes token None = Ok (world_of bytes token.0)

-- The same for a token that names this method, or none.
abbrev pub world_at : List ℕ → Token → Option MethodRow → Result World NoWorld
world_at bytes token None = Err NoMethod
world_at bytes token (Some method) = world_unless bytes token (least_skipped bytes token.0)

-- The same for what a name means in the assembly that a file is.
abbrev pub world_found : List ℕ → Option Found → Result World NoWorld
world_found bytes None = Err NoMethod
world_found bytes (Some Several) = Err SeveralMethods
world_found bytes (Some (One token)) = world_at bytes token (method_of bytes token)

-- The same for a name and the bytes of the file, which have this first fault or none.
abbrev pub world_named : List ℕ → List ℕ → Option AsmFault → Result World NoWorld
world_named method bytes (Some fault) = Err (Refused fault)
world_named method bytes None = world_found bytes (find_of bytes method)

-- The answer for a file of this name where a method has no world.
abbrev pub no_world_answer : List ℕ → NoWorld → Answer
no_world_answer name (Refused fault) = refused_answer name (assembly_fault_text fault.cause) fault.at
no_world_answer name NoMethod = misfit_answer (codes "no method")
no_world_answer name SeveralMethods = misfit_answer (codes "several methods")
no_world_answer name NotAnalysed = misfit_answer (codes "not analysed")

-- The answer where a method has this world, or none: by its world, or why there is none.
abbrev pub world_answer : List ℕ → (World → Answer) → Result World NoWorld → Answer
world_answer name answer (Ok w) = answer w
world_answer name answer (Err none) = no_world_answer name none

-- ---- runs

-- The answer that a run gives.
abbrev pub run_told : RunAnswer → Answer
run_told (runs.Line status text) = output_answer status text
run_told (runs.Misfit reason) = misfit_answer reason

-- It is one line, or a reason without a line feed.
abbrev pub TellsLine : RunAnswer → Type 0
TellsLine (runs.Line status text) = line_count text ≡ 1
TellsLine (runs.Misfit reason) = line_count reason ≡ 0

-- The answer to `run FILE METHOD ARG..` for the bytes of the file, which have this first fault or none.
abbrev pub run_file_answer : List ℕ → List ℕ → List (List ℕ) → ℕ → List ℕ → Option AsmFault → Answer
run_file_answer name method args steps bytes fault =
    world_answer name (λ w. run_told (run_answer w args steps)) (world_named method bytes fault)

-- ---- searches for arguments that end in a fault

-- The answer that a search of a world gives.
abbrev pub search_told : World → Search → Answer
search_told w (searches.Found args kind unit at) = output_answer 8 (refuted_text w args kind unit at)
search_told w (searches.NotFound tried started) = output_answer 0 (not_refuted_line tried started)

-- The answer to `refute FILE METHOD` in so many runs at most, for the bytes of the file, which have this first fault or
-- none. A method is the first of its world.
abbrev pub refute_file_answer : List ℕ → List ℕ → ℕ → List ℕ → Option AsmFault → Answer
refute_file_answer name method runs bytes fault =
    world_answer name (λ w. search_told w (searched w 0 runs)) (world_named method bytes fault)
