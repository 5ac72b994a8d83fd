-- The lines of a search for arguments with which a run ends in a fault.
use Rattle.std.specs.Prelude.{ℕ, List, ◌++◌, decimal, codes}
use Rattle.std.specs.List.{flat_map}
use Rattle.cil_model.specs.declared.arg.Arg.{Arg}
use Rattle.cil_model.specs.declared.machine.FaultKind.{FaultKind}
use Rattle.cil_model.specs.declared.machine.World.{World}
use Rattle.method_run.specs.FaultTexts.{fault_line}
use Rattle.run_arguments.specs.Texts.{text_of}

-- An argument after a space.
abbrev pub next_argument : Arg → List ℕ
next_argument arg = codes " " ++ text_of arg

-- The line of the arguments.
abbrev pub refuted_line : List Arg → List ℕ
refuted_line args = codes "refuted:" ++ flat_map next_argument args ++ codes "\n"

-- That line, and the one of the fault in which the run with these arguments ends.
abbrev pub refuted_text : World → List Arg → FaultKind → ℕ → ℕ → List ℕ
refuted_text w args kind unit at = refuted_line args ++ fault_line w kind unit at

-- The line of a search that found none: how many argument lists were tried, and with how many of them a run started.
abbrev pub not_refuted_line : ℕ → ℕ → List ℕ
not_refuted_line tried started = codes "not refuted: " ++ decimal tried ++ codes " tried, " ++ decimal started ++ codes " started\n"
