-- The instructions of a method, as lines.
use Rattle.std.specs.Prelude.{ℕ, List, ◌++◌, Option, Some, None, codes, if◌then◌else◌}
use Rattle.std.specs.List.{flat_map}
use Rattle.std.specs.Option.{option_and_then}
use Rattle.asm_image.specs.Bodies.{has_il_body}
use Rattle.asm_image.specs.declared.method_row.MethodRow.{MethodRow}
use Rattle.cc_base.specs.Tests.{first_of}
use Rattle.cil_model.specs.declared.instruction.Instr.{Instr}
use Rattle.il_decoder.specs.Body.{body_code}
use Rattle.il_decoder.specs.Decoding.{code_tests, instructions_of}
use Rattle.il_decoder.specs.Labels.{label}
use Rattle.il_decoder.specs.Text.{instr_text}
use Rattle.il_decoder.specs.declared.fault.IlFault.{IlFault}

-- The line of an instruction: where it stands, and what it is.
abbrev pub il_line : Instr → List ℕ
il_line i = label i.at ++ codes " " ++ instr_text i ++ codes "\n"

-- The lines of instructions.
unfoldable pub il_text : List Instr → List ℕ
il_text instrs = flat_map il_line instrs

-- The instructions of code that has this first fault, or none.
abbrev pub instrs_without : Option IlFault → List ℕ → Option (List Instr)
instrs_without (Some fault) code = None
instrs_without None code = Some (instructions_of code)

-- The instructions of code, none where it does not read.
abbrev pub code_instrs : List ℕ → Option (List Instr)
code_instrs code = instrs_without (first_of (code_tests code)) code

-- The instructions of a method of the assembly that a file is: none where it has no body of IL, or one that
-- does not read.
unfoldable pub method_instrs : List ℕ → MethodRow → Option (List Instr)
method_instrs bytes method = if has_il_body method then option_and_then code_instrs (body_code bytes method.rva) else None
