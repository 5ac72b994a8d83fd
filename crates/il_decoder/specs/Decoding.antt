-- Decoding as a plain program: what the bytes at a place say, or the fault there.
use Rattle.std.specs.Prelude.{ℕ, zero, suc, ◌+◌, ◌*◌, List, [], ◌∷◌, ◌++◌, length, map, drop, Option, Some, None, Result, Ok, Err, ◌==◌, nat_le, if◌then◌else◌}
use Rattle.std.specs.List.{list_all}
use Rattle.byteorder.specs.Endian.{little_number}
use Rattle.cc_base.specs.Tests.{must}
use Rattle.cil_model.specs.Blocks.{branch_targets}
use Rattle.cil_model.specs.Code.{begins_at}
use Rattle.cil_model.specs.Opcodes.{Form, short_form, long_form, target}
use Rattle.cil_model.specs.declared.instruction.Instr.{Instr}
use Rattle.cil_model.specs.declared.instruction.Op.{Op}
use Rattle.cil_model.specs.declared.instruction.Op.TheVariants.{Switch}
use Rattle.il_decoder.specs.declared.fault.IlFault.{IlFault}
use Rattle.il_decoder.specs.declared.fault.IlFault.TheVariants.{Short, Opcode, Target}

-- ---- one instruction

-- An operation and the size of its spelling.
abbrev pub Operation : Type 0
Operation = Op × ℕ

-- The operation of an opcode of this size and number, by its row and what stands after it.
abbrev pub by_form : ℕ → ℕ → ℕ → Option Form → List ℕ → Result Operation IlFault
by_form at size opcode None rest = Err (Opcode at opcode)
by_form at size opcode (Some (width, meaning)) rest =
    if nat_le width (length rest) then Ok (meaning (at + (size + width)) (little_number width rest), size + width) else Err (Short at)

-- What begins with FE.
unfoldable pub two_byte : ℕ → List ℕ → Result Operation IlFault
two_byte at [] = Err (Short at)
two_byte at (b ∷ rest) = by_form at 2 (0xfe00 + b) (long_form b) rest

-- So many numbers of four bytes each.
abbrev pub offsets_in : ℕ → List ℕ → List ℕ
offsets_in zero bytes = []
offsets_in (suc n) bytes = little_number 4 bytes ∷ offsets_in n (drop 4 bytes)

-- What stands after a switch with this many targets, its count after it (III.3.66).
unfoldable pub switch_of : ℕ → ℕ → List ℕ → Result Operation IlFault
switch_of at count offsets =
    if nat_le (4 * count) (length offsets)
    then Ok (Switch (map (target (at + (5 + 4 * count))) (offsets_in count offsets)), 5 + 4 * count)
    else Err (Short at)

-- What stands after the opcode of a switch.
unfoldable pub switch : ℕ → List ℕ → Result Operation IlFault
switch at rest = if nat_le 4 (length rest) then switch_of at (little_number 4 rest) (drop 4 rest) else Err (Short at)

-- The operation that the bytes begin with.
unfoldable pub operation : ℕ → List ℕ → Result Operation IlFault
operation at [] = Err (Short at)
operation at (b ∷ rest) =
    if b == 0xfe then two_byte at rest
    else if b == 0x45 then switch at rest
    else by_form at 1 b (short_form b) rest

abbrev pub placed : ℕ → Result Operation IlFault → Result Instr IlFault
placed at (Ok (op, size)) = Ok (record { at = at; size = size; op = op })
placed at (Err fault) = Err fault

-- The instruction at an IL offset, or the fault there.
unfoldable pub decoded : List ℕ → ℕ → Result Instr IlFault
decoded code at = placed at (operation at (drop at code))

-- ---- all instructions

-- Where what stands after a decoded instruction begins: nothing is read after a fault.
abbrev pub offset_behind : List ℕ → ℕ → Result Instr IlFault → ℕ
offset_behind code at (Ok i) = at + i.size
offset_behind code at (Err fault) = length code

-- What is decoded from an IL offset of code on, this often at most, up to its end or the first fault.
unfoldable pub decodings : ℕ → List ℕ → ℕ → List (Result Instr IlFault)
decodings zero code at = []
decodings (suc most) code at =
    if nat_le (length code) at then []
    else decoded code at ∷ decodings most code (offset_behind code at (decoded code at))

-- The same for the whole code, which has no more instructions than bytes.
unfoldable pub all_decodings : List ℕ → List (Result Instr IlFault)
all_decodings code = decodings (length code) code 0

-- The instructions that were decoded.
abbrev pub instructions : List (Result Instr IlFault) → List Instr
instructions [] = []
instructions (Ok i ∷ rest) = i ∷ instructions rest
instructions (Err fault ∷ rest) = instructions rest

unfoldable pub instructions_of : List ℕ → List Instr
instructions_of code = instructions (all_decodings code)

-- ---- the tests of code

-- What was decoded is an instruction.
abbrev pub decoding_test : Result Instr IlFault → Option IlFault
decoding_test (Ok i) = None
decoding_test (Err fault) = Some fault

-- Each target of the instruction is the start of one.
abbrev pub target_test : List Instr → Instr → Option IlFault
target_test instrs i = must (list_all (begins_at instrs) (branch_targets i.op)) (Target i.at)

unfoldable pub decoding_tests : List ℕ → List (Option IlFault)
decoding_tests code = map decoding_test (all_decodings code)

unfoldable pub target_tests : List Instr → List (Option IlFault)
target_tests instrs = map (target_test instrs) instrs

-- All that is tested of code: first each instruction, then where the branches go.
unfoldable pub code_tests : List ℕ → List (Option IlFault)
code_tests code = decoding_tests code ++ target_tests (instructions_of code)
