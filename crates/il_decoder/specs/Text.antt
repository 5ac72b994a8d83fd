-- The text of an instruction: its name, which tells the form of its spelling, and its operand (ECMA-335 III).
use Rattle.std.specs.Prelude.{ℕ, ℤ, List, ◌++◌, ◌==◌, ◌&&◌, if◌then◌else◌, pos, neg_ℤ, codes}
use Rattle.std.specs.Ordering.{int_eq}
use Rattle.std.specs.Fmt.{decimal, signed_decimal}
use Rattle.std.specs.List.{flat_map}
use Rattle.cc_base.specs.Digits.{hex}
use Rattle.cil_model.specs.declared.instruction.Instr.{Instr}
use Rattle.cil_model.specs.declared.instruction.Op.{Op}
use Rattle.cil_model.specs.declared.instruction.Op.TheVariants as ops
use Rattle.cil_model.specs.declared.instruction.Test.{Test}
use Rattle.cil_model.specs.declared.place.Place.TheVariants as places
use Rattle.il_decoder.specs.Labels.{label}
use Rattle.il_decoder.specs.Names.{operator_name, branch_name}

-- What stands between the name and the operand of an instruction that has several forms, by its size: an
-- operand in the opcode is part of the name, and the form with one byte of operand is the short one.
abbrev pub form_mark : ℕ → List ℕ
form_mark size = if size == 1 then codes "." else if size == 2 then codes ".s " else codes " "

-- An argument or a local.
unfoldable pub variable_text : List ℕ → ℕ → ℕ → List ℕ
variable_text name size n = name ++ form_mark size ++ decimal n

-- A constant. That of ldc.i4.m1 has a name in place of a sign.
unfoldable pub constant_text : ℕ → ℤ → List ℕ
constant_text size n = codes "ldc.i4" ++ form_mark size ++ (if size == 1 && int_eq n (neg_ℤ (pos 1)) then codes "m1" else signed_decimal n)

-- What names a row of the metadata, or a string of it.
unfoldable pub token_text : List ℕ → ℕ → List ℕ
token_text name token = name ++ codes " " ++ hex 8 token

unfoldable pub branch_text : ℕ → Test → ℕ → List ℕ
branch_text size test target = branch_name test ++ form_mark size ++ label target

abbrev pub next_target : ℕ → List ℕ
next_target target = codes " " ++ label target

unfoldable pub switch_text : List ℕ → List ℕ
switch_text targets = codes "switch" ++ flat_map next_target targets

-- An operation's text at a size.
abbrev pub op_text : ℕ → Op → List ℕ
op_text size ops.Nop = codes "nop"
op_text size (ops.LoadArg n) = variable_text (codes "ldarg") size n
op_text size (ops.StoreArg n) = variable_text (codes "starg") size n
op_text size (ops.LoadLocal n) = variable_text (codes "ldloc") size n
op_text size (ops.StoreLocal n) = variable_text (codes "stloc") size n
op_text size ops.Null = codes "ldnull"
op_text size (ops.Const n) = constant_text size n
op_text size ops.Dup = codes "dup"
op_text size ops.Pop = codes "pop"
op_text size (ops.Call token) = token_text (codes "call") token
op_text size ops.Return = codes "ret"
op_text size (ops.Branch test target) = branch_text size test target
op_text size (ops.Switch targets) = switch_text targets
op_text size (ops.Bin operator) = operator_name operator
op_text size ops.Neg = codes "neg"
op_text size ops.Not = codes "not"
op_text size ops.ConvI4 = codes "conv.i4"
op_text size (ops.Text token) = token_text (codes "ldstr") token
op_text size (ops.NewArray token) = token_text (codes "newarr") token
op_text size ops.Length = codes "ldlen"
op_text size (ops.LoadElem places.Bools) = codes "ldelem.u1"
op_text size (ops.LoadElem place) = codes "ldelem.i4"
op_text size (ops.StoreElem places.Bools) = codes "stelem.i1"
op_text size (ops.StoreElem place) = codes "stelem.i4"
op_text size (ops.LoadAddr token) = token_text (codes "ldelema") token
op_text size (ops.LoadInd places.Bools) = codes "ldind.u1"
op_text size (ops.LoadInd place) = codes "ldind.i4"
op_text size (ops.StoreInd places.Bools) = codes "stind.i1"
op_text size (ops.StoreInd place) = codes "stind.i4"

abbrev pub instr_text : Instr → List ℕ
instr_text i = op_text i.size i.op
