-- The line of an instruction is one line.
use Rattle.std.proofs.Common.{◌≡◌, ℕ, ◌==◌, ℤ, ◌&&◌, List, ◌++◌, if◌then◌else◌, refl, codes}
use Rattle.std.specs.Prelude.{pos, neg_ℤ}
use Rattle.std.specs.Ordering.{int_eq}
use Rattle.std.specs.Fmt.{decimal, signed_decimal}
use Rattle.std.specs.List.{flat_map}
use Rattle.cc_base.specs.Digits.{hex}
use Rattle.cil_model.specs.declared.instruction.BinOp.{BinOp}
use Rattle.cil_model.specs.declared.instruction.BinOp.TheVariants as operators
use Rattle.cil_model.specs.declared.instruction.CmpOp.{CmpOp}
use Rattle.cil_model.specs.declared.instruction.CmpOp.TheVariants as comparisons
use Rattle.cil_model.specs.declared.instruction.Instr.{Instr}
use Rattle.cil_model.specs.declared.instruction.Op.{Op}
use Rattle.cil_model.specs.declared.instruction.Op.TheVariants as ops
use Rattle.cil_model.specs.declared.instruction.Test.{Test}
use Rattle.cil_model.specs.declared.instruction.Test.TheVariants as tests
use Rattle.cil_model.specs.declared.place.Place.{Place}
use Rattle.cil_model.specs.declared.place.Place.TheVariants as places
use Rattle.il_decoder.specs.Labels.{label}
use Rattle.il_decoder.specs.Names.{branch_name, comparison_name, operator_name}
use Rattle.il_decoder.specs.Text.{branch_text, constant_text, form_mark, instr_text, next_target, op_text, switch_text, token_text, variable_text}
use Rattle.answer_lines.specs.LineCounts.{line_count}
use Rattle.answer_lines.proofs.LineLemmas.{line_of_text, none_behind, none_in_hex}
use Rattle.answer_lines.proofs.PlainTexts.{none_in_each, none_in_either, none_in_number, none_in_signed}
use Rattle.assembly_answers.specs.IlText.{il_line}
use Rattle.assembly_answers.proofs.PlainTexts.{none_in_label}

-- ---- operands

none_in_form : (size : ℕ) → line_count (form_mark size) ≡ 0
unfolding line_count
none_in_form size =
    none_in_either (size == 1) (codes ".") (if size == 2 then codes ".s " else codes " ") refl
    (none_in_either (size == 2) (codes ".s ") (codes " ") refl refl)

none_in_variable : (name : List ℕ) (size n : ℕ) → line_count name ≡ 0 → line_count (variable_text name size n) ≡ 0
unfolding variable_text
none_in_variable name size n none =
    none_behind (name ++ form_mark size) (decimal n) (none_behind name (form_mark size) none (none_in_form size)) (none_in_number n)

none_in_constant : (size : ℕ) (n : ℤ) → line_count (constant_text size n) ≡ 0
unfolding constant_text line_count
none_in_constant size n =
    let named = size == 1 && int_eq n (neg_ℤ (pos 1)) in
    none_behind (codes "ldc.i4" ++ form_mark size) (if named then codes "m1" else signed_decimal n)
    (none_behind (codes "ldc.i4") (form_mark size) refl (none_in_form size))
    (none_in_either named (codes "m1") (signed_decimal n) refl (none_in_signed n))

none_in_token : (name : List ℕ) (token : ℕ) → line_count name ≡ 0 → line_count (token_text name token) ≡ 0
unfolding token_text line_count
none_in_token name token none = none_behind (name ++ codes " ") (hex 8 token) (none_behind name (codes " ") none refl) (none_in_hex 8 token)

none_in_comparison : (comparison : CmpOp) → line_count (comparison_name comparison) ≡ 0
unfolding line_count
none_in_comparison comparisons.Eq = refl
none_in_comparison comparisons.Ge = refl
none_in_comparison comparisons.Gt = refl
none_in_comparison comparisons.Le = refl
none_in_comparison comparisons.Lt = refl
none_in_comparison comparisons.NeUn = refl
none_in_comparison comparisons.GeUn = refl
none_in_comparison comparisons.GtUn = refl
none_in_comparison comparisons.LeUn = refl
none_in_comparison comparisons.LtUn = refl

none_in_test : (test : Test) → line_count (branch_name test) ≡ 0
unfolding line_count
none_in_test tests.Always = refl
none_in_test tests.True = refl
none_in_test tests.False = refl
none_in_test (tests.Cmp comparison) = none_in_comparison comparison

none_in_branch : (size : ℕ) (test : Test) (target : ℕ) → line_count (branch_text size test target) ≡ 0
unfolding branch_text
none_in_branch size test target =
    none_behind (branch_name test ++ form_mark size) (label target)
    (none_behind (branch_name test) (form_mark size) (none_in_test test) (none_in_form size)) (none_in_label target)

none_in_switch : (targets : List ℕ) → line_count (switch_text targets) ≡ 0
unfolding switch_text line_count
none_in_switch targets =
    none_behind (codes "switch") (flat_map next_target targets) refl
    (none_in_each next_target targets (λ target. none_behind (codes " ") (label target) refl (none_in_label target)))

none_in_operator : (operator : BinOp) → line_count (operator_name operator) ≡ 0
unfolding line_count
none_in_operator operators.Add = refl
none_in_operator operators.Sub = refl
none_in_operator operators.Mul = refl
none_in_operator operators.Div = refl
none_in_operator operators.DivUn = refl
none_in_operator operators.Rem = refl
none_in_operator operators.RemUn = refl
none_in_operator operators.And = refl
none_in_operator operators.Or = refl
none_in_operator operators.Xor = refl
none_in_operator operators.Shl = refl
none_in_operator operators.Shr = refl
none_in_operator operators.ShrUn = refl
none_in_operator operators.AddOvf = refl
none_in_operator operators.MulOvf = refl
none_in_operator operators.SubOvf = refl
none_in_operator operators.Ceq = refl
none_in_operator operators.Cgt = refl
none_in_operator operators.CgtUn = refl
none_in_operator operators.Clt = refl
none_in_operator operators.CltUn = refl

-- ---- instructions

none_in_loaded : (size : ℕ) (place : Place) → line_count (op_text size (ops.LoadElem place)) ≡ 0
unfolding line_count
none_in_loaded size places.Void = refl
none_in_loaded size places.Bool = refl
none_in_loaded size places.Int = refl
none_in_loaded size places.Bools = refl
none_in_loaded size places.Ints = refl

none_in_stored : (size : ℕ) (place : Place) → line_count (op_text size (ops.StoreElem place)) ≡ 0
unfolding line_count
none_in_stored size places.Void = refl
none_in_stored size places.Bool = refl
none_in_stored size places.Int = refl
none_in_stored size places.Bools = refl
none_in_stored size places.Ints = refl

none_in_loaded_through : (size : ℕ) (place : Place) → line_count (op_text size (ops.LoadInd place)) ≡ 0
unfolding line_count
none_in_loaded_through size places.Void = refl
none_in_loaded_through size places.Bool = refl
none_in_loaded_through size places.Int = refl
none_in_loaded_through size places.Bools = refl
none_in_loaded_through size places.Ints = refl

none_in_stored_through : (size : ℕ) (place : Place) → line_count (op_text size (ops.StoreInd place)) ≡ 0
unfolding line_count
none_in_stored_through size places.Void = refl
none_in_stored_through size places.Bool = refl
none_in_stored_through size places.Int = refl
none_in_stored_through size places.Bools = refl
none_in_stored_through size places.Ints = refl

none_in_op : (size : ℕ) (op : Op) → line_count (op_text size op) ≡ 0
unfolding line_count
none_in_op size ops.Nop = refl
none_in_op size (ops.LoadArg n) = none_in_variable (codes "ldarg") size n refl
none_in_op size (ops.StoreArg n) = none_in_variable (codes "starg") size n refl
none_in_op size (ops.LoadLocal n) = none_in_variable (codes "ldloc") size n refl
none_in_op size (ops.StoreLocal n) = none_in_variable (codes "stloc") size n refl
none_in_op size ops.Null = refl
none_in_op size (ops.Const n) = none_in_constant size n
none_in_op size ops.Dup = refl
none_in_op size ops.Pop = refl
none_in_op size (ops.Call token) = none_in_token (codes "call") token refl
none_in_op size ops.Return = refl
none_in_op size (ops.Branch test target) = none_in_branch size test target
none_in_op size (ops.Switch targets) = none_in_switch targets
none_in_op size (ops.Bin operator) = none_in_operator operator
none_in_op size ops.Neg = refl
none_in_op size ops.Not = refl
none_in_op size ops.ConvI4 = refl
none_in_op size (ops.Text token) = none_in_token (codes "ldstr") token refl
none_in_op size (ops.NewArray token) = none_in_token (codes "newarr") token refl
none_in_op size ops.Length = refl
none_in_op size (ops.LoadElem place) = none_in_loaded size place
none_in_op size (ops.StoreElem place) = none_in_stored size place
none_in_op size (ops.LoadAddr token) = none_in_token (codes "ldelema") token refl
none_in_op size (ops.LoadInd place) = none_in_loaded_through size place
none_in_op size (ops.StoreInd place) = none_in_stored_through size place

pub instr_is_line : (i : Instr) → line_count (il_line i) ≡ 1
unfolding line_count
instr_is_line i =
    line_of_text (label i.at ++ codes " " ++ instr_text i)
    (none_behind (label i.at ++ codes " ") (instr_text i)
    (none_behind (label i.at) (codes " ") (none_in_label i.at) refl) (none_in_op i.size i.op))
