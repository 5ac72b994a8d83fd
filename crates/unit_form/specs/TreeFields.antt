-- Trees, as they are read from a unit file.
use Rattle.std.specs.Prelude.{ℕ, zero, suc, ◌+◌, Bool, ◌==◌, ◌&&◌, nat_le, nat_lt, is_some, List, [], ◌∷◌, ◌++◌, length, slice_index, Option, Some, None, option_map, if◌then◌else◌}
use Rattle.std.specs.Option.{option_map_or}
use Rattle.cc_base.specs.LittleEndian.{little_number}
use Rattle.cc_base.specs.Tests.{must}
use Rattle.cil_model.specs.Arithmetic.{signed}
use Rattle.cil_model.specs.Places.{place_of_number}
use Rattle.cil_model.specs.TermCodes.{Root, ConstRoot, ArgRoot, NullRoot, ResultRoot, LenRoot, ElemRoot, BinRoot, UnRoot, OldRoot, CondRoot, terms_of, first_term}
use Rattle.cil_model.specs.Terms.{Term}
use Rattle.cil_model.specs.declared.instruction.BinOp.{BinOp}
use Rattle.cil_model.specs.declared.instruction.BinOp.TheVariants as operators
use Rattle.cil_model.specs.declared.instruction.UnOp.{UnOp}
use Rattle.cil_model.specs.declared.instruction.UnOp.TheVariants as unary
use Rattle.unit_form.specs.Fields.{bytes_field, u8_field}
use Rattle.unit_form.specs.Forms.{count_size}
use Rattle.unit_form.specs.Parses.{Parse}
use Rattle.unit_form.specs.declared.unit_fault.UnitFault.TheVariants.{Short, Form}
use Rattle.unit_form.specs.declared.form.UnitForm.{UnitForm}

-- ---- operators

-- The operator of a byte: comparisons, and then the others by their opcodes.
abbrev pub comparison_of_byte : ℕ → Option BinOp
comparison_of_byte b =
    if b == 0xc1 then Some operators.Ceq
    else if b == 0xc2 then Some operators.Cgt
    else if b == 0xc3 then Some operators.CgtUn
    else if b == 0xc4 then Some operators.Clt
    else if b == 0xc5 then Some operators.CltUn
    else None

abbrev pub bitwise_of_byte : ℕ → Option BinOp
bitwise_of_byte b =
    if b == 0x5f then Some operators.And
    else if b == 0x60 then Some operators.Or
    else if b == 0x61 then Some operators.Xor
    else if b == 0x62 then Some operators.Shl
    else if b == 0x63 then Some operators.Shr
    else if b == 0x64 then Some operators.ShrUn
    else comparison_of_byte b

abbrev pub operator_of_byte : ℕ → Option BinOp
operator_of_byte b =
    if b == 0x58 then Some operators.Add
    else if b == 0x59 then Some operators.Sub
    else if b == 0x5a then Some operators.Mul
    else if b == 0x5b then Some operators.Div
    else if b == 0x5c then Some operators.DivUn
    else if b == 0x5d then Some operators.Rem
    else if b == 0x5e then Some operators.RemUn
    else if b == 0xd6 then Some operators.AddOvf
    else if b == 0xd8 then Some operators.MulOvf
    else if b == 0xda then Some operators.SubOvf
    else bitwise_of_byte b

abbrev pub unary_of_byte : ℕ → Option UnOp
unary_of_byte b = if b == 0x65 then Some unary.Neg else if b == 0x66 then Some unary.Not else None

-- ---- one root

-- How many bytes the operand after a tag has.
abbrev pub operand_size : UnitForm → ℕ → ℕ
operand_size form tag = if tag == 1 then 4 else if tag == 2 then count_size form else if nat_le 6 tag && nat_le tag 8 then 1 else 0

-- The root of a tag without an operand.
abbrev pub bare_root : ℕ → Option Root
bare_root tag =
    if tag == 3 then Some NullRoot
    else if tag == 4 then Some ResultRoot
    else if tag == 5 then Some LenRoot
    else if tag == 9 then Some OldRoot
    else if tag == 10 then Some CondRoot
    else None

-- The root of a tag with this operand, or none where the operand breaks the form.
abbrev pub root_of : UnitForm → ℕ → List ℕ → Option Root
root_of form tag operand =
    if tag == 1 then Some (ConstRoot (signed (little_number 4 operand)))
    else if tag == 2 then Some (ArgRoot (little_number (count_size form) operand))
    else if tag == 6 then option_map ElemRoot (place_of_number (slice_index operand 0))
    else if tag == 7 then option_map BinRoot (operator_of_byte (slice_index operand 0))
    else if tag == 8 then option_map UnRoot (unary_of_byte (slice_index operand 0))
    else bare_root tag

-- The operand after a tag, as a field of its own.
unfoldable pub operand_field : UnitForm → ℕ → List ℕ → ℕ → Parse Root
operand_field form tag bytes at =
    let operand = bytes_field (operand_size form tag) bytes at in
    record {
      tests = operand.tests ++ (must (is_some (root_of form tag operand.value)) (Form at) ∷ []);
      value = option_map_or (λ found. found) (root_of form tag operand.value) NullRoot;
      next = operand.next;
    }

abbrev pub is_tag : ℕ → Bool
is_tag tag = nat_le 1 tag && nat_le tag 10

-- A root: its tag, and its operand.
unfoldable pub root_field : UnitForm → List ℕ → ℕ → Parse Root
root_field form bytes at =
    let tag = u8_field bytes at in
    let operand = operand_field form tag.value bytes tag.next in
    record { tests = tag.tests ++ (must (is_tag tag.value) (Form at) ∷ operand.tests); value = operand.value; next = operand.next }

-- How many trees stand below a root.
abbrev pub arity : Root → ℕ
arity (ConstRoot n) = 0
arity (ArgRoot n) = 0
arity NullRoot = 0
arity ResultRoot = 0
arity LenRoot = 1
arity (ElemRoot place) = 2
arity (BinRoot operator) = 2
arity (UnRoot operator) = 1
arity OldRoot = 1
arity CondRoot = 3

-- ---- whole trees

-- The roots of so many trees, where at most so many roots are read. Each has a byte, so that the last of as many roots
-- as the file has bytes ends it.
unfoldable pub roots_field : UnitForm → ℕ → ℕ → List ℕ → ℕ → Parse (List Root)
roots_field form most zero bytes at = record { tests = []; value = []; next = at }
roots_field form zero (suc trees) bytes at = record { tests = Some (Short at) ∷ []; value = []; next = at }
roots_field form (suc most) (suc trees) bytes at =
    let first = root_field form bytes at in
    let others = roots_field form most (arity first.value + trees) bytes first.next in
    record { tests = first.tests ++ others.tests; value = first.value ∷ others.value; next = others.next }

-- The roots of one tree, in preorder.
unfoldable pub tree_roots : UnitForm → List ℕ → ℕ → Parse (List Root)
tree_roots form bytes at = roots_field form (length bytes) 1 bytes at

-- The tree of these roots.
abbrev pub tree_of_roots : List Root → Term
tree_of_roots roots = first_term (terms_of roots)

-- The first 4,097 of some roots, one more than the nodes that a clause may have: with the next one, while there are not
-- so many.
unfoldable pub kept_with : {X : Type 0} → List X → X → List X
kept_with roots root = if nat_lt (length roots) 4097 then roots ++ root ∷ [] else roots
