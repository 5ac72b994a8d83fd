-- A switch has no more targets than its bytes can spell.
use Rattle.std.proofs.Common.{◌≡◌, ℕ, ◌+◌, ◌-◌, ◌*◌, ◌^◌, ◌<◌, ◌≤◌, List, [], ◌∷◌, ◌++◌, length, Option, Some, None, option_map, ap, refl, subst, sym, ◌∙◌, length-append, arith, inl, inr}
use Rattle.std.specs.List.{AllByRecursion}
use Rattle.std.proofs.lemmas.List.{length-map}
use Rattle.byteorder.specs.Endian.{little_bytes}
use Rattle.cc_base.specs.Slices.{IsShort}
use Rattle.cil_model.specs.Blocks.{branch_targets}
use Rattle.cil_model.specs.Code.{CodeFrom, CodeOf}
use Rattle.cil_model.specs.Opcodes.{Form, variable_form, constant_form, test_of, branch_form, address_form, operator_of, object_form, short_form, long_form, near, far, operator_form, target}
use Rattle.cil_model.specs.Spells.{SpellsForm, Spells, offset_bytes}
use Rattle.cil_model.specs.declared.instruction.BinOp.{BinOp}
use Rattle.cil_model.specs.declared.instruction.Instr.{Instr}
use Rattle.cil_model.specs.declared.instruction.Op.{Op}
use Rattle.cil_model.specs.declared.instruction.Op.TheVariants as ops
use Rattle.cil_model.specs.declared.instruction.Test.{Test}
use Rattle.cil_model.proofs.Rows.{Makes, row, rows, rows_up_to}
use Rattle.unit_flow.specs.Ways.{IsShortSwitch}

-- ---- all but a switch

abbrev HasOneTarget : Op → Type 0
HasOneTarget op = length (branch_targets op) ≤ 1

abbrev Few : Option Form → Type 0
Few form = Makes HasOneTarget form

none : (width next n : ℕ) → n < 256 ^ width → 0 ≤ 1
none width next n h = omega arith

one : (width next n : ℕ) → n < 256 ^ width → 1 ≤ 1
one width next n h = omega arith

few_variable : (b : ℕ) → Few (variable_form b)
unfolding variable_form
few_variable b =
    row Few b 0x00 _ _ (λ e. none 0) (rows Few b 0x02 0x05 _ _ (λ l h. none 0)
    (rows Few b 0x06 0x09 _ _ (λ l h. none 0) (rows Few b 0x0a 0x0d _ _ (λ l h. none 0)
    (row Few b 0x0e _ _ (λ e. none 1) (row Few b 0x10 _ _ (λ e. none 1)
    (row Few b 0x11 _ _ (λ e. none 1) (row Few b 0x13 _ _ (λ e. none 1) (row Few b 0x14 _ _ (λ e. none 0) tt))))))))

few_constant : (b : ℕ) → Few (constant_form b)
unfolding constant_form
few_constant b =
    rows Few b 0x15 0x1e _ _ (λ l h. none 0) (row Few b 0x1f _ _ (λ e. none 1) (row Few b 0x20 _ _ (λ e. none 4)
    (row Few b 0x25 _ _ (λ e. none 0) (row Few b 0x26 _ _ (λ e. none 0)
    (row Few b 0x28 _ _ (λ e. none 4) (row Few b 0x2a _ _ (λ e. none 0) tt))))))

few_tests : (form : Test → Form) (test : Option Test) → ((t : Test) → Few (Some (form t))) → Few (option_map form test)
few_tests form None few = tt
few_tests form (Some t) few = few t

few_branch : (b : ℕ) → Few (branch_form b)
unfolding branch_form
few_branch b =
    rows_up_to Few b 0x37 _ _ (λ h. few_tests near (test_of (b - 0x2b)) (λ t. one 1))
    (λ h. few_tests far (test_of (b - 0x38)) (λ t. one 4))

few_address : (b : ℕ) → Few (address_form b)
unfolding address_form
few_address b =
    row Few b 0x47 _ _ (λ e. none 0) (row Few b 0x4a _ _ (λ e. none 0)
    (row Few b 0x52 _ _ (λ e. none 0) (row Few b 0x54 _ _ (λ e. none 0) tt)))

few_object : (b : ℕ) → Few (object_form b)
unfolding object_form
few_object b =
    row Few b 0x65 _ _ (λ e. none 0) (row Few b 0x66 _ _ (λ e. none 0)
    (row Few b 0x69 _ _ (λ e. none 0) (row Few b 0x72 _ _ (λ e. none 4) (row Few b 0x8d _ _ (λ e. none 4)
    (row Few b 0x8e _ _ (λ e. none 0) (row Few b 0x8f _ _ (λ e. none 4) (row Few b 0x91 _ _ (λ e. none 0)
    (row Few b 0x94 _ _ (λ e. none 0) (row Few b 0x9c _ _ (λ e. none 0)
    (row Few b 0x9e _ _ (λ e. none 0) tt))))))))))

few_operator : (operator : Option BinOp) → Few (option_map operator_form operator)
few_operator None = tt
few_operator (Some operator) = none 0

few_short : (b : ℕ) → Few (short_form b)
unfolding short_form
few_short b =
    rows_up_to Few b 0x14 _ _ (λ h. few_variable b)
    (λ h. rows_up_to Few b 0x2a _ _ (λ h. few_constant b) (λ h. rows_up_to Few b 0x44 _ _ (λ h. few_branch b)
    (λ h. rows_up_to Few b 0x54 _ _ (λ h. few_address b)
    (λ h. rows Few b 0x65 0x9e _ _ (λ l h. few_object b) (few_operator (operator_of b))))))

few_long : (b : ℕ) → Few (long_form b)
unfolding long_form
few_long b =
    row Few b 0x01 _ _ (λ e. none 0) (row Few b 0x02 _ _ (λ e. none 0)
    (row Few b 0x03 _ _ (λ e. none 0) (row Few b 0x04 _ _ (λ e. none 0) (row Few b 0x05 _ _ (λ e. none 0)
    (row Few b 0x09 _ _ (λ e. none 2) (row Few b 0x0b _ _ (λ e. none 2)
    (row Few b 0x0c _ _ (λ e. none 2) (row Few b 0x0e _ _ (λ e. none 2) tt))))))))

made : (form : Option Form) (opcode : List ℕ) (i : Instr) (bytes : List ℕ) → Few form → SpellsForm form opcode i bytes
    → HasOneTarget i.op
made None opcode i bytes few spells = absurd spells
made (Some (width, meaning)) opcode i bytes few (operand, small, op, are) =
    subst HasOneTarget (sym op) (few (i.at + i.size) operand small)

-- ---- a switch

abbrev HasShortTargets : Op → Type 0
HasShortTargets op = length (branch_targets op) ≤ 2147483647

four_each : (offsets : List ℕ) → length (offset_bytes offsets) ≡ 4 * length offsets
four_each [] = refl
four_each (n ∷ ns) = omega (arith, length-append (little_bytes 4 n) (offset_bytes ns), four_each ns)

short_targets : (i : Instr) (bytes : List ℕ) → Spells i bytes → length bytes ≤ 2147483647 → HasShortTargets i.op
short_targets i bytes spells short =
    elim spells.row [
      | inl (b, below, form) ↦ omega (arith, made (short_form b) (b ∷ []) i bytes (few_short b) form)
      | inr (inl (b, below, form)) ↦ omega (arith, made (long_form b) (0xfe ∷ b ∷ []) i bytes (few_long b) form)
      | inr (inr switch) ↦
          let whole : length bytes ≡ length
          ((0x45 ∷ little_bytes 4
          (length switch.offsets)) ++ offset_bytes switch.offsets) = ap length switch.spelled in
          subst HasShortTargets (sym switch.op) (omega (
            arith,
            length-map switch.offsets (target (i.at + i.size)),
            whole,
            length-append (0x45 ∷ little_bytes 4 (length switch.offsets)) (offset_bytes switch.offsets),
            four_each switch.offsets,
            short,
          ))
    ]

is_short : (op : Op) → HasShortTargets op → IsShortSwitch op
is_short (ops.Switch targets) few = few
is_short _ few = tt

switches_short : (at : ℕ) (is : List Instr) (code : List ℕ) → CodeFrom at is code → length code ≤ 2147483647
    → AllByRecursion (λ i. IsShortSwitch i.op) is
switches_short at [] code spelled short = tt
switches_short at (i ∷ is) code (begins, (bytes, rest, spells, parts, others)) short =
    let whole : length code ≡ length bytes + length rest = ap length parts ∙ length-append bytes rest in (
      is_short i.op (short_targets i bytes spells (omega (arith, whole, short))),
      switches_short (at + i.size) is rest others (omega (arith, whole, short)),
    )

pub all_short : (is : List Instr) (code : List ℕ) → CodeOf is code → IsShort code
    → AllByRecursion (λ i. IsShortSwitch i.op) is
all_short is code spelled short = switches_short 0 is code spelled.spelled (omega (arith, short))
