-- What holds of each row of the opcodes holds of every instruction that is spelled.
use Rattle.std.proofs.Common.{◌≡◌, ℕ, ◌+◌, ◌-◌, ◌^◌, ◌<◌, ◌≤◌, ◌-ℤ◌, pos, FitsSigned, Fits, w8, w32, List, ◌∷◌, [], Option, Some, None, option_map, ◌&&◌, cond, eqb, leb, sym, subst, arith, inl, inr}
use Rattle.std.specs.Int.{cast_signed}
use Rattle.std.specs.List.{AllByRecursion}
use Rattle.std.proofs.lemmas.Bool.{cond_both, eqb-true, leb-true, leb-false, and_parts}
use Rattle.std.proofs.lemmas.Int.{ints}
use Rattle.std.proofs.Math.Facts.{sfits_to_z}
use Rattle.cil_model.specs.Code.{CodeFrom, CodeOf}
use Rattle.cil_model.specs.FitKinds.{AreDecoded, OperandFits}
use Rattle.cil_model.specs.Opcodes.{Form, variable_form, constant_form, test_of, branch_form, address_form, operator_of, object_form, short_form, long_form, near, far, operator_form}
use Rattle.cil_model.specs.Spells.{SpellsForm, Spells}
use Rattle.cil_model.specs.declared.instruction.BinOp.{BinOp}
use Rattle.cil_model.specs.declared.instruction.Instr.{Instr}
use Rattle.cil_model.specs.declared.instruction.Op.{Op}
use Rattle.cil_model.specs.declared.instruction.Test.{Test}

-- ---- one row, and then the others

pub row : (P : Option Form → Type 0) (b k : ℕ) (here others : Option Form) → (b ≡ k → P here) → P others → P (cond (eqb b k) here others)
row P b k here others met rest = cond_both (eqb b k) here others P (λ e. met (eqb-true b k e)) (λ e. rest)

pub rows : (P : Option Form → Type 0) (b low high : ℕ) (here others : Option Form) → (low ≤ b → b ≤ high → P here) → P others
    → P (cond (leb low b && leb b high) here others)
rows P b low high here others met rest =
    cond_both (leb low b && leb b high) here others P (λ e. let h = and_parts _ _ e in met (leb-true _ _ h.0) (leb-true _ _ h.1)) (λ e. rest)

pub rows_up_to : (P : Option Form → Type 0) (b high : ℕ) (here others : Option Form) → (b ≤ high → P here) → (high < b → P others) → P (cond (leb b high) here others)
rows_up_to P b high here others met rest = cond_both (leb b high) here others P (λ e. met (leb-true _ _ e)) (λ e. rest (leb-false _ _ e))

-- ---- operations

-- What a row makes of a number that its operand may have.
abbrev pub Makes : (Op → Type 0) → Option Form → Type 0
Makes P None = Unit {0}
Makes P (Some (width, meaning)) = (next n : ℕ) → n < 256 ^ width → P (meaning next n)

-- A row whose operation says nothing of its operand.
any : (width next n : ℕ) → n < 256 ^ width → Unit {0}
any width next n h = tt

variable_fits : (b : ℕ) → Makes OperandFits (variable_form b)
unfolding variable_form
variable_fits b =
    let P = Makes OperandFits in
    row P b 0x00 _ _ (λ e. any 0) (rows P b 0x02 0x05 _ _ (λ l h. any 0) (rows P b 0x06 0x09 _ _ (λ l h. any 0) (rows P b 0x0a 0x0d _ _ (λ l h. any 0)
    (row P b 0x0e _ _ (λ e. any 1) (row P b 0x10 _ _ (λ e. any 1) (row P b 0x11 _ _ (λ e. any 1) (row P b 0x13 _ _ (λ e. any 1) (row P b 0x14 _ _ (λ e. any 0) tt))))))))

short_constant_fits : (b : ℕ) → 0x15 ≤ b → b ≤ 0x1e → FitsSigned w32 (pos b -ℤ pos 0x16)
short_constant_fits b low high = omega (arith, ints)

byte_constant_fits : (n : ℕ) → n < 256 → FitsSigned w32 (cast_signed w8 n)
byte_constant_fits n below = let fits : Fits w8 n = omega arith in let small : FitsSigned w8 (cast_signed w8 n) = sfits_to_z fits in omega (arith, ints)

word_constant_fits : (n : ℕ) → n < 2 ^ 32 → FitsSigned w32 (cast_signed w32 n)
word_constant_fits n below = let fits : Fits w32 n = omega arith in sfits_to_z fits

constant_fits : (b : ℕ) → Makes OperandFits (constant_form b)
unfolding constant_form
constant_fits b =
    let P = Makes OperandFits in
    rows P b 0x15 0x1e _ _ (λ l h. λ next n e. short_constant_fits b l h) (row P b 0x1f _ _ (λ e. λ next n h. byte_constant_fits n h) (row P b 0x20 _ _ (λ e. λ next n h. word_constant_fits n h)
    (row P b 0x25 _ _ (λ e. any 0) (row P b 0x26 _ _ (λ e. any 0) (row P b 0x28 _ _ (λ e. any 4) (row P b 0x2a _ _ (λ e. any 0) tt))))))

tests_fit : (form : Test → Form) (test : Option Test) → ((t : Test) → Makes OperandFits (Some (form t))) → Makes OperandFits (option_map form test)
tests_fit form None fits = tt
tests_fit form (Some t) fits = fits t

branch_fits : (b : ℕ) → Makes OperandFits (branch_form b)
unfolding branch_form
branch_fits b =
    let P = Makes OperandFits in
    rows_up_to P b 0x37 _ _ (λ h. tests_fit near (test_of (b - 0x2b)) (λ t. any 1)) (λ h. tests_fit far (test_of (b - 0x38)) (λ t. any 4))

address_fits : (b : ℕ) → Makes OperandFits (address_form b)
unfolding address_form
address_fits b =
    let P = Makes OperandFits in
    row P b 0x47 _ _ (λ e. any 0) (row P b 0x4a _ _ (λ e. any 0) (row P b 0x52 _ _ (λ e. any 0) (row P b 0x54 _ _ (λ e. any 0) tt)))

object_fits : (b : ℕ) → Makes OperandFits (object_form b)
unfolding object_form
object_fits b =
    let P = Makes OperandFits in
    row P b 0x65 _ _ (λ e. any 0) (row P b 0x66 _ _ (λ e. any 0) (row P b 0x69 _ _ (λ e. any 0) (row P b 0x72 _ _ (λ e. any 4) (row P b 0x8d _ _ (λ e. any 4)
    (row P b 0x8e _ _ (λ e. any 0) (row P b 0x8f _ _ (λ e. any 4) (row P b 0x91 _ _ (λ e. any 0) (row P b 0x94 _ _ (λ e. any 0) (row P b 0x9c _ _ (λ e. any 0) (row P b 0x9e _ _ (λ e. any 0) tt))))))))))

operator_fits : (operator : Option BinOp) → Makes OperandFits (option_map operator_form operator)
operator_fits None = tt
operator_fits (Some operator) = any 0

short_fits : (b : ℕ) → Makes OperandFits (short_form b)
unfolding short_form
short_fits b =
    let P = Makes OperandFits in
    rows_up_to P b 0x14 _ _ (λ h. variable_fits b) (λ h. rows_up_to P b 0x2a _ _ (λ h. constant_fits b) (λ h. rows_up_to P b 0x44 _ _ (λ h. branch_fits b)
    (λ h. rows_up_to P b 0x54 _ _ (λ h. address_fits b) (λ h. rows P b 0x65 0x9e _ _ (λ l h. object_fits b) (operator_fits (operator_of b))))))

long_fits : (b : ℕ) → Makes OperandFits (long_form b)
unfolding long_form
long_fits b =
    let P = Makes OperandFits in
    row P b 0x01 _ _ (λ e. any 0) (row P b 0x02 _ _ (λ e. any 0) (row P b 0x03 _ _ (λ e. any 0) (row P b 0x04 _ _ (λ e. any 0) (row P b 0x05 _ _ (λ e. any 0)
    (row P b 0x09 _ _ (λ e. any 2) (row P b 0x0b _ _ (λ e. any 2) (row P b 0x0c _ _ (λ e. any 2) (row P b 0x0e _ _ (λ e. any 2) tt))))))))

made : (P : Op → Type 0) (form : Option Form) (opcode : List ℕ) (i : Instr) (bytes : List ℕ) → Makes P form → SpellsForm form opcode i bytes → P i.op
made P None opcode i bytes makes spells = absurd spells
made P (Some (width, meaning)) opcode i bytes makes (operand, small, op, are) = subst P (sym op) (makes (i.at + i.size) operand small)

-- The constant of an instruction that is spelled is an int32.
pub operand_fits : (i : Instr) (bytes : List ℕ) → Spells i bytes → OperandFits i.op
operand_fits i bytes spells =
    elim spells.row [
      | inl (b, below, form) ↦ made OperandFits (short_form b) (b ∷ []) i bytes (short_fits b) form
      | inr (inl (b, below, form)) ↦ made OperandFits (long_form b) (0xfe ∷ b ∷ []) i bytes (long_fits b) form
      | inr (inr switch) ↦ subst OperandFits (sym switch.op) tt
    ]

constants_fit : (at : ℕ) (is : List Instr) (code : List ℕ) → CodeFrom at is code → AllByRecursion (λ i. OperandFits i.op) is
constants_fit at [] code h = tt
constants_fit at (i ∷ is) code (place, (bytes, rest, spelled, split, others)) = (operand_fits i bytes spelled, constants_fit (at + i.size) is rest others)

-- What code spells is decoded.
pub code_is_decoded : (is : List Instr) (code : List ℕ) → CodeOf is code → AreDecoded is
code_is_decoded is code h = record { constants = constants_fit 0 is code h.spelled; targets = h.targets }
