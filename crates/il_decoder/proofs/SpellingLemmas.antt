-- The bytes that the plain program gives are the only spelling of an instruction.
use Rattle.std.proofs.Common.{◌≡◌, ℕ, ◌+◌, ◌-◌, ◌%◌, ◌^◌, ◌<◌, ◌≤◌, ◌-ℤ◌, pos, List, [], ◌∷◌, ◌++◌, length, map, append-nil, Option, Some, None, option_map, cond, eqb, refl, sym, ap, ap₂, subst, ◌∙◌, arith, inl, inr, ◌⊎◌, w8, w32}
use Rattle.std.specs.Int.{cast_signed, cast_unsigned}
use Rattle.std.specs.List.{AllByRecursion, flat_map}
use Rattle.std.proofs.lemmas.Bool.{cond_both, eqb-true}
use Rattle.std.proofs.lemmas.Int.{ints, of_z-to_z}
use Rattle.std.proofs.lemmas.List.{length-append, length-map}
use Rattle.byteorder.specs.Endian.{little_bytes}
use Rattle.cc_base.proofs.ByteLemmas.{length-little_bytes}
use Rattle.cil_model.specs.Opcodes.{Form, variable_form, constant_form, test_of, branch_form, address_form, operator_of, object_form, short_form, long_form, near, far, operator_form, target}
use Rattle.cil_model.specs.Spells.{SpellsForm, SpellsSwitch, Spells, offset_bytes}
use Rattle.cil_model.specs.declared.instruction.BinOp.{BinOp}
use Rattle.cil_model.specs.declared.instruction.Instr.{Instr}
use Rattle.cil_model.specs.declared.instruction.Test.{Test}
use Rattle.cil_model.proofs.Forms.{no_prefix}
use Rattle.cil_model.proofs.Rows.{row, rows, rows_up_to}
use Rattle.il_decoder.specs.Spelling.{operator_opcode, branch_number, numbered_bytes, variable_bytes, constant_bytes, distance, branch_bytes, distance_bytes, switch_bytes, op_bytes, spelled, IsOnlySpelling}

-- ---- numbers

distance_back : (next n : ℕ) → n < 2 ^ 32 → distance (next % 2 ^ 32) (target next n) ≡ n
distance_back next n h = omega arith

byte_back : (n : ℕ) → n < 256 → cast_unsigned w32 (cast_signed w8 n) % 256 ≡ n % 256
byte_back n h = grind (arith, ints)

near_back : (next n m : ℕ) → n % 256 ≡ m → distance (next % 2 ^ 32) (target next n) % 256 ≡ m
near_back next n m h = omega arith

short_constant : (b : ℕ) → 0x15 ≤ b → b ≤ 0x1e → (0x16 + cast_unsigned w32 (pos b -ℤ pos 0x16)) % 256 ≡ b
short_constant b l h = grind (arith, ints)

-- ---- rows

-- The plain program gives the bytes of the row's instructions.
abbrev Back : List ℕ → Option Form → Type 0
Back opcode None = Unit {0}
Back opcode (Some (width, meaning)) =
    (next n : ℕ) → n < 256 ^ width → op_bytes (next % 2 ^ 32) (length opcode + width) (meaning next n) ≡ opcode ++ little_bytes width n

-- A row of one opcode, whose operand stands in the bytes as it is; and the same after FE.
here : {b k : ℕ} (width : ℕ) → b ≡ k → (next n : ℕ) → n < 256 ^ width → k ∷ little_bytes width n ≡ b ∷ little_bytes width n
here width e next n h = ap (λ (c : ℕ). c ∷ little_bytes width n) (sym e)

behind_fe : {b k : ℕ} (width : ℕ) → b ≡ k → (next n : ℕ) → n < 256 ^ width → 0xfe ∷ k ∷ little_bytes width n ≡ 0xfe ∷ b ∷ little_bytes width n
behind_fe width e next n h = ap (λ (c : ℕ). 0xfe ∷ c ∷ little_bytes width n) (sym e)

-- Opcodes that have the operand in them.
inside : (a b : ℕ) → a % 256 ≡ b → little_bytes 1 a ≡ b ∷ []
inside a b e = ap (λ (c : ℕ). c ∷ []) e

-- An opcode and another number with the operand's bytes.
byte_behind : (a b n m : ℕ) → a ≡ b → n % 256 ≡ m % 256 → a ∷ little_bytes 1 n ≡ b ∷ little_bytes 1 m
byte_behind a b n m e f = cc

word_behind : (a b n m : ℕ) → a ≡ b → n ≡ m → a ∷ little_bytes 4 n ≡ b ∷ little_bytes 4 m
word_behind a b n m e f = cc

variable_back : (b : ℕ) → Back (b ∷ []) (variable_form b)
unfolding variable_form numbered_bytes variable_bytes
variable_back b =
    let P = Back (b ∷ []) in
    row P b 0x00 _ _ (here 0)
    (rows P b 0x02 0x05 _ _ (λ l h. λ next n s. inside _ b (omega arith))
    (rows P b 0x06 0x09 _ _ (λ l h. λ next n s. inside _ b (omega arith))
    (rows P b 0x0a 0x0d _ _ (λ l h. λ next n s. inside _ b (omega arith))
    (row P b 0x0e _ _ (here 1) (row P b 0x10 _ _ (here 1) (row P b 0x11 _ _ (here 1) (row P b 0x13 _ _ (here 1) (row P b 0x14 _ _ (here 0) tt))))))))

constant_back : (b : ℕ) → Back (b ∷ []) (constant_form b)
unfolding constant_form constant_bytes
constant_back b =
    let P = Back (b ∷ []) in
    rows P b 0x15 0x1e _ _ (λ l h. λ next n s. inside _ b (short_constant b l h))
    (row P b 0x1f _ _ (λ e. λ next n h. byte_behind _ _ _ _ (sym e) (byte_back n h))
    (row P b 0x20 _ _ (λ e. λ next n h. word_behind _ _ _ _ (sym e) (of_z-to_z w32 n h))
    (row P b 0x25 _ _ (here 0) (row P b 0x26 _ _ (here 0) (row P b 0x28 _ _ (here 4) (row P b 0x2a _ _ (here 0) tt))))))

address_back : (b : ℕ) → Back (b ∷ []) (address_form b)
unfolding address_form
address_back b =
    let P = Back (b ∷ []) in
    row P b 0x47 _ _ (here 0) (row P b 0x4a _ _ (here 0) (row P b 0x52 _ _ (here 0) (row P b 0x54 _ _ (here 0) tt)))

object_back : (b : ℕ) → Back (b ∷ []) (object_form b)
unfolding object_form
object_back b =
    let P = Back (b ∷ []) in
    row P b 0x65 _ _ (here 0) (row P b 0x66 _ _ (here 0) (row P b 0x69 _ _ (here 0) (row P b 0x72 _ _ (here 4) (row P b 0x8d _ _ (here 4)
    (row P b 0x8e _ _ (here 0) (row P b 0x8f _ _ (here 4) (row P b 0x91 _ _ (here 0) (row P b 0x94 _ _ (here 0) (row P b 0x9c _ _ (here 0) (row P b 0x9e _ _ (here 0) tt))))))))))

-- One case of a table of tests or of operators, and then the others.
case_of : {X : Type 0} (P : Option X → Type 0) (b k : ℕ) (here others : Option X) → (b ≡ k → P here) → P others → P (cond (eqb b k) here others)
case_of P b k here others met rest = cond_both (eqb b k) here others P (λ e. met (eqb-true b k e)) (λ e. rest)

abbrev HasNumber : ℕ → Option Test → Type 0
HasNumber k None = Unit {0}
HasNumber k (Some test) = branch_number test ≡ k

has_number : (k : ℕ) → HasNumber k (test_of k)
unfolding test_of
has_number k =
    let P = HasNumber k in
    case_of P k 0 _ _ sym (case_of P k 1 _ _ sym (case_of P k 2 _ _ sym (case_of P k 3 _ _ sym (case_of P k 4 _ _ sym
    (case_of P k 5 _ _ sym (case_of P k 6 _ _ sym (case_of P k 7 _ _ sym (case_of P k 8 _ _ sym (case_of P k 9 _ _ sym
    (case_of P k 10 _ _ sym (case_of P k 11 _ _ sym (case_of P k 12 _ _ sym tt))))))))))))

abbrev HasOpcode : List ℕ → Option BinOp → Type 0
HasOpcode opcode None = Unit {0}
HasOpcode opcode (Some operator) = operator_opcode operator ≡ opcode

has_opcode : (b : ℕ) → HasOpcode (b ∷ []) (operator_of b)
unfolding operator_of
has_opcode b =
    let P = HasOpcode (b ∷ []) in
    let is = λ (k : ℕ) (e : b ≡ k). ap (λ (c : ℕ). c ∷ []) (sym e) in
    case_of P b 0x58 _ _ (is 0x58) (case_of P b 0x59 _ _ (is 0x59) (case_of P b 0x5a _ _ (is 0x5a) (case_of P b 0x5b _ _ (is 0x5b)
    (case_of P b 0x5c _ _ (is 0x5c) (case_of P b 0x5d _ _ (is 0x5d) (case_of P b 0x5e _ _ (is 0x5e) (case_of P b 0x5f _ _ (is 0x5f)
    (case_of P b 0x60 _ _ (is 0x60) (case_of P b 0x61 _ _ (is 0x61) (case_of P b 0x62 _ _ (is 0x62) (case_of P b 0x63 _ _ (is 0x63)
    (case_of P b 0x64 _ _ (is 0x64) (case_of P b 0xd6 _ _ (is 0xd6) (case_of P b 0xd8 _ _ (is 0xd8) (case_of P b 0xda _ _ (is 0xda) tt)))))))))))))))

near_form : (b : ℕ) (test : Option Test) → b < 0x38 → 0x2b ≤ b → HasNumber (b - 0x2b) test → Back (b ∷ []) (option_map near test)
unfolding branch_bytes
near_form b None below above has = tt
near_form b (Some test) below above has =
    λ next n h. byte_behind _ _ _ _ (omega (arith, has)) (near_back next (cast_unsigned w32 (cast_signed w8 n)) (n % 256) (byte_back n h))

far_form : (b : ℕ) (test : Option Test) → 0x38 ≤ b → HasNumber (b - 0x38) test → Back (b ∷ []) (option_map far test)
unfolding branch_bytes
far_form b None above has = tt
far_form b (Some test) above has = λ next n h. word_behind _ _ _ _ (omega (arith, has)) (distance_back next n h)

branch_back : (b : ℕ) → 0x2b ≤ b → Back (b ∷ []) (branch_form b)
unfolding branch_form
branch_back b above =
    rows_up_to (Back (b ∷ [])) b 0x37 _ _ (λ h. near_form b (test_of (b - 0x2b)) (omega arith) above (has_number (b - 0x2b)))
    (λ h. far_form b (test_of (b - 0x38)) (omega arith) (has_number (b - 0x38)))

operator_back : (opcode : List ℕ) (operator : Option BinOp) → HasOpcode opcode operator → Back opcode (option_map operator_form operator)
operator_back opcode None has = tt
operator_back opcode (Some operator) has = λ next n h. has ∙ sym (append-nil opcode)

short_back : (b : ℕ) → Back (b ∷ []) (short_form b)
unfolding short_form
short_back b =
    let P = Back (b ∷ []) in
    rows_up_to P b 0x14 _ _ (λ h. variable_back b)
    (λ h. rows_up_to P b 0x2a _ _ (λ h. constant_back b)
    (λ above. rows_up_to P b 0x44 _ _ (λ h. branch_back b (omega arith))
    (λ h. rows_up_to P b 0x54 _ _ (λ h. address_back b)
    (λ h. rows P b 0x65 0x9e _ _ (λ l h. object_back b) (operator_back (b ∷ []) (operator_of b) (has_opcode b))))))

long_back : (b : ℕ) → Back (0xfe ∷ b ∷ []) (long_form b)
unfolding long_form numbered_bytes variable_bytes
long_back b =
    let P = Back (0xfe ∷ b ∷ []) in
    row P b 0x01 _ _ (behind_fe 0) (row P b 0x02 _ _ (behind_fe 0) (row P b 0x03 _ _ (behind_fe 0) (row P b 0x04 _ _ (behind_fe 0)
    (row P b 0x05 _ _ (behind_fe 0) (row P b 0x09 _ _ (behind_fe 2) (row P b 0x0b _ _ (behind_fe 2) (row P b 0x0c _ _ (behind_fe 2)
    (row P b 0x0e _ _ (behind_fe 2) tt))))))))

-- ---- instructions

by_form : (form : Option Form) (opcode : List ℕ) (i : Instr) (bytes : List ℕ) → Back opcode form → i.size ≡ length bytes
    → SpellsForm form opcode i bytes → spelled i ≡ bytes
by_form None opcode i bytes back size spells = absurd spells
by_form (Some (width, meaning)) opcode i bytes back size (n, small, op, are) =
    let next = i.at + i.size in
    let sizes : i.size ≡ length opcode + width =
    size ∙ ap length are ∙ length-append opcode (little_bytes width n) ∙ ap (λ (k : ℕ). length opcode + k) (length-little_bytes width n) in
    ap (op_bytes (next % 2 ^ 32) i.size) op ∙ ap (λ (k : ℕ). op_bytes (next % 2 ^ 32) k (meaning next n)) sizes ∙ back next n small ∙ sym are

distances_back : (next : ℕ) (offsets : List ℕ) → AllByRecursion (λ offset. offset < 2 ^ 32) offsets
    → flat_map (distance_bytes (next % 2 ^ 32)) (map (target next) offsets) ≡ offset_bytes offsets
unfolding distance_bytes
distances_back next [] small = refl
distances_back next (offset ∷ offsets) small =
    ap₂ (λ (xs ys : List ℕ). xs ++ ys) (ap (little_bytes 4) (distance_back next offset small.0)) (distances_back next offsets small.1)

by_switch : (i : Instr) (bytes : List ℕ) → SpellsSwitch i bytes → spelled i ≡ bytes
unfolding switch_bytes
by_switch i bytes switch =
    let next = i.at + i.size in
    ap (op_bytes (next % 2 ^ 32) i.size) switch.op
    ∙ ap₂ (λ (n : ℕ) (xs : List ℕ). 0x45 ∷ little_bytes 4 n ++ xs)
    (length-map switch.offsets (target next)) (distances_back next switch.offsets switch.small)
    ∙ sym switch.spelled

only_spelling : (i : Instr) (bytes : List ℕ) → Spells i bytes → spelled i ≡ bytes
only_spelling i bytes spells =
    elim spells.row [
      | inl (b, below, form) ↦ by_form (short_form b) (b ∷ []) i bytes (short_back b) spells.size form
      | inr (inl (b, below, form)) ↦ by_form (long_form b) (0xfe ∷ b ∷ []) i bytes (long_back b) spells.size form
      | inr (inr switch) ↦ by_switch i bytes switch
    ]

-- ---- what follows

-- Of two prefixes of one list, one is the prefix of the other.
prefixes : (xs ys more rest : List ℕ) → xs ++ more ≡ ys ++ rest → ((t : List ℕ) × (ys ≡ xs ++ t)) ⊎ ((t : List ℕ) × (xs ≡ ys ++ t))
prefixes [] ys more rest e = inl (ys, refl)
prefixes (x ∷ xs) [] more rest e = inr (x ∷ xs, refl)
prefixes (x ∷ xs) (y ∷ ys) more rest e =
    let same : x ≡ y = cc in
    let behind : xs ++ more ≡ ys ++ rest = cc in
    elim (prefixes xs ys more rest behind) [
      | inl (t, is) ↦ inl (t, ap₂ (λ (a : ℕ) (zs : List ℕ). a ∷ zs) (sym same) is)
      | inr (t, is) ↦ inr (t, ap₂ (λ (a : ℕ) (zs : List ℕ). a ∷ zs) same is)
    ]

one_prefix : (i j : Instr) (bytes others : List ℕ) → Spells i bytes → Spells j others → i.at ≡ j.at → ((t : List ℕ) × (others ≡ bytes ++ t)) → i ≡ j
one_prefix i j bytes others spells spells' at (t, is) = (no_prefix i j bytes t at spells (subst (Spells j) is spells')).1

again : (i j : Instr) (bytes others more rest : List ℕ) → Spells i bytes → Spells j others → j.at ≡ i.at → bytes ++ more ≡ others ++ rest → j ≡ i
again i j bytes others more rest spells spells' at e =
    elim (prefixes bytes others more rest e) [
      | inl prefix ↦ sym (one_prefix i j bytes others spells spells' (sym at) prefix)
      | inr prefix ↦ one_prefix j i others bytes spells' spells at prefix
    ]

pub spelling : (i : Instr) → ((bytes : List ℕ) × Spells i bytes) → IsOnlySpelling i (spelled i)
spelling i (bytes, spells) =
    let is = only_spelling i bytes spells in
    let spells' = subst (Spells i) (sym is) spells in
    record {
      spells = spells';
      only = λ others h. sym (only_spelling i others h);
      again = λ j others more rest at h e. again i j (spelled i) others more rest spells' h at e;
    }
