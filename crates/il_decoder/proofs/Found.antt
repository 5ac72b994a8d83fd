-- What is spelled is read, and what is cut off in a spelling is short.
use Rattle.std.proofs.Common.{◌≡◌, ℕ, ◌+◌, ◌*◌, ◌^◌, ◌<◌, List, [], ◌∷◌, ◌++◌, length, map, drop, append_assoc, append-nil, Bool, cond, Option, Some, None, Result, Ok, Err, true, false, eqb, leb, refl, sym, ap, ◌∙◌, arith, inl, inr}
use Rattle.std.specs.List.{AllByRecursion}
use Rattle.std.proofs.lemmas.Bool.{cond_both, le-leb, ne_eqb}
use Rattle.std.proofs.lemmas.List.{length-append, drop_at}
use Rattle.byteorder.specs.Endian.{little_number, little_bytes}
use Rattle.cc_base.specs.LittleEndian.{IsBytes}
use Rattle.cc_base.proofs.ByteLemmas.{IsBytes-left, length-little_bytes, number_back}
use Rattle.cil_model.specs.Opcodes.{Form, short_form, long_form, target}
use Rattle.cil_model.specs.Spells.{SpellsForm, SpellsShort, SpellsLong, SpellsSwitch, Spells, offset_bytes}
use Rattle.cil_model.specs.declared.instruction.Instr.{Instr}
use Rattle.cil_model.specs.declared.instruction.Op.TheVariants.{Switch}
use Rattle.cil_model.proofs.Forms.{spelling_bytes, no_long, no_switch, no_prefix}
use Rattle.il_decoder.specs.declared.fault.IlFault.{IlFault}
use Rattle.il_decoder.specs.declared.fault.IlFault.TheVariants.{Short, Opcode}
use Rattle.il_decoder.specs.Decoding.{Operation, by_form, two_byte, switch_of, switch, operation}
use Rattle.il_decoder.proofs.Offsets.{length-offset_bytes, offsets_back}
use Rattle.il_decoder.specs.Decodes.{IsCut}
use Rattle.il_decoder.proofs.Read.{Explains, operation_explained}

-- ---- what is spelled is read

-- What stands after the opcode of a spelling, and how the row reads it.
record IsRead (size number : ℕ) (form : Option Form) (opcode : List ℕ) (i : Instr) (whole : List ℕ) : Type 0 where
  pub rest : List ℕ
  pub stands : whole ≡ opcode ++ rest
  pub read : by_form i.at size number form rest ≡ Ok (i.op, i.size)

by_form_read : (size number : ℕ) (form : Option Form) (opcode : List ℕ) (i : Instr) (bytes more : List ℕ) → SpellsForm form opcode i bytes
    → size ≡ length opcode → i.size ≡ length bytes
    → IsRead size number form opcode i (bytes ++ more)
by_form_read size number None opcode i bytes more spells len whole = absurd spells
by_form_read size number (Some (width, meaning)) opcode i bytes more (n, small, op, are) len whole =
    let operand = little_bytes width n in
    let long = length-little_bytes width n in
    let total : i.size ≡ size + width = omega (arith, len, whole, ap length are, length-append opcode operand, long) in
    let enough : leb width (length (operand ++ more)) ≡ true = le-leb _ _ (omega (arith, long, length-append operand more)) in
    let same : meaning (i.at + (size + width)) n ≡ i.op = ap (λ (k : ℕ). meaning (i.at + k) n) (sym total) ∙ sym op in
    record {
      rest = operand ++ more;
      stands = ap (λ (t : List ℕ). t ++ more) are ∙ append_assoc opcode operand more;
      read = rw (enough, number_back width n more small, same, total) refl;
    }

short_read : (i : Instr) (bytes more : List ℕ) → i.size ≡ length bytes → SpellsShort i bytes → operation i.at (bytes ++ more) ≡ Ok (i.op, i.size)
unfolding operation
short_read i bytes more len (b, below, form) =
    let r = by_form_read 1 b (short_form b) (b ∷ []) i bytes more form refl len in
    let not_long : eqb b 0xfe ≡ false = ne_eqb b 0xfe (λ e. no_long b i bytes e form) in
    let not_switch : eqb b 0x45 ≡ false = ne_eqb b 0x45 (λ e. no_switch b i bytes e form) in
    ap (operation i.at) r.stands ∙ rw (not_long, not_switch) r.read

long_read : (i : Instr) (bytes more : List ℕ) → i.size ≡ length bytes → SpellsLong i bytes → operation i.at (bytes ++ more) ≡ Ok (i.op, i.size)
unfolding operation two_byte
long_read i bytes more len (b, below, form) =
    let r = by_form_read 2 (0xfe00 + b) (long_form b) (0xfe ∷ b ∷ []) i bytes more form refl len in
    ap (operation i.at) r.stands ∙ r.read

offsets_read : (i : Instr) (offsets more : List ℕ) → i.size ≡ 5 + 4 * length offsets → i.op ≡ Switch (map (target (i.at + i.size)) offsets)
    → AllByRecursion (λ offset. offset < 2 ^ 32) offsets → switch_of i.at (length offsets) (offset_bytes offsets ++ more) ≡ Ok (i.op, i.size)
unfolding switch_of
offsets_read i offsets more size op small =
    let enough : leb (4 * length offsets) (length (offset_bytes offsets ++ more)) ≡ true =
    le-leb _ _ (omega (arith, length-append (offset_bytes offsets) more, length-offset_bytes offsets)) in
    let same : Switch (map (target (i.at + (5 + 4 * length offsets))) offsets) ≡ i.op = ap (λ (k : ℕ). Switch (map (target (i.at + k)) offsets)) (sym size) ∙ sym op in
    rw (enough, offsets_back offsets more small, same, size) refl

switch_read : (i : Instr) (bytes more : List ℕ) → i.size ≡ length bytes → SpellsSwitch i bytes → operation i.at (bytes ++ more) ≡ Ok (i.op, i.size)
unfolding operation switch
switch_read i bytes more len spells =
    let offsets = spells.offsets in
    let count = little_bytes 4 (length offsets) in
    let behind = offset_bytes offsets ++ more in
    let long = length-little_bytes 4 (length offsets) in
    let size : i.size ≡ 5 + 4 * length offsets = omega (arith, len, ap length spells.spelled, length-append count (offset_bytes offsets), long, length-offset_bytes offsets) in
    let stands : bytes ++ more ≡ 0x45 ∷ (count ++ behind) = ap (λ (t : List ℕ). t ++ more) spells.spelled
    ∙ ap (λ (t : List ℕ). 0x45 ∷ t) (append_assoc count (offset_bytes offsets) more) in
    let enough : leb 4 (length (count ++ behind)) ≡ true = le-leb _ _ (omega (arith, long, length-append count behind)) in
    let number : little_number 4 (count ++ behind) ≡ length offsets = number_back 4 (length offsets) behind spells.few in
    let rest : drop 4 (count ++ behind) ≡ behind = drop_at count behind 4 long in
    let read : switch i.at (count ++ behind) ≡ switch_of i.at (length offsets) behind = rw (enough, number, rest) refl in
    ap (operation i.at) stands ∙ read ∙ offsets_read i offsets more size spells.op spells.small

-- A spelling is read, whatever follows it.
pub spelling_read : (i : Instr) (bytes more : List ℕ) → Spells i bytes → operation i.at (bytes ++ more) ≡ Ok (i.op, i.size)
spelling_read i bytes more spells =
    elim spells.row [
      | inl short ↦ short_read i bytes more spells.size short
      | inr (inl long) ↦ long_read i bytes more spells.size long
      | inr (inr switch) ↦ switch_read i bytes more spells.size switch
    ]

-- ---- what is cut off in a spelling is short

-- The bytes begin with no opcode.
abbrev IsNoOpcode : Result Operation IlFault → Type 0
IsNoOpcode (Err (Opcode at opcode)) = Unit {0}
IsNoOpcode _ = ⊥

form_stays : (at size number : ℕ) (form : Option Form) (rest more : List ℕ) → IsNoOpcode (by_form at size number form rest)
    → IsNoOpcode (by_form at size number form (rest ++ more))
form_stays at size number None rest more none = tt
form_stays at size number (Some (width, meaning)) rest more none =
    let read = Ok (meaning (at + (size + width)) (little_number width rest), size + width) in
    absurd (cond_both (leb width (length rest)) read (Err (Short at)) (λ r. IsNoOpcode r → ⊥) (λ e h. h) (λ e h. h) none)

two_byte_stays : (at : ℕ) (rest more : List ℕ) → IsNoOpcode (two_byte at rest) → IsNoOpcode (two_byte at (rest ++ more))
unfolding two_byte
two_byte_stays at [] more none = absurd none
two_byte_stays at (b ∷ rest) more none = form_stays at 2 (0xfe00 + b) (long_form b) rest more none

no_switch_fault : (at : ℕ) (rest : List ℕ) → IsNoOpcode (switch at rest) → ⊥
unfolding switch switch_of
no_switch_fault at rest none =
    cond_both (leb 4 (length rest)) (switch_of at (little_number 4 rest) (drop 4 rest)) (Err (Short at)) (λ r. IsNoOpcode r → ⊥)
    (λ e. cond_both (leb (4 * little_number 4 rest) (length (drop 4 rest))) _ (Err (Short at)) (λ r. IsNoOpcode r → ⊥) (λ e h. h) (λ e h. h))
    (λ e h. h) none

-- The answer after the first byte, where that is FE or the opcode of a switch.
abbrev behind_first : ℕ → ℕ → List ℕ → Bool → Bool → Result Operation IlFault
behind_first at b rest long switches = cond long (two_byte at rest) (cond switches (switch at rest) (by_form at 1 b (short_form b) rest))

behind_first_stays : (at b : ℕ) (rest more : List ℕ) (long switches : Bool) → IsNoOpcode (behind_first at b rest long switches)
    → IsNoOpcode (behind_first at b (rest ++ more) long switches)
behind_first_stays at b rest more true switches none = two_byte_stays at rest more none
behind_first_stays at b rest more false true none = absurd (no_switch_fault at rest none)
behind_first_stays at b rest more false false none = form_stays at 1 b (short_form b) rest more none

-- What begins with no opcode does so whatever follows it.
opcode_stays : (at : ℕ) (rest more : List ℕ) → IsNoOpcode (operation at rest) → IsNoOpcode (operation at (rest ++ more))
unfolding operation
opcode_stays at [] more none = absurd none
opcode_stays at (b ∷ rest) more none = behind_first_stays at b rest more (eqb b 0xfe) (eqb b 0x45) none

cut_answer : (at : ℕ) (rest : List ℕ) (c : IsCut at rest) (r : Result Operation IlFault) → operation at rest ≡ r → Explains at rest r
    → r ≡ Err (Short at)
cut_answer at rest c (Ok (op, size)) is (bytes, more, spells, there) =
    let whole : c.bytes ≡ bytes ++ (more ++ c.missing) = c.cut ∙ ap (λ (t : List ℕ). t ++ c.missing) there ∙ append_assoc bytes more c.missing in
    let same = no_prefix (record { at = at; size = size; op = op }) c.instr bytes (more ++ c.missing) (sym c.place) spells (rw whole at c.spelled) in
    absurd (omega (arith, c.some_missing, ap length same.0, length-append more c.missing))
cut_answer at rest c (Err (Short place)) is h = ap (λ (k : ℕ). Err (Short k)) h.0
cut_answer at rest c (Err (Opcode place number)) is h =
    let read : operation at (rest ++ c.missing) ≡ Ok (c.instr.op, c.instr.size) =
    rw (← c.cut, ← c.place, ← append-nil c.bytes) (spelling_read c.instr c.bytes [] c.spelled) in
    absurd (rw read at (opcode_stays at rest c.missing (rw is tt)))
cut_answer at rest c (Err _) is h = absurd h

-- What is cut off in a spelling is short.
pub cut_is_short : (at : ℕ) (rest : List ℕ) → IsCut at rest → operation at rest ≡ Err (Short at)
cut_is_short at rest c =
    let fits : IsBytes rest = IsBytes-left rest c.missing (rw c.cut at (spelling_bytes c.instr c.bytes c.spelled)) in
    cut_answer at rest c (operation at rest) refl (operation_explained at rest fits)
