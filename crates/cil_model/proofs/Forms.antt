-- What every spelling of an instruction is: it is not empty, it is a list of bytes, and it is the prefix of no other.
use Rattle.std.proofs.Common.{◌≡◌, ℕ, ◌+◌, ◌^◌, ◌<◌, List, [], ◌∷◌, ◌++◌, length, map, append_assoc, append-nil, Option, Some, None, refl, sym, ap, subst, ◌∙◌, arith, inl, inr}
use Rattle.std.specs.List.{AllByRecursion}
use Rattle.std.proofs.lemmas.List.{append_cancel_left}
use Rattle.byteorder.specs.Endian.{little_bytes, little_number}
use Rattle.cc_base.specs.LittleEndian.{IsBytes}
use Rattle.cc_base.proofs.ByteLemmas.{IsBytes-nil, IsBytes-cons, IsBytes-append, IsBytes-little_bytes, number_back}
use Rattle.cil_model.specs.Opcodes.{Form, address_form, short_form, long_form, operator_of, target}
use Rattle.cil_model.specs.Spells.{SpellsForm, SpellsShort, SpellsLong, SpellsSwitch, Spells, offset_bytes}
use Rattle.cil_model.specs.declared.instruction.Instr.{Instr}
use Rattle.cil_model.specs.declared.instruction.Op.TheVariants.{Switch}

-- ---- bytes

form_bytes : (form : Option Form) (opcode : List ℕ) (i : Instr) (bytes : List ℕ) → IsBytes opcode → SpellsForm form opcode i bytes → IsBytes bytes
form_bytes None opcode i bytes h spells = absurd spells
form_bytes (Some (width, meaning)) opcode i bytes h (operand, fits, op, are) =
    rw are (IsBytes-append opcode (little_bytes width operand) h (IsBytes-little_bytes width operand))

offsets_are_bytes : (offsets : List ℕ) → IsBytes (offset_bytes offsets)
offsets_are_bytes [] = IsBytes-nil
offsets_are_bytes (offset ∷ offsets) = IsBytes-append (little_bytes 4 offset) (offset_bytes offsets) (IsBytes-little_bytes 4 offset) (offsets_are_bytes offsets)

-- A spelling is a list of bytes.
pub spelling_bytes : (i : Instr) (bytes : List ℕ) → Spells i bytes → IsBytes bytes
spelling_bytes i bytes spells =
    elim spells.row [
      | inl (b, below, form) ↦ form_bytes (short_form b) (b ∷ []) i bytes (IsBytes-cons b [] below IsBytes-nil) form
      | inr (inl (b, below, form)) ↦ form_bytes (long_form b) (0xfe ∷ b ∷ []) i bytes (IsBytes-cons 0xfe (b ∷ []) (omega arith) (IsBytes-cons b [] below IsBytes-nil)) form
      | inr (inr switch) ↦
          let count = little_bytes 4 (length switch.offsets) in
          let offsets = offset_bytes switch.offsets in
          rw switch.spelled (IsBytes-cons 0x45 (count ++ offsets) (omega arith)
          (IsBytes-append count offsets (IsBytes-little_bytes 4 (length switch.offsets)) (offsets_are_bytes switch.offsets)))
    ]

-- ---- opcodes

-- What a spelling by a row begins with.
pub form_begins : (form : Option Form) (b : ℕ) (opcode : List ℕ) (i : Instr) (bytes : List ℕ) → SpellsForm form (b ∷ opcode) i bytes → (rest : List ℕ) × (bytes ≡ b ∷ rest)
form_begins None b opcode i bytes spells = absurd spells
form_begins (Some (width, meaning)) b opcode i bytes (operand, fits, op, are) = (opcode ++ little_bytes width operand, are)

-- No spelling is empty.
pub spelling_some : (i : Instr) (bytes : List ℕ) → Spells i bytes → 0 < length bytes
spelling_some i bytes spells =
    elim spells.row [
      | inl (b, below, form) ↦ rw ((form_begins (short_form b) b [] i bytes form).1) (omega arith)
      | inr (inl (b, below, form)) ↦ rw ((form_begins (long_form b) 0xfe (b ∷ []) i bytes form).1) (omega arith)
      | inr (inr switch) ↦ rw switch.spelled (omega arith)
    ]

-- ---- prefixes

-- Numbers of one width are the same where one's bytes begin with the other's.
same_number : (width n m : ℕ) (more rest : List ℕ) → n < 256 ^ width → m < 256 ^ width → little_bytes width n ++ more ≡ little_bytes width m ++ rest → (n ≡ m) × (more ≡ rest)
same_number width n m more rest small other e =
    let same : n ≡ m = sym (number_back width n more small) ∙ ap (little_number width) e ∙ number_back width m rest other in
    (same, append_cancel_left (little_bytes width n) more rest (e ∙ ap (λ (k : ℕ). little_bytes width k ++ rest) (sym same)))

-- Offsets of one count are the same where one's bytes begin with the other's.
same_offsets : (xs ys : List ℕ) (more : List ℕ) → AllByRecursion (λ x. x < 2 ^ 32) xs → AllByRecursion (λ y. y < 2 ^ 32) ys → length xs ≡ length ys
    → offset_bytes xs ++ more ≡ offset_bytes ys → (xs ≡ ys) × (more ≡ [])
same_offsets [] [] more small others same e = (refl, e)
same_offsets [] (y ∷ ys) more small others same e = absurd (omega (arith, same))
same_offsets (x ∷ xs) [] more small others same e = absurd (omega (arith, same))
same_offsets (x ∷ xs) (y ∷ ys) more small others same e =
    let here = same_number 4 x y (offset_bytes xs ++ more) (offset_bytes ys) small.0 others.0 (sym (append_assoc (little_bytes 4 x) (offset_bytes xs) more) ∙ e) in
    let rest = same_offsets xs ys more small.1 others.1 (omega (arith, same)) here.1 in
    (let first = here.0 in let behind = rest.0 in cc, rest.1)

-- Two instructions are the same where all that they have is.
same_instr : (i j : Instr) → i.at ≡ j.at → i.size ≡ j.size → i.op ≡ j.op → i ≡ j
same_instr i j at size op = λ k. record { at = at k; size = size k; op = op k }

-- Both spell one instruction, and nothing stands after.
abbrev pub Same : Instr → Instr → List ℕ → Type 0
Same i j more = (more ≡ []) × (i ≡ j)

same_size : (i j : Instr) (bytes more : List ℕ) → i.size ≡ length bytes → j.size ≡ length (bytes ++ more) → more ≡ [] → i.size ≡ j.size
same_size i j bytes more size other none = size ∙ ap length (sym (append-nil bytes)) ∙ ap (λ (t : List ℕ). length (bytes ++ t)) (sym none) ∙ sym other

module _ (i j : Instr) (bytes more : List ℕ) (at : i.at ≡ j.at) (size : i.size ≡ length bytes) (other : j.size ≡ length (bytes ++ more)) where
  same_form : (form : Option Form) (opcode : List ℕ) → SpellsForm form opcode i bytes → SpellsForm form opcode j (bytes ++ more) → Same i j more
  same_form None opcode spells spells' = absurd spells
  same_form (Some (width, meaning)) opcode (n, small, op, are) (m, small', op', are') =
      let e : opcode ++ (little_bytes width n ++ more) ≡ opcode ++ (little_bytes width m ++ []) =
      sym (append_assoc opcode (little_bytes width n) more) ∙ ap (λ (t : List ℕ). t ++ more) (sym are) ∙ are' ∙ ap (λ (t : List ℕ). opcode ++ t) (sym (append-nil (little_bytes width m))) in
      let same = same_number width n m more [] small small' (append_cancel_left opcode _ _ e) in
      let sizes = same_size i j bytes more size other same.1 in
      let next : i.at + i.size ≡ j.at + j.size = omega (arith, at, sizes) in
      (same.1, same_instr i j at sizes (op ∙ ap (λ (k : ℕ). meaning k n) next ∙ ap (meaning (j.at + j.size)) same.0 ∙ sym op'))

  same_switch : SpellsSwitch i bytes → SpellsSwitch j (bytes ++ more) → Same i j more
  same_switch spells spells' =
      let count = little_bytes 4 (length spells.offsets) in
      let all : 0x45 ∷ (count ++ (offset_bytes spells.offsets ++ more)) ≡ 0x45 ∷ (little_bytes 4 (length spells'.offsets) ++ offset_bytes spells'.offsets) =
      ap (λ (t : List ℕ). 0x45 ∷ t) (sym (append_assoc count (offset_bytes spells.offsets) more)) ∙ ap (λ (t : List ℕ). t ++ more) (sym spells.spelled) ∙ spells'.spelled in
      let counts = same_number 4 (length spells.offsets) (length spells'.offsets) _ _ spells.few spells'.few (append_cancel_left (0x45 ∷ []) _ _ all) in
      let same = same_offsets spells.offsets spells'.offsets more spells.small spells'.small counts.0 counts.1 in
      let sizes = same_size i j bytes more size other same.1 in
      let next : i.at + i.size ≡ j.at + j.size = omega (arith, at, sizes) in
      (same.1, same_instr i j at sizes (spells.op ∙ ap (λ (k : ℕ). Switch (map (target k) spells.offsets)) next ∙ ap (λ (t : List ℕ). Switch (map (target (j.at + j.size)) t)) same.0 ∙ sym spells'.op))

heads : (a b : ℕ) (s t bytes more : List ℕ) → bytes ≡ a ∷ s → bytes ++ more ≡ b ∷ t → a ≡ b
heads a b s t bytes more e other = let whole : a ∷ (s ++ more) ≡ b ∷ t = ap (λ (u : List ℕ). u ++ more) (sym e) ∙ other in cc

seconds : (b c : ℕ) (i j : Instr) (bytes more : List ℕ) (f g : Option Form) → SpellsForm f (0xfe ∷ b ∷ []) i bytes → SpellsForm g (0xfe ∷ c ∷ []) j (bytes ++ more) → b ≡ c
seconds b c i j bytes more None g form form' = absurd form
seconds b c i j bytes more (Some (width, meaning)) None form form' = absurd form'
seconds b c i j bytes more (Some (width, meaning)) (Some (width', meaning')) (n, small, op, are) (m, small', op', are') =
    let whole : 0xfe ∷ b ∷ (little_bytes width n ++ more) ≡ 0xfe ∷ c ∷ little_bytes width' m = ap (λ (u : List ℕ). u ++ more) (sym are) ∙ are' in
    cc

-- The two opcodes that have no row of one byte.
pub no_long : (b : ℕ) (i : Instr) (bytes : List ℕ) → b ≡ 0xfe → SpellsForm (short_form b) (b ∷ []) i bytes → ⊥
unfolding short_form operator_of
no_long b i bytes e form = rw e at form

pub no_switch : (b : ℕ) (i : Instr) (bytes : List ℕ) → b ≡ 0x45 → SpellsForm (short_form b) (b ∷ []) i bytes → ⊥
unfolding short_form address_form
no_switch b i bytes e form = rw e at form

module _ (i j : Instr) (bytes more : List ℕ) (at : i.at ≡ j.at) (spells : Spells i bytes) (spells' : Spells j (bytes ++ more)) where
  same_row : (f : ℕ → Option Form) (opcode : ℕ → List ℕ) (b c : ℕ) → b ≡ c → SpellsForm (f b) (opcode b) i bytes → SpellsForm (f c) (opcode c) j (bytes ++ more) → Same i j more
  same_row f opcode b c same form form' =
      same_form i j bytes more at spells.size spells'.size (f b) (opcode b) form (subst (λ (k : ℕ). SpellsForm (f k) (opcode k) j (bytes ++ more)) (sym same) form')

  behind_short : SpellsShort i bytes → Same i j more
  behind_short (b, below, form) =
      let (rest, are) = form_begins (short_form b) b [] i bytes form in
      elim spells'.row [
        | inl (c, below', form') ↦
            let (rest', are') = form_begins (short_form c) c [] j (bytes ++ more) form' in
            same_row short_form (λ k. k ∷ []) b c (heads b c rest rest' bytes more are are') form form'
        | inr (inl (c, below', form')) ↦
            let (rest', are') = form_begins (long_form c) 0xfe (c ∷ []) j (bytes ++ more) form' in
            absurd (no_long b i bytes (heads b 0xfe rest rest' bytes more are are') form)
        | inr (inr switch) ↦ absurd (no_switch b i bytes (heads b 0x45 rest _ bytes more are switch.spelled) form)
      ]

  behind_long : SpellsLong i bytes → Same i j more
  behind_long (b, below, form) =
      let (rest, are) = form_begins (long_form b) 0xfe (b ∷ []) i bytes form in
      elim spells'.row [
        | inl (c, below', form') ↦
            let (rest', are') = form_begins (short_form c) c [] j (bytes ++ more) form' in
            absurd (no_long c j (bytes ++ more) (sym (heads 0xfe c rest rest' bytes more are are')) form')
        | inr (inl (c, below', form')) ↦
            let second = seconds b c i j bytes more (long_form b) (long_form c) form form' in
            same_row long_form (λ k. 0xfe ∷ k ∷ []) b c second form form'
        | inr (inr switch) ↦ absurd (let other = heads 0xfe 0x45 rest _ bytes more are switch.spelled in omega (arith, other))
      ]

  behind_switch : SpellsSwitch i bytes → Same i j more
  behind_switch switch =
      elim spells'.row [
        | inl (c, below', form') ↦
            let (rest', are') = form_begins (short_form c) c [] j (bytes ++ more) form' in
            absurd (no_switch c j (bytes ++ more) (sym (heads 0x45 c _ rest' bytes more switch.spelled are')) form')
        | inr (inl (c, below', form')) ↦
            let (rest', are') = form_begins (long_form c) 0xfe (c ∷ []) j (bytes ++ more) form' in
            absurd (let other = heads 0x45 0xfe _ rest' bytes more switch.spelled are' in omega (arith, other))
        | inr (inr switch') ↦ same_switch i j bytes more at spells.size spells'.size switch switch'
      ]

  -- No spelling is the prefix of another, where both stand at one IL offset: what begins with one is that one.
  pub no_prefix : Same i j more
  no_prefix = elim spells.row [ inl short ↦ behind_short short | inr (inl long) ↦ behind_long long | inr (inr switch) ↦ behind_switch switch ]
