-- What is read is spelled so, and what is short is cut off in a spelling.
use Rattle.std.proofs.Common.{◌≡◌, ℕ, ◌+◌, ◌*◌, ◌-◌, ◌^◌, ◌<◌, ◌≤◌, List, [], ◌∷◌, ◌++◌, length, map, drop, append_assoc, append-nil, Option, Some, None, Result, Ok, Err, eqb, leb, refl, sym, ap, ◌∙◌, arith, inl, inr, ◌⊎◌}
use Rattle.std.specs.List.{AllByRecursion}
use Rattle.std.proofs.lemmas.Bool.{cond_both, eqb-true, leb-true, leb-false}
use Rattle.std.proofs.lemmas.List.{length-append, drop_all, take-append-drop}
use Rattle.byteorder.specs.Endian.{little_number, little_bytes}
use Rattle.cc_base.specs.LittleEndian.{IsBytes}
use Rattle.cc_base.proofs.ByteLemmas.{IsBytes-nil, IsBytes-tail, IsBytes-drop, IsBytes-append, IsBytes-little_bytes, length-little_bytes, bytes_back, bytes_back-take, little_number-lt}
use Rattle.cil_model.specs.Opcodes.{Form, variable_form, short_form, long_form, target}
use Rattle.cil_model.specs.Spells.{SpellsForm, SpellsShort, SpellsLong, SpellsSwitch, Spells, offset_bytes}
use Rattle.cil_model.specs.declared.instruction.BinOp.TheVariants as operators
use Rattle.cil_model.specs.declared.instruction.Instr.{Instr}
use Rattle.cil_model.specs.declared.instruction.Op.TheVariants.{Nop, Bin, Switch}
use Rattle.il_decoder.specs.declared.fault.IlFault.{IlFault}
use Rattle.il_decoder.specs.declared.fault.IlFault.TheVariants.{Short, Opcode}
use Rattle.il_decoder.specs.Decodes.{IsCut, opcode_at}
use Rattle.il_decoder.specs.Decoding.{Operation, by_form, two_byte, offsets_in, switch_of, switch, operation}
use Rattle.il_decoder.proofs.Offsets.{length-offsets_in, offsets_in-small, length-offset_bytes, offsets_spelled}

-- The bytes begin with a spelling of the instruction.
abbrev pub Begins : Instr → List ℕ → Type 0
Begins i rest = (bytes more : List ℕ) × Spells i bytes × (rest ≡ bytes ++ more)

-- What an answer on these bytes says of them.
abbrev pub Explains : ℕ → List ℕ → Result Operation IlFault → Type 0
Explains at rest (Ok (op, size)) = Begins (record { at = at; size = size; op = op }) rest
Explains at rest (Err (Short place)) = (place ≡ at) × IsCut at rest
Explains at rest (Err (Opcode place code)) = (place ≡ at) × (code ≡ opcode_at rest 0)
Explains at rest (Err _) = ⊥

-- The ways to spell an instruction.
abbrev Row : Instr → List ℕ → Type 0
Row i bytes = SpellsShort i bytes ⊎ (SpellsLong i bytes ⊎ SpellsSwitch i bytes)

-- ---- numbers that are cut

-- A number whose spelling begins with these bytes, and what they lack of it.
record IsCutNumber (width : ℕ) (rest : List ℕ) : Type 0 where
  pub number : ℕ
  pub missing : List ℕ
  pub fits : number < 256 ^ width
  pub spelled : little_bytes width number ≡ rest ++ missing
  pub some_missing : 0 < length missing

number_cut : (width : ℕ) (rest : List ℕ) → IsBytes rest → length rest < width → IsCutNumber width rest
number_cut width rest fits short =
    let zeros = little_bytes (width - length rest) 0 in
    let padded = rest ++ zeros in
    let are_bytes : IsBytes padded = IsBytes-append rest zeros fits (IsBytes-little_bytes (width - length rest) 0) in
    let missed : length zeros ≡ width - length rest = length-little_bytes (width - length rest) 0 in
    let full : length padded ≡ width = omega (arith, length-append rest zeros, missed) in
    record {
      number = little_number width padded;
      missing = zeros;
      fits = little_number-lt width padded are_bytes;
      spelled = ap (λ (n : ℕ). little_bytes n (little_number n padded)) (sym full) ∙ bytes_back padded are_bytes;
      some_missing = omega (arith, missed);
    }

-- ---- a row

number_there : (width : ℕ) (rest : List ℕ) → IsBytes rest → width ≤ length rest
    → little_bytes width (little_number width rest) ++ drop width rest ≡ rest
number_there width rest fits enough = ap (λ (t : List ℕ). t ++ drop width rest) (bytes_back-take width rest enough fits) ∙ take-append-drop width rest

by_form_explained : (at size number : ℕ) (opcode : List ℕ) (form : Option Form) (rest : List ℕ)
    → ((i : Instr) (bytes : List ℕ) → SpellsForm form opcode i bytes → Row i bytes)
    → size ≡ length opcode → number ≡ opcode_at (opcode ++ rest) 0 → IsBytes rest → Explains at (opcode ++ rest) (by_form at size number form rest)
by_form_explained at size number opcode None rest spells len is fits = (refl, is)
by_form_explained at size number opcode (Some (width, meaning)) rest spells len is fits =
    let spelling = λ (n : ℕ). opcode ++ little_bytes width n in
    let instr : ℕ → Instr = λ n. record { at = at; size = size + width; op = meaning (at + (size + width)) n } in
    let long = λ (n : ℕ). length-append opcode (little_bytes width n) in
    let spelled : (n : ℕ) → n < 256 ^ width → Spells (instr n) (spelling n) = λ n small.
    record { size = omega (arith, len, long n, length-little_bytes width n); row = spells (instr n) (spelling n) (n, small, refl, refl) } in
    let read = Ok (meaning (at + (size + width)) (little_number width rest), size + width) in
    cond_both (leb width (length rest)) read (Err (Short at)) (Explains at (opcode ++ rest))
    (λ enough.
    let n = little_number width rest in
    let there = number_there width rest fits (leb-true _ _ enough) in
    let stands : opcode ++ rest ≡ spelling n ++ drop width rest =
    ap (λ (t : List ℕ). opcode ++ t) (sym there) ∙ sym (append_assoc opcode (little_bytes width n) (drop width rest)) in
    (spelling n, drop width rest, spelled n (little_number-lt width rest fits), stands))
    (λ short.
    let c = number_cut width rest fits (leb-false _ _ short) in (
      refl,
      record {
        instr = instr c.number;
        place = refl;
        bytes = spelling c.number;
        missing = c.missing;
        spelled = spelled c.number c.fits;
        cut = ap (λ (t : List ℕ). opcode ++ t) c.spelled ∙ sym (append_assoc opcode rest c.missing);
        some_missing = c.some_missing;
      },
    ))

-- ---- a switch

spelled_switch : (at count : ℕ) (offsets : List ℕ) → length offsets ≡ count → count < 2 ^ 32 → AllByRecursion (λ offset. offset < 2 ^ 32) offsets
    → Spells (record { at = at; size = 5 + 4 * count; op = Switch (map (target (at + (5 + 4 * count))) offsets) }) (0x45 ∷ little_bytes 4 count ++ offset_bytes offsets)
spelled_switch at count offsets len few small =
    record {
      size = omega (arith, len, length-append (little_bytes 4 count) (offset_bytes offsets), length-little_bytes 4 count, length-offset_bytes offsets);
      row = inr (inr (record { offsets = offsets; few = omega (arith, len); small = small; op = refl; spelled = rw len refl }));
    }

-- The count is cut.
count_cut : (at : ℕ) (rest : List ℕ) → IsBytes rest → length rest < 4 → IsCut at (0x45 ∷ rest)
count_cut at rest fits short =
    let c = number_cut 4 rest fits short in
    let offsets = offsets_in c.number [] in
    let others = offset_bytes offsets in
    record {
      instr = record { at = at; size = 5 + 4 * c.number; op = Switch (map (target (at + (5 + 4 * c.number))) offsets) };
      place = refl;
      bytes = 0x45 ∷ little_bytes 4 c.number ++ others;
      missing = c.missing ++ others;
      spelled = spelled_switch at c.number offsets (length-offsets_in c.number []) c.fits (offsets_in-small c.number [] IsBytes-nil);
      cut = ap (λ (t : List ℕ). 0x45 ∷ t) (ap (λ (t : List ℕ). t ++ others) c.spelled ∙ append_assoc rest c.missing others);
      some_missing = omega (arith, c.some_missing, length-append c.missing others);
    }

module _ (at count : ℕ) (rest : List ℕ) (fits : IsBytes rest) (enough : 4 ≤ length rest) (is : count ≡ little_number 4 rest) where
  count_few : count < 2 ^ 32
  count_few = rw is (little_number-lt 4 rest fits)

  count_there : little_bytes 4 count ++ drop 4 rest ≡ rest
  count_there = rw is (number_there 4 rest fits enough)

  -- An offset is cut.
  offset_cut : length (drop 4 rest) < 4 * count → IsCut at (0x45 ∷ rest)
  offset_cut short =
      let zeros = little_bytes (4 * count - length (drop 4 rest)) 0 in
      let missed : length zeros ≡ 4 * count - length (drop 4 rest) = length-little_bytes (4 * count - length (drop 4 rest)) 0 in
      let padded = drop 4 rest ++ zeros in
      let are_bytes : IsBytes padded = IsBytes-append (drop 4 rest) zeros (IsBytes-drop 4 rest fits) (IsBytes-little_bytes (4 * count - length (drop 4 rest)) 0) in
      let full : length padded ≡ 4 * count = omega (arith, length-append (drop 4 rest) zeros, missed) in
      let offsets = offsets_in count padded in
      let none : drop (4 * count) padded ≡ [] = drop_all (4 * count) padded (omega (arith, full)) in
      let whole : offset_bytes offsets ≡ padded =
      sym (append-nil (offset_bytes offsets)) ∙ ap (λ (t : List ℕ). offset_bytes offsets ++ t) (sym none)
      ∙ offsets_spelled count padded (omega (arith, full)) are_bytes in
      let prefix : little_bytes 4 count ++ padded ≡ rest ++ zeros = sym (append_assoc (little_bytes 4 count) (drop 4 rest) zeros)
      ∙ ap (λ (t : List ℕ). t ++ zeros) count_there in
      record {
        instr = record { at = at; size = 5 + 4 * count; op = Switch (map (target (at + (5 + 4 * count))) offsets) };
        place = refl;
        bytes = 0x45 ∷ little_bytes 4 count ++ offset_bytes offsets;
        missing = zeros;
        spelled = spelled_switch at count offsets (length-offsets_in count padded) count_few (offsets_in-small count padded are_bytes);
        cut = ap (λ (t : List ℕ). 0x45 ∷ t) (ap (λ (t : List ℕ). little_bytes 4 count ++ t) whole ∙ prefix);
        some_missing = omega (arith, missed);
      }

  switch_of_explained : Explains at (0x45 ∷ rest) (switch_of at count (drop 4 rest))
  unfolding switch_of
  switch_of_explained =
      let offsets = offsets_in count (drop 4 rest) in
      let op = Switch (map (target (at + (5 + 4 * count))) offsets) in
      let more = drop (4 * count) (drop 4 rest) in
      cond_both (leb (4 * count) (length (drop 4 rest))) (Ok (op, 5 + 4 * count)) (Err (Short at)) (Explains at (0x45 ∷ rest))
      (λ long.
      let there = offsets_spelled count (drop 4 rest) (leb-true _ _ long) (IsBytes-drop 4 rest fits) in
      let all : (little_bytes 4 count ++ offset_bytes offsets) ++ more ≡ rest =
      append_assoc (little_bytes 4 count) (offset_bytes offsets) more ∙ ap (λ (t : List ℕ). little_bytes 4 count ++ t) there ∙ count_there in (
        0x45 ∷ little_bytes 4 count ++ offset_bytes offsets,
        more,
        spelled_switch at count offsets (length-offsets_in count (drop 4 rest)) count_few (offsets_in-small count (drop 4 rest) (IsBytes-drop 4 rest fits)),
        ap (λ (t : List ℕ). 0x45 ∷ t) (sym all),
      ))
      (λ short. (refl, offset_cut (leb-false _ _ short)))

switch_explained : (at : ℕ) (rest : List ℕ) → IsBytes rest → Explains at (0x45 ∷ rest) (switch at rest)
unfolding switch
switch_explained at rest fits =
    cond_both (leb 4 (length rest)) (switch_of at (little_number 4 rest) (drop 4 rest)) (Err (Short at)) (Explains at (0x45 ∷ rest))
    (λ enough. switch_of_explained at (little_number 4 rest) rest fits (leb-true _ _ enough) refl)
    (λ short. (refl, count_cut at rest fits (leb-false _ _ short)))

-- ---- each opcode

two_byte_explained : (at : ℕ) (rest : List ℕ) → IsBytes rest → Explains at (0xfe ∷ rest) (two_byte at rest)
unfolding two_byte long_form
two_byte_explained at [] fits =
    let ceq : Instr = record { at = at; size = 2; op = Bin operators.Ceq } in
    let spelled : Spells ceq (0xfe ∷ 0x01 ∷ []) = record { size = refl; row = inr (inl (0x01, omega arith, (0, omega arith, refl, refl))) } in
    (refl, record { instr = ceq; place = refl; bytes = 0xfe ∷ 0x01 ∷ []; missing = 0x01 ∷ []; spelled = spelled; cut = refl; some_missing = omega arith })
two_byte_explained at (b ∷ rest) fits =
    by_form_explained at 2 (0xfe00 + b) (0xfe ∷ b ∷ []) (long_form b) rest (λ i bytes form. inr (inl (b, fits 0, form))) refl refl (IsBytes-tail b rest fits)

-- The answer tells what the bytes are.
pub operation_explained : (at : ℕ) (rest : List ℕ) → IsBytes rest → Explains at rest (operation at rest)
unfolding operation short_form variable_form
operation_explained at [] fits =
    let nop : Instr = record { at = at; size = 1; op = Nop } in
    let spelled : Spells nop (0x00 ∷ []) = record { size = refl; row = inl (0x00, omega arith, (0, omega arith, refl, refl)) } in
    (refl, record { instr = nop; place = refl; bytes = 0x00 ∷ []; missing = 0x00 ∷ []; spelled = spelled; cut = refl; some_missing = omega arith })
operation_explained at (b ∷ rest) fits =
    let behind = IsBytes-tail b rest fits in
    cond_both (eqb b 0xfe) (two_byte at rest) _ (Explains at (b ∷ rest))
    (λ e. rw (eqb-true b 0xfe e) (two_byte_explained at rest behind))
    (λ other. cond_both (eqb b 0x45) (switch at rest) (by_form at 1 b (short_form b) rest) (Explains at (b ∷ rest))
    (λ e. rw (eqb-true b 0x45 e) (switch_explained at rest behind))
    (λ more. by_form_explained at 1 b (b ∷ []) (short_form b) rest (λ i bytes form. inl (b, fits 0, form)) refl (rw other refl) behind))
