-- Code with numbers in place of tokens is decoded code as before: each instruction stays at its place and of its size,
-- and no branch changes.
use Rattle.std.proofs.Common.{◌≡◌, ℕ, ◌+◌, ◌<◌, ◌≤◌, ◌^◌, Bool, true, List, [], ◌∷◌, ◌++◌, length, map, refl, sym, ap, ap₂, subst, ◌∙◌, arith, inl, length-append}
use mathlib.Core.Path.{fun_ext}
use Rattle.std.specs.Prelude.{◌==◌, ◌||◌}
use Rattle.std.specs.List.{All, AllByRecursion}
use Rattle.byteorder.specs.Endian.{little_bytes}
use Rattle.cc_base.specs.Slices.{IsShort}
use Rattle.cil_model.specs.Blocks.{branch_targets}
use Rattle.cil_model.specs.Code.{CodeFrom, CodeOf, MeetsStarts, begins_at}
use Rattle.cil_model.specs.Opcodes.{constant_form, object_form, short_form}
use Rattle.cil_model.specs.Spells.{Spells}
use Rattle.cil_model.specs.declared.instruction.Instr.{Instr}
use Rattle.cil_model.specs.declared.instruction.Op.{Op}
use Rattle.cil_model.specs.declared.instruction.Op.TheVariants as ops
use Rattle.cil_model.proofs.ShortCodes.{code_is_short}
use Rattle.il_decoder.specs.Decoding.{instructions_of}
use Rattle.il_decoder.specs.Spelling.{spelled}
use Rattle.il_decoder.proofs.FaultPlaces.{code_instr_places}
use Rattle.il_decoder.proofs.SpellingLemmas.{spelling}
use Rattle.flow_graph.proofs.Lying.{all_by_index}
use Rattle.stack_typer.proofs.CodeLies.{code_lies}
use Rattle.method_code.specs.Meanings.{HasSmallNumbers, Meaning}
use Rattle.method_code.specs.Numbering.{array_number, call_number, numbered_instr, numbered_op, spelled_code}
use Rattle.method_code.specs.Reading.{AreDecodedAs}
use Rattle.method_code.specs.Called.{callees_of}
use Rattle.method_code.proofs.FirstUses.{few_callees}
use Rattle.method_code.proofs.NumberBounds.{array_small, call_small}

-- ---- one instruction

abbrev placed : ℕ → ℕ → Op → Instr
placed at size op = record { at = at; size = size; op = op }

-- Some bytes spell the instruction.
abbrev pub IsSpelled : Instr → Type 0
IsSpelled i = (bytes : List ℕ) × Spells i bytes

call_spelled : (at size token n : ℕ) → IsSpelled (placed at size (ops.Call token)) → n < 2 ^ 32 → IsSpelled (placed at size (ops.Call n))
unfolding short_form constant_form
call_spelled at size token n is small =
    (0x28 ∷ little_bytes 4 n, record { size = (spelling (placed at size (ops.Call token)) is).spells.size; row = inl (0x28, omega arith, (n, small, refl, refl)) })

text_spelled : (at size token n : ℕ) → IsSpelled (placed at size (ops.Text token)) → n < 2 ^ 32 → IsSpelled (placed at size (ops.Text n))
unfolding short_form object_form
text_spelled at size token n is small =
    (0x72 ∷ little_bytes 4 n, record { size = (spelling (placed at size (ops.Text token)) is).spells.size; row = inl (0x72, omega arith, (n, small, refl, refl)) })

array_spelled : (at size token n : ℕ) → IsSpelled (placed at size (ops.NewArray token)) → n < 2 ^ 32 → IsSpelled (placed at size (ops.NewArray n))
unfolding short_form object_form
array_spelled at size token n is small =
    (0x8d ∷ little_bytes 4 n, record { size = (spelling (placed at size (ops.NewArray token)) is).spells.size; row = inl (0x8d, omega arith, (n, small, refl, refl)) })

address_spelled : (at size token n : ℕ) → IsSpelled (placed at size (ops.LoadAddr token)) → n < 2 ^ 32 → IsSpelled (placed at size (ops.LoadAddr n))
unfolding short_form object_form
address_spelled at size token n is small =
    (0x8f ∷ little_bytes 4 n, record { size = (spelling (placed at size (ops.LoadAddr token)) is).spells.size; row = inl (0x8f, omega arith, (n, small, refl, refl)) })

spelled_from : (at : ℕ) (is : List Instr) (code : List ℕ) → CodeFrom at is code → AllByRecursion IsSpelled is × (spelled_code is ≡ code)
spelled_from at [] code h = (tt, sym h)
spelled_from at (i ∷ is) code (place, (bytes, rest, spells, parts, others)) =
    let behind = spelled_from (at + i.size) is rest others in
    (((bytes, spells), behind.0), ap₂ (λ (xs ys : List ℕ). xs ++ ys) (sym ((spelling i (bytes, spells)).only bytes spells)) behind.1 ∙ sym parts)

-- Instructions that are decoded from code are so from their own spellings.
pub own_code : (is : List Instr) → ((code : List ℕ) × CodeOf is code) → CodeOf is (spelled_code is)
own_code is (code, of_code) = subst (CodeOf is) (sym (spelled_from 0 is code of_code.spelled).1) of_code

pub each_spelled : (is : List Instr) → ((code : List ℕ) × CodeOf is code) → All IsSpelled is
each_spelled is (code, of_code) = all_by_index IsSpelled is (spelled_from 0 is code of_code.spelled).0

module _ (meaning : Meaning) (callees : List ℕ) where
  -- What is so of an operation and itself, and of these four with whatever number, is so of an operation and the
  -- numbered one.
  by_op : (P : Op → Op → Type 0) → ((token : ℕ) → P (ops.Call token) (ops.Call (call_number callees (meaning.call token)))) → ((token : ℕ) → P (ops.NewArray token) (ops.NewArray (array_number (meaning.element token))))
      → ((token : ℕ) → P (ops.LoadAddr token) (ops.LoadAddr (array_number (meaning.element token)))) → ((token : ℕ) → P (ops.Text token) (ops.Text 0)) → ((op : Op) → P op op)
      → (op : Op) → P op (numbered_op meaning callees op)
  by_op P call array address text same ops.Nop = same ops.Nop
  by_op P call array address text same (ops.LoadArg n) = same (ops.LoadArg n)
  by_op P call array address text same (ops.StoreArg n) = same (ops.StoreArg n)
  by_op P call array address text same (ops.LoadLocal n) = same (ops.LoadLocal n)
  by_op P call array address text same (ops.StoreLocal n) = same (ops.StoreLocal n)
  by_op P call array address text same ops.Null = same ops.Null
  by_op P call array address text same (ops.Const n) = same (ops.Const n)
  by_op P call array address text same ops.Dup = same ops.Dup
  by_op P call array address text same ops.Pop = same ops.Pop
  by_op P call array address text same (ops.Call token) = call token
  by_op P call array address text same ops.Return = same ops.Return
  by_op P call array address text same (ops.Branch test target) = same (ops.Branch test target)
  by_op P call array address text same (ops.Switch targets) = same (ops.Switch targets)
  by_op P call array address text same (ops.Bin operator) = same (ops.Bin operator)
  by_op P call array address text same ops.Neg = same ops.Neg
  by_op P call array address text same ops.Not = same ops.Not
  by_op P call array address text same ops.ConvI4 = same ops.ConvI4
  by_op P call array address text same (ops.Text token) = text token
  by_op P call array address text same (ops.NewArray token) = array token
  by_op P call array address text same ops.Length = same ops.Length
  by_op P call array address text same (ops.LoadElem place) = same (ops.LoadElem place)
  by_op P call array address text same (ops.StoreElem place) = same (ops.StoreElem place)
  by_op P call array address text same (ops.LoadAddr token) = address token
  by_op P call array address text same (ops.LoadInd place) = same (ops.LoadInd place)
  by_op P call array address text same (ops.StoreInd place) = same (ops.StoreInd place)

  same_targets : (op : Op) → branch_targets (numbered_op meaning callees op) ≡ branch_targets op
  same_targets op = by_op (λ before after. branch_targets after ≡ branch_targets before) (λ token. refl) (λ token. refl) (λ token. refl) (λ token. refl) (λ op. refl) op

  module _ (small : HasSmallNumbers meaning) (few : length callees + 100 < 2 ^ 32) where
    numbered_spelled : (i : Instr) → IsSpelled i → IsSpelled (numbered_instr meaning callees i)
    numbered_spelled i is =
        by_op (λ before after. IsSpelled (placed i.at i.size before) → IsSpelled (placed i.at i.size after))
        (λ token h. call_spelled i.at i.size token _ h (call_small callees (meaning.call token) (small token) few))
        (λ token h. array_spelled i.at i.size token _ h (array_small (meaning.element token)))
        (λ token h. address_spelled i.at i.size token _ h (array_small (meaning.element token)))
        (λ token h. text_spelled i.at i.size token 0 h (omega arith))
        (λ op h. h)
        i.op is

    -- ---- code

    -- The numbered instructions are spelled in their order, in as many bytes.
    pub numbered_from : (at : ℕ) (is : List Instr) (code : List ℕ) → CodeFrom at is code
        → CodeFrom at (map (numbered_instr meaning callees) is) (spelled_code (map (numbered_instr meaning callees) is))
        × (length (spelled_code (map (numbered_instr meaning callees) is)) ≡ length code)
    numbered_from at [] code h = (refl, ap length (sym h))
    numbered_from at (i ∷ is) code (place, (bytes, rest, spells, parts, others)) =
        let j = numbered_instr meaning callees i in
        let behind = numbered_from (at + i.size) is rest others in
        let spells' = (spelling j (numbered_spelled i (bytes, spells))).spells in
        let long : length code ≡ length bytes + length rest = ap length parts ∙ length-append bytes rest in
        let first : length (spelled j) ≡ length bytes = sym spells'.size ∙ spells.size in
        let later = spelled_code (map (numbered_instr meaning callees) is) in (
          (place, (spelled j, later, spells', refl, behind.0)),
          omega (arith, long, first, behind.1, length-append (spelled j) later),
        )

  same_begins : (is : List Instr) (at : ℕ) → begins_at (map (numbered_instr meaning callees) is) at ≡ begins_at is at
  same_begins [] at = refl
  same_begins (i ∷ is) at = ap (λ (b : Bool). i.at == at || b) (same_begins is at)

  meets_starts : (is : List Instr) (i : Instr) → MeetsStarts is i → MeetsStarts (map (numbered_instr meaning callees) is) (numbered_instr meaning callees i)
  meets_starts is i meets =
      subst (λ targets. AllByRecursion (λ target. begins_at (map (numbered_instr meaning callees) is) target ≡ true) targets) (sym (same_targets i.op))
      (subst (λ (begins : ℕ → Bool). AllByRecursion (λ target. begins target ≡ true) (branch_targets i.op)) (sym (fun_ext (same_begins is))) meets)

  all_meet : (is some : List Instr) → AllByRecursion (MeetsStarts is) some
      → AllByRecursion (MeetsStarts (map (numbered_instr meaning callees) is)) (map (numbered_instr meaning callees) some)
  all_meet is [] all = tt
  all_meet is (i ∷ some) all = (meets_starts is i all.0, all_meet is some all.1)

  all_inside : (most : ℕ) (is : List Instr) → AllByRecursion (λ i. i.at ≤ most) is → AllByRecursion (λ i. i.at ≤ most) (map (numbered_instr meaning callees) is)
  all_inside most [] all = tt
  all_inside most (i ∷ is) all = (all.0, all_inside most is all.1)

  -- What decoding tells of code it tells of the numbered code.
  pub numbered_decoded : (is : List Instr) (code : List ℕ) → HasSmallNumbers meaning → length callees + 100 < 2 ^ 32 → IsShort code → is ≡ instructions_of code → CodeOf is code
      → AreDecodedAs code (map (numbered_instr meaning callees) is)
  numbered_decoded is code small few short are of_code =
      let js = map (numbered_instr meaning callees) is in
      let spelled = numbered_from small few 0 is code of_code.spelled in
      let of_spelled : CodeOf js (spelled_code js) = record { spelled = spelled.0; targets = all_meet is is of_code.targets } in
      record {
        spelled = of_spelled;
        long = spelled.1;
        short = code_is_short js (spelled_code js) of_spelled (subst (λ n. n ≤ 2147483647) (sym spelled.1) short);
        laid = code_lies js (spelled_code js) of_spelled;
        inside = all_inside (length code) is (subst (AllByRecursion (λ i. i.at ≤ length code)) (sym are) (code_instr_places code));
      }

-- Instructions with numbers of their own callees.
pub instrs_decoded : (meaning : Meaning) (code : List ℕ) (raw is : List Instr) → HasSmallNumbers meaning → IsShort code → raw ≡ instructions_of code → CodeOf raw code
    → is ≡ map (numbered_instr meaning (callees_of meaning raw)) raw → AreDecodedAs code is
instrs_decoded meaning code raw is small short are of_code numbers =
    subst (AreDecodedAs code) (sym numbers)
    (numbered_decoded meaning (callees_of meaning raw) raw code small (few_callees meaning raw code of_code short) short are of_code)
