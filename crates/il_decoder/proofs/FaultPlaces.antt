-- Where the first fault of code stands: at an IL offset of it.
use Rattle.std.proofs.Common.{◌≡◌, ℕ, zero, suc, ◌+◌, ◌*◌, ◌≤◌, List, [], ◌∷◌, length, map, drop, eqb, leb, Option, Some, None, Result, Ok, Err, refl, arith}
use Rattle.std.specs.List.{AllByRecursion, list_all}
use Rattle.std.proofs.lemmas.Bool.{cond_both, leb-false}
use Rattle.std.proofs.lemmas.Option.{none-some, same_Some}
use Rattle.byteorder.specs.Endian.{little_number}
use Rattle.cc_base.specs.Tests.{first_of}
use Rattle.cil_model.specs.Blocks.{branch_targets}
use Rattle.cil_model.specs.Code.{begins_at}
use Rattle.cil_model.specs.Opcodes.{Form, short_form, long_form}
use Rattle.cil_model.specs.declared.instruction.Instr.{Instr}
use Rattle.cil_model.proofs.Lists.{all_append}
use Rattle.il_decoder.specs.Decoding.{Operation, all_decodings, by_form, code_tests, decoded, decoding_test, decoding_tests, decodings, instructions, instructions_of, offset_behind, operation, placed, switch, switch_of, target_test, target_tests, two_byte}
use Rattle.il_decoder.specs.Faults.{fault_at}
use Rattle.il_decoder.specs.declared.fault.IlFault.{IlFault}
use Rattle.il_decoder.specs.declared.fault.IlFault.TheVariants.{Short, Target}

-- ---- one instruction

-- What is wrong is wrong at this IL offset.
abbrev FailsAt : ℕ → Result Operation IlFault → Type 0
FailsAt at (Ok found) = Unit {0}
FailsAt at (Err fault) = fault_at fault ≡ at

by_form_at : (at size number : ℕ) (form : Option Form) (rest : List ℕ) → FailsAt at (by_form at size number form rest)
by_form_at at size number None rest = refl
by_form_at at size number (Some (width, meaning)) rest =
    cond_both (leb width (length rest)) (Ok (meaning (at + (size + width)) (little_number width rest), size + width)) (Err (Short at)) (FailsAt at) (λ t. tt) (λ t. refl)

two_byte_at : (at : ℕ) (rest : List ℕ) → FailsAt at (two_byte at rest)
unfolding two_byte
two_byte_at at [] = refl
two_byte_at at (b ∷ rest) = by_form_at at 2 (0xfe00 + b) (long_form b) rest

switch_at : (at : ℕ) (rest : List ℕ) → FailsAt at (switch at rest)
unfolding switch switch_of
switch_at at rest =
    cond_both (leb 4 (length rest)) _ (Err (Short at)) (FailsAt at) (λ t. cond_both (leb (4 * little_number 4 rest) (length (drop 4 rest))) _ (Err (Short at)) (FailsAt at) (λ u. tt) (λ u. refl))
    (λ t. refl)

operation_at : (at : ℕ) (rest : List ℕ) → FailsAt at (operation at rest)
unfolding operation
operation_at at [] = refl
operation_at at (b ∷ rest) =
    cond_both (eqb b 0xfe) (two_byte at rest) _ (FailsAt at) (λ t. two_byte_at at rest)
    (λ t. cond_both (eqb b 0x45) (switch at rest) (by_form at 1 b (short_form b) rest) (FailsAt at) (λ u. switch_at at rest) (λ u. by_form_at at 1 b (short_form b) rest))

-- ---- all that is decoded

module _ (most : ℕ) where
  -- What was decoded or is wrong stands no further than here.
  abbrev DecodedWithin : Result Instr IlFault → Type 0
  DecodedWithin (Ok i) = i.at ≤ most
  DecodedWithin (Err fault) = fault_at fault ≤ most

  placed_within : (at : ℕ) (answer : Result Operation IlFault) → FailsAt at answer → at ≤ most → DecodedWithin (placed at answer)
  placed_within at (Ok (op, size)) fails le = le
  placed_within at (Err fault) fails le = omega (arith, fails, le)

  decoded_within : (code : List ℕ) (at : ℕ) → at ≤ most → DecodedWithin (decoded code at)
  unfolding decoded
  decoded_within code at le = placed_within at (operation at (drop at code)) (operation_at at (drop at code)) le

  -- The test is passed, or its fault stands no further than here.
  abbrev TestWithin : Option IlFault → Type 0
  TestWithin None = Unit {0}
  TestWithin (Some fault) = fault_at fault ≤ most

  first_within : (tests : List (Option IlFault)) (fault : IlFault) → AllByRecursion TestWithin tests → first_of tests ≡ Some fault → fault_at fault ≤ most
  unfolding first_of
  first_within [] fault all first = absurd (none-some fault first)
  first_within (None ∷ tests) fault all first = first_within tests fault all.1 first
  first_within (Some other ∷ tests) fault all first = rw (← same_Some other fault first) all.0

  decodings_within : (times : ℕ) (code : List ℕ) (at : ℕ) → length code ≤ most → AllByRecursion DecodedWithin (decodings times code at)
  unfolding decodings
  decodings_within zero code at le = tt
  decodings_within (suc times) code at le =
      cond_both (leb (length code) at) [] (decoded code at ∷ decodings times code (offset_behind code at (decoded code at))) (AllByRecursion DecodedWithin) (λ t. tt)
      (λ t. (decoded_within code at (omega (arith, leb-false (length code) at t, le)), decodings_within times code (offset_behind code at (decoded code at)) le))

  test_within : (answer : Result Instr IlFault) → DecodedWithin answer → TestWithin (decoding_test answer)
  test_within (Ok i) within = tt
  test_within (Err fault) within = within

  tests_within : (answers : List (Result Instr IlFault)) → AllByRecursion DecodedWithin answers → AllByRecursion TestWithin (map decoding_test answers)
  tests_within [] all = tt
  tests_within (answer ∷ answers) all = (test_within answer all.0, tests_within answers all.1)

  found_within : (answers : List (Result Instr IlFault)) → AllByRecursion DecodedWithin answers → AllByRecursion (λ i. i.at ≤ most) (instructions answers)
  found_within [] all = tt
  found_within (Ok i ∷ answers) all = (all.0, found_within answers all.1)
  found_within (Err fault ∷ answers) all = found_within answers all.1

  targets_within : (all is : List Instr) → AllByRecursion (λ i. i.at ≤ most) is → AllByRecursion TestWithin (map (target_test all) is)
  targets_within all [] within = tt
  targets_within all (i ∷ is) within =
      (cond_both (list_all (begins_at all) (branch_targets i.op)) None (Some (Target i.at)) TestWithin (λ t. tt) (λ t. within.0), targets_within all is within.1)

-- ---- the whole code

-- The instructions of code stand in it.
pub code_instr_places : (code : List ℕ) → AllByRecursion (λ i. i.at ≤ length code) (instructions_of code)
unfolding instructions_of all_decodings
code_instr_places code = found_within (length code) (decodings (length code) code 0) (decodings_within (length code) (length code) code 0 (omega arith))

-- The first fault of code stands in it.
pub code_fault_place : (code : List ℕ) (fault : IlFault) → first_of (code_tests code) ≡ Some fault → fault_at fault ≤ length code
unfolding code_tests decoding_tests target_tests all_decodings
code_fault_place code fault first =
    let all = decodings_within (length code) (length code) code 0 (omega arith) in
    first_within (length code) (code_tests code) fault
    (all_append (TestWithin (length code)) (decoding_tests code) (target_tests (instructions_of code)) (tests_within (length code) (decodings (length code) code 0) all)
    (targets_within (length code) (instructions_of code) (instructions_of code) (code_instr_places code)))
    first
