-- Instructions that are decoded one after another.
use Rattle.std.proofs.Common.{◌≡◌, ℕ, zero, suc, ◌+◌, ◌-◌, ◌<◌, ◌≤◌, List, [], ◌∷◌, ◌++◌, length, map, Result, Ok, Err, None, Some, refl, sym, ap, ◌∙◌, append_assoc, append-nil, length-append, arith}
use Rattle.std.specs.Prelude.{All, IsErrAnd, get_or}
use Rattle.std.specs.List.Sorted.{IsNonDecreasingBy}
use Rattle.std.proofs.lemmas.Bool.{le-leb, lt-leb}
use Rattle.std.proofs.lemmas.List.Elements.{All-push}
use Rattle.std.proofs.lemmas.List.Sorted.{IsNonDecreasingBy-short, IsNonDecreasingBy-push}
use Rattle.cc_base.specs.Tests.{first_of, JudgesOrNoMemory}
use Rattle.cc_base.proofs.TestLemmas.{first_of-nil, first_of-none, first_of-some}
use Rattle.cc_base.specs.declared.refusal.Refusal.{Refusal}
use Rattle.cc_base.specs.declared.refusal.Refusal.TheVariants.{Bad, NoMemory}
use Rattle.cil_model.specs.declared.instruction.Instr.{Instr}
use Rattle.il_decoder.specs.declared.fault.IlFault.{IlFault}
use Rattle.il_decoder.specs.Decodes.{Reaches, Gives}
use Rattle.il_decoder.specs.Decoding.{decoded, offset_behind, decodings, all_decodings, decoding_test, decoding_tests, instructions, instructions_of}

-- What is decoded before the end, and at it.

pub decodings-more : (most : ℕ) (code : List ℕ) (at : ℕ) → at < length code
    → decodings (suc most) code at ≡ decoded code at ∷ decodings most code (offset_behind code at (decoded code at))
unfolding decodings
decodings-more most code at inside = rw (lt-leb _ _ inside) refl

pub one_more : (most : ℕ) (code : List ℕ) (at : ℕ) (i : Instr) → at < length code → decoded code at ≡ Ok i
    → decodings (suc most) code at ≡ Ok i ∷ decodings most code (at + i.size)
one_more most code at i inside found = decodings-more most code at inside ∙ ap (λ d. d ∷ decodings most code (offset_behind code at d)) found

pub decodings-end : (most : ℕ) (code : List ℕ) (at : ℕ) → length code ≤ at → decodings most code at ≡ []
unfolding decodings
decodings-end zero code at past = refl
decodings-end (suc most) code at past = rw (le-leb _ _ past) refl

-- These instructions were read up to an IL offset of the code: they and those that are decoded from there
-- on are all, and the tests of those are left.
pub record AreRead (code : List ℕ) (read : List Instr) (at : ℕ) : Type 0 where
  pub inside : at ≤ length code
  pub few : length read ≤ at
  pub before : All (λ i. i.at < at) read
  pub rise : IsNonDecreasingBy (λ i. i.at) read
  pub tests : first_of (map decoding_test (decodings (length code - length read) code at)) ≡ first_of (decoding_tests code)
  pub whole : read ++ instructions (decodings (length code - length read) code at) ≡ instructions_of code

pub read-none : (code : List ℕ) (read : List Instr) → read ≡ [] → AreRead code read 0
unfolding decoding_tests instructions_of all_decodings
read-none code read none =
    let all : length code - 0 ≡ length code = omega arith in
    rw none (record {
      inside = omega arith;
      few = omega arith;
      before = λ k d h. absurd (omega arith);
      rise = IsNonDecreasingBy-short (λ (i : Instr). i.at) [] (omega arith);
      tests = rw all refl;
      whole = rw all refl;
    })

pub read-next : (code : List ℕ) (read more : List Instr) (at : ℕ) (i : Instr) → AreRead code read at → at < length code → more ≡ read ++ i ∷ []
    → decoded code at ≡ Ok i → i.at ≡ at → Reaches i code → AreRead code more (at + i.size)
read-next code read more at i so_far inside is found place reach =
    let few = so_far.few in
    let left : length code - length read ≡ suc (length code - (length read + 1)) = omega arith in
    let long : length (read ++ i ∷ []) ≡ length read + 1 = length-append read (i ∷ []) in
    let most = length code - (length read + 1) in
    let here : decodings (length code - length read) code at ≡ Ok i ∷ decodings most code (at + i.size) = rw left (one_more most code at i inside found) in
    let before = so_far.before in
    let some = reach.some in
    let last : (d : Instr) → 0 < length read → (get_or read (length read - 1) d).at ≤ i.at =
    λ d h. omega (arith, before (length read - 1) d (omega arith)) in
    rw is (record {
      inside = omega (arith, reach.inside, place);
      few = omega (arith, some, long);
      before = All-push (λ j. j.at < at + i.size) read i (λ k d h. omega (arith, before k d h)) (omega arith);
      rise = IsNonDecreasingBy-push (λ (j : Instr). j.at) read i so_far.rise last;
      tests = rw long (sym (ap (λ ds. first_of (map decoding_test ds)) here ∙ first_of-none _ _ refl) ∙ so_far.tests);
      whole = rw long (append_assoc read (i ∷ []) _ ∙ sym (ap (λ ds. read ++ instructions ds) here) ∙ so_far.whole);
    })

pub read-fault : (code : List ℕ) (read : List Instr) (at : ℕ) (fault : IlFault) → AreRead code read at → at < length code → decoded code at ≡ Err fault
    → first_of (decoding_tests code) ≡ Some fault
read-fault code read at fault so_far inside failed =
    let few = so_far.few in
    let left : length code - length read ≡ suc (length code - (length read + 1)) = omega arith in
    let rest = decodings (length code - (length read + 1)) code (offset_behind code at (decoded code at)) in
    let here : decodings (length code - length read) code at ≡ decoded code at ∷ rest = rw left (decodings-more (length code - (length read + 1)) code at inside) in
    sym so_far.tests ∙ ap (λ ds. first_of (map decoding_test ds)) here ∙ first_of-some _ _ fault (ap decoding_test failed)

-- A refusal at an IL offset is that of the whole.
pub read-refused : {X : Type 0} (r : Result X (Refusal IlFault)) (refusal : Refusal IlFault) (code : List ℕ) (read : List Instr) (at : ℕ)
    (P : X → Type 0) → IsErrAnd r (λ same. same ≡ refusal) → AreRead code read at → at < length code → Gives (Err refusal) (decoded code at)
    → JudgesOrNoMemory r (first_of (decoding_tests code)) P
read-refused (Ok x) refusal code read at P is so_far inside gives = elim is [ ]
read-refused (Err same) (Bad fault) code read at P is so_far inside gives = rw is (read-fault code read at fault so_far inside gives)
read-refused (Err same) NoMemory code read at P is so_far inside gives = rw is tt

pub read-all : (code : List ℕ) (read : List Instr) (at : ℕ) → AreRead code read at → length code ≤ at
    → (first_of (decoding_tests code) ≡ None) × (read ≡ instructions_of code)
read-all code read at so_far past =
    let none = decodings-end (length code - length read) code at past in (
      sym so_far.tests ∙ ap (λ ds. first_of (map decoding_test ds)) none ∙ first_of-nil,
      sym (append-nil read) ∙ sym (ap (λ ds. read ++ instructions ds) none) ∙ so_far.whole,
    )

pub ruleset one_by_one = (read-next, read-all)
