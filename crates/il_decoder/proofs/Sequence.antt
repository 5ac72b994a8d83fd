-- What is decoded without a fault is what the code spells.
use Rattle.std.proofs.Common.{◌≡◌, ℕ, zero, suc, ◌+◌, ◌≤◌, List, [], ◌∷◌, ◌++◌, length, map, drop, true, Result, Ok, Err, None, refl, sym, ap, ◌∙◌, arith, inl, inr, length-drop, Fits, w8, ◌↔◌}
use Rattle.std.specs.Prelude.{IfOk, slice_index}
use Rattle.std.specs.List.{AllByRecursion, list_all}
use Rattle.std.proofs.lemmas.Bool.{cases_lt, and_parts}
use Rattle.std.proofs.lemmas.List.{drop_all, drop_at, drop-drop}
use Rattle.cc_base.specs.LittleEndian.{IsBytes}
use Rattle.cc_base.specs.Tests.{first_of, JudgesOrNoMemory, GivesOnly}
use Rattle.cc_base.specs.declared.refusal.Refusal.{Refusal}
use Rattle.cc_base.specs.declared.refusal.Refusal.TheVariants.{Bad, NoMemory}
use Rattle.cc_base.proofs.ByteLemmas.{IsBytes-from_fits}
use Rattle.cc_base.proofs.TestLemmas.{ArePassed, must_hold, none_failed, passed-append}
use Rattle.cil_model.specs.Blocks.{branch_targets}
use Rattle.cil_model.specs.Code.{CodeFrom, CodeOf, MeetsStarts, begins_at}
use Rattle.cil_model.specs.declared.instruction.Instr.{Instr}
use Rattle.il_decoder.specs.declared.fault.IlFault.{IlFault}
use Rattle.il_decoder.specs.declared.fault.IlFault.TheVariants.{Target}
use Rattle.il_decoder.specs.Decodes.{StandsIn}
use Rattle.il_decoder.specs.Decoding.{decoded, offset_behind, decodings, all_decodings, decoding_test, decoding_tests, instructions, instructions_of, target_test, target_tests, code_tests}
use Rattle.il_decoder.proofs.Decoded.{decoded_found, decoded_only, stands_reaches}
use Rattle.il_decoder.proofs.Reading.{decodings-more, decodings-end, one_more}

-- These were decoded without a fault.
abbrev pub AreFound : List (Result Instr IlFault) → Type 0
AreFound found = ArePassed (map decoding_test found)

-- Behind an instruction the rest of the code stands.
rest_there : (code bytes rest : List ℕ) (at size : ℕ) → drop at code ≡ bytes ++ rest → size ≡ length bytes → rest ≡ drop (at + size) code
rest_there code bytes rest at size there e =
    let both : drop size (drop at code) ≡ rest = ap (drop size) there ∙ drop_at bytes rest size (sym e) in
    sym both ∙ drop-drop size at code

-- ---- what is decoded is spelled so

pub spelled_more : (code : List ℕ) (at : ℕ) (i : Instr) (others : List Instr) → i.at ≡ at → StandsIn i code
    → CodeFrom (at + i.size) others (drop (at + i.size) code)
    → CodeFrom at (i ∷ others) (drop at code)
spelled_more code at i others place there behind =
    let here : drop at code ≡ there.0 ++ there.1 = ap (λ (k : ℕ). drop k code) (sym place) ∙ there.3 in
    let rest : there.1 ≡ drop (at + i.size) code = rest_there code there.0 there.1 at i.size here there.2.size in
    (place, (there.0, there.1, there.2, here, rw rest behind))

spelled_step : (most : ℕ) (code : List ℕ) (at : ℕ) (r : Result Instr IlFault) → IsBytes code → decoded code at ≡ r → length code ≤ at + suc most
    → ((next : ℕ) → length code ≤ next + most → AreFound (decodings most code next)
    → CodeFrom next (instructions (decodings most code next)) (drop next code))
    → AreFound (r ∷ decodings most code (offset_behind code at r))
    → CodeFrom at (instructions (r ∷ decodings most code (offset_behind code at r))) (drop at code)
spelled_step most code at (Ok i) fits found enough later passed =
    let there = decoded_found code at i fits found in
    let reach = stands_reaches i code there.1 in
    spelled_more code at i _ there.0 there.1 (later (at + i.size) (omega (arith, reach.some)) passed.1)
spelled_step most code at (Err fault) fits found enough later passed = absurd (let failed = passed.0 in cc)

pub decodings_spell : (most : ℕ) (code : List ℕ) → IsBytes code → (at : ℕ) → length code ≤ at + most → AreFound (decodings most code at)
    → CodeFrom at (instructions (decodings most code at)) (drop at code)
decodings_spell zero code fits at enough passed = rw (decodings-end 0 code at (omega arith)) (drop_all at code (omega arith))
decodings_spell (suc most) code fits at enough passed =
    elim (cases_lt at (length code)) [
      | inl inside ↦
          let here = decodings-more most code at inside in
          rw here (spelled_step most code at (decoded code at) fits refl enough (decodings_spell most code fits) (rw here at passed))
      | inr past ↦ rw (decodings-end (suc most) code at past) (drop_all at code past)
    ]

-- ---- what is spelled so is decoded

pub nothing_there : (code : List ℕ) (at : ℕ) → drop at code ≡ [] → length code ≤ at
nothing_there code at e = omega (arith, ap length e, length-drop at code)

-- The first of some instructions that the code spells stands there, and the others after it.
pub first_stands : (code : List ℕ) (at : ℕ) (i : Instr) (is : List Instr) → CodeFrom at (i ∷ is) (drop at code)
    → (i.at ≡ at) × (StandsIn i code × CodeFrom (at + i.size) is (drop (at + i.size) code))
first_stands code at i is (place, (bytes, rest, spells, there, behind)) =
    (place, ((bytes, rest, spells, rw place there), rw (← rest_there code bytes rest at i.size there spells.size) behind))

-- These instructions are all that is decoded, and without a fault.
abbrev pub IsAll : List Instr → List (Result Instr IlFault) → Type 0
IsAll is found = AreFound found × (instructions found ≡ is)

pub spelled_decodings : (most : ℕ) (code : List ℕ) (at : ℕ) (is : List Instr) → length code ≤ at + most → CodeFrom at is (drop at code)
    → IsAll is (decodings most code at)
spelled_decodings most code at [] enough spelled = rw (decodings-end most code at (nothing_there code at spelled)) (tt, refl)
spelled_decodings zero code at (i ∷ is) enough spelled =
    let first = first_stands code at i is spelled in
    let reach = stands_reaches i code first.1.0 in
    absurd (omega (arith, reach.some, reach.inside, first.0))
spelled_decodings (suc most) code at (i ∷ is) enough spelled =
    let first = first_stands code at i is spelled in
    let reach = stands_reaches i code first.1.0 in
    let later = spelled_decodings most code (at + i.size) is (omega (arith, reach.some)) first.1.1 in
    let here = one_more most code at i (omega (arith, reach.some, reach.inside, first.0)) (decoded_only code at i first.0 first.1.0) in
    rw here ((refl, later.0), ap (λ others. i ∷ others) later.1)

-- ---- targets

each_begins : (instrs : List Instr) (targets : List ℕ)
    → (list_all (begins_at instrs) targets ≡ true) ↔ AllByRecursion (λ target. begins_at instrs target ≡ true) targets
each_begins instrs [] = (λ all. tt, λ all. refl)
each_begins instrs (target ∷ targets) =
    let others = each_begins instrs targets in
    (λ all. let both = and_parts _ _ all in (both.0, others.0 both.1), λ all. rw (all.0, others.1 all.1) refl)

pub tests_meet : (all instrs : List Instr) → ArePassed (map (target_test all) instrs) ↔ AllByRecursion (MeetsStarts all) instrs
tests_meet all [] = (λ passed. tt, λ meet. tt)
tests_meet all (i ∷ instrs) =
    let here = each_begins all (branch_targets i.op) in
    let test = must_hold (list_all (begins_at all) (branch_targets i.op)) (Target i.at) in
    let others = tests_meet all instrs in
    (λ passed. (here.0 (test.0 passed.0), others.0 passed.1), λ meet. (test.1 (here.1 meet.0), others.1 meet.1))

-- ---- the whole code

module _ (code : List ℕ) where
  tests_of_code : (first_of (code_tests code) ≡ None) ↔ (AreFound (all_decodings code) × ArePassed (map (target_test (instructions_of code)) (instructions_of code)))
  unfolding code_tests decoding_tests target_tests
  tests_of_code =
      let none = none_failed (code_tests code) in
      let both = passed-append (decoding_tests code) (target_tests (instructions_of code)) in
      (λ e. both.0 (none.0 e), λ passed. none.1 (both.1 passed))

  pub code_found : IsBytes code → first_of (code_tests code) ≡ None → CodeOf (instructions_of code) code
  unfolding instructions_of all_decodings
  code_found fits none =
      let passed = tests_of_code.0 none in
      record {
        spelled = decodings_spell (length code) code fits 0 (omega arith) passed.0;
        targets = (tests_meet (instructions_of code) (instructions_of code)).0 passed.1;
      }

  pub code_only : (instrs : List Instr) → CodeOf instrs code → (first_of (code_tests code) ≡ None) × (instructions_of code ≡ instrs)
  unfolding instructions_of all_decodings
  code_only instrs is =
      let all = spelled_decodings (length code) code 0 instrs (omega arith) is.spelled in
      let meet = (tests_meet instrs instrs).1 is.targets in
      (tests_of_code.1 (all.0, rw all.1 meet), all.1)

  module _ {X : Type 0} (items : X → List Instr) where
    pub answer_code : (r : Result X (Refusal IlFault)) → ((i : ℕ) → Fits w8 (slice_index code i))
        → JudgesOrNoMemory r (first_of (code_tests code)) (λ x. items x ≡ instructions_of code)
        → IfOk r (λ x. CodeOf (items x) code)
    answer_code (Ok x) fits judged = rw judged.1 (code_found (IsBytes-from_fits code fits) judged.0)
    answer_code (Err refusal) fits judged = tt

    pub answer_only_code : (r : Result X (Refusal IlFault)) → JudgesOrNoMemory r (first_of (code_tests code)) (λ x. items x ≡ instructions_of code)
        → (instrs : List Instr) → CodeOf instrs code → GivesOnly r (λ x. items x ≡ instrs)
    answer_only_code (Ok x) judged instrs is = judged.1 ∙ (code_only instrs is).1
    answer_only_code (Err (Bad fault)) judged instrs is = let none = (code_only instrs is).0 in absurd (cc)
    answer_only_code (Err NoMemory) judged instrs is = tt
