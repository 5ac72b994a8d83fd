-- Where instructions begin: a search among offsets that rise.
use Rattle.std.proofs.Common.{◌≡◌, ℕ, zero, suc, ◌+◌, ◌<◌, ◌≤◌, List, [], ◌∷◌, length, map, drop, get_or, true, false, Result, Ok, Err, is_ok, Option, None, Some, refl, sym, ap, ◌∙◌, arith, inl, inr}
use Rattle.std.specs.List.{list_all}
use Rattle.std.specs.List.Sorted.{IsSearchInRange, IsBinarySearchResult, IsNonDecreasingBy}
use Rattle.std.specs.Ordering.{nat_cmp, ordering_index}
use Rattle.std.proofs.lemmas.Bool.{ne_eqb, cases_lt}
use Rattle.std.proofs.lemmas.Cmp.{ranked}
use Rattle.std.proofs.lemmas.Bool.Decides.{nat_tests}
use Rattle.std.proofs.lemmas.List.{drop_all}
use Rattle.std.proofs.Math.Seq.{drop-cons}
use Rattle.cc_base.specs.Tests.{first_of}
use Rattle.cc_base.proofs.TestLemmas.{first_of-nil, must-passed, must-failed}
use Rattle.cil_model.specs.Blocks.{branch_targets}
use Rattle.cil_model.specs.Code.{begins_at}
use Rattle.cil_model.specs.declared.instruction.Instr.{Instr}
use Rattle.il_decoder.specs.declared.fault.IlFault.{IlFault}
use Rattle.il_decoder.specs.declared.fault.IlFault.TheVariants.{Target}
use Rattle.il_decoder.specs.Decoding.{target_test, target_tests}

-- The instruction at an index begins where it begins.
begins-there : (instrs : List Instr) (at k : ℕ) → k < length instrs → ((d : Instr) → (get_or instrs k d).at ≡ at) → begins_at instrs at ≡ true
begins-there [] at k inside there = absurd (omega arith)
begins-there (i ∷ instrs) at zero inside there = let here : i.at ≡ at = there i in rw here (grind arith)
begins-there (i ∷ instrs) at (suc k) inside there = rw (begins-there instrs at k (omega arith) there) (grind arith)

-- None begins where none does.
begins-nowhere : (instrs : List Instr) (at : ℕ) → ((k : ℕ) (d : Instr) → k < length instrs → (get_or instrs k d).at ≡ at → ⊥)
    → begins_at instrs at ≡ false
begins-nowhere [] at none = refl
begins-nowhere (i ∷ instrs) at none =
    rw (ne_eqb i.at at (λ e. none 0 i (omega arith) e), begins-nowhere instrs at (λ k d inside e. none (suc k) d (omega arith) e)) refl

module _ (instrs : List Instr) (rise : IsNonDecreasingBy (λ i. i.at) instrs) (at : ℕ) where
  -- The comparisons with an offset rise along the instructions.
  comparisons_rise : IsNonDecreasingBy (λ i. ordering_index (nat_cmp i.at at)) instrs
  comparisons_rise i j d le inside = let keys = rise i j d le inside in grind (arith, nat_tests)

  pub searched : (r : Result ℕ ℕ) → IsSearchInRange r (length instrs) → IsBinarySearchResult (λ i. nat_cmp i.at at) instrs r
      → is_ok r ≡ begins_at instrs at
  searched (Ok k) inside equal = sym (begins-there instrs at k inside (λ d. ranked _ at _ (sym (equal d))))
  searched (Err k) inside parted =
      let parts = parted comparisons_rise in
      sym (begins-nowhere instrs at (λ j d below e.
      elim (cases_lt j k) [
        | inl before ↦ let less : (get_or instrs j d).at < at = ranked _ at _ (sym (parts.0 j d (omega arith) before)) in omega arith
        | inr behind ↦ let greater : at < (get_or instrs j d).at = ranked _ at _ (sym (parts.1 j d behind below)) in omega arith
      ]))

-- ---- the tests of targets, one after another

-- The tests that are left before an instruction.
left_before : (all instrs : List Instr) (k : ℕ) (i : Instr) → k < length instrs → i ≡ get_or instrs k i
    → map (target_test all) (drop k instrs) ≡ target_test all i ∷ map (target_test all) (drop (k + 1) instrs)
left_before all instrs k i inside is =
    let next : k + 1 ≡ suc k = omega arith in
    ap (map (target_test all)) (drop-cons instrs k i inside) ∙ rw (next, ← is) refl

pub targets-start : (instrs : List Instr) → first_of (map (target_test instrs) (drop 0 instrs)) ≡ first_of (target_tests instrs)
unfolding target_tests
targets-start instrs = refl

pub targets-next : (instrs : List Instr) (k : ℕ) (i : Instr) (all : Option IlFault) → k < length instrs → i ≡ get_or instrs k i
    → list_all (begins_at instrs) (branch_targets i.op) ≡ true
    → first_of (map (target_test instrs) (drop k instrs)) ≡ all → first_of (map (target_test instrs) (drop (k + 1) instrs)) ≡ all
targets-next instrs k i all inside is met so_far =
    sym (must-passed _ (Target i.at) (map (target_test instrs) (drop (k + 1) instrs)) met)
    ∙ ap first_of (sym (left_before instrs instrs k i inside is)) ∙ so_far

pub targets-stop : (instrs : List Instr) (k : ℕ) (i : Instr) (all : Option IlFault) → k < length instrs → i ≡ get_or instrs k i
    → list_all (begins_at instrs) (branch_targets i.op) ≡ false
    → first_of (map (target_test instrs) (drop k instrs)) ≡ all → all ≡ Some (Target i.at)
targets-stop instrs k i all inside is missed so_far =
    sym so_far ∙ ap first_of (left_before instrs instrs k i inside is)
    ∙ must-failed _ (Target i.at) (map (target_test instrs) (drop (k + 1) instrs)) missed

pub targets-end : (instrs : List Instr) (k : ℕ) (all : Option IlFault) → length instrs ≤ k → first_of (map (target_test instrs) (drop k instrs)) ≡ all
    → all ≡ None
targets-end instrs k all past so_far = sym so_far ∙ ap (λ is. first_of (map (target_test instrs) is)) (drop_all k instrs past) ∙ first_of-nil

pub ruleset target_by_target = (targets-start, targets-next, targets-stop, targets-end)
