-- States: what is read is spelled, and what is spelled is read.
use Rattle.std.proofs.Common.{◌≡◌, ℕ, ◌≤◌, Bool, true, false, List, [], ◌++◌, length, drop, None}
use Rattle.std.proofs.Common.{refl, sym, ap, ◌∙◌, arith, append-nil, length-drop}
use Rattle.std.proofs.lemmas.Bool.{leb-true, le-leb}
use Rattle.std.proofs.lemmas.List.{drop_all}
use Rattle.abs_state.specs.StateParts.{StateParts, nothing_listed}
use Rattle.cc_base.specs.LittleEndian.{IsBytes}
use Rattle.cc_base.specs.Tests.{first_of}
use Rattle.cc_base.proofs.TestLemmas.{first_of-append_none, none_before, none_behind, none_here}
use Rattle.invariant_codec.specs.Formats.{each, only}
use Rattle.invariant_codec.specs.Numbers.{flag, number, ranges}
use Rattle.invariant_codec.specs.Segments.{arrays}
use Rattle.invariant_codec.specs.States.{arrays_in, known, known_where, reached_parts, state, states, states_file}
use Rattle.invariant_codec.specs.Symbols.{definitions, pairs, rows, variables}
use Rattle.invariant_codec.proofs.FormatLaws.{IsExact, choice_exact, counted_exact, each_exact, holds, last_exact}
use Rattle.invariant_codec.proofs.FormatLaws.{one_test, only_exact, part_exact}
use Rattle.invariant_codec.proofs.NumberLaws.{flag_exact, number_exact, ranges_exact}
use Rattle.invariant_codec.proofs.SegmentLaws.{arrays_exact, contents_again}
use Rattle.invariant_codec.proofs.SymbolLaws.{definitions_exact, pairs_exact, rows_exact, variables_exact}

pub known_exact : (bytes : List ℕ) → IsBytes bytes → IsExact bytes known
unfolding known
known_exact bytes fits =
    part_exact bytes (λ p. p.ranges) ranges _ (ranges_exact bytes fits) (λ rs.
    part_exact bytes arrays_in (arrays (length rs)) _ (arrays_exact bytes (length rs) fits) (λ all.
    part_exact bytes (λ p. p.variables) (variables (length rs) (length all)) _
    (variables_exact bytes (length rs) (length all) fits) (λ vs.
    part_exact bytes (λ p. p.bounds) (rows (length rs)) _ (rows_exact bytes (length rs) fits) (λ bounds.
    part_exact bytes (λ p. p.definitions) (definitions (length rs) (length all)) _
    (definitions_exact bytes (length rs) (length all) fits) (λ defs.
    last_exact bytes (λ p. p.apart) (reached_parts rs all vs bounds defs) (pairs (length all))
    (pairs_exact bytes (length all) fits) (λ apart _. refl))
    (λ defs p _ spelled. ap (λ (p : StateParts). p.definitions) spelled.1))
    (λ bounds p _ spelled. ap (λ (p : StateParts). p.bounds) spelled.1.1))
    (λ vs p _ spelled. ap (λ (p : StateParts). p.variables) spelled.1.1.1))
    (λ all p _ spelled. ap (λ (p : StateParts). arrays_in p) spelled.1.1.1.1 ∙ contents_again all))
    (λ rs p _ spelled. ap (λ (p : StateParts). p.ranges) spelled.1.1.1.1.1)

reached_same : (reached : Bool) (p : StateParts) → (known_where reached).IsSpelled p → p.reached ≡ reached
unfolding known
reached_same true p spelled = ap (λ (p : StateParts). p.reached) spelled.1.1.1.1.1.1
reached_same false p spelled = ap (λ (p : StateParts). p.reached) spelled

pub state_exact : (bytes : List ℕ) → IsBytes bytes → IsExact bytes state
unfolding state
state_exact bytes fits =
    part_exact bytes (λ p. p.reached) flag known_where (flag_exact bytes fits)
    (λ reached. choice_exact bytes reached known (only nothing_listed) (known_exact bytes fits)
    (only_exact bytes nothing_listed))
    (λ reached p _ spelled. reached_same reached p spelled)

pub states_exact : (bytes : List ℕ) → IsBytes bytes → IsExact bytes states
unfolding states
states_exact bytes fits = counted_exact bytes (number 2) (each state) (number_exact bytes 2 fits (omega arith))
    (λ n. each_exact bytes state n (state_exact bytes fits)) (λ n xs spelled. spelled.0)

-- ---- whole files

pub record FileTaken (bytes : List ℕ) : Type 0 where
  pub spelled : states.spell (states_file bytes).value ≡ bytes
  pub good : states.IsSpelled (states_file bytes).value

pub file_taken : (bytes : List ℕ) → IsBytes bytes → first_of (states_file bytes).tests ≡ None → FileTaken bytes
unfolding states_file
file_taken bytes fits passed =
    let it = states.read bytes 0 in
    let taken = (states_exact bytes fits).taken 0 (none_before it.tests _ passed) in
    let ends = leb-true _ _ (holds _ _ (none_here _ [] (none_behind it.tests _ passed))) in
    let nothing : drop it.next bytes ≡ [] = drop_all it.next bytes ends in
    record {
      spelled = sym (taken.there ∙ ap (λ (t : List ℕ). states.spell it.value ++ t) nothing
          ∙ append-nil (states.spell it.value));
      good = taken.spelled;
    }

pub record FileAgain (bytes : List ℕ) (parts : List StateParts) : Type 0 where
  pub passed : first_of (states_file bytes).tests ≡ None
  pub value : (states_file bytes).value ≡ parts

pub file_again : (bytes : List ℕ) (parts : List StateParts) → IsBytes bytes → states.IsSpelled parts
    → states.spell parts ≡ bytes → FileAgain bytes parts
unfolding states_file
file_again bytes parts fits good spelled =
    let it = states.read bytes 0 in
    let again = (states_exact bytes fits).again 0 parts [] (omega arith) good
    (sym spelled ∙ sym (append-nil (states.spell parts))) in
    let ends : length bytes ≤ it.next = omega (arith, ap length again.after, length-drop it.next bytes) in
    record {
      passed = first_of-append_none it.tests _ again.passed
          ∙ one_test _ _ (le-leb _ _ ends);
      value = again.value;
    }
