-- The tests of clauses by their old values are those of the machine.
use Rattle.std.proofs.Common.{◌≡◌, ℕ, ◌+◌, Bool, true, false, List, [], ◌∷◌, ◌++◌, Option, Some, if◌then◌else◌, refl, sym, ap, ◌∙◌, append_assoc, append-nil, get_or, take, drop, length, ◌-◌, ◌≤◌, arith, length-append}
use Rattle.std.specs.List.{AllByRecursion}
use Rattle.std.proofs.lemmas.Bool.{cond_both}
use Rattle.std.proofs.Math.Seq.{take-length}
use Rattle.cil_model.specs.Clauses.{Reading, clause_holds, clauses_of, false_ensures, false_requires, first_false, is_kind, is_number_true}
use Rattle.cil_model.specs.Values.{Heap}
use Rattle.cil_model.specs.declared.clause.Clause.{Clause}
use Rattle.cil_model.specs.declared.clause.ClauseKind.TheVariants as kinds
use Rattle.cil_model.specs.declared.machine.Value.{Value}
use Rattle.clause_eval.specs.Piles.{Piled, size_of}
use Rattle.clause_eval.specs.Told.{OldsLackResult, TellsEnsures, Told, behind, entry_reading, old_values, olds_in, olds_in_clauses, olds_of_clauses, told_false, told_value}
use Rattle.clause_eval.proofs.ToldLemmas.{left_behind, length_of_olds, present, present_value, reading, stays, told, told_is}

-- One more clause: it is tested where it is of the kind.
pick : (b t : Bool) (n : ℕ) (r : Reading) (clause : Clause) (others : List Clause) (next same : Option ℕ) → t ≡ clause_holds r clause
    → next ≡ first_false (n + 1) r others → same ≡ first_false n r others
    → (if b then (if t then next else Some n) else same) ≡ first_false n r (if b then clause ∷ others else others)
pick true t n r clause others next same e f g =
    ap (λ x. if x then next else Some n) e ∙ ap (λ y. if clause_holds r clause then y else Some n) f
pick false t n r clause others next same e f g = g

module _ (args : List Value) (heap : Heap) where
  requires_from : (number : ℕ) (clauses : List Clause)
      → told_false number kinds.Requires clauses (present args heap) ≡ first_false number (entry_reading args heap) (clauses_of kinds.Requires clauses)
  requires_from number [] = refl
  requires_from number (clause ∷ clauses) =
      pick (is_kind kinds.Requires clause.kind) (is_number_true (told_value clause.tree (present args heap))) number (entry_reading args heap) clause
      (clauses_of kinds.Requires clauses) (told_false (number + 1) kinds.Requires clauses (behind clause.tree (present args heap)))
      (told_false number kinds.Requires clauses (present args heap))
      (ap is_number_true (present_value clause.tree args heap))
      (ap (told_false (number + 1) kinds.Requires clauses) (stays clause.tree args heap) ∙ requires_from (number + 1) clauses)
      (requires_from number clauses)

pub requires_are : (clauses : List Clause) (args : List Value) (heap : Heap) → told_false 1 kinds.Requires clauses (present args heap) ≡ false_requires clauses args heap
requires_are clauses args heap = requires_from args heap 1 clauses

module _ (args : List Value) (entry heap : Heap) (result : Option Value) where
  abbrev r : Reading
  r = reading args entry heap result

  abbrev over : List (Option Value) → Told
  over olds = told args entry heap result olds

  abbrev olds : List Clause → List (Option Value)
  olds clauses = olds_of_clauses clauses args entry

  abbrev others : List Clause → List Clause
  others clauses = clauses_of kinds.Ensures clauses

  -- The old values of a clause stand before those of the others, where it is an Ensures.
  ensures_step : (b : Bool) (number : ℕ) (clause : Clause) (clauses : List Clause) (rest : List (Option Value)) → OldsLackResult clause.tree
      → told_false (number + 1) kinds.Ensures clauses (over (olds clauses ++ rest)) ≡ first_false (number + 1) r (others clauses)
      → told_false number kinds.Ensures clauses (over (olds clauses ++ rest)) ≡ first_false number r (others clauses)
      → (if b
      then (if is_number_true (told_value clause.tree (over ((if b then old_values clause.tree args entry ++ olds clauses else olds clauses) ++ rest)))
      then told_false (number + 1) kinds.Ensures clauses (behind clause.tree (over ((if b then old_values clause.tree args entry ++ olds clauses else olds clauses) ++ rest)))
      else Some number)
      else told_false number kinds.Ensures clauses (over ((if b then old_values clause.tree args entry ++ olds clauses else olds clauses) ++ rest)))
      ≡ first_false number r (if b then clause ∷ others clauses else others clauses)
  ensures_step true number clause clauses rest lacks next same =
      let all = ap over (append_assoc (old_values clause.tree args entry) (olds clauses) rest) in
      let value = ap (told_value clause.tree) all ∙ told_is args entry heap result clause.tree (olds clauses ++ rest) lacks in
      let left = ap (behind clause.tree) all ∙ left_behind args entry heap result clause.tree (olds clauses ++ rest) in
      pick true (is_number_true (told_value clause.tree (over ((old_values clause.tree args entry ++ olds clauses) ++ rest)))) number r clause (others clauses)
      (told_false (number + 1) kinds.Ensures clauses (behind clause.tree (over ((old_values clause.tree args entry ++ olds clauses) ++ rest))))
      (told_false number kinds.Ensures clauses (over (olds clauses ++ rest)))
      (ap is_number_true value) (ap (told_false (number + 1) kinds.Ensures clauses) left ∙ next) same
  ensures_step false number clause clauses rest lacks next same = same

  ensures_from : (number : ℕ) (clauses : List Clause) (rest : List (Option Value)) → AllByRecursion (λ (clause : Clause). OldsLackResult clause.tree) clauses
      → told_false number kinds.Ensures clauses (over (olds clauses ++ rest)) ≡ first_false number r (others clauses)
  ensures_from number [] rest h = refl
  ensures_from number (clause ∷ clauses) rest h =
      ensures_step (is_kind kinds.Ensures clause.kind) number clause clauses rest h.0 (ensures_from (number + 1) clauses rest h.1) (ensures_from number clauses rest h.1)

-- The old values that were taken at the entry tell what the Ensures are worth at the end.
pub ensures_are : (clauses : List Clause) (args : List Value) (entry heap : Heap) (result : Option Value) (rest : List (Option Value))
    → AllByRecursion (λ (clause : Clause). OldsLackResult clause.tree) clauses
    → told_false 1 kinds.Ensures clauses (record { args = args; heap = heap; result = result; olds = Some (olds_of_clauses clauses args entry ++ rest) })
    ≡ false_ensures clauses (record { args = args; entry_heap = entry; heap = heap; result = result })
ensures_are clauses args entry heap result rest h = ensures_from args entry heap result 1 clauses rest h

pub ensures_tell : (clauses : List Clause) (args : List Value) (olds : List (Option Value)) (heap : Heap) (result : Option Value) (first : Option ℕ)
    → first ≡ told_false 1 kinds.Ensures clauses (record { args = args; heap = heap; result = result; olds = Some olds })
    → TellsEnsures clauses args olds heap result first
ensures_tell clauses args olds heap result first is entry lacks told =
    is ∙ ap (λ (xs : List (Option Value)). told_false 1 kinds.Ensures clauses (record { args = args; heap = heap; result = result; olds = Some xs }))
    (told ∙ sym (append-nil (olds_of_clauses clauses args entry)))
    ∙ ensures_are clauses args entry heap result [] lacks

-- ---- the old values of all clauses

pub length_of_all_olds : (clauses : List Clause) (args : List Value) (heap : Heap) → length (olds_of_clauses clauses args heap) ≤ olds_in_clauses clauses
length_of_all_olds [] args heap = omega arith
length_of_all_olds (clause ∷ clauses) args heap =
    let rest = length_of_all_olds clauses args heap in
    cond_both (is_kind kinds.Ensures clause.kind) (old_values clause.tree args heap ++ olds_of_clauses clauses args heap) (olds_of_clauses clauses args heap)
    (λ (xs : List (Option Value)). length xs ≤ olds_in_clauses (clause ∷ clauses))
    (λ _. omega (arith, length-append (old_values clause.tree args heap) (olds_of_clauses clauses args heap), length_of_olds clause.tree args heap, rest))
    (λ _. omega (arith, rest))

pub all_olds_put : (clauses : List Clause) (args : List Value) (heap : Heap) (p : Piled (Option Value))
    → size_of (record p { top = olds_of_clauses clauses args heap ++ p.top }) ≤ olds_in_clauses clauses + size_of p
all_olds_put clauses args heap p = omega (arith, length-append (olds_of_clauses clauses args heap) p.top, length_of_all_olds clauses args heap)

-- The old values of a clause are put on those of the others, where it is an Ensures.
pub put_on : (a b c : List (Option Value)) → a ++ (b ++ c) ≡ (a ++ b) ++ c
put_on a b c = sym (append_assoc a b c)

pub olds_first : (all : List Clause) (first : Clause) → 1 ≤ length all → first ≡ get_or all 0 first
    → olds_in_clauses all ≡ olds_in first.tree + olds_in_clauses (take (length all - 1) (drop 1 all))
olds_first [] first some e = absurd (omega arith)
olds_first (clause ∷ clauses) first some e =
    let many : length clauses ≡ length (clause ∷ clauses) - 1 = omega arith in
    ap (λ (c : Clause). olds_in c.tree + olds_in_clauses clauses) (sym e) ∙ ap (λ (cs : List Clause). olds_in first.tree + olds_in_clauses cs) (sym (take-length clauses))
    ∙ ap (λ k. olds_in first.tree + olds_in_clauses (take k clauses)) many
