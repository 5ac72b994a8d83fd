-- When a clause passes a limit, with those before it.
use Rattle.std.proofs.Common.{◌≡◌, ℕ, ◌+◌, ◌<◌, ◌≤◌, Bool, true, false, ◌||◌, List, [], ◌∷◌, ◌++◌, length, map, Option, Some, None, IfSome, IsSome, refl, ap, ◌∙◌, arith, length-append}
use Rattle.std.specs.Prelude.{nat_lt}
use Rattle.std.specs.Option.{option_map_or}
use Rattle.std.proofs.lemmas.Bool.{lt-ltb, le-ltb}
use Rattle.std.proofs.lemmas.List.{length-map}
use Rattle.std.proofs.lemmas.List.Sums.{sum_by-cons}
use Rattle.cil_model.specs.ClauseTrees.{tree_of}
use Rattle.cil_model.specs.Limits.{MAX_CLAUSES, MAX_OLD_VALUES}
use Rattle.cil_model.specs.Terms.{Term, old_count}
use Rattle.cil_model.specs.WellFormed.{told_by_code}
use Rattle.cil_model.specs.declared.clause.Clause.{Clause}
use Rattle.cil_model.specs.declared.clause.ClauseKind.{ClauseKind}
use Rattle.cil_model.specs.declared.instruction.Instr.{Instr}
use Rattle.clause_faults.specs.TooLarge.{are_too_many, is_too_large, old_values_in, passes_limit}
use Rattle.contract_extract.specs.Extracting.{ReadWithin, olds_of}

-- How many clauses and old values there are with one more.
pub told_length : (clauses : List Clause) (kind : ClauseKind) (tree : Option Term) → length (map told_by_code clauses ++ (kind, tree) ∷ []) ≡ length clauses + 1
told_length clauses kind tree = length-append (map told_by_code clauses) ((kind, tree) ∷ []) ∙ ap (λ (n : ℕ). n + 1) (length-map clauses told_by_code)

pub told_olds : (clauses : List Clause) (kind : ClauseKind) (tree : Term) → old_values_in (map told_by_code clauses ++ (kind, Some tree) ∷ []) ≡ olds_of clauses + old_count tree
told_olds [] kind tree = omega arith
told_olds (clause ∷ clauses) kind tree = omega (arith, told_olds clauses kind tree, sum_by-cons (λ clause. old_count clause.tree) clause clauses)

either_true : (a b : Bool) → b ≡ true → (a || b) ≡ true
either_true true b e = refl
either_true false b e = e

first_true : (a b : Bool) → a ≡ true → (a || b) ≡ true
first_true a b e = rw e refl

both_false : (a b : Bool) → a ≡ false → b ≡ false → (a || b) ≡ false
both_false a b e f = rw (e, f) refl

-- A tree that is too large is no clause.
pub too_large : (is : List Instr) (start : ℕ) (clauses : List Clause) (kind : ClauseKind) → IsSome (tree_of is start) → IfSome (tree_of is start) (λ tree. is_too_large tree ≡ true)
    → ReadWithin is start clauses kind None
too_large is start clauses kind some large = by_tree (tree_of is start) some large
  where
    by_tree : (tree : Option Term) → IsSome tree → IfSome tree (λ tree. is_too_large tree ≡ true) → passes_limit (map told_by_code clauses ++ (kind, tree) ∷ []) tree ≡ true
    by_tree (Some tree) some large = first_true _ _ large
    by_tree None some large = absurd (cc)

told_with : (is : List Instr) (start : ℕ) (clauses : List Clause) (kind : ClauseKind) (tree : Option Term) → tree_of is start ≡ tree
    → passes_limit (map told_by_code clauses ++ (kind, tree) ∷ []) tree ≡ true → ReadWithin is start clauses kind None
told_with is start clauses kind tree made passes = rw made passes

too_many_of : (clauses : List Clause) (kind : ClauseKind) (tree : Option Term) → MAX_CLAUSES ≤ length clauses → passes_limit (map told_by_code clauses ++ (kind, tree) ∷ []) tree ≡ true
too_many_of clauses kind tree many =
    let all = map told_by_code clauses ++ (kind, tree) ∷ [] in
    let count : nat_lt MAX_CLAUSES (length all) ≡ true = lt-ltb MAX_CLAUSES (length all) (omega (arith, many, told_length clauses kind tree)) in
    either_true (option_map_or is_too_large tree false) (are_too_many all) (first_true (nat_lt MAX_CLAUSES (length all)) (nat_lt MAX_OLD_VALUES (old_values_in all)) count)

pub too_many : (is : List Instr) (start : ℕ) (clauses : List Clause) (kind : ClauseKind) → MAX_CLAUSES ≤ length clauses → ReadWithin is start clauses kind None
too_many is start clauses kind many = told_with is start clauses kind (tree_of is start) refl (too_many_of clauses kind (tree_of is start) many)

too_old_of : (clauses : List Clause) (kind : ClauseKind) (tree : Term) → MAX_OLD_VALUES < olds_of clauses + old_count tree → passes_limit (map told_by_code clauses ++ (kind, Some tree) ∷ []) (Some tree) ≡ true
too_old_of clauses kind tree old =
    let all = map told_by_code clauses ++ (kind, Some tree) ∷ [] in
    let count : nat_lt MAX_OLD_VALUES (old_values_in all) ≡ true = lt-ltb MAX_OLD_VALUES (old_values_in all) (omega (arith, old, told_olds clauses kind tree)) in
    either_true (is_too_large tree) (are_too_many all) (either_true (nat_lt MAX_CLAUSES (length all)) (nat_lt MAX_OLD_VALUES (old_values_in all)) count)

pub too_old : (is : List Instr) (start : ℕ) (clauses : List Clause) (kind : ClauseKind) (tree : Term) → tree_of is start ≡ Some tree → MAX_OLD_VALUES < olds_of clauses + old_count tree
    → ReadWithin is start clauses kind None
too_old is start clauses kind tree made old = told_with is start clauses kind (Some tree) made (too_old_of clauses kind tree old)

in_limits_of : (clauses : List Clause) (kind : ClauseKind) (tree : Term) → is_too_large tree ≡ false → length clauses < MAX_CLAUSES → olds_of clauses + old_count tree ≤ MAX_OLD_VALUES
    → passes_limit (map told_by_code clauses ++ (kind, Some tree) ∷ []) (Some tree) ≡ false
in_limits_of clauses kind tree small few new =
    let all = map told_by_code clauses ++ (kind, Some tree) ∷ [] in
    let count : nat_lt MAX_CLAUSES (length all) ≡ false = le-ltb MAX_CLAUSES (length all) (omega (arith, few, told_length clauses kind (Some tree))) in
    let olds : nat_lt MAX_OLD_VALUES (old_values_in all) ≡ false = le-ltb MAX_OLD_VALUES (old_values_in all) (omega (arith, new, told_olds clauses kind tree)) in
    both_false (is_too_large tree) (are_too_many all) small (both_false (nat_lt MAX_CLAUSES (length all)) (nat_lt MAX_OLD_VALUES (old_values_in all)) count olds)

pub in_limits : (is : List Instr) (start : ℕ) (clauses : List Clause) (kind : ClauseKind) (tree : Term) → tree_of is start ≡ Some tree → is_too_large tree ≡ false → length clauses < MAX_CLAUSES
    → olds_of clauses + old_count tree ≤ MAX_OLD_VALUES → ReadWithin is start clauses kind (Some (tree, old_count tree))
in_limits is start clauses kind tree made small few new = (made, refl, rw made (in_limits_of clauses kind tree small few new))

pub ruleset limits = (too_large, too_many, too_old, in_limits)
