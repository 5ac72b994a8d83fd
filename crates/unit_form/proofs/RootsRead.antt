-- The roots of a tree, one after another: those that are read, and those that are left.
use Rattle.std.proofs.Common.{◌≡◌, Bool, true, false, nat_lt, if◌then◌else◌, map, ℕ, zero, suc, ◌+◌, ◌-◌, ◌<◌, ◌≤◌, List, [], ◌∷◌, ◌++◌, length, take, None, Some, refl, arith, ap, ◌∙◌, sym, subst, append_assoc, append-nil, length-append}
use Rattle.std.proofs.lemmas.Bool.{ltb-true, ltb-false}
use Rattle.std.proofs.lemmas.List.{length-map, map-append}
use Rattle.cc_base.specs.Tests.{first_of}
use Rattle.cc_base.proofs.TestLemmas.{first_of-append_none, first_of-append_some, first_of-one}
use Rattle.cil_model.specs.TermCodes.{Root}
use Rattle.unit_form.specs.Roots.{told}
use Rattle.unit_form.specs.TreeFields.{arity, kept_with, root_field, roots_field, tree_roots}
use Rattle.unit_form.specs.declared.root.Root.{Root as RootInMemory}
use Rattle.unit_form.specs.declared.unit_fault.UnitFault.{UnitFault}
use Rattle.unit_form.specs.declared.unit_fault.UnitFault.TheVariants.{Short}
use Rattle.unit_form.specs.declared.form.UnitForm.{UnitForm}

-- Of the roots of the tree at `start` the first 4,097 are kept as they are read; from the offset `at` on so many trees
-- are left, of so many roots at most.
pub record RootsLeft (form : UnitForm) (bytes : List ℕ) (start : ℕ) (read : List Root) (most trees at : ℕ) : Type 0 where
  pub tests : first_of (tree_roots form bytes start).tests ≡ first_of (roots_field form most trees bytes at).tests
  pub value : take 4097 (tree_roots form bytes start).value ≡ read ++ take (4097 - length read) (roots_field form most trees bytes at).value
  pub next : (tree_roots form bytes start).next ≡ (roots_field form most trees bytes at).next

pub none_kept : (form : UnitForm) (bytes : List ℕ) (start : ℕ) → RootsLeft form bytes start [] (length bytes) 1 start
unfolding tree_roots
none_kept form bytes start = record { tests = refl; value = refl; next = refl }

none_taken : (n : ℕ) → take {A = Root} n [] ≡ []
none_taken zero = refl
none_taken (suc n) = refl

-- What is left after the next root.
step : (form : UnitForm) (bytes : List ℕ) (start : ℕ) (read : List Root) (most trees at : ℕ) → RootsLeft form bytes start read (suc most) (suc trees) at
    → first_of (root_field form bytes at).tests ≡ None
    → (first_of (tree_roots form bytes start).tests ≡ first_of (roots_field form most (arity (root_field form bytes at).value + trees) bytes (root_field form bytes at).next).tests)
    × ((tree_roots form bytes start).next ≡ (roots_field form most (arity (root_field form bytes at).value + trees) bytes (root_field form bytes at).next).next)
unfolding roots_field
step form bytes start read most trees at before passed = (before.tests ∙ first_of-append_none _ _ passed, before.next)

kept : (form : UnitForm) (bytes : List ℕ) (start : ℕ) (read : List Root) (most trees at : ℕ) → RootsLeft form bytes start read (suc most) (suc trees) at → length read < 4097
    → take 4097 (tree_roots form bytes start).value
    ≡ (read ++ (root_field form bytes at).value ∷ []) ++ take (4097 - length (read ++ (root_field form bytes at).value ∷ [])) (roots_field form most (arity (root_field form bytes at).value + trees) bytes (root_field form bytes at).next).value
unfolding roots_field
kept form bytes start read most trees at before few =
    let one : 4097 - length read ≡ suc (4097 - length (read ++ (root_field form bytes at).value ∷ [])) = omega (arith, few, length-append read ((root_field form bytes at).value ∷ [])) in
    before.value ∙ ap (λ n. read ++ take n (roots_field form (suc most) (suc trees) bytes at).value) one ∙ sym (append_assoc read _ _)

past : (form : UnitForm) (bytes : List ℕ) (start : ℕ) (read : List Root) (most trees at : ℕ) → RootsLeft form bytes start read (suc most) (suc trees) at → 4097 ≤ length read
    → take 4097 (tree_roots form bytes start).value ≡ read ++ take (4097 - length read) (roots_field form most (arity (root_field form bytes at).value + trees) bytes (root_field form bytes at).next).value
unfolding roots_field
past form bytes start read most trees at before many =
    let none : 4097 - length read ≡ 0 = omega (arith, many) in
    before.value ∙ ap (λ n. read ++ take n (roots_field form (suc most) (suc trees) bytes at).value) none
    ∙ sym (ap (λ n. read ++ take n (roots_field form most (arity (root_field form bytes at).value + trees) bytes (root_field form bytes at).next).value) none)

-- The next root is read.
pub root_next : (form : UnitForm) (bytes : List ℕ) (start : ℕ) (read now_read : List Root) (n k trees at next : ℕ) (root : Root) → k < n → 0 < trees → RootsLeft form bytes start read (n - k) trees at
    → first_of (root_field form bytes at).tests ≡ None → root ≡ (root_field form bytes at).value → next ≡ (root_field form bytes at).next → now_read ≡ kept_with read root
    → RootsLeft form bytes start now_read (n - (k + 1)) (trees - 1 + arity root) next
unfolding kept_with
root_next form bytes start read now_read n k trees at next root l some before passed e f g =
    let e1 : n - k ≡ suc (n - (k + 1)) = omega (arith, l) in
    let e2 : trees ≡ suc (trees - 1) = omega (arith, some) in
    let now : RootsLeft form bytes start read (suc (n - (k + 1))) (suc (trees - 1)) at = rw (← e1, ← e2) before in
    let parts = step form bytes start read (n - (k + 1)) (trees - 1) at now passed in
    let same : trees - 1 + arity (root_field form bytes at).value ≡ arity (root_field form bytes at).value + (trees - 1) = omega arith in
    rw (g, e, f, same) (record { tests = parts.0; value = by_room now (nat_lt (length read) 4097) refl; next = parts.1 })
  where
    by_room : RootsLeft form bytes start read (suc (n - (k + 1))) (suc (trees - 1)) at → (room : Bool) → nat_lt (length read) 4097 ≡ room
        → take 4097 (tree_roots form bytes start).value
        ≡ (if room then read ++ (root_field form bytes at).value ∷ [] else read)
        ++ take (4097 - length (if room then read ++ (root_field form bytes at).value ∷ [] else read)) (roots_field form (n - (k + 1)) (arity (root_field form bytes at).value + (trees - 1)) bytes (root_field form bytes at).next).value
    by_room now true t = kept form bytes start read (n - (k + 1)) (trees - 1) at now (ltb-true _ _ t)
    by_room now false t = past form bytes start read (n - (k + 1)) (trees - 1) at now (ltb-false _ _ t)

-- The same of the roots in memory.
pub kept_told : (roots : List RootInMemory) (root : RootInMemory) → map told (kept_with roots root) ≡ kept_with (map told roots) (told root)
unfolding kept_with
kept_told roots root = rw (length-map roots told) (by_room (nat_lt (length roots) 4097))
  where
    by_room : (room : Bool) → map told (if room then roots ++ root ∷ [] else roots) ≡ (if room then map told roots ++ told root ∷ [] else map told roots)
    by_room true = map-append told roots (root ∷ [])
    by_room false = refl

-- The next root has a fault, and so has the tree.
pub root_fault : (form : UnitForm) (bytes : List ℕ) (start : ℕ) (read : List Root) (n k trees at : ℕ) (fault : UnitFault) → k < n → 0 < trees → RootsLeft form bytes start read (n - k) trees at
    → first_of (root_field form bytes at).tests ≡ Some fault → first_of (tree_roots form bytes start).tests ≡ Some fault
unfolding roots_field
root_fault form bytes start read n k trees at fault l some before failed =
    let e1 : n - k ≡ suc (n - (k + 1)) = omega (arith, l) in
    let e2 : trees ≡ suc (trees - 1) = omega (arith, some) in
    let now : RootsLeft form bytes start read (suc (n - (k + 1))) (suc (trees - 1)) at = rw (← e1, ← e2) before in
    now.tests ∙ first_of-append_some _ _ fault failed

-- The tree is read to its end.
pub record TreeRead (form : UnitForm) (bytes : List ℕ) (start : ℕ) (read : List Root) (end : ℕ) : Type 0 where
  pub tests : first_of (tree_roots form bytes start).tests ≡ None
  pub value : read ≡ take 4097 (tree_roots form bytes start).value
  pub next : end ≡ (tree_roots form bytes start).next

ended : (form : UnitForm) (bytes : List ℕ) (start : ℕ) (read : List Root) (most at : ℕ) → RootsLeft form bytes start read most 0 at → TreeRead form bytes start read at
unfolding roots_field first_of
ended form bytes start read zero at now = record { tests = now.tests; value = sym (now.value ∙ ap (λ rest. read ++ rest) (none_taken (4097 - length read)) ∙ append-nil read); next = sym now.next }
ended form bytes start read (suc most) at now = record { tests = now.tests; value = sym (now.value ∙ ap (λ rest. read ++ rest) (none_taken (4097 - length read)) ∙ append-nil read); next = sym now.next }

pub roots_end : (form : UnitForm) (bytes : List ℕ) (start : ℕ) (read : List Root) (most trees at : ℕ) → trees ≡ 0 → RootsLeft form bytes start read most trees at → TreeRead form bytes start read at
roots_end form bytes start read most trees at e before = ended form bytes start read most at (subst (λ n. RootsLeft form bytes start read most n at) e before)

-- There are more roots than bytes.
pub roots_cut : (form : UnitForm) (bytes : List ℕ) (start : ℕ) (read : List Root) (n k trees at : ℕ) → n ≤ k → 0 < trees → RootsLeft form bytes start read (n - k) trees at
    → first_of (tree_roots form bytes start).tests ≡ Some (Short at)
unfolding roots_field
roots_cut form bytes start read n k trees at l some before =
    let e1 : n - k ≡ 0 = omega (arith, l) in
    let e2 : trees ≡ suc (trees - 1) = omega (arith, some) in
    let now : RootsLeft form bytes start read 0 (suc (trees - 1)) at = rw (← e1, ← e2) before in
    now.tests ∙ first_of-one (Some (Short at))

pub ruleset reading = (none_kept, root_next, root_fault, roots_end, roots_cut)
