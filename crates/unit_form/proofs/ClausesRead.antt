-- The tree of a clause, of the first roots that were read.
use Rattle.std.proofs.Common.{◌≡◌, ℕ, ◌+◌, ◌≤◌, ◌<◌, Bool, true, false, nat_lt, nat_le, if◌then◌else◌, List, [], ◌∷◌, ◌++◌, length, take, None, Some, refl, arith, ap, ◌∙◌, length-take}
use Rattle.std.proofs.lemmas.Bool.{leb-true, ltb-true, ltb-false}
use Rattle.std.proofs.lemmas.List.{take_all}
use Rattle.std.proofs.lemmas.List.Sums.{sum_by_push}
use Rattle.cc_base.specs.Tests.{first_of, must}
use Rattle.cc_base.proofs.TestLemmas.{first_of-append_none, first_of-append_some, first_of-none, first_of-nil, must-failed}
use Rattle.cil_model.specs.TermCodes.{Root}
use Rattle.cil_model.specs.Terms.{Term, old_count, term_size}
use Rattle.cil_model.specs.declared.clause.Clause.{Clause}
use Rattle.cil_model.specs.declared.clause.ClauseKind.{ClauseKind}
use Rattle.cil_model.specs.declared.place.Place.{Place}
use Rattle.unit_form.specs.Callees.{olds_in, clause_tree, is_clause_tree, kept_tree}
use Rattle.unit_form.specs.Parses.{IsRead}
use Rattle.unit_form.specs.TreeFields.{tree_of_roots, tree_roots}
use Rattle.unit_form.specs.declared.unit_fault.UnitFault.{UnitFault}
use Rattle.unit_form.specs.declared.unit_fault.UnitFault.TheVariants.{Form}
use Rattle.unit_form.specs.declared.form.UnitForm.{UnitForm}
use Rattle.unit_form.proofs.WholeTrees.{one_tree, size_of_roots}

-- Where no more than 4,096 roots were kept, they are all.
all_kept : (whole roots : List Root) → roots ≡ take 4097 whole → length roots ≤ 4096 → roots ≡ whole
all_kept whole roots e few = e ∙ take_all 4097 whole (omega (arith, ap length e, length-take 4097 whole, few))

pub kept_small : (form : UnitForm) (bytes : List ℕ) (at : ℕ) (roots : List Root) → first_of (tree_roots form bytes at).tests ≡ None → roots ≡ take 4097 (tree_roots form bytes at).value
    → length roots ≤ 4096 → term_size (tree_of_roots roots) ≤ 4096
kept_small form bytes at roots passed e few =
    let all = all_kept (tree_roots form bytes at).value roots e few in
    let size = size_of_roots (tree_roots form bytes at).value (one_tree form bytes at passed) in
    rw all (omega (arith, size, few, ap length all))

-- Where more were kept, the tree is too large.
too_large : (args : List Place) (result : Place) (kind : ClauseKind) (olds : ℕ) (tree : Term) → 4096 < term_size tree → is_clause_tree args result kind olds tree ≡ false
too_large args result kind olds tree large = by_size (nat_le (term_size tree) 4096) refl
  where
    by_size : (small : Bool) → nat_le (term_size tree) 4096 ≡ small → is_clause_tree args result kind olds tree ≡ false
    by_size true e = absurd (omega (arith, large, leb-true _ _ e))
    by_size false e = rw e refl

kept_is : (form : UnitForm) (args : List Place) (result : Place) (kind : ClauseKind) (olds : ℕ) (bytes : List ℕ) (at : ℕ) (roots : List Root) → first_of (tree_roots form bytes at).tests ≡ None
    → roots ≡ take 4097 (tree_roots form bytes at).value
    → kept_tree args result kind olds roots
    ≡ (if is_clause_tree args result kind olds (tree_of_roots (tree_roots form bytes at).value) then Some (tree_of_roots (tree_roots form bytes at).value) else None)
kept_is form args result kind olds bytes at roots passed e = by_size (nat_lt 4096 (length roots)) refl
  where
    by_size : (many : Bool) → nat_lt 4096 (length roots) ≡ many
        → kept_tree args result kind olds roots
        ≡ (if is_clause_tree args result kind olds (tree_of_roots (tree_roots form bytes at).value) then Some (tree_of_roots (tree_roots form bytes at).value) else None)
    by_size true t =
        let size = size_of_roots (tree_roots form bytes at).value (one_tree form bytes at passed) in
        let large = too_large args result kind olds (tree_of_roots (tree_roots form bytes at).value) (omega (arith, size, ltb-true _ _ t, ap length e, length-take 4097 (tree_roots form bytes at).value)) in
        rw (t, large) refl
    by_size false t =
        let all = all_kept (tree_roots form bytes at).value roots e (ltb-false _ _ t) in
        rw t (ap (λ rs. if is_clause_tree args result kind olds (tree_of_roots rs) then Some (tree_of_roots rs) else None) all)

if_some : {X : Type 0} (test : Bool) (x y : X) → Some x ≡ (if test then Some y else None) → (x ≡ y) × (test ≡ true)
if_some true x y e = (cc, refl)
if_some false x y e = absurd (cc)

if_none : {X : Type 0} (test : Bool) (y : X) → None ≡ (if test then Some y else None) → test ≡ false
if_none true y e = absurd (cc)
if_none false y e = refl

pub kept_read : (form : UnitForm) (args : List Place) (result : Place) (kind : ClauseKind) (olds : ℕ) (bytes : List ℕ) (at next : ℕ) (roots : List Root) (tree : Term)
    → first_of (tree_roots form bytes at).tests ≡ None → roots ≡ take 4097 (tree_roots form bytes at).value → Some tree ≡ kept_tree args result kind olds roots
    → next ≡ (tree_roots form bytes at).next → next ≤ length bytes
    → (first_of (clause_tree form args result kind olds bytes at).tests ≡ None)
    × (IsRead bytes (clause_tree form args result kind olds bytes at) tree next × (is_clause_tree args result kind olds tree ≡ true))
unfolding clause_tree
kept_read form args result kind olds bytes at next roots tree passed e kept f inside =
    let found = if_some _ tree _ (kept ∙ kept_is form args result kind olds bytes at roots passed e) in (
      first_of-append_none _ _ passed ∙ first_of-none _ [] (ap (λ holds. must holds (Form at)) found.1) ∙ first_of-nil,
      ((found.0, f, inside), ap (is_clause_tree args result kind olds) found.0 ∙ found.1),
    )

pub kept_refused : (form : UnitForm) (args : List Place) (result : Place) (kind : ClauseKind) (olds : ℕ) (bytes : List ℕ) (at : ℕ) (roots : List Root)
    → first_of (tree_roots form bytes at).tests ≡ None → roots ≡ take 4097 (tree_roots form bytes at).value → None ≡ kept_tree args result kind olds roots
    → first_of (clause_tree form args result kind olds bytes at).tests ≡ Some (Form at)
unfolding clause_tree
kept_refused form args result kind olds bytes at roots passed e kept =
    first_of-append_none _ _ passed ∙ must-failed _ (Form at) [] (if_none _ _ (kept ∙ kept_is form args result kind olds bytes at roots passed e))

pub tree_cut : (form : UnitForm) (args : List Place) (result : Place) (kind : ClauseKind) (olds : ℕ) (bytes : List ℕ) (at : ℕ) (fault : UnitFault)
    → first_of (tree_roots form bytes at).tests ≡ Some fault → first_of (clause_tree form args result kind olds bytes at).tests ≡ Some fault
unfolding clause_tree
tree_cut form args result kind olds bytes at fault cut = first_of-append_some _ _ fault cut

pub one_more_old : (clauses : List Clause) (clause : Clause) → olds_in (clauses ++ clause ∷ []) ≡ olds_in clauses + old_count clause.tree
one_more_old clauses clause = sum_by_push (λ clause. old_count clause.tree) clauses clause
