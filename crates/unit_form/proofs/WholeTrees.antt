-- Roots that were read to their end are those of trees.
use Rattle.std.proofs.Common.{◌≡◌, ℕ, zero, suc, ◌+◌, List, [], ◌∷◌, ◌++◌, length, None, Some, refl, arith, ap, ◌∙◌, sym, append_assoc, append-nil, length-append}
use Rattle.std.specs.List.{flat_map}
use Rattle.cc_base.specs.Tests.{first_of}
use Rattle.cc_base.proofs.TestLemmas.{none_behind, first_of-one}
use Rattle.cil_model.specs.Laws.TermsBack.{terms_of-preorder}
use Rattle.cil_model.specs.TermCodes.{Root, ConstRoot, ArgRoot, NullRoot, ResultRoot, LenRoot, ElemRoot, BinRoot, UnRoot, OldRoot, CondRoot, preorder, terms_of, first_term}
use Rattle.cil_model.specs.Terms.{Term, Const, Arg, Null, Result, Len, Elem, Bin, Un, Old, Cond, term_size}
use Rattle.unit_form.specs.declared.unit_fault.UnitFault.TheVariants.{Short}
use Rattle.unit_form.specs.TreeFields.{arity, root_field, roots_field, tree_of_roots, tree_roots}
use Rattle.unit_form.specs.declared.form.UnitForm.{UnitForm}

-- These are the roots of so many trees, one after another.
abbrev pub Complete : ℕ → List Root → Type 0
Complete trees [] = trees ≡ 0
Complete trees (root ∷ roots) = (others : ℕ) × (trees ≡ suc others) × Complete (arity root + others) roots

pub no_fault : {F : Type 0} {fault : F} → Some fault ≡ None → ⊥
no_fault e = absurd (cc)

pub read_complete : (form : UnitForm) (most trees : ℕ) (bytes : List ℕ) (at : ℕ) → first_of (roots_field form most trees bytes at).tests ≡ None → Complete trees (roots_field form most trees bytes at).value
unfolding roots_field
read_complete form zero zero bytes at passed = refl
read_complete form (suc most) zero bytes at passed = refl
read_complete form zero (suc trees) bytes at passed = absurd (no_fault (sym (first_of-one (Some (Short at))) ∙ passed))
read_complete form (suc most) (suc trees) bytes at passed =
    (trees, refl, read_complete form most (arity (root_field form bytes at).value + trees) bytes (root_field form bytes at).next (none_behind (root_field form bytes at).tests (roots_field form most (arity (root_field form bytes at).value + trees) bytes (root_field form bytes at).next).tests passed))

-- So many trees have these roots.
pub record TreesOf (count : ℕ) (roots : List Root) : Type 0 where
  pub trees : List Term
  pub many : length trees ≡ count
  pub same : flat_map preorder trees ≡ roots

under : (root : Root) (roots : List Root) (others : ℕ) (trees : List Term) → length trees ≡ arity root + others → flat_map preorder trees ≡ roots → TreesOf (suc others) (root ∷ roots)
under (ConstRoot n) roots others trees e same = record { trees = Const n ∷ trees; many = omega (arith, e); same = ap (λ rest. ConstRoot n ∷ rest) same }
under (ArgRoot n) roots others trees e same = record { trees = Arg n ∷ trees; many = omega (arith, e); same = ap (λ rest. ArgRoot n ∷ rest) same }
under NullRoot roots others trees e same = record { trees = Null ∷ trees; many = omega (arith, e); same = ap (λ rest. NullRoot ∷ rest) same }
under ResultRoot roots others trees e same = record { trees = Result ∷ trees; many = omega (arith, e); same = ap (λ rest. ResultRoot ∷ rest) same }
under LenRoot roots others (a ∷ trees) e same = record { trees = Len a ∷ trees; many = omega (arith, e); same = ap (λ rest. LenRoot ∷ rest) same }
under LenRoot roots others [] e same = absurd (omega (arith, e))
under (ElemRoot place) roots others (a ∷ b ∷ trees) e same =
    record { trees = Elem place a b ∷ trees; many = omega (arith, e); same = ap (λ rest. ElemRoot place ∷ rest) (append_assoc (preorder a) (preorder b) _ ∙ same) }
under (ElemRoot place) roots others (a ∷ []) e same = absurd (omega (arith, e))
under (ElemRoot place) roots others [] e same = absurd (omega (arith, e))
under (BinRoot operator) roots others (a ∷ b ∷ trees) e same =
    record { trees = Bin operator a b ∷ trees; many = omega (arith, e); same = ap (λ rest. BinRoot operator ∷ rest) (append_assoc (preorder a) (preorder b) _ ∙ same) }
under (BinRoot operator) roots others (a ∷ []) e same = absurd (omega (arith, e))
under (BinRoot operator) roots others [] e same = absurd (omega (arith, e))
under (UnRoot operator) roots others (a ∷ trees) e same = record { trees = Un operator a ∷ trees; many = omega (arith, e); same = ap (λ rest. UnRoot operator ∷ rest) same }
under (UnRoot operator) roots others [] e same = absurd (omega (arith, e))
under OldRoot roots others (a ∷ trees) e same = record { trees = Old a ∷ trees; many = omega (arith, e); same = ap (λ rest. OldRoot ∷ rest) same }
under OldRoot roots others [] e same = absurd (omega (arith, e))
under CondRoot roots others (a ∷ b ∷ c ∷ trees) e same =
    record {
      trees = Cond a b c ∷ trees;
      many = omega (arith, e);
      same = ap (λ rest. CondRoot ∷ rest) (append_assoc (preorder a) (preorder b ++ preorder c) _ ∙ ap (λ rest. preorder a ++ rest) (append_assoc (preorder b) (preorder c) _) ∙ same);
    }
under CondRoot roots others (a ∷ b ∷ []) e same = absurd (omega (arith, e))
under CondRoot roots others (a ∷ []) e same = absurd (omega (arith, e))
under CondRoot roots others [] e same = absurd (omega (arith, e))

pub whole_trees : (count : ℕ) (roots : List Root) → Complete count roots → TreesOf count roots
whole_trees count [] e = record { trees = []; many = sym e; same = refl }
whole_trees count (root ∷ roots) (others, e, rest) =
    let below = whole_trees (arity root + others) roots rest in
    rw e (under root roots others below.trees below.many below.same)

-- The roots are those of one tree.
pub record OneTree (roots : List Root) : Type 0 where
  pub tree : Term
  pub same : preorder tree ≡ roots
  pub is : tree_of_roots roots ≡ tree

one_of : (roots : List Root) (trees : List Term) → length trees ≡ 1 → flat_map preorder trees ≡ roots → OneTree roots
one_of roots [] e same = absurd (omega (arith, e))
one_of roots (tree ∷ []) e same =
    record { tree = tree; same = sym (append-nil (preorder tree)) ∙ same; is = ap (λ roots. first_term (terms_of roots)) (sym same) ∙ ap first_term (terms_of-preorder tree []) }
one_of roots (tree ∷ other ∷ trees) e same = absurd (omega (arith, e))

pub one_tree : (form : UnitForm) (bytes : List ℕ) (at : ℕ) → first_of (tree_roots form bytes at).tests ≡ None → OneTree (tree_roots form bytes at).value
unfolding tree_roots
one_tree form bytes at passed =
    let whole = whole_trees 1 _ (read_complete form (length bytes) 1 bytes at passed) in
    one_of _ whole.trees whole.many whole.same

pub length-preorder : (t : Term) → length (preorder t) ≡ term_size t
length-preorder (Const n) = refl
length-preorder (Arg n) = refl
length-preorder Null = refl
length-preorder Result = refl
length-preorder (Len a) = omega (arith, length-preorder a)
length-preorder (Elem place a b) = omega (arith, length-preorder a, length-preorder b, length-append (preorder a) (preorder b))
length-preorder (Bin operator a b) = omega (arith, length-preorder a, length-preorder b, length-append (preorder a) (preorder b))
length-preorder (Un operator a) = omega (arith, length-preorder a)
length-preorder (Old a) = omega (arith, length-preorder a)
length-preorder (Cond a b c) =
    omega (arith, length-preorder a, length-preorder b, length-preorder c, length-append (preorder a) (preorder b ++ preorder c), length-append (preorder b) (preorder c))

pub size_of_roots : (roots : List Root) → OneTree roots → term_size (tree_of_roots roots) ≡ length roots
size_of_roots roots one = ap term_size one.is ∙ sym (length-preorder one.tree) ∙ ap length one.same
