-- The spelling of a tree passes its tests, and the tree is read from it again.
use Rattle.std.proofs.Common.{◌≡◌, ℕ, ℤ, zero, suc, ◌+◌, ◌^◌, ◌<◌, ◌≤◌, true, List, [], ◌∷◌, ◌++◌, length, drop, Some, option_map, refl, sym, subst, ap, ◌∙◌, arith, length-append, length-drop, append_assoc, append-nil}
use Rattle.std.specs.Prelude.{is_some, FitsSigned}
use Rattle.std.specs.Int.{w32}
use Rattle.std.specs.List.{AllByRecursion, flat_map}
use Rattle.std.specs.Option.{option_map_or}
use Rattle.std.proofs.Math.Facts.{Fits-lt-pow, Fits-of_z}
use Rattle.std.proofs.lemmas.Int.{to_z-of_z}
use Rattle.byteorder.specs.Endian.{little_bytes, little_number}
use Rattle.cc_base.specs.Tests.{first_of}
use Rattle.cc_base.proofs.ByteLemmas.{length-little_bytes, number_back}
use Rattle.cc_base.proofs.TestLemmas.{first_of-append_none, first_of-nil}
use Rattle.cil_model.specs.Arithmetic.{signed, unsigned}
use Rattle.cil_model.specs.Places.{place_number, place_of_number}
use Rattle.cil_model.specs.TermCodes.{Root, ConstRoot, ArgRoot, NullRoot, ResultRoot, LenRoot, ElemRoot, BinRoot, UnRoot, OldRoot, CondRoot, preorder}
use Rattle.cil_model.specs.Terms.{Term, Const, Arg, Null, Result, Len, Elem, Bin, Un, Old, Cond}
use Rattle.cil_model.specs.WellFormed.{IsIntRoot}
use Rattle.cil_model.specs.declared.instruction.BinOp.{BinOp}
use Rattle.cil_model.specs.declared.instruction.BinOp.TheVariants as operators
use Rattle.cil_model.specs.declared.instruction.UnOp.{UnOp}
use Rattle.cil_model.specs.declared.instruction.UnOp.TheVariants as unary
use Rattle.cil_model.specs.declared.place.Place.{Place}
use Rattle.cil_model.specs.declared.place.Place.TheVariants as places
use Rattle.unit_form.specs.Fields.{u8_field, bytes_field}
use Rattle.unit_form.specs.Forms.{count_bytes, count_size}
use Rattle.unit_form.specs.TreeFields.{arity, is_tag, operand_field, operand_size, operator_of_byte, root_field, root_of, roots_field, tree_roots, unary_of_byte}
use Rattle.unit_form.specs.TreeSpelling.{operator_byte, root_bytes, tree_bytes, unary_byte}
use Rattle.unit_form.specs.declared.form.UnitForm.{UnitForm}
use Rattle.unit_form.proofs.ArgsFit.{ArgFits, ArgsFit}
use Rattle.unit_form.proofs.Again.{ReadsBack, bytes_again, one_test, test_before, u8_again}
use Rattle.unit_form.proofs.WholeTrees.{Complete}

-- ---- one root

-- The tag of a root, and its operand.
abbrev tag_of : Root → ℕ
tag_of (ConstRoot n) = 1
tag_of (ArgRoot n) = 2
tag_of NullRoot = 3
tag_of ResultRoot = 4
tag_of LenRoot = 5
tag_of (ElemRoot place) = 6
tag_of (BinRoot operator) = 7
tag_of (UnRoot operator) = 8
tag_of OldRoot = 9
tag_of CondRoot = 10

abbrev operand_of : UnitForm → Root → List ℕ
operand_of form (ConstRoot n) = little_bytes 4 (unsigned n)
operand_of form (ArgRoot n) = count_bytes form n
operand_of form (ElemRoot place) = place_number place ∷ []
operand_of form (BinRoot operator) = operator_byte operator ∷ []
operand_of form (UnRoot operator) = unary_byte operator ∷ []
operand_of form root = []

record RootAgain (form : UnitForm) (root : Root) : Type 0 where
  bytes : root_bytes form root ≡ tag_of root ∷ operand_of form root
  tag : is_tag (tag_of root) ≡ true
  size : operand_size form (tag_of root) ≡ length (operand_of form root)
  found : root_of form (tag_of root) (operand_of form root) ≡ Some root

operator_found : (operator : BinOp) → operator_of_byte (operator_byte operator) ≡ Some operator
operator_found operators.Add = refl
operator_found operators.Sub = refl
operator_found operators.Mul = refl
operator_found operators.Div = refl
operator_found operators.DivUn = refl
operator_found operators.Rem = refl
operator_found operators.RemUn = refl
operator_found operators.And = refl
operator_found operators.Or = refl
operator_found operators.Xor = refl
operator_found operators.Shl = refl
operator_found operators.Shr = refl
operator_found operators.ShrUn = refl
operator_found operators.AddOvf = refl
operator_found operators.MulOvf = refl
operator_found operators.SubOvf = refl
operator_found operators.Ceq = refl
operator_found operators.Cgt = refl
operator_found operators.CgtUn = refl
operator_found operators.Clt = refl
operator_found operators.CltUn = refl

place_found : (place : Place) → place_of_number (place_number place) ≡ Some place
place_found places.Void = refl
place_found places.Bool = refl
place_found places.Int = refl
place_found places.Bools = refl
place_found places.Ints = refl

unary_found : (operator : UnOp) → unary_of_byte (unary_byte operator) ≡ Some operator
unary_found unary.Neg = refl
unary_found unary.Not = refl

unsigned_small : (n : ℤ) → FitsSigned w32 n → unsigned n < 256 ^ 4
unsigned_small n fits = Fits-lt-pow {w = w32} {n = unsigned n} (Fits-of_z {w = w32} {z = n} fits)

root_facts : (form : UnitForm) (root : Root) → IsIntRoot root → ArgFits form root → RootAgain form root
root_facts form (ConstRoot n) fits small =
    let back : little_number 4 (little_bytes 4 (unsigned n)) ≡ unsigned n =
    ap (little_number 4) (sym (append-nil (little_bytes 4 (unsigned n)))) ∙ number_back 4 (unsigned n) [] (unsigned_small n fits) in
    record { bytes = refl; tag = refl; size = sym (length-little_bytes 4 (unsigned n)); found = ap (λ (k : ℕ). Some (ConstRoot (signed k))) back ∙ ap (λ (m : ℤ). Some (ConstRoot m)) (to_z-of_z w32 n fits) }
root_facts form (ArgRoot n) fits small =
    let back : little_number (count_size form) (count_bytes form n) ≡ n =
    ap (little_number (count_size form)) (sym (append-nil (count_bytes form n))) ∙ number_back (count_size form) n [] small in
    record { bytes = refl; tag = refl; size = sym (length-little_bytes (count_size form) n); found = ap (λ (k : ℕ). Some (ArgRoot k)) back }
root_facts form NullRoot fits small = record { bytes = refl; tag = refl; size = refl; found = refl }
root_facts form ResultRoot fits small = record { bytes = refl; tag = refl; size = refl; found = refl }
root_facts form LenRoot fits small = record { bytes = refl; tag = refl; size = refl; found = refl }
root_facts form (ElemRoot place) fits small = record { bytes = refl; tag = refl; size = refl; found = ap (option_map ElemRoot) (place_found place) }
root_facts form (BinRoot operator) fits small = record { bytes = refl; tag = refl; size = refl; found = ap (option_map BinRoot) (operator_found operator) }
root_facts form (UnRoot operator) fits small = record { bytes = refl; tag = refl; size = refl; found = ap (option_map UnRoot) (unary_found operator) }
root_facts form OldRoot fits small = record { bytes = refl; tag = refl; size = refl; found = refl }
root_facts form CondRoot fits small = record { bytes = refl; tag = refl; size = refl; found = refl }

operand_again : (form : UnitForm) (bytes : List ℕ) (at : ℕ) (root : Root) (rest : List ℕ) → RootAgain form root → at ≤ length bytes → drop at bytes ≡ operand_of form root ++ rest
    → ReadsBack bytes (operand_field form (tag_of root) bytes at) root rest
unfolding operand_field
operand_again form bytes at root rest facts before there =
    let operand = bytes_field (operand_size form (tag_of root)) bytes at in
    let one = bytes_again bytes at (operand_size form (tag_of root)) (operand_of form root) rest facts.size before there in
    let found : root_of form (tag_of root) operand.value ≡ Some root = ap (root_of form (tag_of root)) one.value ∙ facts.found in
    record {
      passed = first_of-append_none operand.tests _ one.passed ∙ one_test _ _ (ap is_some found);
      value = ap (λ it. option_map_or (λ root. root) it NullRoot) found;
      behind = one.behind;
      inside = one.inside;
    }

pub root_again : (form : UnitForm) (bytes : List ℕ) (at : ℕ) (root : Root) (rest : List ℕ) → IsIntRoot root → ArgFits form root → drop at bytes ≡ root_bytes form root ++ rest → ReadsBack bytes (root_field form bytes at) root rest
unfolding root_field
root_again form bytes at root rest fits small there =
    let facts = root_facts form root fits small in
    let tag = u8_field bytes at in
    let one = u8_again bytes at (tag_of root) (operand_of form root ++ rest) (there ∙ ap (λ (t : List ℕ). t ++ rest) facts.bytes) in
    let two = operand_again form bytes tag.next root rest facts one.inside one.behind in
    let operand = operand_field form tag.value bytes tag.next in
    let same : operand ≡ operand_field form (tag_of root) bytes tag.next = ap (λ (k : ℕ). operand_field form k bytes tag.next) one.value in
    record {
      passed = first_of-append_none tag.tests _ one.passed ∙ test_before _ _ operand.tests (ap is_tag one.value ∙ facts.tag) (ap (λ parse. first_of parse.tests) same ∙ two.passed);
      value = ap (λ parse. parse.value) same ∙ two.value;
      behind = ap (λ parse. drop parse.next bytes) same ∙ two.behind;
      inside = subst (λ parse. parse.next ≤ length bytes) (sym same) two.inside;
    }

-- ---- all roots of a tree

ended : (form : UnitForm) (most : ℕ) (bytes : List ℕ) (at : ℕ) (rest : List ℕ) → at ≤ length bytes → drop at bytes ≡ rest → ReadsBack bytes (roots_field form most 0 bytes at) [] rest
unfolding roots_field
ended form zero bytes at rest before there = record { passed = first_of-nil; value = refl; behind = there; inside = before }
ended form (suc most) bytes at rest before there = record { passed = first_of-nil; value = refl; behind = there; inside = before }

roots_again : (form : UnitForm) (most trees : ℕ) (bytes : List ℕ) (at : ℕ) (roots : List Root) (rest : List ℕ) → Complete trees roots → AllByRecursion IsIntRoot roots → AllByRecursion (ArgFits form) roots → length roots ≤ most → at ≤ length bytes
    → drop at bytes ≡ flat_map (root_bytes form) roots ++ rest → ReadsBack bytes (roots_field form most trees bytes at) roots rest
unfolding roots_field
roots_again form most trees bytes at [] rest e ints args few before there = subst (λ n. ReadsBack bytes (roots_field form most n bytes at) [] rest) (sym e) (ended form most bytes at rest before there)
roots_again form zero trees bytes at (root ∷ roots) rest whole ints args few before there = absurd (omega (arith, few))
roots_again form (suc most) trees bytes at (root ∷ roots) rest (others, e, whole) ints args few before there =
    let first = root_field form bytes at in
    let here = root_again form bytes at root (flat_map (root_bytes form) roots ++ rest) ints.0 args.0 (there ∙ append_assoc (root_bytes form root) (flat_map (root_bytes form) roots) rest) in
    let later = roots_again form most (arity root + others) bytes first.next roots rest whole ints.1 args.1 (omega (arith, few)) here.inside here.behind in
    let left = roots_field form most (arity first.value + others) bytes first.next in
    let same : left ≡ roots_field form most (arity root + others) bytes first.next = ap (λ r. roots_field form most (arity r + others) bytes first.next) here.value in
    subst (λ n. ReadsBack bytes (roots_field form (suc most) n bytes at) (root ∷ roots) rest) (sym e) (record {
      passed = first_of-append_none first.tests left.tests here.passed ∙ ap (λ parse. first_of parse.tests) same ∙ later.passed;
      value = ap (λ parse. first.value ∷ parse.value) same ∙ ap (λ rs. first.value ∷ rs) later.value ∙ ap (λ r. r ∷ roots) here.value;
      behind = ap (λ parse. drop parse.next bytes) same ∙ later.behind;
      inside = subst (λ parse. parse.next ≤ length bytes) (sym same) later.inside;
    })

the_sum : (n : ℕ) → n ≡ 0 + n
the_sum n = omega arith

one_more : (n : ℕ) → suc n ≡ 1 + n
one_more n = omega arith

two_more : (n : ℕ) → suc (suc n) ≡ 2 + n
two_more n = omega arith

three_more : (n : ℕ) → suc (suc (suc n)) ≡ 3 + n
three_more n = omega arith

-- The roots of a tree, before those of others.
complete : (tree : Term) (trees : ℕ) (roots : List Root) → Complete trees roots → Complete (suc trees) (preorder tree ++ roots)
complete (Const n) trees roots whole = (trees, refl, subst (λ k. Complete k roots) (the_sum trees) whole)
complete (Arg n) trees roots whole = (trees, refl, subst (λ k. Complete k roots) (the_sum trees) whole)
complete Null trees roots whole = (trees, refl, subst (λ k. Complete k roots) (the_sum trees) whole)
complete Result trees roots whole = (trees, refl, subst (λ k. Complete k roots) (the_sum trees) whole)
complete (Len a) trees roots whole = (trees, refl, subst (λ k. Complete k (preorder a ++ roots)) (one_more trees) (complete a trees roots whole))
complete (Elem place a b) trees roots whole =
    (trees, refl, subst (λ k. Complete k ((preorder a ++ preorder b) ++ roots)) (two_more trees) (subst (λ rs. Complete (suc (suc trees)) rs) (sym (append_assoc (preorder a) (preorder b) roots)) (complete a (suc trees) (preorder b ++ roots) (complete b trees roots whole))))
complete (Bin operator a b) trees roots whole =
    (trees, refl, subst (λ k. Complete k ((preorder a ++ preorder b) ++ roots)) (two_more trees) (subst (λ rs. Complete (suc (suc trees)) rs) (sym (append_assoc (preorder a) (preorder b) roots)) (complete a (suc trees) (preorder b ++ roots) (complete b trees roots whole))))
complete (Un operator a) trees roots whole = (trees, refl, subst (λ k. Complete k (preorder a ++ roots)) (one_more trees) (complete a trees roots whole))
complete (Old a) trees roots whole = (trees, refl, subst (λ k. Complete k (preorder a ++ roots)) (one_more trees) (complete a trees roots whole))
complete (Cond a b c) trees roots whole =
    let inner : Complete (suc (suc trees)) ((preorder b ++ preorder c) ++ roots) =
    subst (λ rs. Complete (suc (suc trees)) rs) (sym (append_assoc (preorder b) (preorder c) roots)) (complete b (suc trees) (preorder c ++ roots) (complete c trees roots whole)) in
    let outer : Complete (suc (suc (suc trees))) ((preorder a ++ (preorder b ++ preorder c)) ++ roots) =
    subst (λ rs. Complete (suc (suc (suc trees))) rs) (sym (append_assoc (preorder a) (preorder b ++ preorder c) roots)) (complete a (suc (suc trees)) ((preorder b ++ preorder c) ++ roots) inner) in
    (trees, refl, subst (λ k. Complete k ((preorder a ++ (preorder b ++ preorder c)) ++ roots)) (three_more trees) outer)

complete_one : (tree : Term) → Complete 1 (preorder tree)
complete_one tree = subst (λ rs. Complete 1 rs) (append-nil (preorder tree)) (complete tree 0 [] refl)

some_bytes : (form : UnitForm) (root : Root) → 1 ≤ length (root_bytes form root)
some_bytes form (ConstRoot n) = omega arith
some_bytes form (ArgRoot n) = omega arith
some_bytes form NullRoot = omega arith
some_bytes form ResultRoot = omega arith
some_bytes form LenRoot = omega arith
some_bytes form (ElemRoot place) = omega arith
some_bytes form (BinRoot operator) = omega arith
some_bytes form (UnRoot operator) = omega arith
some_bytes form OldRoot = omega arith
some_bytes form CondRoot = omega arith

-- Each root has a byte.
a_byte_each : (form : UnitForm) (roots : List Root) → length roots ≤ length (flat_map (root_bytes form) roots)
a_byte_each form [] = omega arith
a_byte_each form (root ∷ roots) = omega (arith, a_byte_each form roots, some_bytes form root, length-append (root_bytes form root) (flat_map (root_bytes form) roots))

pub tree_again : (form : UnitForm) (bytes : List ℕ) (at : ℕ) (tree : Term) (rest : List ℕ) → AllByRecursion IsIntRoot (preorder tree) → ArgsFit form tree → at ≤ length bytes → drop at bytes ≡ tree_bytes form tree ++ rest
    → ReadsBack bytes (tree_roots form bytes at) (preorder tree) rest
unfolding tree_roots
tree_again form bytes at tree rest ints args before there =
    roots_again form (length bytes) 1 bytes at (preorder tree) rest (complete_one tree) ints args
    (omega (arith, a_byte_each form (preorder tree), ap length there, length-append (tree_bytes form tree) rest, length-drop at bytes)) before there
