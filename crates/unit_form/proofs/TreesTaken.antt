-- Trees whose tests are passed are spelled where they stand.
use Rattle.std.proofs.Common.{◌≡◌, ℕ, zero, suc, ◌+◌, ◌^◌, ◌<◌, true, List, [], ◌∷◌, ◌++◌, length, drop, slice_index, Option, None, Some, option_map, refl, sym, subst, ap, ◌∙◌, arith, append_assoc}
use Rattle.std.specs.Prelude.{is_some, ⊤}
use Rattle.std.specs.List.{flat_map, AllByRecursion}
use Rattle.std.specs.Option.{option_map_or}
use Rattle.std.specs.Int.{w32}
use Rattle.std.proofs.Math.Facts.{sfits_to_z, Fits-of_lt}
use Rattle.std.proofs.lemmas.Int.{of_z-to_z}
use Rattle.byteorder.specs.Endian.{little_bytes, little_number}
use Rattle.cc_base.specs.LittleEndian.{IsBytes}
use Rattle.cc_base.specs.Tests.{first_of, must}
use Rattle.cc_base.proofs.ByteLemmas.{bytes_back, little_number-lt, IsBytes-drop, IsBytes-take}
use Rattle.cc_base.proofs.TestLemmas.{none_before, none_behind, none_here, first_of-one}
use Rattle.cil_model.specs.Arithmetic.{signed, unsigned}
use Rattle.cil_model.specs.TermCodes.{Root, NullRoot, ElemRoot, BinRoot, UnRoot, preorder}
use Rattle.cil_model.specs.WellFormed.{IsIntRoot}
use Rattle.cil_model.specs.declared.instruction.BinOp.{BinOp}
use Rattle.cil_model.specs.declared.instruction.UnOp.{UnOp}
use Rattle.cil_model.specs.declared.place.Place.{Place}
use Rattle.unit_form.specs.Fields.{u8_field, bytes_field}
use Rattle.unit_form.specs.Forms.{count_size}
use Rattle.unit_form.specs.TreeFields.{arity, bare_root, bitwise_of_byte, comparison_of_byte, is_tag, operand_field, operand_size, operator_of_byte, root_field, root_of, roots_field, tree_of_roots, tree_roots, unary_of_byte}
use Rattle.unit_form.specs.declared.unit_fault.UnitFault.TheVariants.{Short}
use Rattle.unit_form.specs.TreeSpelling.{operator_byte, root_bytes, tree_bytes, unary_byte}
use Rattle.unit_form.specs.declared.form.UnitForm.{UnitForm}
use Rattle.unit_form.proofs.Taken.{Stands, u8_taken, bytes_taken, length-bytes_field, holds, case_of, place_numbers, IsNumbered}
use Rattle.unit_form.proofs.WholeTrees.{one_tree, no_fault}

-- ---- operators

abbrev IsOperator : ℕ → Option BinOp → Type 0
IsOperator b None = ⊤
IsOperator b (Some operator) = operator_byte operator ≡ b

comparisons : (b : ℕ) → IsOperator b (comparison_of_byte b)
comparisons b =
    case_of (IsOperator b) b 0xc1 _ _ (λ e. sym e) (case_of (IsOperator b) b 0xc2 _ _ (λ e. sym e) (case_of (IsOperator b) b 0xc3 _ _ (λ e. sym e)
    (case_of (IsOperator b) b 0xc4 _ _ (λ e. sym e) (case_of (IsOperator b) b 0xc5 _ _ (λ e. sym e) tt))))

bitwise : (b : ℕ) → IsOperator b (bitwise_of_byte b)
bitwise b =
    case_of (IsOperator b) b 0x5f _ _ (λ e. sym e) (case_of (IsOperator b) b 0x60 _ _ (λ e. sym e) (case_of (IsOperator b) b 0x61 _ _ (λ e. sym e)
    (case_of (IsOperator b) b 0x62 _ _ (λ e. sym e) (case_of (IsOperator b) b 0x63 _ _ (λ e. sym e) (case_of (IsOperator b) b 0x64 _ _ (λ e. sym e) (comparisons b))))))

operators : (b : ℕ) → IsOperator b (operator_of_byte b)
operators b =
    case_of (IsOperator b) b 0x58 _ _ (λ e. sym e) (case_of (IsOperator b) b 0x59 _ _ (λ e. sym e) (case_of (IsOperator b) b 0x5a _ _ (λ e. sym e)
    (case_of (IsOperator b) b 0x5b _ _ (λ e. sym e) (case_of (IsOperator b) b 0x5c _ _ (λ e. sym e) (case_of (IsOperator b) b 0x5d _ _ (λ e. sym e)
    (case_of (IsOperator b) b 0x5e _ _ (λ e. sym e) (case_of (IsOperator b) b 0xd6 _ _ (λ e. sym e) (case_of (IsOperator b) b 0xd8 _ _ (λ e. sym e)
    (case_of (IsOperator b) b 0xda _ _ (λ e. sym e) (bitwise b))))))))))

abbrev IsUnary : ℕ → Option UnOp → Type 0
IsUnary b None = ⊤
IsUnary b (Some operator) = unary_byte operator ≡ b

unaries : (b : ℕ) → IsUnary b (unary_of_byte b)
unaries b = case_of (IsUnary b) b 0x65 _ _ (λ e. sym e) (case_of (IsUnary b) b 0x66 _ _ (λ e. sym e) tt)

-- ---- one root

-- The bytes of a tag and its operand are those of the root.
abbrev Spells : UnitForm → ℕ → List ℕ → Option Root → Type 0
Spells form tag operand None = ⊤
Spells form tag operand (Some root) = root_bytes form root ≡ tag ∷ operand

-- An operand of one byte is that byte.
one_byte : (operand : List ℕ) → length operand ≡ 1 → slice_index operand 0 ∷ [] ≡ operand
one_byte [] e = absurd (omega (arith, e))
one_byte (b ∷ []) e = refl
one_byte (b ∷ c ∷ operand) e = absurd (omega (arith, e))

no_bytes : (operand : List ℕ) → length operand ≡ 0 → [] ≡ operand
no_bytes [] e = refl
no_bytes (b ∷ operand) e = absurd (omega (arith, e))

elem : (form : UnitForm) (b : ℕ) (found : Option Place) → IsNumbered b found → Spells form 6 (b ∷ []) (option_map ElemRoot found)
elem form b (Some place) e = ap (λ (n : ℕ). 6 ∷ n ∷ []) e
elem form b None e = tt

bin : (form : UnitForm) (b : ℕ) (found : Option BinOp) → IsOperator b found → Spells form 7 (b ∷ []) (option_map BinRoot found)
bin form b (Some operator) e = ap (λ (n : ℕ). 7 ∷ n ∷ []) e
bin form b None e = tt

un : (form : UnitForm) (b : ℕ) (found : Option UnOp) → IsUnary b found → Spells form 8 (b ∷ []) (option_map UnRoot found)
un form b (Some operator) e = ap (λ (n : ℕ). 8 ∷ n ∷ []) e
un form b None e = tt

with_byte : (form : UnitForm) (tag k : ℕ) (operand : List ℕ) (found : Option Root) → tag ≡ k → length operand ≡ 1 → Spells form k (slice_index operand 0 ∷ []) found → Spells form tag operand found
with_byte form tag k operand found e size is = rw e (subst (λ t. Spells form k t found) (one_byte operand size) is)

bare : (form : UnitForm) (tag : ℕ) (operand : List ℕ) → length operand ≡ operand_size form tag → Spells form tag operand (bare_root tag)
bare form tag operand size =
    case_of (Spells form tag operand) tag 3 _ _ (λ e. rw e (ap (λ (t : List ℕ). 3 ∷ t) (no_bytes operand (size ∙ ap (operand_size form) e))))
    (case_of (Spells form tag operand) tag 4 _ _ (λ e. rw e (ap (λ (t : List ℕ). 4 ∷ t) (no_bytes operand (size ∙ ap (operand_size form) e))))
    (case_of (Spells form tag operand) tag 5 _ _ (λ e. rw e (ap (λ (t : List ℕ). 5 ∷ t) (no_bytes operand (size ∙ ap (operand_size form) e))))
    (case_of (Spells form tag operand) tag 9 _ _ (λ e. rw e (ap (λ (t : List ℕ). 9 ∷ t) (no_bytes operand (size ∙ ap (operand_size form) e))))
    (case_of (Spells form tag operand) tag 10 _ _ (λ e. rw e (ap (λ (t : List ℕ). 10 ∷ t) (no_bytes operand (size ∙ ap (operand_size form) e)))) tt))))

whole_number : (width : ℕ) (operand : List ℕ) → IsBytes operand → length operand ≡ width → little_bytes width (little_number width operand) ≡ operand
whole_number width operand fits size = ap (λ (n : ℕ). little_bytes n (little_number n operand)) (sym size) ∙ bytes_back operand fits

number_of_four : (operand : List ℕ) → IsBytes operand → length operand ≡ 4 → little_bytes 4 (unsigned (signed (little_number 4 operand))) ≡ operand
number_of_four operand fits size =
    let small : little_number 4 operand < 256 ^ 4 = little_number-lt 4 operand fits in
    ap (little_bytes 4) (of_z-to_z w32 (little_number 4 operand) small) ∙ whole_number 4 operand fits size

spells : (form : UnitForm) (tag : ℕ) (operand : List ℕ) → IsBytes operand → length operand ≡ operand_size form tag → Spells form tag operand (root_of form tag operand)
spells form tag operand fits size =
    case_of (Spells form tag operand) tag 1 _ _ (λ e. rw e (ap (λ (t : List ℕ). 1 ∷ t) (number_of_four operand fits (size ∙ ap (operand_size form) e))))
    (case_of (Spells form tag operand) tag 2 _ _ (λ e. rw e (ap (λ (t : List ℕ). 2 ∷ t) (whole_number (count_size form) operand fits (size ∙ ap (operand_size form) e))))
    (case_of (Spells form tag operand) tag 6 _ _ (λ e. with_byte form tag 6 operand _ e (size ∙ ap (operand_size form) e) (elem form (slice_index operand 0) _ (place_numbers (slice_index operand 0))))
    (case_of (Spells form tag operand) tag 7 _ _ (λ e. with_byte form tag 7 operand _ e (size ∙ ap (operand_size form) e) (bin form (slice_index operand 0) _ (operators (slice_index operand 0))))
    (case_of (Spells form tag operand) tag 8 _ _ (λ e. with_byte form tag 8 operand _ e (size ∙ ap (operand_size form) e) (un form (slice_index operand 0) _ (unaries (slice_index operand 0))))
    (bare form tag operand size)))))

-- ---- the constants of roots

operand_fits : (form : UnitForm) (tag from : ℕ) (bytes : List ℕ) → IsBytes bytes → IsBytes (bytes_field (operand_size form tag) bytes from).value
unfolding bytes_field
operand_fits form tag from bytes fits = IsBytes-take (operand_size form tag) (drop from bytes) (IsBytes-drop from bytes fits)

abbrev AreInts : Option Root → Type 0
AreInts None = ⊤
AreInts (Some root) = IsIntRoot root

bare_ints : (tag : ℕ) → AreInts (bare_root tag)
bare_ints tag = case_of AreInts tag 3 _ _ (λ e. tt) (case_of AreInts tag 4 _ _ (λ e. tt) (case_of AreInts tag 5 _ _ (λ e. tt) (case_of AreInts tag 9 _ _ (λ e. tt) (case_of AreInts tag 10 _ _ (λ e. tt) tt))))

elem_ints : (found : Option Place) → AreInts (option_map ElemRoot found)
elem_ints None = tt
elem_ints (Some place) = tt

bin_ints : (found : Option BinOp) → AreInts (option_map BinRoot found)
bin_ints None = tt
bin_ints (Some operator) = tt

un_ints : (found : Option UnOp) → AreInts (option_map UnRoot found)
un_ints None = tt
un_ints (Some operator) = tt

are_ints : (form : UnitForm) (tag : ℕ) (operand : List ℕ) → IsBytes operand → AreInts (root_of form tag operand)
are_ints form tag operand fits =
    case_of AreInts tag 1 _ _ (λ e. sfits_to_z {w = w32} {n = little_number 4 operand} (Fits-of_lt {w = w32} {n = little_number 4 operand} (little_number-lt 4 operand fits))) (case_of AreInts tag 2 _ _ (λ e. tt)
    (case_of AreInts tag 6 _ _ (λ e. elem_ints _) (case_of AreInts tag 7 _ _ (λ e. bin_ints _) (case_of AreInts tag 8 _ _ (λ e. un_ints _) (bare_ints tag)))))

found_int : (found : Option Root) → AreInts found → IsIntRoot (option_map_or (λ root. root) found NullRoot)
found_int (Some root) is = is
found_int None is = tt

root_int : (form : UnitForm) (bytes : List ℕ) (at : ℕ) → IsBytes bytes → IsIntRoot (root_field form bytes at).value
unfolding root_field operand_field
root_int form bytes at fits =
    let tag = (u8_field bytes at).value in
    found_int _ (are_ints form tag _ (operand_fits form tag (u8_field bytes at).next bytes fits))

root_ints : (form : UnitForm) (most trees : ℕ) (bytes : List ℕ) (at : ℕ) → IsBytes bytes → AllByRecursion IsIntRoot (roots_field form most trees bytes at).value
unfolding roots_field
root_ints form zero zero bytes at fits = tt
root_ints form (suc most) zero bytes at fits = tt
root_ints form zero (suc trees) bytes at fits = tt
root_ints form (suc most) (suc trees) bytes at fits =
    (root_int form bytes at fits, root_ints form most (arity (root_field form bytes at).value + trees) bytes (root_field form bytes at).next fits)

tree_root_ints : (form : UnitForm) (bytes : List ℕ) (at : ℕ) → IsBytes bytes → AllByRecursion IsIntRoot (tree_roots form bytes at).value
unfolding tree_roots
tree_root_ints form bytes at fits = root_ints form (length bytes) 1 bytes at fits

pub tree_ints : (form : UnitForm) (bytes : List ℕ) (at : ℕ) → IsBytes bytes → first_of (tree_roots form bytes at).tests ≡ None → AllByRecursion IsIntRoot (preorder (tree_of_roots (tree_roots form bytes at).value))
tree_ints form bytes at fits passed =
    let one = one_tree form bytes at passed in
    rw (one.is, one.same) (tree_root_ints form bytes at fits)

-- ---- roots and trees

found_root : (form : UnitForm) (found : Option Root) (tag : ℕ) (operand : List ℕ) → is_some found ≡ true → Spells form tag operand found → root_bytes form (option_map_or (λ root. root) found NullRoot) ≡ tag ∷ operand
found_root form (Some root) tag operand some is = is
found_root form None tag operand some is = absurd (cc)

root_taken : (form : UnitForm) (bytes : List ℕ) (at : ℕ) → IsBytes bytes → first_of (root_field form bytes at).tests ≡ None → Stands bytes at (root_field form bytes at) (root_bytes form (root_field form bytes at).value)
unfolding root_field operand_field
root_taken form bytes at fits passed =
    let tag = u8_field bytes at in
    let operand = bytes_field (operand_size form tag.value) bytes tag.next in
    let one = none_before tag.tests _ passed in
    let rest = none_behind (must (is_tag tag.value) _ ∷ []) (operand_field form tag.value bytes tag.next).tests (none_behind tag.tests (must (is_tag tag.value) _ ∷ (operand_field form tag.value bytes tag.next).tests) passed) in
    let two = none_before operand.tests _ rest in
    let three = none_here _ [] (none_behind operand.tests _ rest) in
    let size = length-bytes_field (operand_size form tag.value) bytes tag.next two in
    let spelled = found_root form _ tag.value operand.value (holds _ _ three) (spells form tag.value operand.value (operand_fits form tag.value tag.next bytes fits) size) in
    record {
      there = (u8_taken bytes at one).there ∙ ap (λ (t : List ℕ). tag.value ∷ t) (bytes_taken (operand_size form tag.value) bytes tag.next).there
          ∙ ap (λ (t : List ℕ). t ++ drop operand.next bytes) (sym spelled);
    }

roots_taken : (form : UnitForm) (most trees : ℕ) (bytes : List ℕ) (at : ℕ) → IsBytes bytes → first_of (roots_field form most trees bytes at).tests ≡ None
    → Stands bytes at (roots_field form most trees bytes at) (flat_map (root_bytes form) (roots_field form most trees bytes at).value)
unfolding roots_field
roots_taken form zero zero bytes at fits passed = record { there = refl }
roots_taken form (suc most) zero bytes at fits passed = record { there = refl }
roots_taken form zero (suc trees) bytes at fits passed = absurd (no_fault (sym (first_of-one (Some (Short at))) ∙ passed))
roots_taken form (suc most) (suc trees) bytes at fits passed =
    let first = root_field form bytes at in
    let others = roots_field form most (arity first.value + trees) bytes first.next in
    let here = root_taken form bytes at fits (none_before first.tests others.tests passed) in
    let later = roots_taken form most (arity first.value + trees) bytes first.next fits (none_behind first.tests others.tests passed) in
    record { there = here.there ∙ ap (λ (t : List ℕ). root_bytes form first.value ++ t) later.there ∙ sym (append_assoc (root_bytes form first.value) (flat_map (root_bytes form) others.value) _) }

roots_stand : (form : UnitForm) (bytes : List ℕ) (at : ℕ) → IsBytes bytes → first_of (tree_roots form bytes at).tests ≡ None → Stands bytes at (tree_roots form bytes at) (flat_map (root_bytes form) (tree_roots form bytes at).value)
unfolding tree_roots
roots_stand form bytes at fits passed = record { there = (roots_taken form (length bytes) 1 bytes at fits passed).there }

pub tree_taken : (form : UnitForm) (bytes : List ℕ) (at : ℕ) → IsBytes bytes → first_of (tree_roots form bytes at).tests ≡ None → Stands bytes at (tree_roots form bytes at) (tree_bytes form (tree_of_roots (tree_roots form bytes at).value))
tree_taken form bytes at fits passed =
    let one = one_tree form bytes at passed in
    let same : flat_map (root_bytes form) (tree_roots form bytes at).value ≡ tree_bytes form (tree_of_roots (tree_roots form bytes at).value) =
    ap (flat_map (root_bytes form)) (sym one.same) ∙ ap (tree_bytes form) (sym one.is) in
    record { there = (roots_stand form bytes at fits passed).there ∙ ap (λ (t : List ℕ). t ++ drop (tree_roots form bytes at).next bytes) same }
