-- Variables and references of a state that holds: what they are worth, and what they are in new names.
use Rattle.std.proofs.Common.{◌≡◌, ℕ, zero, suc, ◌-◌, ◌==◌, ◌<◌, ◌^◌, ℤ, pos, ◌+ℤ◌, nat_lt, Bool, true, false, List, [], ◌∷◌, ◌++◌, length, map, slice_get, Option, Some, None, FitsSigned, w32, refl, sym, ap, ◌∙◌, subst, inl, inr, arith}
use Rattle.std.specs.Prelude.{if◌then◌else◌}
use Rattle.std.specs.List.{AllByRecursion}
use Rattle.std.proofs.lemmas.Bool.{cases_Bool}
use Rattle.std.proofs.lemmas.Bool.Decides.{Decides-eqb}
use Rattle.std.proofs.lemmas.Int.{ints}
use Rattle.domain_api.specs.declared.expr.Expr.{Expr}
use Rattle.alias_facts.specs.Arrays.{is_no_array}
use Rattle.alias_facts.specs.NullnessOf.{Agrees}
use Rattle.cil_model.specs.Comparisons.{number_of, reference_of}
use Rattle.cil_model.specs.Values.{Heap, IsHeap, has_item}
use Rattle.cil_model.specs.declared.machine.Value.{Value}
use Rattle.cil_model.specs.declared.machine.Value.TheVariants as values
use Rattle.cil_model.specs.declared.place.Place.{Place}
use Rattle.frame_names.specs.Frames.{AreAlike, length_at, length_in, nullness_at, nullness_in, numbers_of, place_at, place_in, references_of}
use Rattle.frame_names.specs.Frames as frames
use Rattle.frame_names.specs.Meaning.{Said, a_number, a_text, an_address, an_array, said}
use Rattle.frame_names.specs.PairedFrames.{old_of}
use Rattle.frame_names.specs.declared.reference.Reference.{Reference}
use Rattle.frame_names.specs.declared.var.Var.{Var}
use Rattle.frame_names.specs.declared.var.Var.TheVariants as vars
use Rattle.symbolic_values.specs.Worth.{worth}
use Rattle.symbolic_values.specs.declared.pairs.Key.{Key}
use Rattle.state_facts.specs.Holds as holds
use Rattle.state_facts.specs.Holds.{AreSo, FitsArray, HasValue, HaveValues, IsSo, address_of, length_of_array}
use Rattle.merged_states.specs.Alike.{AreLike}
use Rattle.merged_states.specs.Following.{AreNoneBeyond, IsMachineNumber}
use Rattle.state_facts.specs.StateFacts as states
use Rattle.state_facts.specs.StateFacts.{StateFacts}
use Rattle.merged_states.specs.Laws.Uses.{AllFit}

-- ---- variables

pub vars_fit : (number : ℕ → ℤ) (array : ℕ → Option ℕ) (vs : List Var) (values : List Value)
    → HaveValues number array vs values
    → AllByRecursion IsMachineNumber values → AllFit number (numbers_of vs)
vars_fit number array [] values has fit = tt
vars_fit number array (v ∷ vs) [] has fit = absurd has
vars_fit number array (vars.Number e ∷ vs) (value ∷ values) has fit =
    (fit.0.number (worth number e) has.0, vars_fit number array vs values has.1 fit.1)
vars_fit number array (vars.Reference r ∷ vs) (value ∷ values) has fit = vars_fit number array vs values has.1 fit.1
vars_fit number array (vars.Text ∷ vs) (value ∷ values) has fit = vars_fit number array vs values has.1 fit.1
vars_fit number array (vars.Address r e ∷ vs) (value ∷ values) has fit =
    (fit.0.index (array r) (worth number e) has.0, vars_fit number array vs values has.1 fit.1)

pub both_fit : (number : ℕ → ℤ) (es fs : List Expr) → AllFit number es → AllFit number fs → AllFit number (es ++ fs)
both_fit number [] fs first second = second
both_fit number (e ∷ es) fs first second = (first.0, both_fit number es fs first.1 second)

pub alike_of : (a b : StateFacts) (xs ys : List Var) → AreLike a b xs ys → AreAlike xs ys
alike_of a b [] [] like = tt
alike_of a b [] (y ∷ ys) like = absurd like
alike_of a b (x ∷ xs) [] like = absurd like
alike_of a b (vars.Number e ∷ xs) (vars.Number f ∷ ys) like = (refl, alike_of a b xs ys like.1)
alike_of a b (vars.Reference r ∷ xs) (vars.Reference q ∷ ys) like = (refl, alike_of a b xs ys like.1)
alike_of a b (vars.Text ∷ xs) (vars.Text ∷ ys) like = (refl, alike_of a b xs ys like.1)
alike_of a b (vars.Address r e ∷ xs) (vars.Address q f ∷ ys) like = (refl, alike_of a b xs ys like.1)
alike_of a b (x ∷ xs) (y ∷ ys) like = absurd like.0

-- ---- what variables have, by what they say

-- A value is what a variable says.
abbrev pub IsSaid : Said → Value → Type 0
IsSaid (a_number n) value = number_of value ≡ Some n
IsSaid (an_array array) value = reference_of value ≡ Some array
IsSaid a_text value = value ≡ values.Text
IsSaid (an_address array n) value = address_of value ≡ Some (array, n)

abbrev pub AreSaid : List Said → List Value → Type 0
AreSaid [] [] = Unit {0}
AreSaid (x ∷ xs) (value ∷ values) = IsSaid x value × AreSaid xs values
AreSaid _ _ = ⊥

said_by : (number : ℕ → ℤ) (array : ℕ → Option ℕ) (vs : List Var) (values : List Value)
    → HaveValues number array vs values
    → AreSaid (map (said number array) vs) values
said_by number array [] [] have = have
said_by number array [] (value ∷ values) have = have
said_by number array (v ∷ vs) [] have = have
said_by number array (vars.Number e ∷ vs) (value ∷ values) have = (have.0, said_by number array vs values have.1)
said_by number array (vars.Reference r ∷ vs) (value ∷ values) have = (have.0, said_by number array vs values have.1)
said_by number array (vars.Text ∷ vs) (value ∷ values) have = (have.0, said_by number array vs values have.1)
said_by number array (vars.Address r e ∷ vs) (value ∷ values) have = (have.0, said_by number array vs values have.1)

have_said : (number : ℕ → ℤ) (array : ℕ → Option ℕ) (vs : List Var) (values : List Value)
    → AreSaid (map (said number array) vs) values
    → HaveValues number array vs values
have_said number array [] [] are = are
have_said number array [] (value ∷ values) are = are
have_said number array (v ∷ vs) [] are = are
have_said number array (vars.Number e ∷ vs) (value ∷ values) are = (are.0, have_said number array vs values are.1)
have_said number array (vars.Reference r ∷ vs) (value ∷ values) are = (are.0, have_said number array vs values are.1)
have_said number array (vars.Text ∷ vs) (value ∷ values) are = (are.0, have_said number array vs values are.1)
have_said number array (vars.Address r e ∷ vs) (value ∷ values) are = (are.0, have_said number array vs values are.1)

-- Variables that say the same have the same values.
pub have_same : (number later : ℕ → ℤ) (array later_array : ℕ → Option ℕ) (new old : List Var) (values : List Value)
    → map (said later later_array) new ≡ map (said number array) old → HaveValues number array old values
    → HaveValues later later_array new values
have_same number later array later_array new old values same have =
    have_said later later_array new values
    (subst (λ xs. AreSaid xs values) (sym same) (said_by number array old values have))

-- ---- references

not_zero : (r : ℕ) → (suc r == 0) ≡ false
not_zero r = elim (cases_Bool (suc r == 0)) [
  | inl is ↦ absurd (omega (arith, (Decides-eqb (suc r) 0).0 is))
  | inr is ↦ is
]

one_back : (r : ℕ) → r ≡ suc r - 1
one_back r = omega arith

-- Both tables of references are read alike.
pub same_entry : (references : List Reference) (r : ℕ)
    → states.reference_at references r ≡ frames.reference_at references r
unfolding states.reference_at
same_entry references zero = refl
same_entry references (suc r) =
    ap (slice_get references) (one_back r)
    ∙ sym (ap (λ b. if b then None else slice_get references (suc r - 1)) (not_zero r))

few_items : (heap : Heap) (i : ℕ) → IsHeap heap → holds.length_in heap i < 2 ^ 31
few_items [] i arrays = grind arith
few_items (cell ∷ heap) zero arrays = arrays.0.1
few_items (cell ∷ heap) (suc i) arrays = few_items heap i arrays.1

few_indices : (heap : Heap) (a n : ℕ) → IsHeap heap → has_item heap a n ≡ true → n < 2 ^ 31
few_indices [] a n arrays has = absurd cc
few_indices (cell ∷ heap) zero n arrays has = below_all (length cell.items) n arrays.0.1 has
  where
    below_all : (count m : ℕ) → count < 2 ^ 31 → nat_lt m count ≡ true → m < 2 ^ 31
    below_all count m few is = grind (arith, few, is)
few_indices (cell ∷ heap) (suc a) n arrays has = few_indices heap a n arrays.1 has

few_fits : (n : ℕ) → n < 2 ^ 31 → FitsSigned w32 (pos n)
few_fits n few = grind (arith, ints)

-- The index of an item is an int32.
pub index_fits : (heap : Heap) (a n : ℕ) → IsHeap heap → has_item heap a n ≡ true → FitsSigned w32 (pos n)
index_fits heap a n arrays has = few_fits n (few_indices heap a n arrays has)

none_fits : FitsSigned w32 (pos 0)
none_fits = grind (arith, ints)

pub length_fits : (heap : Heap) (array : Option ℕ) → IsHeap heap → FitsSigned w32 (length_of_array heap array)
length_fits heap None arrays = none_fits
length_fits heap (Some i) arrays = few_fits (holds.length_in heap i) (few_items heap i arrays)

-- What is so of a reference: of one that is not there, that it is null.
pub record IsEntry (heap : Heap) (number : ℕ → ℤ) (references : List Reference) (r : ℕ)
    (array : Option ℕ) : Type 0 where
  pub length_is : worth number (length_at references r) ≡ length_of_array heap array
  pub agrees : Agrees (nullness_at references r) (is_no_array array)
  pub fits : (place : Place) → place_at references r ≡ Some place → FitsArray heap place array
  pub absent : place_at references r ≡ None → array ≡ None

no_length : (n : ℤ) → n ≡ pos 0 → (n +ℤ pos 0) ≡ pos 0
no_length n is = omega (arith, ints, is)

some_place : (a b : Place) → Some a ≡ Some b → a ≡ b
some_place a b same = cc

no_entry : (heap : Heap) (number : ℕ → ℤ) (references : List Reference) (r : ℕ) (array : Option ℕ)
    → number 0 ≡ pos 0 → array ≡ None
    → frames.reference_at references r ≡ None → IsEntry heap number references r array
no_entry heap number references r array start none at = record {
  length_is =
      ap (λ o. worth number (length_in o)) at ∙ no_length (number 0) start ∙ sym (ap (length_of_array heap) none);
  agrees = subst (λ o. Agrees (nullness_in o) (is_no_array array)) (sym at) (ap is_no_array none);
  fits = λ place is. absurd (none_is place (sym (ap place_in at) ∙ is));
  absent = λ is. none;
}
  where
    none_is : (place : Place) → None ≡ Some place → ⊥
    none_is place is = cc

an_entry : (heap : Heap) (number : ℕ → ℤ) (references : List Reference) (r : ℕ) (array : Option ℕ)
    (known : Reference)
    → IsSo heap number known array → frames.reference_at references r ≡ Some known
    → IsEntry heap number references r array
an_entry heap number references r array known so at = record {
  length_is = ap (λ o. worth number (length_in o)) at ∙ so.length_is;
  agrees = subst (λ o. Agrees (nullness_in o) (is_no_array array)) (sym at) so.agrees;
  fits =
      λ place is. subst (λ p. FitsArray heap p array) (some_place known.place place (sym (ap place_in at) ∙ is))
      so.fits;
  absent = λ is. absurd (some_is (sym (ap place_in at) ∙ is));
}
  where
    some_is : Some known.place ≡ None → ⊥
    some_is is = cc

pub entries_so : (heap : Heap) (known : StateFacts) (number : ℕ → ℤ) (array : ℕ → Option ℕ) (r : ℕ)
    → number 0 ≡ pos 0 → AreSo heap number array known.references
    → AreNoneBeyond known array → IsEntry heap number known.references r (array r)
entries_so heap known number array r start so beyond = by (frames.reference_at known.references r) refl
  where
    by : (entry : Option Reference) → frames.reference_at known.references r ≡ entry
        → IsEntry heap number known.references r (array r)
    by None at = no_entry heap number known.references r (array r) start (beyond r at) at
    by (Some one) at =
        an_entry heap number known.references r (array r) one (so r one (same_entry known.references r ∙ at)) at

pub key_lengths_fit : (is_first : Bool) (references : List Reference) (number : ℕ → ℤ) (us : List Key)
    → ((r : ℕ) → FitsSigned w32 (worth number (length_at references r)))
    → AllFit number (map (λ u. length_at references (old_of is_first u)) us)
key_lengths_fit is_first references number [] fit = tt
key_lengths_fit is_first references number (u ∷ us) fit =
    (fit (old_of is_first u), key_lengths_fit is_first references number us fit)
