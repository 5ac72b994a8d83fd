-- What values of kinds can be taken for: numbers, references, and what comparisons and tests take.
use Rattle.std.proofs.Common.{◌≡◌, ◌⊎◌, ℕ, ℤ, pos, ◌<◌, int_lt, int_le, unsigned_abs, Bool, true, false, ◌&&◌, List, length, slice_get, Option, Some, None, refl, arith, inl, inr}
use Rattle.std.proofs.lemmas.Bool.{and_parts, false≢true, or_cases}
use Rattle.std.proofs.lemmas.Int.{ints}
use Rattle.std.proofs.lemmas.Option.{none-some, slice_get-get_or}
use Rattle.cil_model.specs.Arithmetic.{compares}
use Rattle.cil_model.specs.Comparisons.{compares_references, compares_values, is_true, number_of, pushed_comparison, reference_of}
use Rattle.cil_model.specs.Kinds.{are_comparable, compares_kinds, is_address_of, is_array_of, is_equality, is_number, is_reference, is_tested, pushes_comparison, takes}
use Rattle.cil_model.specs.Values.{Heap, HasItemOf, has_array}
use Rattle.cil_model.specs.declared.instruction.CmpOp.{CmpOp}
use Rattle.cil_model.specs.declared.instruction.CmpOp.TheVariants as comparisons
use Rattle.cil_model.specs.declared.machine.ArrayCell.{ArrayCell}
use Rattle.cil_model.specs.declared.machine.Value.{Value}
use Rattle.cil_model.specs.declared.machine.Value.TheVariants as values
use Rattle.cil_model.specs.declared.place.Kind.{Kind}
use Rattle.cil_model.specs.declared.place.Kind.TheVariants as kinds
use Rattle.cil_model.specs.declared.place.Place.{Place}
use Rattle.cil_model.specs.declared.place.Place.TheVariants as places
use Rattle.cil_model.proofs.KindForms.{HasForm, array_is}

-- A reference, which is no number.
record IsReference (v : Value) : Type 0 where
  target : Option ℕ
  is : reference_of v ≡ Some target
  no_number : number_of v ≡ None

abbrev pub IsNullOrArray : Value → Type 0
IsNullOrArray values.Null = Unit {0}
IsNullOrArray (values.Array i) = Unit {0}
IsNullOrArray _ = ⊥

module _ (heap : Heap) where
  pub number_is : (kind : Kind) (v : Value) → is_number kind ≡ true → HasForm heap kind v → (n : ℤ) × (number_of v ≡ Some n)
  number_is kinds.Int (values.Int n) e form = (n, refl)
  number_is kinds.Native (values.Native n) e form = (pos n, refl)
  number_is kind v e form = absurd (first_of (search, cc))

  reference_is : (kind : Kind) (v : Value) → is_reference kind ≡ true → HasForm heap kind v → IsReference v
  reference_is kind values.Null e form = record { target = None; is = refl; no_number = refl }
  reference_is kind (values.Array i) e form = record { target = Some i; is = refl; no_number = refl }
  reference_is kinds.Int (values.Int n) e form = absurd (false≢true e)
  reference_is kinds.Native (values.Native n) e form = absurd (false≢true e)
  reference_is kinds.Text values.Text e form = absurd (false≢true e)
  reference_is kinds.AddrInts (values.Addr i n) e form = absurd (false≢true e)
  reference_is kinds.AddrBools (values.Addr i n) e form = absurd (false≢true e)
  reference_is _ _ e form = absurd form

  -- A value of a kind of references is null or an array.
  pub null_or_array : (kind : Kind) (v : Value) → is_reference kind ≡ true → HasForm heap kind v → IsNullOrArray v
  null_or_array kind v e form = by v (reference_is kind v e form)
    where
      by : (v : Value) → IsReference v → IsNullOrArray v
      by values.Null r = tt
      by (values.Array i) r = tt
      by _ r = absurd (none-some r.target r.is)

  -- ---- comparisons

  comparable_references : (a b : Kind) → are_comparable a b ≡ true → (is_reference a ≡ true) × (is_reference b ≡ true)
  comparable_references kinds.Ints kinds.Ints e = (refl, refl)
  comparable_references kinds.Bools kinds.Bools e = (refl, refl)
  comparable_references kinds.NullRef b e = (refl, e)
  comparable_references kinds.Ints kinds.NullRef e = (refl, refl)
  comparable_references kinds.Bools kinds.NullRef e = (refl, refl)
  comparable_references kinds.Int kinds.NullRef e = absurd (false≢true e)
  comparable_references kinds.Native kinds.NullRef e = absurd (false≢true e)
  comparable_references kinds.Text kinds.NullRef e = absurd (false≢true e)
  comparable_references kinds.AddrInts kinds.NullRef e = absurd (false≢true e)
  comparable_references kinds.AddrBools kinds.NullRef e = absurd (false≢true e)
  comparable_references _ _ e = absurd (false≢true e)

  references_compared : (op : CmpOp) (r q : Option ℕ) → is_equality op ≡ true → (holds : Bool) × (compares_references op r q ≡ Some holds)
  references_compared comparisons.Eq r q e = (_, refl)
  references_compared comparisons.NeUn r q e = (_, refl)
  references_compared _ r q e = absurd (false≢true e)

  numbers_compared : (op : CmpOp) (a b : Kind) (v w : Value) → is_number a ≡ true → is_number b ≡ true → HasForm heap a v → HasForm heap b w
      → (holds : Bool) × (compares_values op v w ≡ Some holds)
  numbers_compared op a b v w ea eb fa fb =
      let (m, is_m) = number_is a v ea fa in
      let (n, is_n) = number_is b w eb fb in
      (compares op m n, rw (is_m, is_n) refl)

  -- A branch finds what it is typed to compare.
  pub compares_defined : (op : CmpOp) (a b : Kind) (v w : Value) → compares_kinds op a b ≡ true → HasForm heap a v → HasForm heap b w
      → (holds : Bool) × (compares_values op v w ≡ Some holds)
  compares_defined op a b v w e fa fb = by (or_cases (is_number a && is_number b) (is_equality op && are_comparable a b) e)
    where
      by : ((is_number a && is_number b) ≡ true) ⊎ ((is_equality op && are_comparable a b) ≡ true)
          → (holds : Bool) × (compares_values op v w ≡ Some holds)
      by (inl both) = let parts = and_parts (is_number a) (is_number b) both in numbers_compared op a b v w parts.0 parts.1 fa fb
      by (inr both) =
          let parts = and_parts (is_equality op) (are_comparable a b) both in
          let references = comparable_references a b parts.1 in
          let r = reference_is a v references.0 fa in
          let q = reference_is b w references.1 fb in
          let (holds, is) = references_compared op r.target q.target parts.0 in
          (holds, rw (r.no_number, q.no_number, r.is, q.is) is)

  above_null : (a b : Kind) (v w : Value) → is_reference a ≡ true → HasForm heap a v → HasForm heap kinds.NullRef w
      → (holds : Bool) × (pushed_comparison comparisons.GtUn v w ≡ Some holds)
  above_null a b (values.Array i) values.Null e fa fb = (true, refl)
  above_null a b values.Null values.Null e fa fb = (false, refl)
  above_null a b v values.Null e fa fb = absurd (null_or_array a v e fa)
  above_null a b v _ e fa fb = absurd fb

  numbers_above : (v w : Value) (m n : ℤ) → number_of v ≡ Some m → number_of w ≡ Some n
      → (holds : Bool) × (pushed_comparison comparisons.GtUn v w ≡ Some holds)
  numbers_above (values.Int a) (values.Int b) m n e f = (_, refl)
  numbers_above (values.Int a) (values.Native b) m n e f = (_, refl)
  numbers_above (values.Native a) (values.Int b) m n e f = (_, refl)
  numbers_above (values.Native a) (values.Native b) m n e f = (_, refl)
  numbers_above _ _ m n e f = absurd (first_of (cc, search))

  unsigned_numbers : (a b : Kind) → compares_kinds comparisons.GtUn a b ≡ true → (is_number a ≡ true) × (is_number b ≡ true)
  unsigned_numbers a b e = by (or_cases (is_number a && is_number b) false e)
    where
      by : ((is_number a && is_number b) ≡ true) ⊎ (false ≡ true) → (is_number a ≡ true) × (is_number b ≡ true)
      by (inl both) = and_parts (is_number a) (is_number b) both
      by (inr neither) = absurd (false≢true neither)

  above_defined : (a b : Kind) (v w : Value) → compares_kinds comparisons.GtUn a b ≡ true → HasForm heap a v → HasForm heap b w
      → (holds : Bool) × (pushed_comparison comparisons.GtUn v w ≡ Some holds)
  above_defined a b v w e fa fb =
      let both = unsigned_numbers a b e in
      let (m, is_m) = number_is a v both.0 fa in
      let (n, is_n) = number_is b w both.1 fb in
      numbers_above v w m n is_m is_n

  -- An instruction finds what it is typed to compare.
  pub pushed_defined : (op : CmpOp) (a b : Kind) (v w : Value) → pushes_comparison op a b ≡ true → HasForm heap a v → HasForm heap b w
      → (holds : Bool) × (pushed_comparison op v w ≡ Some holds)
  pushed_defined comparisons.GtUn a kinds.NullRef v w e fa fb = above_null a kinds.NullRef v w e fa fb
  pushed_defined comparisons.GtUn a b v w e fa fb = above_defined a b v w e fa fb
  pushed_defined op a b v w e fa fb = compares_defined op a b v w e fa fb

  -- A test finds what it is typed to test.
  pub tested : (kind : Kind) (v : Value) → is_tested kind ≡ true → HasForm heap kind v → (holds : Bool) × (is_true v ≡ Some holds)
  tested kind (values.Int n) e form = (_, refl)
  tested kind (values.Native n) e form = (_, refl)
  tested kind values.Null e form = (_, refl)
  tested kind (values.Array i) e form = (_, refl)
  tested kinds.Text values.Text e form = absurd (false≢true e)
  tested _ values.Text e form = absurd form
  tested kinds.AddrInts (values.Addr a n) e form = absurd (false≢true e)
  tested kinds.AddrBools (values.Addr a n) e form = absurd (false≢true e)
  tested _ (values.Addr a n) e form = absurd form

  -- ---- arrays

  -- The array of a reference.
  pub array_found : (kind : Kind) (a : ℕ) → HasForm heap kind (values.Array a) → (cell : ArrayCell) × (slice_get heap a ≡ Some cell)
  array_found kinds.Ints a form = let (cell, found, same) = array_is heap places.Ints a form in (cell, found)
  array_found kinds.Bools a form = let (cell, found, same) = array_is heap places.Bools a form in (cell, found)
  array_found _ a form = absurd form

  array_taken : (place : Place) (kind : Kind) (a : ℕ) → takes place kind ≡ true → HasForm heap kind (values.Array a) → has_array heap place a ≡ true
  array_taken places.Ints kinds.Ints a e form = form
  array_taken places.Bools kinds.Bools a e form = form
  array_taken places.Bool kinds.Int a e form = absurd form
  array_taken places.Int kinds.Int a e form = absurd form
  array_taken _ _ a e form = absurd (first_of (search, cc))

  -- An array that is typed to be of this type is.
  pub array_of : (place : Place) (kind : Kind) (a : ℕ) → is_array_of place kind ≡ true → HasForm heap kind (values.Array a)
      → has_array heap place a ≡ true
  array_of place kind a e form = array_taken place kind a (and_parts (is_reference kind) (takes place kind) e).1 form

  -- ---- addresses

  pub address_is : (place : Place) (kind : Kind) (v : Value) → is_address_of place kind ≡ true → HasForm heap kind v
      → (a : ℕ) × (n : ℕ) × (v ≡ values.Addr a n) × HasItemOf heap place a n
  address_is places.Ints kinds.AddrInts (values.Addr a n) e form = (a, n, refl, form)
  address_is places.Bools kinds.AddrBools (values.Addr a n) e form = (a, n, refl, form)
  address_is place kind v e form = absurd (first_of (search, cc))

-- An index that is no fault is within the length.
pub within_length : (items : List ℤ) (n : ℤ) → int_lt n (pos 0) ≡ false → int_le (pos (length items)) n ≡ false → unsigned_abs n < length items
within_length items n above below = omega (arith, ints, above, below)

-- There is an item there.
pub item_there : (items : List ℤ) (n : ℤ) → int_lt n (pos 0) ≡ false → int_le (pos (length items)) n ≡ false
    → (item : ℤ) × (slice_get items (unsigned_abs n) ≡ Some item)
item_there items n above below =
    (_, slice_get-get_or items (unsigned_abs n) (pos 0) (within_length items n above below))
