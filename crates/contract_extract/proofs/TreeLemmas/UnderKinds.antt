-- The kind of a tree beside the kind that typing gives its value: a length counts as an int32, and null is of each kind
-- of array.
use Rattle.std.proofs.Common.{◌≡◌, true, ◌&&◌, Some, refl, ap, subst, ◌∙◌, inl, inr}
use Rattle.std.proofs.lemmas.Bool.{and_from, and_parts, false≢true, or_cases, or_left, or_right}
use Rattle.std.proofs.lemmas.Option.{none-some, same_Some}
use Rattle.cil_model.specs.Kinds.{are_comparable, compares_kinds, is_array_of, is_equality, is_number, is_reference, is_tested, kind_of, pushes_comparison, takes}
use Rattle.cil_model.specs.Passes.{merged_kind}
use Rattle.cil_model.specs.declared.instruction.CmpOp.{CmpOp}
use Rattle.cil_model.specs.declared.instruction.CmpOp.TheVariants as comparisons
use Rattle.cil_model.specs.declared.place.Kind.{Kind}
use Rattle.cil_model.specs.declared.place.Kind.TheVariants.{Int, Native, Ints, Bools, NullRef, Text, AddrInts, AddrBools}
use Rattle.cil_model.specs.declared.place.Place.{Place}
use Rattle.cil_model.specs.declared.place.Place.TheVariants as places

-- A tree of the one kind may stand for a value of the other.
abbrev pub Under : Kind → Kind → Type 0
Under Int Int = Unit {0}
Under Int Native = Unit {0}
Under Ints Ints = Unit {0}
Under Bools Bools = Unit {0}
Under NullRef Ints = Unit {0}
Under NullRef Bools = Unit {0}
Under NullRef NullRef = Unit {0}
Under _ _ = ⊥

pub under_int : (k : Kind) → Under k Int → k ≡ Int
under_int Int u = refl
under_int _ u = absurd u

pub under_number : (k kind : Kind) → Under k kind → is_number kind ≡ true → k ≡ Int
under_number Int Int u e = refl
under_number Int Native u e = refl
under_number k Ints u e = absurd (false≢true e)
under_number k Bools u e = absurd (false≢true e)
under_number k NullRef u e = absurd (false≢true e)
under_number k Text u e = absurd (false≢true e)
under_number k AddrInts u e = absurd (false≢true e)
under_number k AddrBools u e = absurd (false≢true e)
under_number _ _ u e = absurd u

pub under_reference : (k kind : Kind) → Under k kind → is_reference kind ≡ true → is_reference k ≡ true
under_reference Ints Ints u e = refl
under_reference NullRef Ints u e = refl
under_reference Bools Bools u e = refl
under_reference NullRef Bools u e = refl
under_reference NullRef NullRef u e = refl
under_reference k Int u e = absurd (false≢true e)
under_reference k Native u e = absurd (false≢true e)
under_reference k Text u e = absurd (false≢true e)
under_reference k AddrInts u e = absurd (false≢true e)
under_reference k AddrBools u e = absurd (false≢true e)
under_reference _ _ u e = absurd u

pub under_tested : (k kind : Kind) → Under k kind → is_tested kind ≡ true → is_tested k ≡ true
under_tested k kind u e = elim (or_cases (is_number kind) (is_reference kind) e) [
  | inl f ↦ or_left (is_number k) (is_reference k) (ap is_number (under_number k kind u f))
  | inr f ↦ or_right (is_number k) (is_reference k) (under_reference k kind u f)
]

-- A place that takes the kind holds the tree.
pub under_place : (place : Place) (k kind held : Kind) → Under k kind → takes place kind ≡ true → kind_of place ≡ Some held → Under k held
under_place places.Void k kind held u fits is = absurd (none-some held is)
under_place places.Bool k Int held u fits is = subst (Under k) (same_Some Int held is) u
under_place places.Int k Int held u fits is = subst (Under k) (same_Some Int held is) u
under_place places.Bools k Bools held u fits is = subst (Under k) (same_Some Bools held is) u
under_place places.Bools NullRef NullRef held u fits is = subst (Under NullRef) (same_Some Bools held is) tt
under_place places.Ints k Ints held u fits is = subst (Under k) (same_Some Ints held is) u
under_place places.Ints NullRef NullRef held u fits is = subst (Under NullRef) (same_Some Ints held is) tt
under_place places.Bools _ NullRef held u fits is = absurd u
under_place places.Ints _ NullRef held u fits is = absurd u
under_place _ k kind held u fits is = absurd (false≢true fits)

pub under_takes : (place : Place) (k kind : Kind) → Under k kind → takes place kind ≡ true → takes place k ≡ true
under_takes places.Void k kind u fits = absurd (false≢true fits)
under_takes place Int Int u fits = fits
under_takes place Ints Ints u fits = fits
under_takes place Bools Bools u fits = fits
under_takes place NullRef NullRef u fits = fits
under_takes places.Ints NullRef Ints u fits = refl
under_takes places.Bools NullRef Bools u fits = refl
under_takes places.Bool NullRef Ints u fits = absurd (false≢true fits)
under_takes places.Int NullRef Ints u fits = absurd (false≢true fits)
under_takes places.Bools NullRef Ints u fits = absurd (false≢true fits)
under_takes places.Bool NullRef Bools u fits = absurd (false≢true fits)
under_takes places.Int NullRef Bools u fits = absurd (false≢true fits)
under_takes places.Ints NullRef Bools u fits = absurd (false≢true fits)
under_takes places.Bool Int Native u fits = absurd (false≢true fits)
under_takes places.Int Int Native u fits = absurd (false≢true fits)
under_takes places.Bools Int Native u fits = absurd (false≢true fits)
under_takes places.Ints Int Native u fits = absurd (false≢true fits)
under_takes _ _ _ u fits = absurd u

pub under_array : (place : Place) (k kind : Kind) → Under k kind → is_array_of place kind ≡ true → is_array_of place k ≡ true
under_array place k kind u e =
    let parts = and_parts (is_reference kind) (takes place kind) e in
    and_from (is_reference k) (takes place k) (under_reference k kind u parts.0) (under_takes place k kind u parts.1)

-- ---- comparisons

comparable_below : (k kind other : Kind) → Under k kind → are_comparable kind other ≡ true → are_comparable k other ≡ true
comparable_below Int Int other u e = e
comparable_below Ints Ints other u e = e
comparable_below Bools Bools other u e = e
comparable_below NullRef NullRef other u e = e
comparable_below NullRef Ints Ints u e = refl
comparable_below NullRef Ints NullRef u e = refl
comparable_below NullRef Ints Bools u e = refl
comparable_below NullRef Ints _ u e = absurd (false≢true e)
comparable_below NullRef Bools Ints u e = refl
comparable_below NullRef Bools NullRef u e = refl
comparable_below NullRef Bools Bools u e = refl
comparable_below NullRef Bools _ u e = absurd (false≢true e)
comparable_below Int Native Int u e = absurd (false≢true e)
comparable_below Int Native Native u e = absurd (false≢true e)
comparable_below Int Native Ints u e = absurd (false≢true e)
comparable_below Int Native Bools u e = absurd (false≢true e)
comparable_below Int Native NullRef u e = absurd (false≢true e)
comparable_below Int Native Text u e = absurd (false≢true e)
comparable_below Int Native AddrInts u e = absurd (false≢true e)
comparable_below Int Native AddrBools u e = absurd (false≢true e)
comparable_below _ _ other u e = absurd u

comparable_turned : (a b : Kind) → are_comparable a b ≡ are_comparable b a
comparable_turned Int Int = refl
comparable_turned Int Native = refl
comparable_turned Int Ints = refl
comparable_turned Int Bools = refl
comparable_turned Int NullRef = refl
comparable_turned Int Text = refl
comparable_turned Int AddrInts = refl
comparable_turned Int AddrBools = refl
comparable_turned Native Int = refl
comparable_turned Native Native = refl
comparable_turned Native Ints = refl
comparable_turned Native Bools = refl
comparable_turned Native NullRef = refl
comparable_turned Native Text = refl
comparable_turned Native AddrInts = refl
comparable_turned Native AddrBools = refl
comparable_turned Ints Int = refl
comparable_turned Ints Native = refl
comparable_turned Ints Ints = refl
comparable_turned Ints Bools = refl
comparable_turned Ints NullRef = refl
comparable_turned Ints Text = refl
comparable_turned Ints AddrInts = refl
comparable_turned Ints AddrBools = refl
comparable_turned Bools Int = refl
comparable_turned Bools Native = refl
comparable_turned Bools Ints = refl
comparable_turned Bools Bools = refl
comparable_turned Bools NullRef = refl
comparable_turned Bools Text = refl
comparable_turned Bools AddrInts = refl
comparable_turned Bools AddrBools = refl
comparable_turned NullRef Int = refl
comparable_turned NullRef Native = refl
comparable_turned NullRef Ints = refl
comparable_turned NullRef Bools = refl
comparable_turned NullRef NullRef = refl
comparable_turned NullRef Text = refl
comparable_turned NullRef AddrInts = refl
comparable_turned NullRef AddrBools = refl
comparable_turned Text Int = refl
comparable_turned Text Native = refl
comparable_turned Text Ints = refl
comparable_turned Text Bools = refl
comparable_turned Text NullRef = refl
comparable_turned Text Text = refl
comparable_turned Text AddrInts = refl
comparable_turned Text AddrBools = refl
comparable_turned AddrInts Int = refl
comparable_turned AddrInts Native = refl
comparable_turned AddrInts Ints = refl
comparable_turned AddrInts Bools = refl
comparable_turned AddrInts NullRef = refl
comparable_turned AddrInts Text = refl
comparable_turned AddrInts AddrInts = refl
comparable_turned AddrInts AddrBools = refl
comparable_turned AddrBools Int = refl
comparable_turned AddrBools Native = refl
comparable_turned AddrBools Ints = refl
comparable_turned AddrBools Bools = refl
comparable_turned AddrBools NullRef = refl
comparable_turned AddrBools Text = refl
comparable_turned AddrBools AddrInts = refl
comparable_turned AddrBools AddrBools = refl

comparable_both : (j k a b : Kind) → Under j a → Under k b → are_comparable a b ≡ true → are_comparable j k ≡ true
comparable_both j k a b u v e =
    comparable_turned j k ∙ comparable_below k b j v (comparable_turned b j ∙ comparable_below j a b u e)

pub under_compares : (op : CmpOp) (j k a b : Kind) → Under j a → Under k b → compares_kinds op a b ≡ true → compares_kinds op j k ≡ true
under_compares op j k a b u v e = elim (or_cases (is_number a && is_number b) (is_equality op && are_comparable a b) e) [
  | inl f ↦
      let parts = and_parts (is_number a) (is_number b) f in
      or_left (is_number j && is_number k) (is_equality op && are_comparable j k)
      (and_from (is_number j) (is_number k) (ap is_number (under_number j a u parts.0)) (ap is_number (under_number k b v parts.1)))
  | inr f ↦
      let parts = and_parts (is_equality op) (are_comparable a b) f in
      or_right (is_number j && is_number k) (is_equality op && are_comparable j k)
      (and_from (is_equality op) (are_comparable j k) parts.0 (comparable_both j k a b u v parts.1))
]

-- What a branch may compare, an instruction may.
pub compares_pushes : (op : CmpOp) (a b : Kind) → compares_kinds op a b ≡ true → pushes_comparison op a b ≡ true
compares_pushes comparisons.GtUn Int NullRef e = absurd (false≢true e)
compares_pushes comparisons.GtUn Native NullRef e = absurd (false≢true e)
compares_pushes comparisons.GtUn Ints NullRef e = refl
compares_pushes comparisons.GtUn Bools NullRef e = refl
compares_pushes comparisons.GtUn NullRef NullRef e = refl
compares_pushes comparisons.GtUn Text NullRef e = absurd (false≢true e)
compares_pushes comparisons.GtUn AddrInts NullRef e = absurd (false≢true e)
compares_pushes comparisons.GtUn AddrBools NullRef e = absurd (false≢true e)
compares_pushes op a b e = e

pub under_pushes : (op : CmpOp) (j k a b : Kind) → Under j a → Under k b → pushes_comparison op a b ≡ true → pushes_comparison op j k ≡ true
under_pushes comparisons.GtUn j NullRef a NullRef u v e = under_reference j a u e
under_pushes comparisons.GtUn j _ a NullRef u v e = absurd v
under_pushes op j k a b u v e = compares_pushes op j k (under_compares op j k a b u v e)

-- ---- merging

pub under_merged : (k kind later : Kind) → Under k kind → merged_kind later kind ≡ Some later → Under k later
under_merged k Int Int u e = u
under_merged k Native Native u e = u
under_merged k Ints Ints u e = u
under_merged k Bools Bools u e = u
under_merged k NullRef NullRef u e = u
under_merged NullRef NullRef Ints u e = tt
under_merged _ NullRef Ints u e = absurd u
under_merged NullRef NullRef Bools u e = tt
under_merged _ NullRef Bools u e = absurd u
under_merged Int Text later u e = absurd u
under_merged Native Text later u e = absurd u
under_merged Ints Text later u e = absurd u
under_merged Bools Text later u e = absurd u
under_merged NullRef Text later u e = absurd u
under_merged Text Text later u e = absurd u
under_merged AddrInts Text later u e = absurd u
under_merged AddrBools Text later u e = absurd u
under_merged Int AddrInts later u e = absurd u
under_merged Native AddrInts later u e = absurd u
under_merged Ints AddrInts later u e = absurd u
under_merged Bools AddrInts later u e = absurd u
under_merged NullRef AddrInts later u e = absurd u
under_merged Text AddrInts later u e = absurd u
under_merged AddrInts AddrInts later u e = absurd u
under_merged AddrBools AddrInts later u e = absurd u
under_merged Int AddrBools later u e = absurd u
under_merged Native AddrBools later u e = absurd u
under_merged Ints AddrBools later u e = absurd u
under_merged Bools AddrBools later u e = absurd u
under_merged NullRef AddrBools later u e = absurd u
under_merged Text AddrBools later u e = absurd u
under_merged AddrInts AddrBools later u e = absurd u
under_merged AddrBools AddrBools later u e = absurd u
under_merged k _ _ u e = absurd cc
