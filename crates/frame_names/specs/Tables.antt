-- What tables of references and pairs of references say of arrays.
use Rattle.std.specs.Prelude.{◌≡◌, ℕ, Bool, true, List, [], ◌∷◌, drop, get_or, Option, Some, if◌then◌else◌}
use Rattle.std.specs.List.{AllByRecursion}
use Rattle.alias_facts.specs.Arrays.{AllDiffer, is_no_array}
use Rattle.alias_facts.specs.NullnessOf.{Agrees}
use Rattle.alias_facts.specs.PairsOf.{Pair}
use Rattle.cil_model.specs.declared.place.Place.{Place}
use Rattle.symbolic_values.specs.declared.pairs.Key.{Key}
use Rattle.frame_names.specs.Frames.{nullness_at, place_at}
use Rattle.frame_names.specs.PairedFrames.{old_at}
use Rattle.frame_names.specs.declared.merging.MergedReference.{MergedReference}
use Rattle.frame_names.specs.declared.reference.Reference.{Reference}
use Rattle.frame_names.specs.declared.var.Var.{Var}
use Rattle.frame_names.specs.declared.var.Var.TheVariants as vars

-- Each reference is null or is not as the table tells, where it is the array of a number or null.
abbrev pub AreNulls : List Reference → (ℕ → Option ℕ) → Type 0
AreNulls known array = (r : ℕ) → Agrees (nullness_at known r) (is_no_array (array r))

-- Each reference that is an array is one of the type that the table tells.
abbrev pub ArePlaces : List Reference → (ℕ → Option ℕ) → (ℕ → Place) → Type 0
ArePlaces known array place = (r n : ℕ) → array r ≡ Some n → place_at known r ≡ Some (place n)

-- ---- two states whose frames were named together

-- The array of a new reference, which is that of the old one on a side.
abbrev pub arrays_by : Bool → (ℕ → Option ℕ) → List Key → ℕ → Option ℕ
arrays_by is_first array keys new = array (old_at is_first keys new)

-- Pairs of new references are not the same array where what each side tells is so.
abbrev pub DifferOnBoth : List Key → List Reference → List Pair → List Reference → List Pair
    → List Pair → Type 0
DifferOnBoth keys a a_pairs b b_pairs pairs =
    (is_first : Bool) (array : ℕ → Option ℕ) (place : ℕ → Place) → AreNulls (if is_first then a else b) array
    → ArePlaces (if is_first then a else b) array place → AllDiffer array (if is_first then a_pairs else b_pairs)
    → AllDiffer (arrays_by is_first array keys) pairs

-- Pairs of new references are not the same array where those that were kept on the first side are not.
abbrev pub DifferAsKept : List Key → List Pair → List Pair → Type 0
DifferAsKept keys kept pairs =
    (array : ℕ → Option ℕ) → AllDiffer array kept → AllDiffer (arrays_by true array keys) pairs

-- What a merged reference was on a side.
abbrev pub old_reference : Bool → MergedReference → ℕ
old_reference is_first new = if is_first then new.first else new.second

-- What is known of merged references being null is so on each side.
abbrev pub AreNullsOnBoth : List Reference → List Reference → List MergedReference → Type 0
AreNullsOnBoth a b merged =
    (is_first : Bool) (array : ℕ → Option ℕ) → AreNulls (if is_first then a else b) array
    → AllByRecursion (λ new. Agrees new.nullness (is_no_array (array (old_reference is_first new)))) merged

-- The two references of a key are of one type, where both have one.
abbrev pub AgreeOnPlace : List Reference → List Reference → Key → Type 0
AgreeOnPlace a b key = (p q : Place) → place_at a key.s ≡ Some p → place_at b key.t ≡ Some q → p ≡ q

-- At each index two references, of their own or of addresses, are of one type, where both have one.
abbrev pub AreOfOnePlace : List Reference → List Reference → List Var → List Var → Type 0
AreOfOnePlace a b (vars.Number e ∷ xs) (y ∷ ys) = AreOfOnePlace a b xs ys
AreOfOnePlace a b (vars.Reference r ∷ xs) (vars.Reference q ∷ ys) =
    ((p o : Place) → place_at a r ≡ Some p → place_at b q ≡ Some o → p ≡ o) × AreOfOnePlace a b xs ys
AreOfOnePlace a b (vars.Reference r ∷ xs) (y ∷ ys) = AreOfOnePlace a b xs ys
AreOfOnePlace a b (vars.Text ∷ xs) (y ∷ ys) = AreOfOnePlace a b xs ys
AreOfOnePlace a b (vars.Address r e ∷ xs) (vars.Address q f ∷ ys) =
    ((p o : Place) → place_at a r ≡ Some p → place_at b q ≡ Some o → p ≡ o) × AreOfOnePlace a b xs ys
AreOfOnePlace a b (vars.Address r e ∷ xs) (y ∷ ys) = AreOfOnePlace a b xs ys
AreOfOnePlace a b _ _ = Unit {0}

-- Merged references are of the types of the arrays that they are on each side.
abbrev pub ArePlacesOnBoth : List Reference → List Reference → List Key
    → List MergedReference → Type 0
ArePlacesOnBoth a b keys merged =
    (is_first : Bool) (array : ℕ → Option ℕ) (place : ℕ → Place) → AllByRecursion (AgreeOnPlace a b) keys
    → ArePlaces (if is_first then a else b) array place
    → AllByRecursion (λ new. (n : ℕ) → array (old_reference is_first new) ≡ Some n → new.place ≡ place n) merged

-- ---- a state that is bound to another

-- What the second state knows of its references being null, from 1 on, is so of what these are bound to.
abbrev pub AgreeBound : (ℕ → Option ℕ) → List Reference → List ℕ → Type 0
AgreeBound array [] bound = Unit {0}
AgreeBound array (known ∷ b) bound =
    Agrees known.nullness (is_no_array (array (get_or bound 0 0))) × AgreeBound array b (drop 1 bound)

-- Pairs of the second state are not the same array where what the first tells is so.
abbrev pub DifferBound : List Reference → List Pair → List ℕ → List Pair → Type 0
DifferBound a kept bound pairs =
    (array : ℕ → Option ℕ) (place : ℕ → Place) → AreNulls a array → ArePlaces a array place → AllDiffer array kept
    → AllDiffer (λ r. array (get_or bound r 0)) pairs
