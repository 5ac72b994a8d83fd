-- What fits a kind: a number, a reference of its type or null, a text, or an address in an array of its type.
use Rattle.std.proofs.Common.{◌≡◌, ℕ, zero, suc, ◌≤◌, Bool, true, false, ◌&&◌, ◌||◌, List, Option, Some, None, refl, sym, ap, subst, ◌∙◌, ◌⊎◌, inl, inr, arith}
use Rattle.std.specs.Option.{option_map, option_map_or}
use Rattle.std.proofs.lemmas.Bool.{and_parts, false≢true}
use Rattle.std.proofs.lemmas.Option.{none-some, same_Some}
use Rattle.cil_model.specs.Kinds as kinds
use Rattle.cil_model.specs.Kinds.{address_kind, is_address_of, is_array_of, is_number, is_reference, kind_of, takes, when}
use Rattle.cil_model.specs.Passes.{merged_kind}
use Rattle.cil_model.specs.Values.{same_place}
use Rattle.cil_model.specs.declared.instruction.CmpOp.{CmpOp}
use Rattle.cil_model.specs.declared.instruction.CmpOp.TheVariants as comparisons
use Rattle.cil_model.specs.declared.place.Kind.{Kind}
use Rattle.cil_model.specs.declared.place.Kind.TheVariants.{AddrBools, AddrInts, Bools, Int, Ints, Native, NullRef, Text}
use Rattle.cil_model.specs.declared.place.Place.{Place}
use Rattle.cil_model.specs.declared.place.Place.TheVariants as places
use Rattle.clause_trees.specs.VariableKinds.{place_in}
use Rattle.domain_api.specs.declared.expr.Expr.{Expr}
use Rattle.frame_names.specs.declared.reference.Reference.{Reference}
use Rattle.frame_names.specs.declared.var.Var.{Var}
use Rattle.frame_names.specs.declared.var.Var.TheVariants as vars
use Rattle.state_facts.proofs.ArraysHold.{present_at}
use Rattle.state_facts.specs.Forms.{HasReference, IsArrayPlace}
use Rattle.state_facts.specs.StateFacts.{StateFacts, reference_at}
use Rattle.transfer_rules.specs.Forms.{FitsKind, is_array_of_place, is_of_place, kind_in}

-- ---- references

-- A reference is one to arrays of a type. Of one that is not there it is as given.
abbrev pub is_typed : Place → Bool → Option Reference → Bool
is_typed place other found = option_map_or (λ reference. same_place reference.place place) found other

read_place : (place : Place) (other : Bool) (o : Option Reference)
    → is_typed place other o ≡ option_map_or (λ p. same_place p place) (option_map (λ r. r.place) o) other
read_place place other None = refl
read_place place other (Some r) = refl

-- So is each other reference that has the same type, or none as well.
pub same_reference : (before after : StateFacts) (place : Place) (other : Bool) (r q : ℕ)
    → place_in after q ≡ place_in before r → is_typed place other (reference_at before.references r) ≡ true
    → is_typed place other (reference_at after.references q) ≡ true
same_reference before after place other r q same is =
    read_place place other (reference_at after.references q)
    ∙ ap (λ o. option_map_or (λ p. same_place p place) o other) same
    ∙ sym (read_place place other (reference_at before.references r)) ∙ is

-- A reference that is one to arrays is such or null.
pub array_or_null : (place : Place) (o : Option Reference) → is_typed place false o ≡ true
    → is_typed place true o ≡ true
array_or_null place None is = refl
array_or_null place (Some r) is = is

-- One that is such or null, and is not null, is one to arrays.
pub array_there : (known : StateFacts) (place : Place) (r : ℕ) → 1 ≤ r → HasReference known r
    → is_of_place known place r ≡ true → is_array_of_place known place r ≡ true
array_there known place r least there is =
    let found = present_at known.references r least there in
    subst (λ o. is_typed place false o ≡ true) (sym found.1) (subst (λ o. is_typed place true o ≡ true) found.1 is)

pub never_null : (known : StateFacts) (place : Place) (r : ℕ) → r ≡ 0 → is_array_of_place known place r ≡ true → ⊥
unfolding reference_at
never_null known place zero is array = false≢true array
never_null known place (suc r) is array = omega (arith, is)

-- ---- kinds

pub when_same : (test : Bool) (xs ys : List Kind) → when test xs ≡ Some ys → (test ≡ true) × (xs ≡ ys)
when_same true xs ys is = (refl, same_Some xs ys is)
when_same false xs ys is = absurd (none-some ys is)

-- Where both kinds are told of, what fits the one fits the other.
pub number_fits : (known : StateFacts) (k : Kind) (v : Var) → is_number k ≡ true → FitsKind known k v
    → FitsKind known Int v
number_fits known Int v is fits = fits
number_fits known Native (vars.Number e) is fits = tt
number_fits known Native _ is fits = elim fits [ ]
number_fits known _ v is fits = absurd (false≢true is)

abbrev pub IsReferenceVar : Var → Type 0
IsReferenceVar (vars.Reference r) = Unit {0}
IsReferenceVar _ = ⊥

pub reference_fits : (known : StateFacts) (k : Kind) (v : Var) → is_reference k ≡ true → FitsKind known k v
    → IsReferenceVar v
reference_fits known Ints (vars.Reference r) is fits = tt
reference_fits known Bools (vars.Reference r) is fits = tt
reference_fits known NullRef (vars.Reference r) is fits = tt
reference_fits known Int v is fits = absurd (false≢true is)
reference_fits known Native v is fits = absurd (false≢true is)
reference_fits known Text v is fits = absurd (false≢true is)
reference_fits known AddrInts v is fits = absurd (false≢true is)
reference_fits known AddrBools v is fits = absurd (false≢true is)
reference_fits known _ _ is fits = elim fits [ ]

pub zero_of_place : (known : StateFacts) (place : Place) (r : ℕ) → r ≡ 0 → is_of_place known place r ≡ true
unfolding reference_at
zero_of_place known place zero is = refl
zero_of_place known place (suc r) is = absurd (omega (arith, is))

-- Null fits both kinds of arrays.
null_ints : (known : StateFacts) (v : Var) → FitsKind known NullRef v → FitsKind known Ints v
null_ints known (vars.Reference r) fits = zero_of_place known places.Ints r fits
null_ints known _ fits = elim fits [ ]

null_bools : (known : StateFacts) (v : Var) → FitsKind known NullRef v → FitsKind known Bools v
null_bools known (vars.Reference r) fits = zero_of_place known places.Bools r fits
null_bools known _ fits = elim fits [ ]

pub taken_fits : (known : StateFacts) (place : Place) (k : Kind) (v : Var) → takes place k ≡ true → FitsKind known k v
    → FitsKind known (kind_in place) v
taken_fits known places.Bool Int v is fits = fits
taken_fits known places.Int Int v is fits = fits
taken_fits known places.Bools Bools v is fits = fits
taken_fits known places.Ints Ints v is fits = fits
taken_fits known places.Bools NullRef v is fits = null_bools known v fits
taken_fits known places.Ints NullRef v is fits = null_ints known v fits
taken_fits known _ _ v is fits = absurd (false≢true is)

pub merged_fits : (known : StateFacts) (to k : Kind) (v : Var) → merged_kind to k ≡ Some to → FitsKind known k v
    → FitsKind known to v
merged_fits known Int Int v is fits = fits
merged_fits known Native Native v is fits = fits
merged_fits known Ints Ints v is fits = fits
merged_fits known Bools Bools v is fits = fits
merged_fits known NullRef NullRef v is fits = fits
merged_fits known Text Text v is fits = fits
merged_fits known AddrInts AddrInts v is fits = fits
merged_fits known AddrBools AddrBools v is fits = fits
merged_fits known Ints NullRef v is fits = null_ints known v fits
merged_fits known Bools NullRef v is fits = null_bools known v fits
merged_fits known NullRef Ints v is fits = absurd cc
merged_fits known NullRef Bools v is fits = absurd cc
merged_fits known to k v is fits = absurd (none-some to is)

-- Two numbers, or two references.
abbrev pub AreAlike : Var → Var → Type 0
AreAlike (vars.Number a) (vars.Number b) = Unit {0}
AreAlike (vars.Reference r) (vars.Reference q) = Unit {0}
AreAlike _ _ = ⊥

-- ---- operands of a comparison

abbrev pub AreOneForm : Kind → Kind → Type 0
AreOneForm a b = ((is_number a ≡ true) × (is_number b ≡ true)) ⊎ ((is_reference a ≡ true) × (is_reference b ≡ true))

comparable_form : (a b : Kind) → kinds.are_comparable a b ≡ true → AreOneForm a b
comparable_form Ints Ints is = inr (refl, refl)
comparable_form Bools Bools is = inr (refl, refl)
comparable_form NullRef b is = inr (refl, is)
comparable_form Ints NullRef is = inr (refl, refl)
comparable_form Bools NullRef is = inr (refl, refl)
comparable_form Int NullRef is = absurd (false≢true is)
comparable_form Native NullRef is = absurd (false≢true is)
comparable_form Text NullRef is = absurd (false≢true is)
comparable_form AddrInts NullRef is = absurd (false≢true is)
comparable_form AddrBools NullRef is = absurd (false≢true is)
comparable_form _ _ is = absurd (false≢true is)

compared_form : (op : CmpOp) (a b : Kind) → kinds.compares_kinds op a b ≡ true → AreOneForm a b
compared_form op a b is = by (is_number a && is_number b) refl is
  where
    by : (numbers : Bool) → (is_number a && is_number b) ≡ numbers
        → (numbers || (kinds.is_equality op && kinds.are_comparable a b)) ≡ true → AreOneForm a b
    by true both is = inl (and_parts (is_number a) (is_number b) both)
    by false both is = comparable_form a b (and_parts (kinds.is_equality op) (kinds.are_comparable a b) is).1

pub pushed_form : (op : CmpOp) (a b : Kind) → kinds.pushes_comparison op a b ≡ true → AreOneForm a b
pushed_form comparisons.GtUn a NullRef is = inr (is, refl)
pushed_form op a b is = compared_form op a b is

both_numbers : (known : StateFacts) (v w : Var) → FitsKind known Int v → FitsKind known Int w → AreAlike v w
both_numbers known (vars.Number a) (vars.Number b) first second = tt
both_numbers known (vars.Number a) _ first second = elim second [ ]
both_numbers known _ w first second = elim first [ ]

both_references : (v w : Var) → IsReferenceVar v → IsReferenceVar w → AreAlike v w
both_references (vars.Reference r) (vars.Reference q) first second = tt
both_references (vars.Reference r) _ first second = elim second [ ]
both_references _ w first second = elim first [ ]

pub alike_of : (known : StateFacts) (a b : Kind) (v w : Var) → AreOneForm a b → FitsKind known a v → FitsKind known b w
    → AreAlike v w
alike_of known a b v w (inl (one, other)) first second =
    both_numbers known v w (number_fits known a v one first) (number_fits known b w other second)
alike_of known a b v w (inr (one, other)) first second =
    both_references v w (reference_fits known a v one first) (reference_fits known b w other second)

pub array_kind : (place : Place) → IsArrayPlace place → kind_of place ≡ Some (kind_in place)
array_kind places.Bools is = refl
array_kind places.Ints is = refl
array_kind places.Void is = elim is [ ]
array_kind places.Bool is = elim is [ ]
array_kind places.Int is = elim is [ ]

pub array_reference : (known : StateFacts) (place : Place) (r : ℕ) → IsArrayPlace place
    → is_of_place known place r ≡ true
    → FitsKind known (kind_in place) (vars.Reference r)
array_reference known places.Bools r is of = of
array_reference known places.Ints r is of = of
array_reference known places.Void r is of = elim is [ ]
array_reference known places.Bool r is of = elim is [ ]
array_reference known places.Int r is of = elim is [ ]

-- ---- addresses

pub address_of_place : (known : StateFacts) (place : Place) (address : Kind) (r : ℕ) (i : Expr)
    → address_kind place ≡ Some address → is_array_of_place known place r ≡ true
    → FitsKind known address (vars.Address r i)
address_of_place known places.Ints address r i is array =
    subst (λ (a : Kind). FitsKind known a (vars.Address r i)) (same_Some AddrInts address is) array
address_of_place known places.Bools address r i is array =
    subst (λ (a : Kind). FitsKind known a (vars.Address r i)) (same_Some AddrBools address is) array
address_of_place known places.Void address r i is array = absurd (none-some address is)
address_of_place known places.Bool address r i is array = absurd (none-some address is)
address_of_place known places.Int address r i is array = absurd (none-some address is)

reference_of_place : (known : StateFacts) (place : Place) (r : ℕ) → FitsKind known (kind_in place) (vars.Reference r)
    → is_of_place known place r ≡ true
reference_of_place known places.Ints r fits = fits
reference_of_place known places.Bools r fits = fits
reference_of_place known places.Void r fits = elim fits [ ]
reference_of_place known places.Bool r fits = elim fits [ ]
reference_of_place known places.Int r fits = elim fits [ ]

-- The address of an item of an array that is not null fits the kind of such addresses.
pub address_fits : (known : StateFacts) (place : Place) (k address : Kind) (r : ℕ) (i : Expr)
    → is_array_of place k ≡ true → address_kind place ≡ Some address → HasReference known r → 1 ≤ r
    → FitsKind known k (vars.Reference r) → FitsKind known address (vars.Address r i)
address_fits known place k address r i of is there least fits =
    address_of_place known place address r i is
    (array_there known place r least there
    (reference_of_place known place r
    (taken_fits known place k (vars.Reference r) (and_parts (is_reference k) (takes place k) of).1 fits)))

abbrev pub IsAddressVar : Var → Type 0
IsAddressVar (vars.Address r i) = Unit {0}
IsAddressVar _ = ⊥

pub named_fits : (known : StateFacts) (place : Place) (k : Kind) (v : Var) → is_address_of place k ≡ true
    → FitsKind known k v → IsAddressVar v
named_fits known places.Ints AddrInts (vars.Address r i) is fits = tt
named_fits known places.Bools AddrBools (vars.Address r i) is fits = tt
named_fits known places.Ints AddrInts _ is fits = elim fits [ ]
named_fits known places.Bools AddrBools _ is fits = elim fits [ ]
named_fits known _ _ v is fits = absurd (false≢true is)

pub own_place : (place : Place) → IsArrayPlace place → same_place place place ≡ true
own_place places.Bools is = refl
own_place places.Ints is = refl
own_place places.Void is = elim is [ ]
own_place places.Bool is = elim is [ ]
own_place places.Int is = elim is [ ]
