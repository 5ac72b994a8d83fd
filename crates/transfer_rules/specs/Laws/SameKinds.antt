-- Variables of the same forms fit the same kinds, and what fits the kind of a place is what clauses read there.
use Rattle.std.proofs.Common.{◌≡◌, ℕ, zero, suc, ◌<◌, ◌≤◌, true, false, List, [], ◌∷◌, length, slice_get, Option, Some, None, refl, sym, subst, ◌∙◌, arith}
use Rattle.std.specs.List.{AllByRecursion}
use Rattle.std.specs.Option.{option_map, option_map_or}
use Rattle.std.proofs.lemmas.Bool.{false≢true}
use Rattle.std.proofs.lemmas.Option.{none-some, same_Some}
use Rattle.cil_model.specs.Kinds.{kind_of}
use Rattle.cil_model.specs.Values.{same_place}
use Rattle.cil_model.specs.declared.place.Kind.{Kind}
use Rattle.cil_model.specs.declared.place.Kind.TheVariants as kinds
use Rattle.cil_model.specs.declared.place.Place.{Place}
use Rattle.cil_model.specs.declared.place.Place.TheVariants as places
use Rattle.clause_trees.specs.VariableKinds.{AreSameForms, HasSameFormsIn, IsOfKind, IsOfPlace, IsSameForm, place_in}
use Rattle.frame_names.specs.declared.reference.Reference.{Reference}
use Rattle.frame_names.specs.declared.var.Var.{Var}
use Rattle.frame_names.specs.declared.var.Var.TheVariants as vars
use Rattle.state_facts.specs.Forms.{HasVar}
use Rattle.state_facts.specs.StateFacts.{StateFacts, State, reference_at}
use Rattle.transfer_rules.specs.Forms.{FitKinds, FitsKind, HasKinds, kind_in}
use Rattle.transfer_rules.specs.Laws.Fitting.{AreKinds}
use Rattle.transfer_rules.specs.Laws.KindForms.{same_reference}

-- ---- variables of the same forms

null_only : (known : StateFacts) (q : ℕ) → place_in known q ≡ None → q ≤ length known.references → q ≡ 0
unfolding reference_at
null_only known zero none there = refl
null_only known (suc q) none there = absurd (by known.references q none (omega (arith, there)))
  where
    by : (references : List Reference) (i : ℕ)
        → option_map (λ (r : Reference). r.place) (slice_get references i) ≡ None
        → i < length references → ⊥
    by [] i none below = omega (arith, below)
    by (x ∷ references) zero none below = none-some x.place (sym none)
    by (x ∷ references) (suc i) none below = by references i none (omega (arith, below))

null_in : (known : StateFacts) (r : ℕ) → r ≡ 0 → place_in known r ≡ None
unfolding reference_at
null_in known zero is = refl
null_in known (suc r) is = absurd (omega (arith, is))

form_fits : (before after : StateFacts) (k : Kind) (v w : Var) → IsSameForm before after v w → HasVar after w
    → FitsKind before k v
    → FitsKind after k w
form_fits before after kinds.Int (vars.Number e) (vars.Number f) same there fits = tt
form_fits before after kinds.Native (vars.Number e) (vars.Number f) same there fits = tt
form_fits before after kinds.Ints (vars.Reference r) (vars.Reference q) same there fits =
    same_reference before after places.Ints true r q same fits
form_fits before after kinds.Bools (vars.Reference r) (vars.Reference q) same there fits =
    same_reference before after places.Bools true r q same fits
form_fits before after kinds.NullRef (vars.Reference r) (vars.Reference q) same there fits =
    null_only after q (same ∙ null_in before r fits) there
form_fits before after kinds.Text vars.Text vars.Text same there fits = tt
form_fits before after kinds.AddrInts (vars.Address r e) (vars.Address q f) same there fits =
    same_reference before after places.Ints false r q same fits
form_fits before after kinds.AddrBools (vars.Address r e) (vars.Address q f) same there fits =
    same_reference before after places.Bools false r q same fits
form_fits before after kinds.Int (vars.Number e) _ same there fits = elim same [ ]
form_fits before after kinds.Native (vars.Number e) _ same there fits = elim same [ ]
form_fits before after kinds.Ints (vars.Reference r) _ same there fits = elim same [ ]
form_fits before after kinds.Bools (vars.Reference r) _ same there fits = elim same [ ]
form_fits before after kinds.NullRef (vars.Reference r) _ same there fits = elim same [ ]
form_fits before after kinds.Text vars.Text _ same there fits = elim same [ ]
form_fits before after kinds.AddrInts (vars.Address r e) _ same there fits = elim same [ ]
form_fits before after kinds.AddrBools (vars.Address r e) _ same there fits = elim same [ ]
form_fits before after _ _ _ same there fits = elim fits [ ]

pub forms_fit : (before after : StateFacts) (ks : List Kind) (vs ws : List Var) → AreSameForms before after vs ws
    → AllByRecursion (HasVar after) ws
    → FitKinds before ks vs → FitKinds after ks ws
forms_fit before after [] [] [] same there fits = tt
forms_fit before after [] [] (w ∷ ws) same there fits = elim same [ ]
forms_fit before after [] (v ∷ vs) ws same there fits = elim fits [ ]
forms_fit before after (k ∷ ks) [] ws same there fits = elim fits [ ]
forms_fit before after (k ∷ ks) (v ∷ vs) [] same there fits = elim same [ ]
forms_fit before after (k ∷ ks) (v ∷ vs) (w ∷ ws) same there fits =
    (form_fits before after k v w same.0 there.0 fits.0, forms_fit before after ks vs ws same.1 there.1 fits.1)

pub same_forms : (ks : List Kind) (known : StateFacts) (state : State) → HasSameFormsIn known state → HasKinds ks known
    → AreKinds ks state
same_forms ks known None same has = tt
same_forms ks known (Some after) same has =
    record {
      form = same.form;
      fit = forms_fit known after ks known.variables after.variables same.variables same.form.variables has.fit;
    }

-- ---- what clauses read

ints_place : (place : Place) → same_place place places.Ints ≡ true → place ≡ places.Ints
ints_place places.Ints is = refl
ints_place _ is = absurd (false≢true is)

bools_place : (place : Place) → same_place place places.Bools ≡ true → place ≡ places.Bools
bools_place places.Bools is = refl
bools_place _ is = absurd (false≢true is)

ints_in : (o : Option Reference) → option_map_or (λ r. same_place r.place places.Ints) o true ≡ true
    → IsOfPlace places.Ints (option_map (λ r. r.place) o)
ints_in None is = tt
ints_in (Some r) is = ints_place r.place is

bools_in : (o : Option Reference) → option_map_or (λ r. same_place r.place places.Bools) o true ≡ true
    → IsOfPlace places.Bools (option_map (λ r. r.place) o)
bools_in None is = tt
bools_in (Some r) is = bools_place r.place is

number_read : (known : StateFacts) (v : Var) → FitsKind known kinds.Int v → IsOfKind known kinds.Int v
number_read known (vars.Number e) fits = tt
number_read known _ fits = elim fits [ ]

ints_read : (known : StateFacts) (v : Var) → FitsKind known kinds.Ints v → IsOfKind known kinds.Ints v
ints_read known (vars.Reference r) fits = ints_in (reference_at known.references r) fits
ints_read known _ fits = elim fits [ ]

bools_read : (known : StateFacts) (v : Var) → FitsKind known kinds.Bools v → IsOfKind known kinds.Bools v
bools_read known (vars.Reference r) fits = bools_in (reference_at known.references r) fits
bools_read known _ fits = elim fits [ ]

pub read_kind : (known : StateFacts) (place : Place) (kind : Kind) (v : Var) → kind_of place ≡ Some kind
    → FitsKind known (kind_in place) v
    → IsOfKind known kind v
read_kind known places.Bool kind v is fits =
    subst (λ k. IsOfKind known k v) (same_Some kinds.Int kind is) (number_read known v fits)
read_kind known places.Int kind v is fits =
    subst (λ k. IsOfKind known k v) (same_Some kinds.Int kind is) (number_read known v fits)
read_kind known places.Ints kind v is fits =
    subst (λ k. IsOfKind known k v) (same_Some kinds.Ints kind is) (ints_read known v fits)
read_kind known places.Bools kind v is fits =
    subst (λ k. IsOfKind known k v) (same_Some kinds.Bools kind is) (bools_read known v fits)
read_kind known places.Void kind v is fits = absurd (none-some kind is)
