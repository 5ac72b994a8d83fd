-- Values whose form is that of a kind, whatever their number, and the places that take them.
use Rattle.std.proofs.Common.{◌≡◌, ℕ, zero, suc, true, false, List, [], ◌∷◌, ◌++◌, length, reverse, take, drop, slice_get, Option, Some, None, if◌then◌else◌, refl, sym, ap, subst, subst₂, ◌∙◌}
use Rattle.std.specs.Option.{option_map_or}
use Rattle.std.proofs.lemmas.Bool.{and_parts, false≢true}
use Rattle.std.proofs.lemmas.List.{reverse-append}
use Rattle.std.proofs.lemmas.Option.{none-some, same_Some}
use Rattle.cil_model.specs.Calls.{args_of}
use Rattle.cil_model.specs.FitKinds.{FitKinds, FitsKind}
use Rattle.cil_model.specs.Kinds.{kind_of, pushed_kind, take_each, takes}
use Rattle.cil_model.specs.Passes.{merged, merged_kind}
use Rattle.cil_model.specs.Values.{Heap, FitsPlace, HasItemOf, IsValue, KeepsForms, has_array, put, put_all, same_place, with_first}
use Rattle.cil_model.specs.declared.machine.ArrayCell.{ArrayCell}
use Rattle.cil_model.specs.declared.machine.Value.{Value}
use Rattle.cil_model.specs.declared.machine.Value.TheVariants as values
use Rattle.cil_model.specs.declared.place.Kind.{Kind}
use Rattle.cil_model.specs.declared.place.Kind.TheVariants as kinds
use Rattle.cil_model.specs.declared.place.Place.{Place}
use Rattle.cil_model.specs.declared.place.Place.TheVariants as places
use Rattle.std.specs.List.{AllByRecursion}
use Rattle.cil_model.proofs.HeapsKept.{HasItemOf-kept, has_array-kept}
use Rattle.cil_model.proofs.KindsGrow.{parts}

abbrev pub HasForm : Heap → Kind → Value → Type 0
HasForm heap kinds.Int (values.Int n) = Unit {0}
HasForm heap kinds.Native (values.Native n) = Unit {0}
HasForm heap kinds.Ints values.Null = Unit {0}
HasForm heap kinds.Ints (values.Array i) = has_array heap places.Ints i ≡ true
HasForm heap kinds.Bools values.Null = Unit {0}
HasForm heap kinds.Bools (values.Array i) = has_array heap places.Bools i ≡ true
HasForm heap kinds.NullRef values.Null = Unit {0}
HasForm heap kinds.Text values.Text = Unit {0}
HasForm heap kinds.AddrInts (values.Addr a n) = HasItemOf heap places.Ints a n
HasForm heap kinds.AddrBools (values.Addr a n) = HasItemOf heap places.Bools a n
HasForm heap _ _ = ⊥

abbrev pub HaveForms : Heap → List Kind → List Value → Type 0
HaveForms heap [] [] = Unit {0}
HaveForms heap (kind ∷ kinds) (v ∷ vs) = HasForm heap kind v × HaveForms heap kinds vs
HaveForms heap _ _ = ⊥

-- ---- with and without numbers

form_of : (heap : Heap) (kind : Kind) (v : Value) → FitsKind heap kind v → HasForm heap kind v
form_of heap kinds.Int (values.Int n) fits = tt
form_of heap kinds.Native (values.Native n) fits = tt
form_of heap kinds.Ints values.Null fits = tt
form_of heap kinds.Ints (values.Array i) fits = fits
form_of heap kinds.Bools values.Null fits = tt
form_of heap kinds.Bools (values.Array i) fits = fits
form_of heap kinds.NullRef values.Null fits = tt
form_of heap kinds.Text values.Text fits = tt
form_of heap kinds.AddrInts (values.Addr a n) fits = fits
form_of heap kinds.AddrBools (values.Addr a n) fits = fits
form_of heap _ _ fits = absurd fits

pub forms_of : (heap : Heap) (kinds : List Kind) (vs : List Value) → FitKinds heap kinds vs → HaveForms heap kinds vs
forms_of heap [] [] fit = tt
forms_of heap (kind ∷ kinds) (v ∷ vs) fit = (form_of heap kind v fit.0, forms_of heap kinds vs fit.1)
forms_of heap [] (v ∷ vs) fit = absurd fit
forms_of heap (kind ∷ kinds) [] fit = absurd fit

fits_of : (heap : Heap) (kind : Kind) (v : Value) → HasForm heap kind v → IsValue heap v → FitsKind heap kind v
fits_of heap kinds.Int (values.Int n) form is = is
fits_of heap kinds.Native (values.Native n) form is = is
fits_of heap kinds.Ints values.Null form is = tt
fits_of heap kinds.Ints (values.Array i) form is = form
fits_of heap kinds.Bools values.Null form is = tt
fits_of heap kinds.Bools (values.Array i) form is = form
fits_of heap kinds.NullRef values.Null form is = tt
fits_of heap kinds.Text values.Text form is = tt
fits_of heap kinds.AddrInts (values.Addr a n) form is = form
fits_of heap kinds.AddrBools (values.Addr a n) form is = form
fits_of heap _ _ form is = absurd form

pub fit_of : (heap : Heap) (kinds : List Kind) (vs : List Value) → HaveForms heap kinds vs → AllByRecursion (IsValue heap) vs → FitKinds heap kinds vs
fit_of heap [] [] forms are = tt
fit_of heap (kind ∷ kinds) (v ∷ vs) forms are = (fits_of heap kind v forms.0 are.0, fit_of heap kinds vs forms.1 are.1)
fit_of heap [] (v ∷ vs) forms are = absurd forms
fit_of heap (kind ∷ kinds) [] forms are = absurd forms

-- ---- heaps that keep forms, and merging

module _ (old new : Heap) (kept : KeepsForms old new) where
  pub HasForm-kept : (kind : Kind) (v : Value) → HasForm old kind v → HasForm new kind v
  HasForm-kept kinds.Int (values.Int n) form = tt
  HasForm-kept kinds.Native (values.Native n) form = tt
  HasForm-kept kinds.Ints values.Null form = tt
  HasForm-kept kinds.Ints (values.Array i) form = has_array-kept old new places.Ints i kept form
  HasForm-kept kinds.Bools values.Null form = tt
  HasForm-kept kinds.Bools (values.Array i) form = has_array-kept old new places.Bools i kept form
  HasForm-kept kinds.NullRef values.Null form = tt
  HasForm-kept kinds.Text values.Text form = tt
  HasForm-kept kinds.AddrInts (values.Addr a n) form = HasItemOf-kept old new places.Ints a n kept form
  HasForm-kept kinds.AddrBools (values.Addr a n) form = HasItemOf-kept old new places.Bools a n kept form
  HasForm-kept _ _ form = absurd form

  pub HaveForms-kept : (kinds : List Kind) (vs : List Value) → HaveForms old kinds vs → HaveForms new kinds vs
  HaveForms-kept [] [] forms = tt
  HaveForms-kept (kind ∷ kinds) (v ∷ vs) forms = (HasForm-kept kind v forms.0, HaveForms-kept kinds vs forms.1)
  HaveForms-kept [] (v ∷ vs) forms = absurd forms
  HaveForms-kept (kind ∷ kinds) [] forms = absurd forms

module _ (heap : Heap) where
  -- What has the form of null has that of both kinds of arrays.
  null_is_array : (kind : Kind) (v : Value) → HasForm heap kinds.NullRef v → HasForm heap kind values.Null → HasForm heap kind v
  null_is_array kind values.Null form null = null
  null_is_array kind _ form null = absurd form

  HasForm-merged : (a b c : Kind) (v : Value) → merged_kind a b ≡ Some c → HasForm heap b v → HasForm heap c v
  HasForm-merged kinds.Int kinds.Int c v e form = subst (λ (k : Kind). HasForm heap k v) (same_Some kinds.Int c e) form
  HasForm-merged kinds.Native kinds.Native c v e form = subst (λ (k : Kind). HasForm heap k v) (same_Some kinds.Native c e) form
  HasForm-merged kinds.Ints kinds.Ints c v e form = subst (λ (k : Kind). HasForm heap k v) (same_Some kinds.Ints c e) form
  HasForm-merged kinds.Bools kinds.Bools c v e form = subst (λ (k : Kind). HasForm heap k v) (same_Some kinds.Bools c e) form
  HasForm-merged kinds.NullRef kinds.NullRef c v e form = subst (λ (k : Kind). HasForm heap k v) (same_Some kinds.NullRef c e) form
  HasForm-merged kinds.Text kinds.Text c v e form = subst (λ (k : Kind). HasForm heap k v) (same_Some kinds.Text c e) form
  HasForm-merged kinds.AddrInts kinds.AddrInts c v e form = subst (λ (k : Kind). HasForm heap k v) (same_Some kinds.AddrInts c e) form
  HasForm-merged kinds.AddrBools kinds.AddrBools c v e form = subst (λ (k : Kind). HasForm heap k v) (same_Some kinds.AddrBools c e) form
  HasForm-merged kinds.NullRef kinds.Ints c v e form = subst (λ (k : Kind). HasForm heap k v) (same_Some kinds.Ints c e) form
  HasForm-merged kinds.NullRef kinds.Bools c v e form = subst (λ (k : Kind). HasForm heap k v) (same_Some kinds.Bools c e) form
  HasForm-merged kinds.Ints kinds.NullRef c v e form =
      subst (λ (k : Kind). HasForm heap k v) (same_Some kinds.Ints c e) (null_is_array kinds.Ints v form tt)
  HasForm-merged kinds.Bools kinds.NullRef c v e form =
      subst (λ (k : Kind). HasForm heap k v) (same_Some kinds.Bools c e) (null_is_array kinds.Bools v form tt)
  HasForm-merged _ _ c v e form = absurd (none-some c e)

  -- What comes to a stack that absorbs it has the stack's forms.
  pub HaveForms-merged : (a b c : List Kind) (vs : List Value) → merged a b ≡ Some c → HaveForms heap b vs → HaveForms heap c vs
  HaveForms-merged [] [] c vs e forms = subst (λ (ks : List Kind). HaveForms heap ks vs) (same_Some [] c e) forms
  HaveForms-merged (a ∷ others) (b ∷ more) c (v ∷ vs) e forms =
      let p = parts (merged_kind a b) (merged others more) c e in
      subst (λ (ks : List Kind). HaveForms heap ks (v ∷ vs)) (sym p.all_is)
      (HasForm-merged a b p.first v p.first_is forms.0, HaveForms-merged others more p.others vs p.others_are forms.1)
  HaveForms-merged (a ∷ others) (b ∷ more) c [] e forms = absurd forms
  HaveForms-merged [] (b ∷ more) c vs e forms = absurd (none-some c e)
  HaveForms-merged (a ∷ others) [] c vs e forms = absurd (none-some c e)

  -- ---- parts of stacks

  forms_append : (ks ls : List Kind) (vs ws : List Value) → HaveForms heap ks vs → HaveForms heap ls ws → HaveForms heap (ks ++ ls) (vs ++ ws)
  forms_append [] ls [] ws h k = k
  forms_append (kind ∷ ks) ls (v ∷ vs) ws h k = (h.0, forms_append ks ls vs ws h.1 k)
  forms_append [] ls (v ∷ vs) ws h k = absurd h
  forms_append (kind ∷ ks) ls [] ws h k = absurd h

  forms_reverse : (ks : List Kind) (vs : List Value) → HaveForms heap ks vs → HaveForms heap (reverse ks) (reverse vs)
  forms_reverse [] [] h = tt
  forms_reverse (kind ∷ ks) (v ∷ vs) h =
      subst₂ (HaveForms heap) (sym (reverse-append (kind ∷ []) ks)) (sym (reverse-append (v ∷ []) vs))
      (forms_append (reverse ks) (kind ∷ []) (reverse vs) (v ∷ []) (forms_reverse ks vs h.1) (h.0, tt))
  forms_reverse [] (v ∷ vs) h = absurd h
  forms_reverse (kind ∷ ks) [] h = absurd h

  forms_take : (n : ℕ) (ks : List Kind) (vs : List Value) → HaveForms heap ks vs → HaveForms heap (take n ks) (take n vs)
  forms_take zero ks vs h = tt
  forms_take (suc n) [] [] h = tt
  forms_take (suc n) (kind ∷ ks) (v ∷ vs) h = (h.0, forms_take n ks vs h.1)
  forms_take (suc n) [] (v ∷ vs) h = absurd h
  forms_take (suc n) (kind ∷ ks) [] h = absurd h

  pub forms_drop : (n : ℕ) (ks : List Kind) (vs : List Value) → HaveForms heap ks vs → HaveForms heap (drop n ks) (drop n vs)
  forms_drop zero ks vs h = h
  forms_drop (suc n) [] [] h = tt
  forms_drop (suc n) (kind ∷ ks) (v ∷ vs) h = forms_drop n ks vs h.1
  forms_drop (suc n) [] (v ∷ vs) h = absurd h
  forms_drop (suc n) (kind ∷ ks) [] h = absurd h

  -- ---- places

  put_array : (place : Place) (i : ℕ) → has_array heap place i ≡ true
      → (w : Value) × ((if has_array heap place i then Some (values.Array i) else None) ≡ Some w)
  put_array place i has = (values.Array i, rw has refl)

  -- A place takes what it is typed to take.
  pub put_defined : (place : Place) (kind : Kind) (v : Value) → takes place kind ≡ true → HasForm heap kind v
      → (w : Value) × (put heap place v ≡ Some w)
  put_defined places.Bool kinds.Int (values.Int n) e form = (_, refl)
  put_defined places.Int kinds.Int (values.Int n) e form = (_, refl)
  put_defined places.Bools kinds.Bools values.Null e form = (_, refl)
  put_defined places.Bools kinds.Bools (values.Array i) e form = put_array places.Bools i form
  put_defined places.Bools kinds.NullRef values.Null e form = (_, refl)
  put_defined places.Ints kinds.Ints values.Null e form = (_, refl)
  put_defined places.Ints kinds.Ints (values.Array i) e form = put_array places.Ints i form
  put_defined places.Ints kinds.NullRef values.Null e form = (_, refl)
  put_defined place kind v e form = absurd (first_of (search, cc))

  first_defined : (first : Option Value) (others : Option (List Value)) → ((w : Value) × (first ≡ Some w)) → ((ws : List Value) × (others ≡ Some ws))
      → (all : List Value) × (with_first first others ≡ Some all)
  first_defined first others (w, one) (ws, more) = (w ∷ ws, ap (λ (o : Option Value). with_first o others) one ∙ ap (with_first (Some w)) more)

  put_all_defined : (places : List Place) (ks : List Kind) (vs : List Value) → take_each places ks ≡ true → HaveForms heap ks vs
      → (ws : List Value) × (put_all heap places vs ≡ Some ws)
  put_all_defined [] [] [] e h = ([], refl)
  put_all_defined (place ∷ places) (kind ∷ ks) (v ∷ vs) e h =
      let both = and_parts (takes place kind) (take_each places ks) e in
      first_defined (put heap place v) (put_all heap places vs) (put_defined place kind v both.0 h.0) (put_all_defined places ks vs both.1 h.1)
  put_all_defined [] [] (v ∷ vs) e h = absurd h
  put_all_defined (place ∷ places) (kind ∷ ks) [] e h = absurd h
  put_all_defined [] (kind ∷ ks) vs e h = absurd (false≢true e)
  put_all_defined (place ∷ places) [] vs e h = absurd (false≢true e)

  -- A call finds the arguments that it is typed to find.
  pub args_defined : (places : List Place) (ks : List Kind) (vs : List Value) → take_each places (reverse (take (length places) ks)) ≡ true
      → HaveForms heap ks vs
      → (args : List Value) × (args_of heap places vs ≡ Some args)
  args_defined places ks vs e h =
      put_all_defined places (reverse (take (length places) ks)) (reverse (take (length places) vs)) e
      (forms_reverse (take (length places) ks) (take (length places) vs) (forms_take (length places) ks vs h))

  -- What fits a place has the form of its kind.
  pub form_of_place : (place : Place) (v : Value) (rest : List Kind) (vs : List Value) → FitsPlace heap place v → HaveForms heap rest vs
      → HaveForms heap (pushed_kind (kind_of place) rest) (v ∷ vs)
  form_of_place places.Bool (values.Int n) rest vs fits h = (tt, h)
  form_of_place places.Int (values.Int n) rest vs fits h = (tt, h)
  form_of_place places.Bools values.Null rest vs fits h = (tt, h)
  form_of_place places.Bools (values.Array i) rest vs fits h = (fits, h)
  form_of_place places.Ints values.Null rest vs fits h = (tt, h)
  form_of_place places.Ints (values.Array i) rest vs fits h = (fits, h)
  form_of_place _ v rest vs fits h = absurd fits

  -- ---- references

  -- The array of a value that has the form of its kind.
  pub array_is : (place : Place) (i : ℕ) → has_array heap place i ≡ true
      → (cell : ArrayCell) × (slice_get heap i ≡ Some cell) × (same_place cell.place place ≡ true)
  array_is place i has = by (slice_get heap i) has
    where
      by : (found : Option ArrayCell) → option_map_or (λ (cell : ArrayCell). same_place cell.place place) found false ≡ true
          → (cell : ArrayCell) × (found ≡ Some cell) × (same_place cell.place place ≡ true)
      by None e = absurd (false≢true e)
      by (Some cell) e = (cell, refl, e)
