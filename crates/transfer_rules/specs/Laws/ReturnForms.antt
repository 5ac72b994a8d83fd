-- Where the kinds before a return fit, what its Ensures read is there.
use Rattle.std.proofs.Common.{◌≡◌, ℕ, zero, suc, ◌+◌, ◌≤◌, true, List, [], ◌∷◌, ◌++◌, length, map, reverse, slice_get, Some, None, refl, sym, ap, subst, ◌∙◌, length-append, arith}
use Rattle.std.specs.Option.{option_and_then}
use Rattle.std.proofs.lemmas.List.{length-map, length-reverse}
use Rattle.std.proofs.lemmas.Option.{none-some, same_Some}
use Rattle.cil_model.specs.Kinds.{behind_return, kind_of, takes}
use Rattle.cil_model.specs.Limits.{MAX_VARIABLES}
use Rattle.cil_model.specs.declared.place.Kind.{Kind}
use Rattle.cil_model.specs.declared.place.Place.{Place}
use Rattle.cil_model.specs.declared.place.Place.TheVariants as places
use Rattle.cil_model.specs.declared.unit.Unit.{Unit as MethodUnit}
use Rattle.clause_trees.specs.VariableKinds.{IsOneOfKind, IsReadable}
use Rattle.contract_calls.specs.Arguments.{first_of}
use Rattle.contract_calls.specs.CallForms.{CanReturn}
use Rattle.contract_calls.specs.CallStates.{at_return, result_at}
use Rattle.contract_calls.proofs.AtCalls.{prefix_at, past}
use Rattle.frame_names.specs.declared.var.Var.{Var}
use Rattle.state_facts.specs.StateFacts.{StateFacts, State}
use Rattle.transfer_rules.specs.Forms.{FitKinds, FitsStack, HasKinds, kind_in, kinds_over}
use Rattle.transfer_rules.specs.Laws.CalledForms.{fit_long, fit_split}
use Rattle.transfer_rules.specs.Laws.KindForms.{taken_fits, when_same}
use Rattle.transfer_rules.specs.Laws.SameKinds.{read_kind}

-- ---- what is on top

-- The variables of the kinds of these types are read as such.
read_at : (known : StateFacts) (types : List Place) (vs : List Var) (n : ℕ) (kind : Kind)
    → FitKinds known (map kind_in types) vs → option_and_then kind_of (slice_get types n) ≡ Some kind
    → (v : Var) × (slice_get vs n ≡ Some v) × IsOneOfKind known kind (Some v)
read_at known [] vs n kind fits is = absurd (none-some kind is)
read_at known (place ∷ types) [] n kind fits is = elim fits [ ]
read_at known (place ∷ types) (v ∷ vs) zero kind fits is = (v, refl, read_kind known place kind v is fits.0)
read_at known (place ∷ types) (v ∷ vs) (suc n) kind fits is = read_at known types vs n kind fits.1 is

-- The result lies on top alone.
record IsOnTop (known : StateFacts) (place : Place) (upper : List Var) : Type 0 where
  reads : (i n : ℕ) (kind : Kind) → result_at place n ≡ Some i → kind_of place ≡ Some kind
      → (v : Var) × (upper ≡ v ∷ []) × (i ≡ n) × IsOneOfKind known kind (Some v)

one_place : (place : Place) (n i : ℕ) → result_at place n ≡ Some i → i ≡ n
one_place places.Void n i is = absurd (none-some i is)
one_place places.Bool n i is = sym (same_Some n i is)
one_place places.Int n i is = sym (same_Some n i is)
one_place places.Bools n i is = sym (same_Some n i is)
one_place places.Ints n i is = sym (same_Some n i is)

-- A return finds one value that its place takes, or none where the place is void.
one_taken : (place : Place) (k : Kind) (after : List Kind) → behind_return place (k ∷ []) ≡ Some after
    → takes place k ≡ true
one_taken places.Void k after typed = (when_same (takes places.Void k) [] after typed).0
one_taken places.Bool k after typed = (when_same (takes places.Bool k) [] after typed).0
one_taken places.Int k after typed = (when_same (takes places.Int k) [] after typed).0
one_taken places.Bools k after typed = (when_same (takes places.Bools k) [] after typed).0
one_taken places.Ints k after typed = (when_same (takes places.Ints k) [] after typed).0

never_two : (place : Place) (k l : Kind) (stack after : List Kind) → behind_return place (k ∷ l ∷ stack) ≡ Some after
    → ⊥
never_two places.Void k l stack after typed = none-some after typed
never_two places.Bool k l stack after typed = none-some after typed
never_two places.Int k l stack after typed = none-some after typed
never_two places.Bools k l stack after typed = none-some after typed
never_two places.Ints k l stack after typed = none-some after typed

never_empty : (place : Place) (kind : Kind) (after : List Kind) → behind_return place [] ≡ Some after
    → kind_of place ≡ Some kind → ⊥
never_empty places.Void kind after typed is = none-some kind is
never_empty places.Bool kind after typed is = none-some after typed
never_empty places.Int kind after typed is = none-some after typed
never_empty places.Bools kind after typed is = none-some after typed
never_empty places.Ints kind after typed is = none-some after typed

on_top : (known : StateFacts) (place : Place) (stack after : List Kind) (upper : List Var)
    → behind_return place stack ≡ Some after → FitKinds known (reverse stack) upper → IsOnTop known place upper
on_top known place [] after upper typed fits =
    record { reads = λ i n kind at is. absurd (never_empty place kind after typed is) }
on_top known place (k ∷ []) after [] typed fits = elim fits [ ]
on_top known place (k ∷ []) after (v ∷ w ∷ upper) typed fits = elim fits.1 [ ]
on_top known place (k ∷ []) after (v ∷ []) typed fits = record {
  reads = λ i n kind at is. (
    v,
    refl,
    one_place place n i at,
    read_kind known place kind v is (taken_fits known place k v (one_taken place k after typed) fits.0),
  );
}
on_top known place (k ∷ l ∷ stack) after upper typed fits = absurd (never_two place k l stack after typed)

-- ---- a return

module _ (unit : MethodUnit) (stack after : List Kind) (known : StateFacts)
    (few : length unit.args + length unit.locals + length stack ≤ MAX_VARIABLES)
    (typed : behind_return unit.result stack ≡ Some after) (has : HasKinds (kinds_over unit stack) known) where
  abbrev entry : List Kind
  entry = map kind_in unit.args

  abbrev below : List Kind
  below = map kind_in unit.args ++ map kind_in unit.args ++ map kind_in unit.locals

  long : length known.variables ≡ length unit.args + length unit.args + length unit.locals + length stack
  long =
      fit_long known (kinds_over unit stack) known.variables has.fit
      ∙ omega (
        arith,
        length-append below (reverse stack),
        length-append (entry ++ entry) (map kind_in unit.locals),
        length-append entry entry,
        length-map unit.args kind_in,
        length-map unit.locals kind_in,
        length-reverse stack,
      )

  args_read : (n : ℕ) (kind : Kind) → option_and_then kind_of (slice_get unit.args n) ≡ Some kind
      → IsOneOfKind known kind (slice_get known.variables n)
  args_read n kind is =
      let all = fit_split known below (reverse stack) known.variables has.fit in
      let both = fit_split known (entry ++ entry) (map kind_in unit.locals) all.lower all.first in
      let args = fit_split known entry entry both.lower both.first in
      let (v, there, of) = read_at known unit.args args.lower n kind args.first is in
      let first : slice_get both.lower n ≡ Some v =
      ap (λ (vs : List Var). slice_get vs n) args.are ∙ prefix_at args.lower args.upper n v there in
      let second : slice_get all.lower n ≡ Some v =
      ap (λ (vs : List Var). slice_get vs n) both.are ∙ prefix_at both.lower both.upper n v first in
      subst (IsOneOfKind known kind)
      (sym (ap (λ (vs : List Var). slice_get vs n) all.are ∙ prefix_at all.lower all.upper n v second)) of

  result_read : (i : ℕ) (kind : Kind) → result_at unit.result (first_of 1 (Some known)) ≡ Some i
      → kind_of unit.result ≡ Some kind → IsOneOfKind known kind (slice_get known.variables i)
  result_read i kind at is =
      let both = fit_split known below (reverse stack) known.variables has.fit in
      let top = on_top known unit.result stack after both.upper typed both.second in
      let (v, alone, here, of) = top.reads i (first_of 1 (Some known)) kind at is in
      let are : known.variables ≡ both.lower ++ v ∷ [] = both.are ∙ ap (λ (vs : List Var). both.lower ++ vs) alone in
      let at_end : i ≡ length both.lower + 0 =
      omega (arith, here, ap (λ (vs : List Var). length vs) are, length-append both.lower (v ∷ [])) in
      subst (IsOneOfKind known kind)
      (sym (ap (λ (n : ℕ). slice_get known.variables n) at_end
      ∙ ap (λ (vs : List Var). slice_get vs (length both.lower + 0)) are ∙ past both.lower (v ∷ []) 0)) of

  may_return : CanReturn unit (Some known)
  may_return = record {
    few = omega (arith, long, few);
    readable = λ x is.
        subst (IsReadable (at_return unit.result (Some known)) unit.args unit.result) (same_Some known x is)
        (record {
          form = has.form;
          args_fit = λ n kind at.
              let same : n ≡ 0 + n = omega arith in
              subst (λ (m : ℕ). IsOneOfKind known kind (slice_get known.variables m)) same (args_read n kind at);
          result_fits = result_read;
        });
  }

-- Where nothing is reached, any unit may return.
pub none_returns : (unit : MethodUnit) → CanReturn unit None
none_returns unit = record { few = omega arith; readable = λ x is. absurd (none-some x is) }

-- Where a state fits the kinds before a return, the unit may return in it.
pub fits_return : (unit : MethodUnit) (stack after : List Kind) (state : State)
    → length unit.args + length unit.locals + length stack ≤ MAX_VARIABLES
    → behind_return unit.result stack ≡ Some after → FitsStack unit (Some stack) state → CanReturn unit state
fits_return unit stack after None few typed fits = none_returns unit
fits_return unit stack after (Some known) few typed has = may_return unit stack after known few typed has
