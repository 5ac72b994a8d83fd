-- Where the kinds before a call of a method fit, the method may be called, and those after the call fit behind it.
use Rattle.std.proofs.Common.{◌≡◌, ℕ, zero, suc, ◌+◌, ◌-◌, ◌≤◌, true, false, List, [], ◌∷◌, ◌++◌, length, map, take, drop, slice_get, Option, Some, None, refl, sym, ap, subst, ◌∙◌, append_assoc, append-nil, arith}
use Rattle.std.specs.Prelude.{reverse}
use Rattle.std.specs.List.{AllByRecursion}
use Rattle.std.specs.Option.{option_map, option_map_or}
use Rattle.std.proofs.Math.Seq.{take-append_seam}
use Rattle.std.proofs.lemmas.Bool.{and_parts, false≢true}
use Rattle.std.proofs.lemmas.List.{length-append, length-map, length-reverse, reverse-append, take-append-drop}
use Rattle.std.proofs.lemmas.Option.{none-some, same_Some}
use Rattle.cil_model.specs.Clauses.{clauses_of}
use Rattle.cil_model.specs.Kinds.{behind_callee, kind_of, pushed_kind, take_each, takes}
use Rattle.cil_model.specs.Limits.{MAX_VARIABLES}
use Rattle.cil_model.specs.Values.{same_place}
use Rattle.cil_model.specs.WellFormed.{IsCallee}
use Rattle.cil_model.specs.declared.clause.ClauseKind.TheVariants as clause_kinds
use Rattle.cil_model.specs.declared.place.Kind.{Kind}
use Rattle.cil_model.specs.declared.place.Kind.TheVariants.{AddrBools, AddrInts, Bools, Int, Ints, NullRef}
use Rattle.cil_model.specs.declared.place.Place.{Place}
use Rattle.cil_model.specs.declared.place.Place.TheVariants as places
use Rattle.cil_model.specs.declared.unit.CalleeInfo.{CalleeInfo}
use Rattle.cil_model.specs.declared.unit.Unit.{Unit as MethodUnit}
use Rattle.cil_model.proofs.Lists.{all_split}
use Rattle.clause_trees.specs.VariableKinds.{AreSameForms, IsOfKind, IsOfPlace}
use Rattle.contract_calls.specs.Arguments.{first_of}
use Rattle.contract_calls.specs.CallForms.{AreGiven, CanCall, HasFew, IsBehindCall, IsBehindCallIn}
use Rattle.contract_calls.specs.CallStates.{after_call, behind_args, called, less, required}
use Rattle.contract_calls.proofs.Assuming.{none_each}
use Rattle.contract_calls.proofs.AtCalls.{none_put, none_required}
use Rattle.contract_calls.proofs.BehindForms.{AreOfPlaces, can_call}
use Rattle.contract_calls.proofs.WholeCalls.{whole_forms}
use Rattle.frame_names.specs.declared.reference.Reference.{Reference}
use Rattle.frame_names.specs.declared.var.Var.{Var}
use Rattle.frame_names.specs.declared.var.Var.TheVariants as vars
use Rattle.state_facts.specs.Forms.{HasVar}
use Rattle.state_facts.specs.StateFacts.{StateFacts, State, reference_at}
use Rattle.transfer_rules.specs.Acts.{after_callee}
use Rattle.transfer_rules.specs.Forms.{FitKinds, FitsKind, FitsStack, HasKinds, kind_in, kinds_over}
use Rattle.transfer_rules.specs.Owed.{CanCallIt}
use Rattle.transfer_rules.specs.Laws.Fitting.{fit_pushed, over_more}
use Rattle.transfer_rules.specs.Laws.KindForms.{taken_fits, when_same}
use Rattle.transfer_rules.specs.Laws.SameKinds.{forms_fit, read_kind}

-- What is asked of a unit and of the stack before an instruction: callees are as well formed units have them, and the
-- stack is no larger than that of a frame.
pub record IsWithin (unit : MethodUnit) (stack : List Kind) : Type 0 where
  pub callees : AllByRecursion IsCallee unit.callees
  pub few : length unit.args + length unit.locals + length stack ≤ MAX_VARIABLES

-- ---- lists of variables

pub fit_long : (known : StateFacts) (ks : List Kind) (vs : List Var) → FitKinds known ks vs → length vs ≡ length ks
fit_long known [] [] fits = refl
fit_long known [] (v ∷ vs) fits = elim fits [ ]
fit_long known (k ∷ ks) [] fits = elim fits [ ]
fit_long known (k ∷ ks) (v ∷ vs) fits = ap suc (fit_long known ks vs fits.1)

-- The variables of the first kinds, and those above them.
pub record FitBoth (known : StateFacts) (ks js : List Kind) (vs : List Var) : Type 0 where
  pub lower : List Var
  pub upper : List Var
  pub are : vs ≡ lower ++ upper
  pub first : FitKinds known ks lower
  pub second : FitKinds known js upper

pub fit_split : (known : StateFacts) (ks js : List Kind) (vs : List Var) → FitKinds known (ks ++ js) vs
    → FitBoth known ks js vs
fit_split known [] js vs fits = record { lower = []; upper = vs; are = refl; first = tt; second = fits }
fit_split known (k ∷ ks) js [] fits = elim fits [ ]
fit_split known (k ∷ ks) js (v ∷ vs) fits =
    let rest = fit_split known ks js vs fits.1 in
    record {
      lower = v ∷ rest.lower;
      upper = rest.upper;
      are = ap (λ l. v ∷ l) rest.are;
      first = (fits.0, rest.first);
      second = rest.second;
    }

takes_long : (types : List Place) (ks : List Kind) → take_each types ks ≡ true → length ks ≡ length types
takes_long [] [] took = refl
takes_long [] (k ∷ ks) took = absurd (false≢true took)
takes_long (place ∷ types) [] took = absurd (false≢true took)
takes_long (place ∷ types) (k ∷ ks) took =
    ap suc (takes_long types ks (and_parts (takes place k) (take_each types ks) took).1)

of_places : (known : StateFacts) (types : List Place) (ks : List Kind) (vs : List Var) → take_each types ks ≡ true
    → FitKinds known ks vs → AreOfPlaces known types vs
of_places known [] [] [] took fits = tt
of_places known [] [] (v ∷ vs) took fits = elim fits [ ]
of_places known [] (k ∷ ks) vs took fits = absurd (false≢true took)
of_places known (place ∷ types) [] vs took fits = absurd (false≢true took)
of_places known (place ∷ types) (k ∷ ks) [] took fits = elim fits [ ]
of_places known (place ∷ types) (k ∷ ks) (v ∷ vs) took fits =
    let both = and_parts (takes place k) (take_each types ks) took in (
      λ kind is. read_kind known place kind v is (taken_fits known place k v both.0 fits.0),
      of_places known types ks vs both.1 fits.1,
    )

-- ---- what a call gives

of_type : (place : Place) (o : Option Reference) → same_place place place ≡ true
    → IsOfPlace place (option_map (λ (r : Reference). r.place) o)
    → option_map_or (λ (r : Reference). same_place r.place place) o true ≡ true
of_type place None own of = refl
of_type place (Some r) own of = ap (λ (p : Place). same_place p place) of ∙ own

array_of_type : (place : Place) (o : Option Reference) → same_place place place ≡ true
    → option_map (λ (r : Reference). r.place) o ≡ Some place
    → option_map_or (λ (r : Reference). same_place r.place place) o false ≡ true
array_of_type place None own of = absurd (none-some place of)
array_of_type place (Some r) own of = ap (λ (p : Place). same_place p place) (same_Some r.place place of) ∙ own

kind_given : (known : StateFacts) (kind : Kind) (v : Var) → IsOfKind known kind v → FitsKind known kind v
kind_given known Int (vars.Number e) of = tt
kind_given known Ints (vars.Reference r) of = of_type places.Ints (reference_at known.references r) refl of
kind_given known Bools (vars.Reference r) of = of_type places.Bools (reference_at known.references r) refl of
kind_given known NullRef (vars.Reference r) of = of
kind_given known AddrInts (vars.Address r e) of = array_of_type places.Ints (reference_at known.references r) refl of
kind_given known AddrBools (vars.Address r e) of = array_of_type places.Bools (reference_at known.references r) refl of
kind_given known _ _ of = elim of [ ]

-- Where nothing is reached, any callee may be called.
pub no_call : (info : CalleeInfo) → CanCall info None
no_call info = record {
  few = omega arith;
  there = λ x is. absurd (none-some x is);
  readable = λ x is. absurd (none-some x is);
}

none_after : (info : CalleeInfo) → after_call info None ≡ None
unfolding after_call
none_after info =
    ap (option_map (less (first_of (length info.args) None) (length info.args)))
    (none_each (behind_args info None) (clauses_of clause_kinds.Ensures info.clauses))

-- Nothing is reached behind it.
pub none_back : (info : CalleeInfo) → called info None ≡ None
unfolding called
none_back info =
    ap (λ (s : State). after_call info (required info s)) (none_put info.args)
    ∙ ap (after_call info) (none_required info) ∙ none_after info

module _ (unit : MethodUnit) where
  one_given : (known : StateFacts) (rest : List Kind) (kind : Kind) (below result : List Var)
      → FitKinds known (kinds_over unit rest) below → AreGiven known (Some kind) result
      → FitKinds known (kinds_over unit (kind ∷ rest)) (below ++ result)
  one_given known rest kind below [] fits given = elim given [ ]
  one_given known rest kind below (v ∷ []) fits given =
      subst (λ ks. FitKinds known ks (below ++ v ∷ [])) (sym (over_more unit kind rest))
      (fit_pushed known (kinds_over unit rest) below kind v fits (kind_given known kind v given))
  one_given known rest kind below (v ∷ w ∷ vs) fits given = elim given [ ]

  given_fits : (known : StateFacts) (rest : List Kind) (o : Option Kind) (below result : List Var)
      → FitKinds known (kinds_over unit rest) below → AreGiven known o result
      → FitKinds known (kinds_over unit (pushed_kind o rest)) (below ++ result)
  given_fits known rest None below [] fits given =
      subst (FitKinds known (kinds_over unit rest)) (sym (append-nil below)) fits
  given_fits known rest None below (v ∷ vs) fits given = elim given [ ]
  given_fits known rest (Some kind) below result fits given = one_given known rest kind below result fits given

  -- ---- the stack before a call

  split_over : (n : ℕ) (stack : List Kind)
      → kinds_over unit stack ≡ kinds_over unit (drop n stack) ++ reverse (take n stack)
  split_over n stack =
      let base = map kind_in unit.args ++ map kind_in unit.args ++ map kind_in unit.locals in
      ap (λ l. base ++ reverse l) (sym (take-append-drop n stack))
      ∙ ap (λ l. base ++ l) (reverse-append (take n stack) (drop n stack))
      ∙ sym (append_assoc base (reverse (drop n stack)) (reverse (take n stack)))

  pub over_long : (stack : List Kind)
      → length (kinds_over unit stack) ≡ length unit.args + length unit.args + length unit.locals + length stack
  over_long stack =
      let args = map kind_in unit.args in
      let locals = map kind_in unit.locals in
      length-append (args ++ args ++ locals) (reverse stack)
      ∙ omega (
        arith,
        length-append (args ++ args) locals,
        length-append args args,
        length-map unit.args kind_in,
        length-map unit.locals kind_in,
        length-reverse stack,
      )

  few_over : (stack : List Kind) (known : StateFacts)
      → length unit.args + length unit.locals + length stack ≤ MAX_VARIABLES
      → HasKinds (kinds_over unit stack) known → HasFew (Some known)
  few_over stack known few has =
      let long = fit_long known (kinds_over unit stack) known.variables has.fit in
      omega (arith, few, long, over_long stack)

  module _ (info : CalleeInfo) (formed : IsCallee info) (stack : List Kind)
      (few : length unit.args + length unit.locals + length stack ≤ MAX_VARIABLES)
      (took : take_each info.args (reverse (take (length info.args) stack)) ≡ true) where
    abbrev rest : List Kind
    rest = drop (length info.args) stack

    abbrev top : List Kind
    top = reverse (take (length info.args) stack)

    parts_of : (known : StateFacts) → HasKinds (kinds_over unit stack) known
        → FitBoth known (kinds_over unit rest) top known.variables
    parts_of known has =
        fit_split known (kinds_over unit rest) top known.variables
        (subst (λ ks. FitKinds known ks known.variables) (split_over (length info.args) stack) has.fit)

    upper_long : (known : StateFacts) (vs : List Var) → FitKinds known top vs → length vs ≡ length info.args
    upper_long known vs fits = fit_long known top vs fits ∙ takes_long info.args top took

    pub may_call : (known : StateFacts) → HasKinds (kinds_over unit stack) known → CanCall info (Some known)
    may_call known has =
        let parts = parts_of known has in
        can_call info known parts.lower parts.upper has.form parts.are (upper_long known parts.upper parts.second)
        (few_over stack known few has) (of_places known info.args top parts.upper took parts.second)

    below_is : (lower upper vs : List Var) → vs ≡ lower ++ upper → length upper ≡ length info.args
        → take (length vs - length info.args) vs ≡ lower
    below_is lower upper vs are long =
        ap (λ l. take (length l - length info.args) l) are
        ∙ ap (λ n. take n (lower ++ upper)) (omega (arith, long, length-append lower upper))
        ∙ take-append_seam lower upper

    came_fits : (known after : StateFacts) → HasKinds (kinds_over unit stack) known → IsBehindCall info known after
        → HasKinds (kinds_over unit (pushed_kind (kind_of info.result) rest)) after
    came_fits known after has came =
        let parts = parts_of known has in
        let all = all_split (HasVar after) came.below came.result
        (subst (AllByRecursion (HasVar after)) came.variables_are came.form.variables) in
        let below = forms_fit known after (kinds_over unit rest) parts.lower came.below
        (subst (λ l. AreSameForms known after l came.below)
        (below_is parts.lower parts.upper known.variables parts.are (upper_long known parts.upper parts.second))
        came.same) all.0 parts.first in
        record {
          form = came.form;
          fit =
              subst (FitKinds after (kinds_over unit (pushed_kind (kind_of info.result) rest)))
              (sym came.variables_are)
              (given_fits after rest (kind_of info.result) came.below came.result below came.of_kind);
        }

    came_in : (known : StateFacts) (o : State) → HasKinds (kinds_over unit stack) known → IsBehindCallIn info known o
        → FitsStack unit (Some (pushed_kind (kind_of info.result) rest)) o
    came_in known None has came = tt
    came_in known (Some after) has came = came_fits known after has came

    pub back_fits : (known : StateFacts) → HasKinds (kinds_over unit stack) known
        → FitsStack unit (Some (pushed_kind (kind_of info.result) rest)) (called info (Some known))
    back_fits known has =
        came_in known (called info (Some known)) has (whole_forms info known formed (may_call known has))

  -- ---- a call by its number

  pub called_fits : (o : Option CalleeInfo) (stack after : List Kind) (known : StateFacts)
      → ((info : CalleeInfo) → o ≡ Some info → IsCallee info)
      → length unit.args + length unit.locals + length stack ≤ MAX_VARIABLES → behind_callee o stack ≡ Some after
      → HasKinds (kinds_over unit stack) known → FitsStack unit (Some after) (after_callee o known)
  called_fits None stack after known formed few typed has = absurd (none-some after typed)
  called_fits (Some info) stack after known formed few typed has =
      let same = when_same (take_each info.args (reverse (take (length info.args) stack)))
      (pushed_kind (kind_of info.result) (drop (length info.args) stack)) after typed in
      subst (λ ks. FitsStack unit (Some ks) (called info (Some known))) same.1
      (back_fits info (formed info refl) stack few same.0 known has)

  pub can_call_it : (o : Option CalleeInfo) (stack after : List Kind) (state : State)
      → ((info : CalleeInfo) → o ≡ Some info → IsCallee info)
      → length unit.args + length unit.locals + length stack ≤ MAX_VARIABLES → behind_callee o stack ≡ Some after
      → FitsStack unit (Some stack) state → CanCallIt o state
  can_call_it None stack after state formed few typed fits = tt
  can_call_it (Some info) stack after state formed few typed fits =
      let same = when_same (take_each info.args (reverse (take (length info.args) stack)))
      (pushed_kind (kind_of info.result) (drop (length info.args) stack)) after typed in
      (formed info refl, by state fits same.0)
    where
      by : (s : State) → FitsStack unit (Some stack) s
          → take_each info.args (reverse (take (length info.args) stack)) ≡ true → CanCall info s
      by None fits took = no_call info
      by (Some known) has took = may_call info (formed info refl) stack few took known has

-- Each callee of a list is as all are.
pub found_callee : (callees : List CalleeInfo) (n : ℕ) (info : CalleeInfo) → AllByRecursion IsCallee callees
    → slice_get callees n ≡ Some info → IsCallee info
found_callee [] n info all is = absurd (none-some info is)
found_callee (callee ∷ callees) zero info all is = subst IsCallee (same_Some callee info is) all.0
found_callee (callee ∷ callees) (suc n) info all is = found_callee callees n info all.1 is
