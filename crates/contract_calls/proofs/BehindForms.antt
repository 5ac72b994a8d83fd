-- What becomes of the forms of variables at a call.
use Rattle.std.proofs.Common.{◌≡◌, ℕ, zero, suc, ◌+◌, ◌-◌, ◌≤◌, List, [], ◌∷◌, ◌++◌, length, take, drop, slice_get, Option, Some, None, refl, ap, subst, sym, ◌∙◌, append-nil, arith}
use Rattle.std.specs.Option.{ForSome, option_and_then, option_map}
use Rattle.std.proofs.lemmas.List.{drop_all, length-append, take-append-le}
use Rattle.std.proofs.lemmas.Option.{none-some, same_Some}
use Rattle.cil_model.specs.Clauses.{clauses_of}
use Rattle.cil_model.specs.Kinds.{kind_of, result_count}
use Rattle.cil_model.specs.WellFormed.{IsCallee}
use Rattle.cil_model.specs.declared.clause.ClauseKind.TheVariants as clause_kinds
use Rattle.cil_model.specs.declared.place.Kind.{Kind}
use Rattle.cil_model.specs.declared.place.Kind.TheVariants as kinds
use Rattle.cil_model.specs.declared.place.Place.{Place}
use Rattle.cil_model.specs.declared.place.Place.TheVariants as places
use Rattle.cil_model.specs.declared.unit.CalleeInfo.{CalleeInfo}
use Rattle.cil_model.specs.declared.unit.Unit.{Unit as MethodUnit}
use Rattle.cil_model.proofs.Lists.{all_append, all_drop, all_take}
use Rattle.clause_trees.proofs.AssumedKept.{itself_same}
use Rattle.clause_trees.proofs.SameForms.{all_on}
use Rattle.clause_trees.proofs.Stays.{forms_there}
use Rattle.clause_trees.specs.VariableKinds.{AreSameForms, HasSameFormsIn, IsGrown, IsOfKind, IsOneOfKind, IsPushedIn, IsReadable}
use Rattle.frame_names.specs.declared.var.Var.{Var}
use Rattle.state_facts.proofs.Growing.{grown, same_facts}
use Rattle.state_facts.specs.Calls.{passed, with_call, with_result, without_items}
use Rattle.state_facts.proofs.MoveForms.{without_form}
use Rattle.state_facts.specs.Forms.{HasForm, IsVar}
use Rattle.state_facts.specs.StateFacts.{StateFacts, State}
use Rattle.contract_calls.specs.Arguments.{first_of}
use Rattle.contract_calls.specs.CallForms.{AreGiven, CanCall, CanReturn, HasFew, IsBehindCallIn}
use Rattle.contract_calls.specs.CallStates.{after_call, assumed_each, at_call, at_return, behind_args, given, less, result_at}
use Rattle.contract_calls.proofs.Assuming.{each_same, none_each, of_kind, readable_in}
use Rattle.contract_calls.proofs.AtCalls.{past, same_long}
use Rattle.contract_calls.proofs.Behind.{behind_readable, call_pushed, forgotten, kind_alike}
use Rattle.contract_calls.proofs.MethodClauses.{callee_clauses}
use Rattle.contract_calls.proofs.PassedArguments.{all_same}

-- ---- variables that stay

pub same_take : (a b : StateFacts) (n : ℕ) (vs ws : List Var) → AreSameForms a b vs ws
    → AreSameForms a b (take n vs) (take n ws)
same_take a b zero vs ws same = tt
same_take a b (suc n) [] [] same = tt
same_take a b (suc n) [] (w ∷ ws) same = elim same [ ]
same_take a b (suc n) (v ∷ vs) [] same = elim same [ ]
same_take a b (suc n) (v ∷ vs) (w ∷ ws) same = (same.0, same_take a b n vs ws same.1)

-- What a call gives lies on what was there.
record IsOver (place : Place) (known after : StateFacts) : Type 0 where
  grown : IsGrown known after
  top : List Var
  variables_are : after.variables ≡ known.variables ++ top
  many : length top ≡ result_count place

abbrev IsOverIn : Place → StateFacts → State → Type 0
IsOverIn place known None = Unit {0}
IsOverIn place known (Some after) = IsOver place known after

pushed_over : (place : Place) (kind : Kind) (known : StateFacts) (o : State) → result_count place ≡ 1
    → IsPushedIn known kind o → IsOverIn place known o
pushed_over place kind known None one is = tt
pushed_over place kind known (Some after) one is =
    record { grown = is.grown; top = is.top ∷ []; variables_are = is.variables_are; many = sym one }

-- Where nothing is given, items alone are forgotten.
nothing_over : (passed : List Var) (known : StateFacts) → HasForm known
    → IsOver places.Void known (without_items passed known)
nothing_over passed known form = record {
  grown = record {
    form = without_form passed known form;
    symbols = omega arith;
    references = omega arith;
    places = λ r there. refl;
  };
  top = [];
  variables_are = sym (append-nil known.variables);
  many = refl;
}

call_over : (first count : ℕ) (place : Place) (known : StateFacts) → HasForm known
    → IsOverIn place known (with_call first count place known)
unfolding with_call with_result
call_over first count places.Void known form = nothing_over (passed first count known) known form
call_over first count places.Bool known form =
    pushed_over places.Bool kinds.Int known (with_call first count places.Bool known) refl
    (call_pushed first count places.Bool kinds.Int known form refl)
call_over first count places.Int known form =
    pushed_over places.Int kinds.Int known (with_call first count places.Int known) refl
    (call_pushed first count places.Int kinds.Int known form refl)
call_over first count places.Bools known form =
    pushed_over places.Bools kinds.Bools known (with_call first count places.Bools known) refl
    (call_pushed first count places.Bools kinds.Bools known form refl)
call_over first count places.Ints known form =
    pushed_over places.Ints kinds.Ints known (with_call first count places.Ints known) refl
    (call_pushed first count places.Ints kinds.Ints known form refl)

-- ---- behind the Ensures

-- What is so of a state with the result on top of the arguments.
record IsGivenOver (callee : CalleeInfo) (known after : StateFacts) : Type 0 where
  form : HasForm after
  long : length after.variables ≡ length known.variables + result_count callee.result
  same : AreSameForms known after (take (first_of (length callee.args) (Some known)) known.variables)
      (take (first_of (length callee.args) (Some known)) after.variables)
  readable : IsReadable (behind_args callee (Some known)) callee.args callee.result after

abbrev IsGivenOverIn : CalleeInfo → StateFacts → State → Type 0
IsGivenOverIn callee known None = Unit {0}
IsGivenOverIn callee known (Some after) = IsGivenOver callee known after

given_on : (callee : CalleeInfo) (known between : StateFacts) (o : State) → HasForm known
    → IsOver callee.result known between
    → IsReadable (behind_args callee (Some known)) callee.args callee.result between → HasSameFormsIn between o
    → IsGivenOverIn callee known o
given_on callee known between None form over readable same = tt
given_on callee known between (Some after) form over readable same =
    let first = first_of (length callee.args) (Some known) in
    let many = same_long between after between.variables after.variables same.variables in
    let all = ap (λ (l : List Var). length l) over.variables_are ∙ length-append known.variables over.top in
    record {
      form = same.form;
      long = omega (arith, many, all, over.many);
      same =
          all_on known between after (take first known.variables) (take first between.variables)
          (take first after.variables)
          (subst (AreSameForms known between (take first known.variables))
          (sym (ap (take first) over.variables_are
          ∙ take-append-le first known.variables over.top (omega arith)))
          (forms_there known between (take first known.variables) over.grown
          (all_take (IsVar (length known.facts.ranges) (length known.references)) first known.variables
          form.variables)))
          (same_take between after first between.variables after.variables same.variables);
      readable = readable_in (behind_args callee (Some known)) callee.args callee.result between (Some after) readable
          same after refl;
    }

given_over : (callee : CalleeInfo) (known : StateFacts) → IsCallee callee → CanCall callee (Some known)
    → IsGivenOverIn callee known (given callee (Some known))
given_over callee known formed ready =
    by (forgotten callee (Some known)) (call_over (first_of (length callee.args) (Some known)) (length callee.args)
    callee.result known form) (behind_readable callee (Some known) ready)
  where
    form : HasForm known
    form = (ready.readable known refl).form

    by : (o : State) → IsOverIn callee.result known o
        → ForSome o (IsReadable (behind_args callee (Some known)) callee.args callee.result)
        → IsGivenOverIn callee known
        (assumed_each (behind_args callee (Some known)) (clauses_of clause_kinds.Ensures callee.clauses) o)
    by None over readable =
        subst (IsGivenOverIn callee known)
        (sym (none_each (behind_args callee (Some known)) (clauses_of clause_kinds.Ensures callee.clauses))) tt
    by (Some between) over readable =
        let here = readable between refl in
        given_on callee known between
        (assumed_each (behind_args callee (Some known)) (clauses_of clause_kinds.Ensures callee.clauses) (Some between))
        form over here
        (each_same (behind_args callee (Some known)) callee.args callee.result
        (clauses_of clause_kinds.Ensures callee.clauses) between (Some between) here (itself_same between here.form)
        (of_kind callee.args callee.result clause_kinds.Ensures callee.clauses (callee_clauses callee formed)))

-- So many variables there are then.
pub given_many : (callee : CalleeInfo) (state : State) → IsCallee callee → CanCall callee state
    → ForSome (given callee state) (λ known. length known.variables
    ≡ first_of (length callee.args) state + length callee.args + result_count callee.result)
given_many callee None formed ready = λ x at.
    absurd (none-some x
    (sym (none_each (behind_args callee None) (clauses_of clause_kinds.Ensures callee.clauses)) ∙ at))
given_many callee (Some known) formed ready = λ x at.
    by (given callee (Some known)) (given_over callee known formed ready) x at
  where
    most : length callee.args ≤ length known.variables
    most = ready.there known refl

    by : (o : State) → IsGivenOverIn callee known o → (x : StateFacts) → o ≡ Some x
        → length x.variables
        ≡ first_of (length callee.args) (Some known) + length callee.args + result_count callee.result
    by None over x at = absurd (none-some x at)
    by (Some after) over x at =
        ap (λ k. length k.variables) (sym (same_Some after x at)) ∙ over.long ∙ omega (arith, most)

-- ---- less the arguments

one_left : (xs : List Var) (n : ℕ) (w : Var) → length xs ≡ n + 1 → slice_get xs n ≡ Some w → drop n xs ≡ w ∷ []
one_left [] n w size at = absurd (none-some w at)
one_left (x ∷ []) zero w size at = ap (λ y. y ∷ []) (same_Some x w at)
one_left (x ∷ y ∷ xs) zero w size at = absurd (omega (arith, size))
one_left (x ∷ xs) (suc n) w size at = one_left xs n w (omega (arith, size)) at

less_form : (first count : ℕ) (known : StateFacts) → HasForm known → HasForm (less first count known)
less_form first count known form =
    let all = IsVar (length known.facts.ranges) (length known.references) in
    grown known known.facts (take first known.variables ++ drop (first + count) known.variables) form
    (same_facts known form)
    (all_append all (take first known.variables) (drop (first + count) known.variables)
    (all_take all first known.variables form.variables) (all_drop all (first + count) known.variables form.variables))

result_left : (kind : Kind) (first count : ℕ) (known : StateFacts) (o : Option Var)
    → length known.variables ≡ first + count + 1 → slice_get known.variables (first + count) ≡ o
    → IsOneOfKind known kind o → AreGiven (less first count known) (Some kind) (drop (first + count) known.variables)
result_left kind first count known None size at is = elim is [ ]
result_left kind first count known (Some w) size at is =
    subst (AreGiven (less first count known) (Some kind)) (sym (one_left known.variables (first + count) w size at))
    (kind_alike known (less first count known) (λ r. refl) kind w is)

given_left : (args : List Place) (place : Place) (first count : ℕ) (known : StateFacts)
    → length known.variables ≡ first + count + result_count place
    → IsReadable (record { args = first; result = result_at place (first + count) }) args place known
    → AreGiven (less first count known) (kind_of place) (drop (first + count) known.variables)
given_left args places.Void first count known size readable =
    subst (AreGiven (less first count known) None)
    (sym (drop_all (first + count) known.variables (omega (arith, size)))) tt
given_left args places.Bool first count known size readable =
    result_left kinds.Int first count known (slice_get known.variables (first + count)) size refl
    (readable.result_fits (first + count) kinds.Int refl refl)
given_left args places.Int first count known size readable =
    result_left kinds.Int first count known (slice_get known.variables (first + count)) size refl
    (readable.result_fits (first + count) kinds.Int refl refl)
given_left args places.Bools first count known size readable =
    result_left kinds.Bools first count known (slice_get known.variables (first + count)) size refl
    (readable.result_fits (first + count) kinds.Bools refl refl)
given_left args places.Ints first count known size readable =
    result_left kinds.Ints first count known (slice_get known.variables (first + count)) size refl
    (readable.result_fits (first + count) kinds.Ints refl refl)

-- Behind a call the variables below the arguments have the forms that they had, and the result is of its kind.
pub behind_forms : (callee : CalleeInfo) (known : StateFacts) → IsCallee callee → CanCall callee (Some known)
    → IsBehindCallIn callee known (after_call callee (Some known))
unfolding after_call
behind_forms callee known formed ready = by (given callee (Some known)) (given_over callee known formed ready)
  where
    most : length callee.args ≤ length known.variables
    most = ready.there known refl

    by : (o : State) → IsGivenOverIn callee known o
        → IsBehindCallIn callee known
        (option_map (less (first_of (length callee.args) (Some known)) (length callee.args)) o)
    by None over = tt
    by (Some after) over =
        let first = first_of (length callee.args) (Some known) in
        let count = length callee.args in
        record {
          form = less_form first count after over.form;
          below = take first after.variables;
          result = drop (first + count) after.variables;
          variables_are = refl;
          same =
              all_on known after (less first count after) (take first known.variables) (take first after.variables)
              (take first after.variables) over.same
              (all_same after (less first count after) (λ r. refl) (take first after.variables));
          of_kind =
              given_left callee.args callee.result first count after (over.long ∙ omega (arith, most)) over.readable;
        }

-- ---- arguments on top of the stack

-- Variables are of the kinds of these types.
abbrev pub AreOfPlaces : StateFacts → List Place → List Var → Type 0
AreOfPlaces known [] [] = Unit {0}
AreOfPlaces known (place ∷ places) (v ∷ vs) =
    ((kind : Kind) → kind_of place ≡ Some kind → IsOfKind known kind v) × AreOfPlaces known places vs
AreOfPlaces known _ _ = ⊥

of_places_at : (known : StateFacts) (places : List Place) (vs : List Var) (n : ℕ) (kind : Kind)
    → AreOfPlaces known places vs → option_and_then kind_of (slice_get places n) ≡ Some kind
    → IsOneOfKind known kind (slice_get vs n)
of_places_at known [] [] n kind are is = absurd (none-some kind is)
of_places_at known [] (v ∷ vs) n kind are is = elim are [ ]
of_places_at known (place ∷ places) [] n kind are is = elim are [ ]
of_places_at known (place ∷ places) (v ∷ vs) zero kind are is = are.0 kind is
of_places_at known (place ∷ places) (v ∷ vs) (suc n) kind are is = of_places_at known places vs n kind are.1 is

-- The callee may be called where its arguments lie on top of the stack and are of the kinds of its parameters.
pub can_call : (callee : CalleeInfo) (known : StateFacts) (below vs : List Var) → HasForm known
    → known.variables ≡ below ++ vs → length vs ≡ length callee.args → HasFew (Some known)
    → AreOfPlaces known callee.args vs → CanCall callee (Some known)
can_call callee known below vs form parts long few are =
    let all = ap (λ (l : List Var). length l) parts ∙ length-append below vs in
    let first : length known.variables - length callee.args ≡ length below = omega (arith, all, long) in
    record {
      few = few;
      there = λ x at.
          subst (λ k. length callee.args ≤ length k.variables) (same_Some known x at) (omega (arith, all, long));
      readable = λ x at.
          subst (IsReadable (at_call (length callee.args) (Some known)) callee.args callee.result)
          (same_Some known x at)
          (record {
            form = form;
            args_fit = λ n kind is.
                subst (λ m. IsOneOfKind known kind (slice_get known.variables (m + n))) (sym first)
                (subst (λ l. IsOneOfKind known kind (slice_get l (length below + n))) (sym parts)
                (subst (IsOneOfKind known kind) (sym (past below vs n))
                (of_places_at known callee.args vs n kind are is)));
            result_fits = λ i kind none. absurd (none-some i none);
          });
    }

-- ---- at a return

result_slot : (place : Place) (i j : ℕ) → result_at place i ≡ Some j → j ≡ i
result_slot places.Void i j is = absurd (none-some j is)
result_slot places.Bool i j is = sym (same_Some i j is)
result_slot places.Int i j is = sym (same_Some i j is)
result_slot places.Bools i j is = sym (same_Some i j is)
result_slot places.Ints i j is = sym (same_Some i j is)

-- The unit may return where its arguments at the entry are the first variables, and a result of its kind is on top.
pub can_return : (unit : MethodUnit) (known : StateFacts) (vs more : List Var) → HasForm known
    → known.variables ≡ vs ++ more → HasFew (Some known) → AreOfPlaces known unit.args vs
    → ((kind : Kind) → kind_of unit.result ≡ Some kind
    → IsOneOfKind known kind (slice_get known.variables (length known.variables - 1)))
    → CanReturn unit (Some known)
can_return unit known vs more form parts few are on_top = record {
  few = few;
  readable = λ x at.
      subst (IsReadable (at_return unit.result (Some known)) unit.args unit.result) (same_Some known x at) (record {
        form = form;
        args_fit = λ n kind is.
            let plain : n ≡ 0 + n = omega arith in
            subst (λ m. IsOneOfKind known kind (slice_get known.variables m)) plain
            (subst (λ l. IsOneOfKind known kind (slice_get l n)) (sym parts)
            (prefix_kind known kind vs more n (of_places_at known unit.args vs n kind are is)));
        result_fits = λ i kind is of_kind.
            subst (λ m. IsOneOfKind known kind (slice_get known.variables m))
            (sym (result_slot unit.result (length known.variables - 1) i is)) (on_top kind of_kind);
      });
}
  where
    prefix_kind : (known : StateFacts) (kind : Kind) (xs ys : List Var) (n : ℕ) → IsOneOfKind known kind (slice_get xs n)
        → IsOneOfKind known kind (slice_get (xs ++ ys) n)
    prefix_kind known kind [] ys n is = elim is [ ]
    prefix_kind known kind (x ∷ xs) ys zero is = is
    prefix_kind known kind (x ∷ xs) ys (suc n) is = prefix_kind known kind xs ys n is
