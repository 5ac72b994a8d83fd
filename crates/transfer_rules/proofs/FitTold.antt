-- The tests of forms tell whether variables fit kinds.
use Rattle.std.proofs.Common.{◌≡◌, ℕ, zero, suc, ◌+◌, ◌==◌, ◌<◌, Bool, true, false, ◌&&◌, List, [], ◌∷◌, ◌++◌, map, length, reverse, drop, get_or, slice_get, Some, None, refl, sym, ap, subst, ◌∙◌, append_assoc, length-append, arith}
use Rattle.std.specs.Prelude.{◌↔◌, IsTrue, is_some, pos}
use Rattle.std.specs.Option.{ForSome}
use Rattle.std.specs.List.{AllByRecursion}
use Rattle.std.proofs.lemmas.Bool.{and_parts, eq-eqb, eqb-true, ne_eqb, false≢true}
use Rattle.std.proofs.lemmas.List.{at_drop_more, length-map, reverse-reverse}
use Rattle.std.proofs.lemmas.Option.{slice_get-get_or}
use Rattle.alias_facts.specs.declared.nullness.Nullness.TheVariants.{NotNull}
use Rattle.cil_model.specs.declared.place.Kind.{Kind}
use Rattle.cil_model.specs.declared.place.Kind.TheVariants as kinds
use Rattle.cil_model.specs.declared.place.Place.{Place}
use Rattle.cil_model.specs.declared.place.Place.TheVariants as places
use Rattle.cil_model.specs.declared.unit.Unit.{Unit as MethodUnit}
use Rattle.frame_names.specs.declared.reference.Reference.{Reference}
use Rattle.frame_names.specs.declared.var.Var.{Var}
use Rattle.frame_names.specs.declared.var.Var.TheVariants as vars
use Rattle.number_spans.specs.Constants.{constant}
use Rattle.state_facts.specs.Forms.{HasForm, HasReference, HasVar}
use Rattle.state_facts.specs.StateFacts.{StateFacts, State, reference_at, variables_in}
use Rattle.transfer_rules.specs.FitTests.{fit_frame, fit_from, fit_stack, fits_kind, fits_there, is_null_or, is_one_of}
use Rattle.transfer_rules.specs.Flow.{Fits}
use Rattle.transfer_rules.specs.Forms.{FitKinds, FitsKind, FitsStack, HasKinds, is_array_of_place, is_of_place, kind_in, kinds_over}
use Rattle.unit_flow.specs.Flow.{kinds_at}
use Rattle.unit_flow.specs.declared.unit_flow.UnitFlow.{UnitFlow}

-- ---- one variable

-- any reference
some_reference : Reference
some_reference =
    record { place = places.Ints; nullness = NotNull; length = constant (pos 0) }

same_place_of : (place : Place) (r : ℕ) (known : StateFacts) → HasReference known r
    → is_null_or place r known ≡ is_of_place known place r
unfolding reference_at
same_place_of place zero known there = refl
same_place_of place (suc r) known there =
    rw (ne_eqb (suc r) 0 (λ e. absurd (omega (arith, e))), slice_get-get_or known.references r some_reference (omega (arith, there))) refl

by_place : (place : Place) (r : ℕ) (known : StateFacts) → HasReference known r
    → (is_null_or place r known ≡ true) ↔ (is_of_place known place r ≡ true)
by_place place r known there = (
  λ e. sym (same_place_of place r known there) ∙ e,
  λ e. same_place_of place r known there ∙ e,
)

same_array_of : (place : Place) (r : ℕ) (known : StateFacts) → HasReference known r
    → is_one_of place r known ≡ is_array_of_place known place r
unfolding reference_at
same_array_of place zero known there = refl
same_array_of place (suc r) known there =
    rw (
      ne_eqb (suc r) 0 (λ e. absurd (omega (arith, e))),
      slice_get-get_or known.references r some_reference (omega (arith, there)),
    ) refl

by_array : (place : Place) (r : ℕ) (known : StateFacts) → HasReference known r
    → (is_one_of place r known ≡ true) ↔ (is_array_of_place known place r ≡ true)
by_array place r known there = (
  λ e. sym (same_array_of place r known there) ∙ e,
  λ e. same_array_of place r known there ∙ e,
)

never : (kind : Kind) (v : Var) (known : StateFacts) → fits_kind kind v known ≡ false → (FitsKind known kind v → ⊥)
    → (fits_kind kind v known ≡ true) ↔ FitsKind known kind v
never kind v known is none = (λ e. absurd (false≢true (sym is ∙ e)), λ fits. absurd (none fits))

kind_told : (kind : Kind) (v : Var) (known : StateFacts) → HasVar known v
    → (fits_kind kind v known ≡ true) ↔ FitsKind known kind v
kind_told kinds.Int (vars.Number e) known there = (λ e. tt, λ fits. refl)
kind_told kinds.Native (vars.Number e) known there = (λ e. tt, λ fits. refl)
kind_told kinds.Ints (vars.Reference r) known there = by_place places.Ints r known there
kind_told kinds.Bools (vars.Reference r) known there = by_place places.Bools r known there
kind_told kinds.NullRef (vars.Reference r) known there = (λ e. eqb-true r 0 e, λ is. rw is refl)
kind_told kinds.Text vars.Text known there = (λ e. tt, λ fits. refl)
kind_told kinds.AddrInts (vars.Address r i) known there = by_array places.Ints r known there.0
kind_told kinds.AddrBools (vars.Address r i) known there = by_array places.Bools r known there.0
kind_told kind v known there = never kind v known refl (λ fits. elim fits [ ])

-- ---- variables in a row

seam : (prefix : List Var) (v : Var) (vs : List Var) → slice_get (prefix ++ v ∷ vs) (length prefix) ≡ Some v
seam [] v vs = refl
seam (w ∷ prefix) v vs = seam prefix v vs

module _ (known : StateFacts) where
  here_is : (prefix : List Var) (v : Var) (vs : List Var) (i : ℕ) → known.variables ≡ prefix ++ v ∷ vs → i ≡ length prefix
      → slice_get known.variables i ≡ Some v
  here_is prefix v vs i are at = ap (λ n. slice_get known.variables n) at ∙ ap (λ l. slice_get l (length prefix)) are ∙ seam prefix v vs

  next_are : (prefix : List Var) (v : Var) (vs : List Var) → known.variables ≡ prefix ++ v ∷ vs
      → known.variables ≡ (prefix ++ v ∷ []) ++ vs
  next_are prefix v vs are = are ∙ sym (append_assoc prefix (v ∷ []) vs)

  next_at : (prefix : List Var) (v : Var) (i : ℕ) → i ≡ length prefix → i + 1 ≡ length (prefix ++ v ∷ [])
  next_at prefix v i at = omega (arith, at, length-append prefix (v ∷ []))

  fitting : (prefix vs : List Var) (ks : List Kind) (i : ℕ) → known.variables ≡ prefix ++ vs → i ≡ length prefix
      → AllByRecursion (HasVar known) vs → length vs ≡ length ks → fit_from (Some known) ks i ≡ true
      → FitKinds known ks vs
  fitting prefix [] [] i are at there long test = tt
  fitting prefix [] (k ∷ ks) i are at there long test = absurd (omega (arith, long))
  fitting prefix (v ∷ vs) [] i are at there long test = absurd (omega (arith, long))
  fitting prefix (v ∷ vs) (k ∷ ks) i are at there long test =
      let both = and_parts (fits_there k (slice_get known.variables i) (Some known)) (fit_from (Some known) ks (i + 1)) test in (
        (kind_told k v known there.0).0
            (subst (λ o. fits_there k o (Some known) ≡ true) (here_is prefix v vs i are at) both.0),
        fitting (prefix ++ v ∷ []) vs ks (i + 1) (next_are prefix v vs are) (next_at prefix v i at) there.1
            (omega (arith, long)) both.1,
      )

  both_true : (a b : Bool) → a ≡ true → b ≡ true → (a && b) ≡ true
  both_true a b p q = rw (p, q) refl

  told : (prefix vs : List Var) (ks : List Kind) (i : ℕ) → known.variables ≡ prefix ++ vs → i ≡ length prefix
      → AllByRecursion (HasVar known) vs → FitKinds known ks vs
      → (fit_from (Some known) ks i ≡ true) × (length vs ≡ length ks)
  told prefix [] [] i are at there fits = (refl, refl)
  told prefix [] (k ∷ ks) i are at there fits = elim fits [ ]
  told prefix (v ∷ vs) [] i are at there fits = elim fits [ ]
  told prefix (v ∷ vs) (k ∷ ks) i are at there fits =
      let rest = told (prefix ++ v ∷ []) vs ks (i + 1) (next_are prefix v vs are) (next_at prefix v i at) there.1 fits.1 in (
        both_true (fits_there k (slice_get known.variables i) (Some known)) (fit_from (Some known) ks (i + 1))
            (subst (λ o. fits_there k o (Some known) ≡ true) (sym (here_is prefix v vs i are at))
            ((kind_told k v known there.0).1 fits.0)) rest.0,
        omega (arith, rest.1),
      )

-- One that does not fit decides.
pub one_misfit : (state : State) (ks : List Kind) (at i : ℕ) (d : Kind) → i < length ks
    → fits_there (get_or ks i d) (slice_get (variables_in state) at) state ≡ false
    → fit_from state (drop i ks) at ≡ false
one_misfit state ks at i d below misfit =
    at_drop_more (λ js. fit_from state js at) ks i d below ∙ ap (λ b. b && fit_from state (drop (i + 1) ks) (at + 1)) misfit

-- ---- the parts of a frame

module _ (state : State) where
  same_at : (ks : List Kind) (i j : ℕ) → i ≡ j → fit_from state ks i ≡ fit_from state ks j
  same_at ks i j is = ap (fit_from state ks) is

  and_assoc : (a b c : Bool) → (a && (b && c)) ≡ ((a && b) && c)
  and_assoc true b c = refl
  and_assoc false b c = refl

  appended : (ks js : List Kind) (i : ℕ)
      → fit_from state (ks ++ js) i ≡ (fit_from state ks i && fit_from state js (i + length ks))
  appended [] js i = same_at js i (i + 0) (omega arith)
  appended (k ∷ ks) js i =
      let first : Bool = fits_there k (slice_get (variables_in state) i) state in
      ap (λ b. first && b) (appended ks js (i + 1))
      ∙ (ap (λ n. first && (fit_from state ks (i + 1) && fit_from state js n)) (one_on i (length ks))
      ∙ and_assoc first (fit_from state ks (i + 1)) (fit_from state js (i + suc (length ks))))
    where
      one_on : (m n : ℕ) → m + 1 + n ≡ m + suc n
      one_on m n = omega arith

  module _ (unit : MethodUnit) (stack : List Kind) where
    abbrev args : List Kind
    args = map kind_in unit.args

    abbrev locals : List Kind
    locals = map kind_in unit.locals

    long_args : length args ≡ length unit.args
    long_args = length-map unit.args kind_in

    long_locals : length locals ≡ length unit.locals
    long_locals = length-map unit.locals kind_in

    two : length (args ++ args) ≡ length unit.args + length unit.args
    two = omega (arith, length-append args args, long_args)

    three : length (args ++ args ++ locals) ≡ length unit.args + length unit.args + length unit.locals
    three = omega (arith, length-append (args ++ args) locals, two, long_locals)

    one_args : 0 + length args ≡ length unit.args
    one_args = omega (arith, long_args)

    two_args : 0 + length (args ++ args) ≡ length unit.args + length unit.args
    two_args = omega (arith, two)

    all_three : 0 + length (args ++ args ++ locals) ≡ length unit.args + length unit.args + length unit.locals
    all_three = omega (arith, three)

    joined : (ks js : List Kind) (n : ℕ) (test : Bool) → fit_from state ks 0 ≡ test → 0 + length ks ≡ n
        → fit_from state (ks ++ js) 0 ≡ (test && fit_from state js n)
    joined ks js n test is at =
        appended ks js 0
        ∙ (ap (λ b. b && fit_from state js (0 + length ks)) is ∙ ap (λ m. test && fit_from state js m) at)

    pub whole : fit_from state (args ++ args ++ locals ++ stack) 0 ≡ fit_frame unit stack state
    whole =
        joined (args ++ args ++ locals) stack _ _
        (joined (args ++ args) locals _ _ (joined args args _ _ refl one_args) two_args) all_three

-- ---- the whole stack

module _ (unit : MethodUnit) (stack : List Kind) (known : StateFacts) (form : HasForm known) where
  abbrev frame_kinds : List Kind
  frame_kinds = map kind_in unit.args ++ map kind_in unit.args ++ map kind_in unit.locals ++ stack

  abbrev wanted : ℕ
  wanted = length unit.args + length unit.args + length unit.locals + length stack

  are_kinds : kinds_over unit (reverse stack) ≡ frame_kinds
  are_kinds = ap (λ ks. map kind_in unit.args ++ map kind_in unit.args ++ map kind_in unit.locals ++ ks) (reverse-reverse stack)

  long : length frame_kinds ≡ wanted
  long =
      omega (
        arith,
        length-append (map kind_in unit.args ++ map kind_in unit.args ++ map kind_in unit.locals) stack,
        three (Some known) unit stack,
      )

  forth : fit_stack unit stack (Some known) ≡ true → HasKinds (kinds_over unit (reverse stack)) known
  forth e =
      let both = and_parts (length known.variables == wanted) (fit_frame unit stack (Some known)) e in
      record {
        form = form;
        fit = subst (λ ks. FitKinds known ks known.variables) (sym are_kinds)
            (fitting known [] known.variables frame_kinds 0 refl refl form.variables
            (eqb-true (length known.variables) wanted both.0 ∙ sym long) (whole (Some known) unit stack ∙ both.1));
      }

  back : HasKinds (kinds_over unit (reverse stack)) known → fit_stack unit stack (Some known) ≡ true
  back has =
      let all = told known [] known.variables frame_kinds 0 refl refl form.variables
      (subst (λ ks. FitKinds known ks known.variables) are_kinds has.fit) in
      both_true known (length known.variables == wanted) (fit_frame unit stack (Some known))
      (eq-eqb (length known.variables) wanted (all.1 ∙ long)) (sym (whole (Some known) unit stack) ∙ all.0)

  pub stack_told : IsTrue (fit_stack unit stack (Some known)) ↔ HasKinds (kinds_over unit (reverse stack)) known
  stack_told = (forth, back)

-- ---- at a block

told_at : (unit : MethodUnit) (stack : List Kind) (r : Bool) (state : State) → is_some state ≡ true
    → ForSome state HasForm → r ≡ fit_stack unit stack state
    → IsTrue r ↔ FitsStack unit (Some (reverse stack)) state
told_at unit stack r None reached form is = absurd (false≢true reached)
told_at unit stack r (Some known) reached form is =
    let both = stack_told unit stack known (form known refl) in
    (λ e. both.0 (sym is ∙ e), λ has. is ∙ both.1 has)

pub fits_told : (code : UnitFlow) (block : ℕ) (state : State) (stack : List Kind) (r : Bool) → is_some state ≡ true
    → ForSome state HasForm → r ≡ fit_stack code.unit stack state → Some (reverse stack) ≡ kinds_at code block
    → IsTrue r ↔ Fits code block state
fits_told code block state stack r reached form is kinds =
    subst (λ ks. IsTrue r ↔ FitsStack code.unit ks state) kinds (told_at code.unit stack r state reached form is)
