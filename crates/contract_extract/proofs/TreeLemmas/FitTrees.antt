-- Trees that fit the kinds of the values that they stand for, along a clause's code.
use Rattle.std.proofs.Common.{◌≡◌, ℕ, Bool, true, false, List, [], ◌∷◌, ◌++◌, map, take, drop, Option, Some, None, option_map, if◌then◌else◌, slice_get, refl, sym, ap, subst, ◌∙◌}
use Rattle.std.specs.Option.{option_and_then, option_map_or}
use Rattle.std.proofs.lemmas.Bool.{and_from}
use Rattle.std.proofs.lemmas.Option.{none-some, same_Some}
use Rattle.cil_model.specs.ClauseTrees.{Item, Tree, Message, items_behind, with_call}
use Rattle.cil_model.specs.Comparisons.{comparison_of}
use Rattle.cil_model.specs.Kinds.{behind, behind_call, behind_number, behind_operator, call_operands, is_array_of, is_number, is_reference, kind_of, loaded, operand_count, pushed_kind, pushes_comparison, takes, when}
use Rattle.cil_model.specs.Terms as terms
use Rattle.cil_model.specs.Terms.{Term}
use Rattle.cil_model.specs.TreeKinds.{element_kind, is_int, kind_in, length_kind, number_if, operator_kind, unary_kind}
use Rattle.cil_model.specs.UnitCalls.{unit_call}
use Rattle.cil_model.specs.declared.instruction.BinOp.{BinOp}
use Rattle.cil_model.specs.declared.instruction.CmpOp.{CmpOp}
use Rattle.cil_model.specs.declared.instruction.Instr.{Instr}
use Rattle.cil_model.specs.declared.instruction.Op.{Op}
use Rattle.cil_model.specs.declared.instruction.Op.TheVariants as ops
use Rattle.cil_model.specs.declared.instruction.UnOp.{UnOp}
use Rattle.cil_model.specs.declared.instruction.UnOp.TheVariants as unary
use Rattle.cil_model.specs.declared.place.Kind.{Kind}
use Rattle.cil_model.specs.declared.place.Kind.TheVariants as kinds
use Rattle.cil_model.specs.declared.place.Place.{Place}
use Rattle.cil_model.specs.declared.place.Place.TheVariants as places
use Rattle.cil_model.specs.declared.shape.Shape.{Shape}
use Rattle.cil_model.specs.declared.unit_numbers.UnitCall.{UnitCall}
use Rattle.cil_model.specs.declared.unit_numbers.UnitCall.TheVariants as calls
use Rattle.clause_faults.specs.Ways.{Told, asked, asked_by, calls_with, faults_here, is_old, is_old_value, made, old_faults_of, stack_by}
use Rattle.clause_faults.specs.declared.clause_fault.ClauseFault.TheVariants.{OldForm}
use Rattle.clause_faults.proofs.FaultLemmas.NoFaults.{none_in_both}
use Rattle.contract_extract.proofs.TreeLemmas.PlacedCalls.{result_kind, taken_kind}
use Rattle.contract_extract.proofs.TreeLemmas.UnderKinds.{Under, under_array, under_int, under_number, under_place, under_pushes, under_reference}

module _ (shape : Shape) (ensured : Bool) where
  abbrev args : List Place
  args = shape.args

  abbrev result : Place
  result = shape.result

  -- The tree has a kind that fits, and has it in an old value too if it has no calls.
  pub record Fits (told : List ℕ) (tree : Term) (kind : Kind) : Type 0 where
    pub own : Kind
    pub is : kind_in args result ensured tree ≡ Some own
    pub plain : told ≡ [] → kind_in args result false tree ≡ Some own
    pub under : Under own kind

  -- Each item of a stack does, and a message is one.
  abbrev pub FitAll : List Told → List Item → List Kind → Type 0
  FitAll [] [] [] = Unit {0}
  FitAll (told ∷ others) (Tree tree ∷ items) (kind ∷ below) = Fits told.calls tree kind × FitAll others items below
  FitAll (told ∷ others) (Message ∷ items) (kind ∷ below) = (kind ≡ kinds.Text) × FitAll others items below
  FitAll _ _ _ = ⊥

  -- A leaf that is the same everywhere.
  leaf_fits : (told : List ℕ) (tree : Term) (own kind : Kind) → ((e : Bool) → kind_in args result e tree ≡ Some own) → Under own kind → Fits told tree kind
  leaf_fits told tree own kind each under = record { own = own; is = each ensured; plain = λ none. each false; under = under }

  -- A root over one tree or two, whose kind is a number.
  over_one : (told : List ℕ) (f : Term → Term) (a : Term) (kind : Kind) → ((e : Bool) (k : Kind) → kind_in args result e a ≡ Some k → Under k kind → kind_in args result e (f a) ≡ Some kinds.Int)
      → (new : Kind) → Under kinds.Int new → Fits told a kind → Fits told (f a) new
  over_one told f a kind each new under fits = record {
    own = kinds.Int;
    is = each ensured fits.own fits.is fits.under;
    plain = λ none. each false fits.own (fits.plain none) fits.under;
    under = under;
  }

  over_two : (one other : List ℕ) (f : Term → Term → Term) (a b : Term) (kind_a kind_b : Kind)
      → ((e : Bool) (j k : Kind) → kind_in args result e a ≡ Some j → Under j kind_a → kind_in args result e b ≡ Some k → Under k kind_b → kind_in args result e (f a b) ≡ Some kinds.Int)
      → Fits one b kind_b → Fits other a kind_a → Fits (one ++ (other ++ [])) (f a b) kinds.Int
  over_two one other f a b kind_a kind_b each fits_b fits_a = record {
    own = kinds.Int;
    is = each ensured fits_a.own fits_b.own fits_a.is fits_a.under fits_b.is fits_b.under;
    plain = λ none.
        let parts = none_in_both one (other ++ []) none in
        each false fits_a.own fits_b.own (fits_a.plain (none_in_both other [] parts.1).0) fits_a.under (fits_b.plain parts.0) fits_b.under;
    under = tt;
  }

  -- ---- roots

  length_number : (e : Bool) (a : Term) (kind k : Kind) → is_reference kind ≡ true → kind_in args result e a ≡ Some k → Under k kind
      → kind_in args result e (terms.Len a) ≡ Some kinds.Int
  length_number e a kind k reference is under = ap length_kind is ∙ ap number_if (under_reference k kind under reference)

  unary_number : (e : Bool) (operator : UnOp) (a : Term) (k : Kind) → kind_in args result e a ≡ Some k → Under k kinds.Int
      → kind_in args result e (terms.Un operator a) ≡ Some kinds.Int
  unary_number e operator a k is under = ap unary_kind is ∙ ap (λ (j : Kind). number_if (is_int j)) (under_int k under)

  element_number : (e : Bool) (place : Place) (a b : Term) (kind j k : Kind) → is_array_of place kind ≡ true → kind_in args result e a ≡ Some j → Under j kind
      → kind_in args result e b ≡ Some k → Under k kinds.Int → kind_in args result e (terms.Elem place a b) ≡ Some kinds.Int
  element_number e place a b kind j k array is_a under_a is_b under_b =
      ap (λ x. element_kind place x (kind_in args result e b)) is_a ∙ ap (element_kind place (Some j)) is_b
      ∙ ap number_if (and_from (is_array_of place j) (is_int k) (under_array place j kind under_a array) (ap is_int (under_int k under_b)))

  operator_number : (e : Bool) (operator : BinOp) (a b : Term) (j k : Kind)
      → operator_kind (comparison_of operator) (Some j) (Some k) ≡ Some kinds.Int → kind_in args result e a ≡ Some j → kind_in args result e b ≡ Some k
      → kind_in args result e (terms.Bin operator a b) ≡ Some kinds.Int
  operator_number e operator a b j k number is_a is_b =
      ap (λ x. operator_kind (comparison_of operator) x (kind_in args result e b)) is_a ∙ ap (operator_kind (comparison_of operator) (Some j)) is_b ∙ number

  -- ---- what operations leave

  -- What is left fits, where the clause may have the operation and typing does.
  abbrev pub FitsIf : Option (List Item) → Option (List Kind) → List Told → Type 0
  FitsIf None kinds told = Unit {0}
  FitsIf (Some items) None told = Unit {0}
  FitsIf (Some items) (Some after) told = FitAll told items after

  -- The calls of an instruction are those inside and perhaps its own.
  no_calls : (i : Instr) (inside : List ℕ) → calls_with i inside ≡ [] → inside ≡ []
  no_calls i inside none = by (option_map_or (λ place. true) (asked_by i.op) false) none
    where
      by : (asks : Bool) → (if asks then i.at ∷ inside else inside) ≡ [] → inside ≡ []
      by true none = absurd cc
      by false none = none

  with_calls : (i : Instr) (inside : List ℕ) (tree : Term) (kind : Kind) → Fits inside tree kind → Fits (calls_with i inside) tree kind
  with_calls i inside tree kind fits = record { own = fits.own; is = fits.is; plain = λ none. fits.plain (no_calls i inside none); under = fits.under }

  -- Of one value, which stands there with nothing after it.
  one_inside : (i : Instr) (told : List ℕ) (tree : Term) (kind : Kind) → Fits told tree kind → Fits (calls_with i (told ++ [])) tree kind
  one_inside i told tree kind fits = record {
    own = fits.own;
    is = fits.is;
    plain = λ none. fits.plain (none_in_both told [] (no_calls i (told ++ []) none)).0;
    under = fits.under;
  }

  fits_when : (test : Bool) (items : Option (List Item)) (after : List Kind) (told : List Told) → (test ≡ true → FitsIf items (Some after) told) → FitsIf items (when test after) told
  fits_when true items after told fits = fits refl
  fits_when false None after told fits = tt
  fits_when false (Some items) after told fits = tt

  module _ (i : Instr) where
    length_fits : (told : List Told) (items : List Item) (before : List Kind) → FitAll told items before
        → FitsIf (items_behind ops.Length items) (behind shape ops.Length before) (made shape i (take 1 told) ∷ drop 1 told)
    length_fits told [] before fits = tt
    length_fits told (Message ∷ items) before fits = tt
    length_fits [] (Tree a ∷ items) before fits = absurd fits
    length_fits (t ∷ told) (Tree a ∷ items) [] fits = absurd fits
    length_fits (t ∷ told) (Tree a ∷ items) (kind ∷ below) fits =
        fits_when (is_reference kind) (Some (Tree (terms.Len a) ∷ items)) (kinds.Native ∷ below) (made shape i (t ∷ []) ∷ told) (λ reference. (
          one_inside i t.calls (terms.Len a) kinds.Native
              (over_one t.calls terms.Len a kind (λ e k is under. length_number e a kind k reference is under) kinds.Native tt fits.0),
          fits.1,
        ))

    unary_fits : (operator : UnOp) (op : Op) (told : List Told) (items : List Item) (before : List Kind) → FitAll told items before
        → ((a : Term) (rest : List Item) → items_behind op (Tree a ∷ rest) ≡ Some (Tree (terms.Un operator a) ∷ rest))
        → (items_behind op [] ≡ None) → ((rest : List Item) → items_behind op (Message ∷ rest) ≡ None)
        → FitsIf (items_behind op items) (behind_number before) (made shape i (take 1 told) ∷ drop 1 told)
    unary_fits operator op told [] before fits tree none message = rw none tt
    unary_fits operator op told (Message ∷ items) before fits tree none message = rw (message items) tt
    unary_fits operator op [] (Tree a ∷ items) before fits tree none message = absurd fits
    unary_fits operator op (t ∷ told) (Tree a ∷ items) [] fits tree none message = absurd fits
    unary_fits operator op (t ∷ told) (Tree a ∷ items) (kinds.Int ∷ below) fits tree none message =
        rw (tree a items) (
          one_inside i t.calls (terms.Un operator a) kinds.Int
              (over_one t.calls (terms.Un operator) a kinds.Int (λ e k is under. unary_number e operator a k is under) kinds.Int tt fits.0),
          fits.1,
        )
    unary_fits operator op (t ∷ told) (Tree a ∷ items) (_ ∷ below) fits tree none message = rw (tree a items) tt

    convert_fits : (told : List Told) (items : List Item) (before : List Kind) → FitAll told items before
        → FitsIf (items_behind ops.ConvI4 items) (behind shape ops.ConvI4 before) (made shape i (take 1 told) ∷ drop 1 told)
    convert_fits told [] before fits = tt
    convert_fits told (Message ∷ items) before fits = tt
    convert_fits [] (Tree a ∷ items) before fits = absurd fits
    convert_fits (t ∷ told) (Tree a ∷ items) [] fits = absurd fits
    convert_fits (t ∷ told) (Tree a ∷ items) (kind ∷ below) fits =
        fits_when (is_number kind) (Some (Tree a ∷ items)) (kinds.Int ∷ below) (made shape i (t ∷ []) ∷ told) (λ number. (
          one_inside i t.calls a kinds.Int (record {
            own = fits.0.own;
            is = fits.0.is;
            plain = fits.0.plain;
            under = subst (λ (k : Kind). Under k kinds.Int) (sym (under_number fits.0.own kind fits.0.under number)) tt;
          }),
          fits.1,
        ))

    two_inside : (one other : List ℕ) (tree : Term) (kind : Kind) → Fits (one ++ (other ++ [])) tree kind → Fits (calls_with i (one ++ (other ++ []))) tree kind
    two_inside one other tree kind fits = with_calls i (one ++ (other ++ [])) tree kind fits

    element_fits : (place : Place) (told : List Told) (items : List Item) (before : List Kind) → FitAll told items before
        → FitsIf (items_behind (ops.LoadElem place) items) (behind shape (ops.LoadElem place) before) (made shape i (take 2 told) ∷ drop 2 told)
    element_fits place told [] before fits = tt
    element_fits place told (Message ∷ items) before fits = tt
    element_fits place told (Tree b ∷ []) before fits = tt
    element_fits place told (Tree b ∷ Message ∷ items) before fits = tt
    element_fits place [] (Tree b ∷ Tree a ∷ items) before fits = absurd fits
    element_fits place (t ∷ told) (Tree b ∷ Tree a ∷ items) [] fits = absurd fits
    element_fits place (t ∷ []) (Tree b ∷ Tree a ∷ items) (kind ∷ below) fits = absurd fits.1
    element_fits place (t ∷ u ∷ told) (Tree b ∷ Tree a ∷ items) (kind ∷ []) fits = absurd fits.1
    element_fits place (t ∷ u ∷ told) (Tree b ∷ Tree a ∷ items) (kinds.Int ∷ array ∷ below) fits =
        fits_when (is_array_of place array) (Some (Tree (terms.Elem place a b) ∷ items)) (kinds.Int ∷ below) (made shape i (t ∷ u ∷ []) ∷ told) (λ is_array. (
          two_inside t.calls u.calls (terms.Elem place a b) kinds.Int
              (over_two t.calls u.calls (terms.Elem place) a b array kinds.Int
              (λ e j k is_a under_a is_b under_b. element_number e place a b array j k is_array is_a under_a is_b under_b) fits.0 fits.1.0),
          fits.1.1,
        ))
    element_fits place (t ∷ u ∷ told) (Tree b ∷ Tree a ∷ items) (_ ∷ array ∷ below) fits = tt

    operator_fits : (operator : BinOp) (comparison : Option CmpOp) → comparison_of operator ≡ comparison → (told : List Told) (items : List Item) (before : List Kind)
        → FitAll told items before → FitsIf (items_behind (ops.Bin operator) items) (behind_operator comparison before) (made shape i (take 2 told) ∷ drop 2 told)
    operator_fits operator c compares told [] before fits = tt
    operator_fits operator c compares told (Message ∷ items) before fits = tt
    operator_fits operator c compares told (Tree b ∷ []) before fits = tt
    operator_fits operator c compares told (Tree b ∷ Message ∷ items) before fits = tt
    operator_fits operator c compares [] (Tree b ∷ Tree a ∷ items) before fits = absurd fits
    operator_fits operator c compares (t ∷ told) (Tree b ∷ Tree a ∷ items) [] fits = absurd fits
    operator_fits operator c compares (t ∷ []) (Tree b ∷ Tree a ∷ items) (kind ∷ below) fits = absurd fits.1
    operator_fits operator c compares (t ∷ u ∷ told) (Tree b ∷ Tree a ∷ items) (kind ∷ []) fits = absurd fits.1
    operator_fits operator (Some op) compares (t ∷ u ∷ told) (Tree b ∷ Tree a ∷ items) (kind_b ∷ kind_a ∷ below) fits =
        fits_when (pushes_comparison op kind_a kind_b) (Some (Tree (terms.Bin operator a b) ∷ items)) (kinds.Int ∷ below) (made shape i (t ∷ u ∷ []) ∷ told) (λ pushes. (
          two_inside t.calls u.calls (terms.Bin operator a b) kinds.Int
              (over_two t.calls u.calls (terms.Bin operator) a b kind_a kind_b
              (λ e j k is_a under_a is_b under_b. operator_number e operator a b j k
              (ap (λ c. operator_kind c (Some j) (Some k)) compares ∙ ap number_if (under_pushes op j k kind_a kind_b under_a under_b pushes)) is_a is_b) fits.0 fits.1.0),
          fits.1.1,
        ))
    operator_fits operator None compares (t ∷ u ∷ told) (Tree b ∷ Tree a ∷ items) (kinds.Int ∷ kinds.Int ∷ below) fits = (
      two_inside t.calls u.calls (terms.Bin operator a b) kinds.Int
          (over_two t.calls u.calls (terms.Bin operator) a b kinds.Int kinds.Int
          (λ e j k is_a under_a is_b under_b. operator_number e operator a b j k
          (ap (λ c. operator_kind c (Some j) (Some k)) compares
          ∙ ap number_if (and_from (is_int j) (is_int k) (ap is_int (under_int j under_a)) (ap is_int (under_int k under_b)))) is_a is_b) fits.0 fits.1.0),
      fits.1.1,
    )
    operator_fits operator None compares (t ∷ u ∷ told) (Tree b ∷ Tree a ∷ items) (kinds.Int ∷ _ ∷ below) fits = tt
    operator_fits operator None compares (t ∷ u ∷ told) (Tree b ∷ Tree a ∷ items) (_ ∷ kind_a ∷ below) fits = tt

    -- ---- leaves and calls

    argument_under : (place : Option Place) (k : Kind) → option_and_then kind_of place ≡ Some k → Under k k
    argument_under None k e = absurd (none-some k e)
    argument_under (Some places.Void) k e = absurd (none-some k e)
    argument_under (Some places.Bool) k e = subst (λ (j : Kind). Under j j) (same_Some kinds.Int k e) tt
    argument_under (Some places.Int) k e = subst (λ (j : Kind). Under j j) (same_Some kinds.Int k e) tt
    argument_under (Some places.Bools) k e = subst (λ (j : Kind). Under j j) (same_Some kinds.Bools k e) tt
    argument_under (Some places.Ints) k e = subst (λ (j : Kind). Under j j) (same_Some kinds.Ints k e) tt

    argument_fits : (n : ℕ) (new : Told) (told : List Told) (items : List Item) (before : List Kind) → FitAll told items before
        → FitsIf (Some (Tree (terms.Arg n) ∷ items)) (loaded (slice_get args n) before) (new ∷ told)
    argument_fits n new told items before fits = by (option_and_then kind_of (slice_get args n)) refl
      where
        by : (o : Option Kind) → option_and_then kind_of (slice_get args n) ≡ o
            → FitsIf (Some (Tree (terms.Arg n) ∷ items)) (option_map (λ kind. kind ∷ before) o) (new ∷ told)
        by None e = tt
        by (Some k) e = (leaf_fits new.calls (terms.Arg n) k k (λ ensured. e) (argument_under (slice_get args n) k e), fits)

    -- What a clause may ask for: only an Ensures, and only the method's own result.
    abbrev pub MayAsk : Op → Type 0
    MayAsk op = (place : Place) → asked_by op ≡ Some place → (ensured ≡ true) × (is_old_value op ≡ false → place ≡ result)

    asks : (place : Place) (inside : List ℕ) → asked_by i.op ≡ Some place → calls_with i inside ≡ [] → ⊥
    asks place inside e none = by (asked_by i.op) e none
      where
        by : (o : Option Place) → o ≡ Some place → (if option_map_or (λ place. true) o false then i.at ∷ inside else inside) ≡ [] → ⊥
        by None e none = none-some place e
        by (Some other) e none = cc

    result_fits : (place : Place) (kind : Kind) (inside : List ℕ) → asked_by i.op ≡ Some place → ensured ≡ true → place ≡ result → kind_of place ≡ Some kind
        → Fits (calls_with i inside) terms.Result kind
    result_fits place kind inside asked is_ensured same is = record {
      own = kind;
      is = ap (λ (b : Bool). if b then kind_of result else None) is_ensured ∙ ap kind_of (sym same) ∙ is;
      plain = λ none. absurd (asks place inside asked none);
      under = argument_under (Some place) kind is;
    }

    no_offsets : (ats : List ℕ) → map OldForm ats ≡ [] → ats ≡ []
    no_offsets [] none = refl
    no_offsets (at ∷ ats) none = absurd cc

    old_fits : (place : Place) (a : Term) (kind new : Kind) (told inside : List ℕ) → asked_by i.op ≡ Some place → ensured ≡ true → told ≡ [] → takes place kind ≡ true
        → kind_of place ≡ Some new → Fits told a kind → Fits (calls_with i inside) (terms.Old a) new
    old_fits place a kind new told inside asked is_ensured none taken is fits = record {
      own = fits.own;
      is = ap (λ (b : Bool). if b then kind_in args result false a else None) is_ensured ∙ fits.plain none;
      plain = λ none. absurd (asks place inside asked none);
      under = under_place place fits.own kind new fits.under taken is;
    }

    module _ (number : ℕ) (tie : i.op ≡ ops.Call number) (may : MayAsk (ops.Call number)) where
      by_call : (call : Option UnitCall) → unit_call number ≡ call → (told : List Told) (items : List Item) (before : List Kind) → FitAll told items before
          → old_faults_of i call told ≡ []
          → FitsIf (with_call call items) (behind_call shape call before) (made shape i (take (call_operands shape call) told) ∷ drop (call_operands shape call) told)
      by_call (Some (calls.Result place)) is told items before fits none =
          let (kind, held_kind) = result_kind number place is in
          let asks_it : asked_by (ops.Call number) ≡ Some place = ap asked is in
          let right = may place asks_it in
          rw held_kind (result_fits place kind [] (ap asked_by tie ∙ asks_it) right.0 (right.1 (ap is_old is)) held_kind, fits)
      by_call (Some (calls.OldValue place)) is told [] before fits none = tt
      by_call (Some (calls.OldValue place)) is told (Message ∷ items) before fits none = tt
      by_call (Some (calls.OldValue place)) is [] (Tree a ∷ items) before fits none = absurd fits
      by_call (Some (calls.OldValue place)) is (t ∷ told) (Tree a ∷ items) [] fits none = absurd fits
      by_call (Some (calls.OldValue place)) is (t ∷ told) (Tree a ∷ items) (kind ∷ below) fits none =
          let asks_it : asked_by (ops.Call number) ≡ Some place = ap asked is in
          let right = may place asks_it in
          fits_when (takes place kind) (Some (Tree (terms.Old a) ∷ items)) (pushed_kind (kind_of place) below) (made shape i (t ∷ []) ∷ told) (λ taken.
          let (new, is_new) = taken_kind place kind taken in
          rw is_new (
            old_fits place a kind new t.calls (t.calls ++ []) (ap asked_by tie ∙ asks_it) right.0 (no_offsets t.calls (none_in_both (map OldForm t.calls) _ none).0) taken is_new fits.0,
            fits.1,
          ))
      by_call _ is told items before fits none = tt

    pub op_fits : (op : Op) → i.op ≡ op → MayAsk op → (told : List Told) (items : List Item) (before : List Kind) → FitAll told items before → faults_here i op told ≡ []
        → FitsIf (items_behind op items) (behind shape op before) (stack_by shape i op (operand_count shape op) told)
    op_fits ops.Nop tie may told items before fits none = fits
    op_fits (ops.LoadArg n) tie may told items before fits none = argument_fits n (made shape i []) told items before fits
    op_fits ops.Null tie may told items before fits none = (leaf_fits (calls_with i []) terms.Null kinds.NullRef kinds.NullRef (λ e. refl) tt, fits)
    op_fits (ops.Const n) tie may told items before fits none = (leaf_fits (calls_with i []) (terms.Const n) kinds.Int kinds.Int (λ e. refl) tt, fits)
    op_fits (ops.Text token) tie may told items before fits none = (refl, fits)
    op_fits (ops.Bin operator) tie may told items before fits none = operator_fits operator (comparison_of operator) refl told items before fits
    op_fits ops.Neg tie may told items before fits none = unary_fits unary.Neg ops.Neg told items before fits (λ a rest. refl) refl (λ rest. refl)
    op_fits ops.Not tie may told items before fits none = unary_fits unary.Not ops.Not told items before fits (λ a rest. refl) refl (λ rest. refl)
    op_fits ops.ConvI4 tie may told items before fits none = convert_fits told items before fits
    op_fits ops.Length tie may told items before fits none = length_fits told items before fits
    op_fits (ops.LoadElem place) tie may told items before fits none = element_fits place told items before fits
    op_fits (ops.Call number) tie may told items before fits none = by_call number tie may (unit_call number) refl told items before fits none
    op_fits _ tie may told items before fits none = tt
