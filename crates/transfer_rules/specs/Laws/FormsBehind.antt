-- The forms of variables behind an operation are those of the kinds that typing finds there.
use Rattle.std.proofs.Common.{◌≡◌, ◌≢◌, ℕ, zero, suc, ◌+◌, ◌==◌, ℤ, pos, negsuc, Bool, true, false, nat_lt, List, [], ◌∷◌, ◌++◌, length, map, slice_get, Option, Some, None, refl, sym, ap, subst, ◌∙◌, append_assoc, arith}
use Rattle.std.specs.Prelude.{reverse}
use Rattle.std.specs.Option.{option_map}
use Rattle.std.proofs.lemmas.Bool.{and_parts, cond_both, false≢true}
use Rattle.std.proofs.lemmas.Int.{ints}
use Rattle.std.proofs.lemmas.List.{length-append, length-map, reverse-append}
use Rattle.std.proofs.lemmas.Option.{get_or_from_slice_get, none-some, same_Some, slice_get-map}
use Rattle.cil_model.specs.Bodies.{is_executed, is_executed_call}
use Rattle.cil_model.specs.Comparisons.{comparison_of}
use Rattle.cil_model.specs.FitKinds.{OperandFits}
use Rattle.cil_model.specs.Kinds as kinds
use Rattle.cil_model.specs.Kinds.{address_kind, is_address_of, is_array_of, is_number, is_reference, is_tested, kind_of, takes}
use Rattle.cil_model.specs.Passes.{merged, merged_kind, with_kind}
use Rattle.cil_model.specs.Shapes.{shape_of}
use Rattle.cil_model.specs.UnitCalls.{array_place, unit_call}
use Rattle.cil_model.specs.declared.instruction.BinOp.{BinOp}
use Rattle.cil_model.specs.declared.instruction.BinOp.TheVariants as operators
use Rattle.cil_model.specs.declared.instruction.CmpOp.{CmpOp}
use Rattle.cil_model.specs.declared.instruction.Op.{Op}
use Rattle.cil_model.specs.declared.instruction.Op.TheVariants as ops
use Rattle.cil_model.specs.declared.instruction.Test.{Test}
use Rattle.cil_model.specs.declared.instruction.Test.TheVariants as tests
use Rattle.cil_model.specs.declared.place.Kind.{Kind}
use Rattle.cil_model.specs.declared.place.Kind.TheVariants.{AddrBools, AddrInts, Bools, Int, Ints, Native, NullRef, Text}
use Rattle.cil_model.specs.declared.place.Place.{Place}
use Rattle.cil_model.specs.declared.place.Place.TheVariants as places
use Rattle.cil_model.specs.declared.unit.Unit.{Unit as MethodUnit}
use Rattle.cil_model.specs.declared.unit_numbers.UnitCall.{UnitCall}
use Rattle.cil_model.specs.declared.unit_numbers.UnitCall.TheVariants as calls
use Rattle.cil_model.proofs.KindsSettle.{Absorbs}
use Rattle.frame_names.specs.declared.var.Var.{Var}
use Rattle.frame_names.specs.declared.var.Var.TheVariants as vars
use Rattle.number_spans.specs.Constants.{constant}
use Rattle.obligation_prover.specs.Operations.{from_top}
use Rattle.state_facts.proofs.AssumptionForms.{length_number}
use Rattle.state_facts.proofs.ComparisonForms.{comparison_form}
use Rattle.state_facts.proofs.Growing.{Formed}
use Rattle.state_facts.proofs.MoveForms.{array_form, item_form, put_form, stored_form}
use Rattle.state_facts.proofs.ResultForms.{with_result_form}
use Rattle.state_facts.specs.Arithmetic.{with_result}
use Rattle.state_facts.specs.Comparing.{with_comparison}
use Rattle.state_facts.specs.Forms.{HasVar, IsArrayPlace, IsNumber}
use Rattle.state_facts.specs.Moves.{popped, pushed, with_array, with_item, with_put, with_stored}
use Rattle.state_facts.specs.StateFacts.{StateFacts, State, length_at}
use Rattle.state_obligations.proofs.Following.{assumed_follows}
use Rattle.state_obligations.specs.Following.{StaysThereIn}
use Rattle.state_obligations.specs.Assumed.{assumed_by}
use Rattle.state_obligations.specs.declared.condition.Condition.TheVariants as conditions
use Rattle.transfer_rules.specs.Acts.{acted, arg_place, behind_call, behind_test, calculated, complemented, duplicated, given, left, loaded, local_place, negated, operated, put_into, stored, taken_from, type_of, with_address, with_condition, with_item_at, with_item_of, with_item_put, with_length, with_new, with_put_at}
use Rattle.transfer_rules.specs.Forms.{FitKinds, FitsKind, FitsStack, HasKinds, kind_in, kinds_over}
use Rattle.transfer_rules.specs.Laws.CalledForms.{IsWithin, called_fits, found_callee}
use Rattle.transfer_rules.specs.Laws.Fitting.{AreKinds, over_stack, IsOperand, fit_at, fit_last, fit_pushed, has_stayed, one_taken, operand_before, over_more, over_popped, over_pushed, there_at, three_taken, two_taken, two_tops}
use Rattle.transfer_rules.specs.Owed.{HasItems, IsReady}
use Rattle.transfer_rules.specs.Operands.{Rule, on_condition, on_one, on_three, on_two, with_one}
use Rattle.transfer_rules.specs.Laws.KindForms.{IsAddressVar, IsReferenceVar, address_fits, alike_of, array_kind, merged_fits, named_fits, number_fits, pushed_form, reference_fits, taken_fits, when_same}
use Rattle.transfer_rules.specs.Laws.FittingResults.{GivesNumber, array_more, comparison_number, frame_kept, item_number, number_more, one_set, put_sets, result_number, stored_keeps}

-- ---- states

pub stays_fitting : (unit : MethodUnit) (stack : List Kind) (known : StateFacts) (after : State)
    → StaysThereIn known after
    → HasKinds (kinds_over unit stack) known → FitsStack unit (Some stack) after
stays_fitting unit stack known None stays has = tt
stays_fitting unit stack known (Some after) stays has = has_stayed (kinds_over unit stack) known after stays has

-- Kinds from the top on that stand over others, where each merges.
merged_each : (known : StateFacts) (base to ks : List Kind) (vs : List Var) → merged to ks ≡ Some to
    → FitKinds known (base ++ reverse ks) vs → FitKinds known (base ++ reverse to) vs
merged_each known base [] [] vs is fits = fits
merged_each known base [] (k ∷ ks) vs is fits = absurd (none-some [] is)
merged_each known base (j ∷ to) [] vs is fits = absurd (none-some (j ∷ to) is)
merged_each known base (j ∷ to) (k ∷ ks) vs is fits =
    by (merged_kind j k) (merged to ks) refl refl is (λ prefix same rest. merged_each known base to ks prefix same rest)
  where
    last : (l : List Kind) (x : Kind) → base ++ reverse (x ∷ l) ≡ (base ++ reverse l) ++ x ∷ []
    last l x = ap (λ m. base ++ m) (reverse-append (x ∷ []) l) ∙ sym (append_assoc base (reverse l) (x ∷ []))

    by : (one : Option Kind) (rest : Option (List Kind)) → merged_kind j k ≡ one → merged to ks ≡ rest
        → with_kind one rest ≡ Some (j ∷ to)
        → ((prefix : List Var) → merged to ks ≡ Some to → FitKinds known (base ++ reverse ks) prefix
        → FitKinds known (base ++ reverse to) prefix)
        → FitKinds known (base ++ reverse (j ∷ to)) vs
    by None rest first second same others = absurd (none-some (j ∷ to) same)
    by (Some one) None first second same others = absurd (none-some (j ∷ to) same)
    by (Some one) (Some rest) first second same others =
        let one_is : one ≡ j = cc in
        let rest_is : rest ≡ to = cc in
        let ends = fit_last known (base ++ reverse ks) k vs (subst (λ l. FitKinds known l vs) (last ks k) fits) in
        subst (λ l. FitKinds known l vs) (sym (last to j))
        (subst (FitKinds known ((base ++ reverse to) ++ j ∷ [])) (sym ends.are)
        (fit_pushed known (base ++ reverse to) ends.prefix j ends.top
        (others ends.prefix (second ∙ ap Some rest_is) ends.fit)
        (merged_fits known j k ends.top (first ∙ ap Some one_is) ends.last)))

-- What fits a stack fits one that absorbs it.
pub absorbed_fits : (unit : MethodUnit) (at : Option (List Kind)) (stack : List Kind) (state : State) → Absorbs at stack
    → FitsStack unit (Some stack) state → FitsStack unit at state
absorbed_fits unit at stack None absorbed fits = tt
absorbed_fits unit at stack (Some known) absorbed has =
    subst (λ (s : Option (List Kind)). FitsStack unit s (Some known)) (sym absorbed.reached)
    (record {
      form = has.form;
      fit =
          merged_each known (map kind_in unit.args ++ map kind_in unit.args ++ map kind_in unit.locals) absorbed.kinds
          stack known.variables
          absorbed.merge has.fit;
    })

-- ---- variables in place

prefix_at : (xs ys : List Kind) (i : ℕ) (k : Kind) → slice_get xs i ≡ Some k → slice_get (xs ++ ys) i ≡ Some k
prefix_at [] ys i k is = absurd (none-some k is)
prefix_at (x ∷ xs) ys zero k is = is
prefix_at (x ∷ xs) ys (suc i) k is = prefix_at xs ys i k is

behind_at : (xs ys : List Kind) (i j : ℕ) → j ≡ length xs + i → slice_get (xs ++ ys) j ≡ slice_get ys i
behind_at [] ys i j is = ap (slice_get ys) (omega (arith, is))
behind_at (x ∷ xs) ys i zero is = absurd (omega (arith, is))
behind_at (x ∷ xs) ys i (suc j) is = behind_at xs ys i j (omega (arith, is))

type_kind : (types : List Place) (n : ℕ) (place : Place) → slice_get types n ≡ Some place
    → slice_get (map kind_in types) n ≡ Some (kind_in place)
type_kind types n place is = slice_get-map kind_in types n ∙ ap (option_map kind_in) is

arg_kind : (unit : MethodUnit) (stack : List Kind) (n : ℕ) (place : Place) → slice_get unit.args n ≡ Some place
    → slice_get (kinds_over unit stack) (arg_place unit n) ≡ Some (kind_in place)
arg_kind unit stack n place is =
    let args = map kind_in unit.args in
    prefix_at (args ++ args ++ map kind_in unit.locals) (reverse stack) (arg_place unit n) (kind_in place)
    (prefix_at (args ++ args) (map kind_in unit.locals) (arg_place unit n) (kind_in place)
    (behind_at args args n (arg_place unit n) (omega (arith, length-map unit.args kind_in))
    ∙ type_kind unit.args n place is))

local_kind : (unit : MethodUnit) (stack : List Kind) (n : ℕ) (place : Place) → slice_get unit.locals n ≡ Some place
    → slice_get (kinds_over unit stack) (local_place unit n) ≡ Some (kind_in place)
local_kind unit stack n place is =
    let args = map kind_in unit.args in
    prefix_at (args ++ args ++ map kind_in unit.locals) (reverse stack) (local_place unit n) (kind_in place)
    (behind_at (args ++ args) (map kind_in unit.locals) n (local_place unit n)
    (omega (arith, length-map unit.args kind_in, length-append args args))
    ∙ type_kind unit.locals n place is)

-- ---- the rules

constant_zero : (n : ℕ) → IsNumber n (constant (pos 0))
constant_zero n = record {
  there = omega arith;
  near = record { least = omega (arith, ints); greatest = omega (arith, ints) };
}

constant_minus : (n : ℕ) → IsNumber n (constant (negsuc 0))
constant_minus n = record {
  there = omega arith;
  near = record { least = omega (arith, ints); greatest = omega (arith, ints) };
}

module _ (unit : MethodUnit) where
  gives_number : (stack : List Kind) (known : StateFacts) (state : State) → HasKinds (kinds_over unit stack) known
      → Formed state
      → GivesNumber known state → FitsStack unit (Some (Int ∷ stack)) state
  gives_number stack known state has form more =
      over_stack unit (Int ∷ stack) state (subst (λ ks. AreKinds ks state) (sym (over_more unit Int stack))
      (number_more (kinds_over unit stack) Int known state refl has form more))

  -- ---- moves

  loaded_fits : (i : ℕ) (k : Kind) (stack : List Kind) (known : StateFacts) → HasKinds (kinds_over unit stack) known
      → slice_get (kinds_over unit stack) i ≡ Some k → FitsStack unit (Some (k ∷ stack)) (loaded i known)
  unfolding loaded
  loaded_fits i k stack known has is =
      let at = fit_at known (kinds_over unit stack) known.variables i k has.fit is in
      subst (λ o. FitsStack unit (Some (k ∷ stack)) (with_one given o known)) (sym at.is)
      (over_pushed unit k stack at.var known has (record {
        there = there_at (HasVar known) known.variables i at.var has.form.variables at.is;
        fits = at.fits;
      }))

  put_fits : (i : ℕ) (place : Place) (v : Var) (stack : List Kind) (known : StateFacts)
      → HasKinds (kinds_over unit stack) known
      → slice_get (kinds_over unit stack) i ≡ Some (kind_in place) → HasVar known v → FitsKind known (kind_in place) v
      → FitsStack unit (Some stack) (put_into i place v known)
  put_fits i place v stack known has is there fits =
      cond_both (nat_lt i (length known.variables)) _ _ (FitsStack unit (Some stack))
      (λ below. over_stack unit stack (with_put i v place known)
      (one_set (kinds_over unit stack) i (kind_in place) known (with_put i v place known) has is
      (put_form i v place known has.form there)
      (put_sets i (kind_in place) v place known there fits)))
      (λ above. tt)

  stored_fits : (i : ℕ) (place : Place) (k : Kind) (stack : List Kind) (known : StateFacts)
      → HasKinds (kinds_over unit (k ∷ stack)) known
      → slice_get (kinds_over unit stack) i ≡ Some (kind_in place) → takes place k ≡ true
      → FitsStack unit (Some stack) (stored i place known)
  unfolding stored
  stored_fits i place k stack known has is took =
      one_taken unit k stack (Some stack) (put_into i place) known has
      (λ v own rest. put_fits i place v stack (popped known) rest is own.there
      (taken_fits (popped known) place k v took own.fits))

  doubled_fits : (k : Kind) (stack : List Kind) (known : StateFacts) → HasKinds (kinds_over unit (k ∷ stack)) known
      → FitsStack unit (Some (k ∷ k ∷ stack)) (duplicated known)
  unfolding duplicated
  doubled_fits k stack known has =
      let top = over_popped unit k stack known has in
      subst (λ o. FitsStack unit (Some (k ∷ k ∷ stack)) (with_one given o known)) (sym top.is)
      (over_pushed unit k (k ∷ stack) top.top known has (operand_before known k top.top (record {
        there = top.there;
        fits = top.fits;
      })))

  -- The kind of the top is another that its variable fits.
  retyped : (k to : Kind) (stack : List Kind) (known : StateFacts)
      → ((v : Var) → FitsKind known k v → FitsKind known to v)
      → HasKinds (kinds_over unit (k ∷ stack)) known → HasKinds (kinds_over unit (to ∷ stack)) known
  retyped k to stack known other has =
      let ends =
      fit_last known (kinds_over unit stack) k known.variables
      (subst (λ ks. FitKinds known ks known.variables) (over_more unit k stack) has.fit) in
      record {
        form = has.form;
        fit = subst (λ ks. FitKinds known ks known.variables) (sym (over_more unit to stack))
            (subst (FitKinds known (kinds_over unit stack ++ to ∷ [])) (sym ends.are)
            (fit_pushed known (kinds_over unit stack) ends.prefix to ends.top ends.fit (other ends.top ends.last)));
      }

  -- ---- operators

  result_fits : (op : BinOp) (v w : Var) (stack : List Kind) (x : StateFacts) → IsOperand x Int v → IsOperand x Int w
      → HasKinds (kinds_over unit stack) x → FitsStack unit (Some (Int ∷ stack)) (calculated op None v w x)
  result_fits op (vars.Number a) (vars.Number b) stack x first second has =
      gives_number stack x (with_result op a b x) has (with_result_form op a b x has.form first.there second.there)
      (result_number op a b x)
  result_fits op (vars.Number a) _ stack x first second has = elim second.fits [ ]
  result_fits op _ w stack x first second has = elim first.fits [ ]

  operated_fits : (op : BinOp) (o : Option CmpOp) (stack after : List Kind) (known : StateFacts) → comparison_of op ≡ o
      → kinds.behind_operator o stack ≡ Some after → HasKinds (kinds_over unit stack) known
      → FitsStack unit (Some after) (on_two (calculated op o) known)
  operated_fits op None (Int ∷ Int ∷ rest) after known is typed has =
      two_taken unit Int Int rest (Some after) (calculated op None) known has
      (λ lower upper x first second last. subst (λ s. FitsStack unit (Some s) (calculated op None lower upper x))
      (same_Some (Int ∷ rest) after typed)
      (result_fits op lower upper rest x first second last))
  operated_fits op (Some cmp) (b ∷ a ∷ rest) after known is typed has =
      let both = when_same (kinds.pushes_comparison cmp a b) (Int ∷ rest) after typed in
      two_taken unit b a rest (Some after) (calculated op (Some cmp)) known has
      (λ lower upper x first second last. subst (λ s. FitsStack unit (Some s) (with_comparison op lower upper x)) both.1
      (gives_number rest x (with_comparison op lower upper x) last
      (comparison_form op lower upper cmp x last.form first.there second.there is)
      (comparison_number op lower upper x
      (alike_of x a b lower upper (pushed_form cmp a b both.0) first.fits second.fits))))
  operated_fits op (Some cmp) [] after known is typed has = absurd (none-some after typed)
  operated_fits op (Some cmp) (b ∷ []) after known is typed has = absurd (none-some after typed)
  operated_fits op None _ after known is typed has = absurd (none-some after typed)

  from_fits : (n : ℤ) (v : Var) (stack : List Kind) (x : StateFacts) → ((m : ℕ) → IsNumber m (constant n))
      → IsOperand x Int v
      → HasKinds (kinds_over unit stack) x → FitsStack unit (Some (Int ∷ stack)) (taken_from n v x)
  from_fits n (vars.Number e) stack x near own has =
      gives_number stack x (with_result operators.Sub (constant n) e x) has
      (with_result_form operators.Sub (constant n) e x has.form (near (length x.facts.ranges)) own.there)
      (result_number operators.Sub (constant n) e x)
  from_fits n _ stack x near own has = elim own.fits [ ]

  taken_number : (n : ℤ) (stack after : List Kind) (known : StateFacts) → ((m : ℕ) → IsNumber m (constant n))
      → kinds.behind_number stack ≡ Some after → HasKinds (kinds_over unit stack) known
      → FitsStack unit (Some after) (on_one (taken_from n) known)
  taken_number n (Int ∷ rest) after known near typed has =
      one_taken unit Int rest (Some after) (taken_from n) known has
      (λ v own last. subst (λ s. FitsStack unit (Some s) (taken_from n v (popped known)))
      (same_Some (Int ∷ rest) after typed)
      (from_fits n v rest (popped known) near own last))
  taken_number n _ after known near typed has = absurd (none-some after typed)

  converted_fits : (stack after : List Kind) (known : StateFacts) → kinds.behind_conversion stack ≡ Some after
      → HasKinds (kinds_over unit stack) known → HasKinds (kinds_over unit after) known
  converted_fits (k ∷ rest) after known typed has =
      let both = when_same (is_number k) (Int ∷ rest) after typed in
      subst (λ s. HasKinds (kinds_over unit s) known) both.1
      (retyped k Int rest known (λ v fits. number_fits known k v both.0 fits) has)
  converted_fits [] after known typed has = absurd (none-some after typed)

  -- ---- arrays

  new_fits : (place : Place) (v : Var) (stack : List Kind) (x : StateFacts) → IsArrayPlace place → HasVar x v
      → FitsKind x Int v
      → HasKinds (kinds_over unit stack) x → FitsStack unit (Some (kind_in place ∷ stack)) (with_new (Some place) v x)
  unfolding with_array
  new_fits place (vars.Number n) stack x array there fits has =
      subst (λ ks. HasKinds ks (with_array place n x)) (sym (over_more unit (kind_in place) stack))
      (array_more (kinds_over unit stack) place x (with_array place n x) has
      (array_form place n x has.form array there) array
      (record { reference = _; variables = refl; references = refl; place_is = refl }))
  new_fits place _ stack x array there fits has = elim fits [ ]

  -- What a number of an array type names is one.
  abbrev AreArrays : Option Place → Type 0
  AreArrays None = Unit {0}
  AreArrays (Some place) = IsArrayPlace place

  arrays_are : (number : ℕ) → AreArrays (array_place number)
  arrays_are number =
      cond_both (number == 1) _ _ AreArrays (λ e. tt) (λ e. cond_both (number == 2) _ _ AreArrays (λ f. tt) (λ f. tt))

  created_fits : (o : Option Place) (stack after : List Kind) (known : StateFacts) → AreArrays o
      → kinds.behind_new_array o stack ≡ Some after → HasKinds (kinds_over unit stack) known
      → FitsStack unit (Some after) (on_one (with_new o) known)
  created_fits (Some place) (k ∷ rest) after known array typed has =
      let both = when_same (is_number k) (kinds.pushed_kind (kind_of place) rest) after typed in
      let same : kind_in place ∷ rest ≡ after =
      ap (λ o. kinds.pushed_kind o rest) (sym (array_kind place array)) ∙ both.1 in
      one_taken unit k rest (Some after) (with_new (Some place)) known has
      (λ v own last. subst (λ s. FitsStack unit (Some s) (with_new (Some place) v (popped known))) same
      (new_fits place v rest (popped known) array own.there (number_fits (popped known) k v both.0 own.fits) last))
  created_fits (Some place) [] after known array typed has = absurd (none-some after typed)
  created_fits None stack after known array typed has = absurd (none-some after typed)

  long_fits : (v : Var) (stack : List Kind) (x : StateFacts) → HasVar x v → IsReferenceVar v
      → HasKinds (kinds_over unit stack) x
      → FitsStack unit (Some (Native ∷ stack)) (with_length v x)
  long_fits (vars.Reference r) stack x there is has =
      over_pushed unit Native stack (vars.Number (length_at x r)) x has (record {
        there = length_number x r has.form there;
        fits = tt;
      })
  long_fits _ stack x there is has = elim is [ ]

  length_fits : (stack after : List Kind) (known : StateFacts) → kinds.behind_length stack ≡ Some after
      → HasKinds (kinds_over unit stack) known → FitsStack unit (Some after) (on_one with_length known)
  length_fits (k ∷ rest) after known typed has =
      let both = when_same (is_reference k) (Native ∷ rest) after typed in
      one_taken unit k rest (Some after) with_length known has
      (λ v own last. subst (λ s. FitsStack unit (Some s) (with_length v (popped known))) both.1
      (long_fits v rest (popped known) own.there (reference_fits (popped known) k v both.0 own.fits) last))
  length_fits [] after known typed has = absurd (none-some after typed)

  item_fits : (v w : Var) (stack : List Kind) (x : StateFacts) → IsReferenceVar v → FitsKind x Int w
      → HasKinds (kinds_over unit stack) x
      → FitsStack unit (Some (Int ∷ stack)) (with_item_of v w x)
  unfolding with_item
  item_fits (vars.Reference r) (vars.Number i) stack x is fits has =
      gives_number stack x (with_item r i x) has (item_form r i x has.form) (item_number r i x)
  item_fits (vars.Reference r) _ stack x is fits has = elim fits [ ]
  item_fits _ w stack x is fits has = elim is [ ]

  read_fits : (place : Place) (stack after : List Kind) (known : StateFacts)
      → kinds.behind_load place stack ≡ Some after
      → HasKinds (kinds_over unit stack) known → FitsStack unit (Some after) (on_two with_item_of known)
  read_fits place (Int ∷ array ∷ rest) after known typed has =
      let both = when_same (is_array_of place array) (Int ∷ rest) after typed in
      two_taken unit Int array rest (Some after) with_item_of known has
      (λ lower upper x first second last. subst (λ s. FitsStack unit (Some s) (with_item_of lower upper x)) both.1
      (item_fits lower upper rest x
      (reference_fits x array lower (and_parts (is_reference array) (takes place array) both.0).0 first.fits)
      second.fits last))
  read_fits place _ after known typed has = absurd (none-some after typed)

  write_fits : (u v w : Var) (stack : List Kind) (x : StateFacts) → IsReferenceVar u → IsOperand x Int v
      → IsOperand x Int w
      → HasKinds (kinds_over unit stack) x → FitsStack unit (Some stack) (with_item_put u v w x)
  write_fits (vars.Reference r) (vars.Number i) (vars.Number value) stack x is index own has =
      over_stack unit stack (with_stored r i value x)
      (frame_kept (kinds_over unit stack) x (with_stored r i value x) has
      (stored_form r i value x has.form index.there own.there)
      (stored_keeps r i value x))
  write_fits (vars.Reference r) (vars.Number i) _ stack x is index own has = elim own.fits [ ]
  write_fits (vars.Reference r) _ w stack x is index own has = elim index.fits [ ]
  write_fits _ v w stack x is index own has = elim is [ ]

  written_fits : (place : Place) (stack after : List Kind) (known : StateFacts)
      → kinds.behind_store place stack ≡ Some after
      → HasKinds (kinds_over unit stack) known → FitsStack unit (Some after) (on_three with_item_put known)
  written_fits place (Int ∷ Int ∷ array ∷ rest) after known typed has =
      let both = when_same (is_array_of place array) rest after typed in
      three_taken unit Int Int array rest (Some after) with_item_put known has
      (λ lowest lower upper x first second third last. subst
      (λ s. FitsStack unit (Some s) (with_item_put lowest lower upper x)) both.1
      (write_fits lowest lower upper rest x
      (reference_fits x array lowest (and_parts (is_reference array) (takes place array) both.0).0 first.fits)
      second
      third last))
  written_fits place _ after known typed has = absurd (none-some after typed)

  -- ---- addresses

  -- The array is not null where the faults were assumed away.
  addressed_fits : (place : Place) (k address : Kind) (v w : Var) (stack : List Kind) (x : StateFacts)
      → is_array_of place k ≡ true → address_kind place ≡ Some address → IsOperand x k v → IsOperand x Int w
      → HasItems (Some v) (Some w) → HasKinds (kinds_over unit stack) x
      → FitsStack unit (Some (address ∷ stack)) (with_address v w x)
  addressed_fits place k address (vars.Reference r) (vars.Number i) stack x of is first second least has =
      over_pushed unit address stack (vars.Address r i) x has (record {
        there = (first.there, second.there);
        fits = address_fits x place k address r i of is first.there least first.fits;
      })
  addressed_fits place k address (vars.Reference r) _ stack x of is first second least has = elim second.fits [ ]
  addressed_fits place k address v w stack x of is first second least has =
      elim (reference_fits x k v (and_parts (is_reference k) (takes place k) of).0 first.fits) [ ]

  named_array : (place : Place) → IsArrayPlace place → (address : Kind) × (address_kind place ≡ Some address)
  named_array places.Ints is = (AddrInts, refl)
  named_array places.Bools is = (AddrBools, refl)
  named_array places.Void is = elim is [ ]
  named_array places.Bool is = elim is [ ]
  named_array places.Int is = elim is [ ]

  taken_fit : (o : Option Place) (stack after : List Kind) (known : StateFacts) → AreArrays o
      → HasItems (from_top 1 known) (from_top 0 known) → kinds.behind_address o stack ≡ Some after
      → HasKinds (kinds_over unit stack) known → FitsStack unit (Some after) (on_two with_address known)
  taken_fit (Some place) (Int ∷ array ∷ rest) after known arrays ready typed has =
      let both = when_same (is_array_of place array) (kinds.pushed_kind (address_kind place) rest) after typed in
      let (address, is) = named_array place arrays in
      let same : address ∷ rest ≡ after = ap (λ o. kinds.pushed_kind o rest) (sym is) ∙ both.1 in
      two_tops unit Int array rest (Some after) with_address known has
      (λ lower upper x lower_is upper_is first second last. subst
      (λ s. FitsStack unit (Some s) (with_address lower upper x)) same
      (addressed_fits place array address lower upper rest x both.0 is first second
      (subst (HasItems (Some lower)) upper_is (subst (λ o. HasItems o (from_top 0 known)) lower_is ready)) last))
  taken_fit o _ after known arrays ready typed has = absurd (none-some after typed)

  item_at_fits : (v : Var) (stack : List Kind) (x : StateFacts) → IsAddressVar v → HasKinds (kinds_over unit stack) x
      → FitsStack unit (Some (Int ∷ stack)) (with_item_at v x)
  unfolding with_item
  item_at_fits (vars.Address r i) stack x is has =
      gives_number stack x (with_item r i x) has (item_form r i x has.form) (item_number r i x)
  item_at_fits _ stack x is has = elim is [ ]

  read_at_fits : (place : Place) (stack after : List Kind) (known : StateFacts)
      → kinds.behind_load_through place stack ≡ Some after → HasKinds (kinds_over unit stack) known
      → FitsStack unit (Some after) (on_one with_item_at known)
  read_at_fits place (k ∷ rest) after known typed has =
      let both = when_same (is_address_of place k) (Int ∷ rest) after typed in
      one_taken unit k rest (Some after) with_item_at known has
      (λ v own last. subst (λ s. FitsStack unit (Some s) (with_item_at v (popped known))) both.1
      (item_at_fits v rest (popped known) (named_fits (popped known) place k v both.0 own.fits) last))
  read_at_fits place [] after known typed has = absurd (none-some after typed)

  put_at_fits : (v w : Var) (stack : List Kind) (x : StateFacts) → HasVar x v → IsAddressVar v → IsOperand x Int w
      → HasKinds (kinds_over unit stack) x → FitsStack unit (Some stack) (with_put_at v w x)
  put_at_fits (vars.Address r i) (vars.Number value) stack x there is own has =
      over_stack unit stack (with_stored r i value x)
      (frame_kept (kinds_over unit stack) x (with_stored r i value x) has
      (stored_form r i value x has.form there.1 own.there)
      (stored_keeps r i value x))
  put_at_fits (vars.Address r i) _ stack x there is own has = elim own.fits [ ]
  put_at_fits _ w stack x there is own has = elim is [ ]

  written_at_fits : (place : Place) (stack after : List Kind) (known : StateFacts)
      → kinds.behind_store_through place stack ≡ Some after → HasKinds (kinds_over unit stack) known
      → FitsStack unit (Some after) (on_two with_put_at known)
  written_at_fits place (Int ∷ k ∷ rest) after known typed has =
      let both = when_same (is_address_of place k) rest after typed in
      two_taken unit Int k rest (Some after) with_put_at known has
      (λ lower upper x first second last. subst (λ s. FitsStack unit (Some s) (with_put_at lower upper x)) both.1
      (put_at_fits lower upper rest x first.there (named_fits x place k lower both.0 first.fits) second last))
  written_at_fits place _ after known typed has = absurd (none-some after typed)

  -- ---- calls and branches

  condition_fits : (message : Bool) (rule : Var → Rule) (stack after : List Kind) (known : StateFacts)
      → kinds.behind_condition message stack ≡ Some after → HasKinds (kinds_over unit stack) known
      → ((v : Var) (x : StateFacts) → IsOperand x Int v → HasKinds (kinds_over unit after) x
      → FitsStack unit (Some after) (rule v x))
      → FitsStack unit (Some after) (on_condition message rule known)
  condition_fits false rule (Int ∷ rest) after known typed has next =
      let same = same_Some rest after typed in
      one_taken unit Int rest (Some after) rule known has
      (λ v own last. next v (popped known) own (subst (λ s. HasKinds (kinds_over unit s) (popped known)) same last))
  condition_fits true rule (Text ∷ Int ∷ rest) after known typed has next =
      let same = same_Some rest after typed in
      two_taken unit Text Int rest (Some after) (λ condition message. rule condition) known has
      (λ lower upper x first second last. next lower x first (subst (λ s. HasKinds (kinds_over unit s) x) same last))
  condition_fits _ rule _ after known typed has next = absurd (none-some after typed)

  met_fits : (v : Var) (stack : List Kind) (x : StateFacts) → IsOperand x Int v → HasKinds (kinds_over unit stack) x
      → FitsStack unit (Some stack) (with_condition v x)
  met_fits (vars.Number e) stack x own has =
      stays_fitting unit stack x (assumed_by (conditions.Assert e) x)
      (assumed_follows (conditions.Assert e) x has.form own.there) has
  met_fits _ stack x own has = elim own.fits [ ]

  call_fits : (call : Option UnitCall) (stack after : List Kind) (known : StateFacts) → is_executed_call call ≡ true
      → IsWithin unit stack
      → kinds.behind_call (shape_of unit) call stack ≡ Some after → HasKinds (kinds_over unit stack) known
      → FitsStack unit (Some after) (behind_call unit call known)
  unfolding behind_call
  call_fits (Some (calls.Assert message)) stack after known executed within typed has =
      condition_fits message left stack after known typed has (λ v x own last. last)
  call_fits (Some (calls.Assume message)) stack after known executed within typed has =
      condition_fits message with_condition stack after known typed has (λ v x own last. met_fits v after x own last)
  call_fits (Some (calls.Callee number)) stack after known executed within typed has =
      called_fits unit (slice_get unit.callees number) stack after known
      (λ info is. found_callee unit.callees number info within.callees is) within.few typed has
  call_fits None stack after known executed within typed has = absurd (none-some after typed)
  call_fits _ stack after known executed within typed has = absurd (false≢true executed)

  popped_fits : (k : Kind) (stack after : List Kind) (known : StateFacts) → stack ≡ after
      → HasKinds (kinds_over unit (k ∷ stack)) known
      → HasKinds (kinds_over unit after) (popped known)
  popped_fits k stack after known same has =
      subst (λ s. HasKinds (kinds_over unit s) (popped known)) same (over_popped unit k stack known has).rest

  test_fits : (test : Test) (stack after : List Kind) (known : StateFacts) → kinds.behind_test test stack ≡ Some after
      → HasKinds (kinds_over unit stack) known → FitsStack unit (Some after) (behind_test test known)
  unfolding behind_test
  test_fits tests.Always stack after known typed has =
      subst (λ s. HasKinds (kinds_over unit s) known) (same_Some stack after typed) has
  test_fits (tests.Cmp op) (b ∷ a ∷ rest) after known typed has =
      popped_fits a rest after (popped known) (when_same (kinds.compares_kinds op a b) rest after typed).1
      (over_popped unit b (a ∷ rest) known has).rest
  test_fits (tests.Cmp op) [] after known typed has = absurd (none-some after typed)
  test_fits (tests.Cmp op) (b ∷ []) after known typed has = absurd (none-some after typed)
  test_fits tests.True (k ∷ rest) after known typed has =
      popped_fits k rest after known (when_same (is_tested k) rest after typed).1 has
  test_fits tests.True [] after known typed has = absurd (none-some after typed)
  test_fits tests.False (k ∷ rest) after known typed has =
      popped_fits k rest after known (when_same (is_tested k) rest after typed).1 has
  test_fits tests.False [] after known typed has = absurd (none-some after typed)

  switch_fits : (stack after : List Kind) (known : StateFacts) → kinds.behind_switch stack ≡ Some after
      → HasKinds (kinds_over unit stack) known → HasKinds (kinds_over unit after) (popped known)
  switch_fits (Int ∷ rest) after known typed has = popped_fits Int rest after known (same_Some rest after typed) has
  switch_fits _ after known typed has = absurd (none-some after typed)

  pop_fits : (stack after : List Kind) (known : StateFacts) → kinds.popped stack ≡ Some after
      → HasKinds (kinds_over unit stack) known → HasKinds (kinds_over unit after) (popped known)
  pop_fits (k ∷ rest) after known typed has = popped_fits k rest after known (same_Some rest after typed) has
  pop_fits [] after known typed has = absurd (none-some after typed)

  dup_fits : (stack after : List Kind) (known : StateFacts) → kinds.duplicated stack ≡ Some after
      → HasKinds (kinds_over unit stack) known → FitsStack unit (Some after) (duplicated known)
  dup_fits (k ∷ rest) after known typed has =
      subst (λ s. FitsStack unit (Some s) (duplicated known)) (same_Some (k ∷ k ∷ rest) after typed)
      (doubled_fits k rest known has)
  dup_fits [] after known typed has = absurd (none-some after typed)

  -- ---- variables of a frame

  load_fits : (types : List Place) (n i : ℕ) (stack after : List Kind) (known : StateFacts)
      → kinds.loaded (slice_get types n) stack ≡ Some after
      → ((place : Place) → slice_get types n ≡ Some place → slice_get (kinds_over unit stack) i ≡ Some (kind_in place))
      → HasKinds (kinds_over unit stack) known → FitsStack unit (Some after) (loaded i known)
  load_fits types n i stack after known typed there has = by (slice_get types n) refl typed
    where
      kind_is : (place : Place) (kind : Kind) → kind_of place ≡ Some kind → kind_in place ≡ kind
      kind_is places.Bool kind is = same_Some Int kind is
      kind_is places.Int kind is = same_Some Int kind is
      kind_is places.Bools kind is = same_Some Bools kind is
      kind_is places.Ints kind is = same_Some Ints kind is
      kind_is places.Void kind is = absurd (none-some kind is)

      with_it : (place : Place) (o : Option Kind) → slice_get types n ≡ Some place → kind_of place ≡ o
          → option_map (λ kind. kind ∷ stack) o ≡ Some after → FitsStack unit (Some after) (loaded i known)
      with_it place None found is same = absurd (none-some after same)
      with_it place (Some kind) found is same =
          subst (λ s. FitsStack unit (Some s) (loaded i known)) (same_Some (kind ∷ stack) after same)
          (loaded_fits i kind stack known has (there place found ∙ ap Some (kind_is place kind is)))

      by : (o : Option Place) → slice_get types n ≡ o → kinds.loaded o stack ≡ Some after
          → FitsStack unit (Some after) (loaded i known)
      by None found same = absurd (none-some after same)
      by (Some place) found same = with_it place (kind_of place) found refl same

  store_fits : (types : List Place) (n i : ℕ) (stack after : List Kind) (known : StateFacts)
      → kinds.stored_kind (slice_get types n) stack ≡ Some after
      → ((place : Place) (rest : List Kind) → slice_get types n ≡ Some place
      → slice_get (kinds_over unit rest) i ≡ Some (kind_in place))
      → HasKinds (kinds_over unit stack) known → FitsStack unit (Some after) (stored i (type_of types n) known)
  store_fits types n i [] after known typed there has = by (slice_get types n) typed
    where
      by : (o : Option Place) → kinds.stored_kind o [] ≡ Some after
          → FitsStack unit (Some after) (stored i (type_of types n) known)
      by None same = absurd (none-some after same)
      by (Some place) same = absurd (none-some after same)
  store_fits types n i (k ∷ rest) after known typed there has = by (slice_get types n) refl typed
    where
      by : (o : Option Place) → slice_get types n ≡ o → kinds.stored_kind o (k ∷ rest) ≡ Some after
          → FitsStack unit (Some after) (stored i (type_of types n) known)
      by None found same = absurd (none-some after same)
      by (Some place) found same =
          let both = when_same (takes place k) rest after same in
          subst (λ s. FitsStack unit (Some s) (stored i (type_of types n) known)) both.1
          (subst (λ p. FitsStack unit (Some rest) (stored i p known))
          (sym (get_or_from_slice_get types n place places.Void found))
          (stored_fits i place k rest known has (there place rest found) both.0))

  -- ---- an operation

  constant_fits : (n : ℤ) (m : ℕ) → OperandFits (ops.Const n) → IsNumber m (constant n)
  constant_fits n m fits = record {
    there = omega arith;
    near = record { least = omega (arith, ints, fits); greatest = omega (arith, ints, fits) };
  }

  -- A return goes on nowhere.
  pub acted_fits : (op : Op) (stack after : List Kind) (known : StateFacts) → OperandFits op → is_executed op ≡ true
      → op ≢ ops.Return → IsWithin unit stack → IsReady op known → kinds.behind (shape_of unit) op stack ≡ Some after
      → HasKinds (kinds_over unit stack) known → FitsStack unit (Some after) (acted unit op known)
  unfolding acted operated negated complemented
  acted_fits ops.Nop stack after known fits executed goes within ready typed has =
      subst (λ s. HasKinds (kinds_over unit s) known) (same_Some stack after typed) has
  acted_fits (ops.LoadArg n) stack after known fits executed goes within ready typed has =
      load_fits unit.args n (arg_place unit n) stack after known typed (λ place is. arg_kind unit stack n place is) has
  acted_fits (ops.StoreArg n) stack after known fits executed goes within ready typed has =
      store_fits unit.args n (arg_place unit n) stack after known typed
      (λ place rest is. arg_kind unit rest n place is) has
  acted_fits (ops.LoadLocal n) stack after known fits executed goes within ready typed has =
      load_fits unit.locals n (local_place unit n) stack after known typed
      (λ place is. local_kind unit stack n place is) has
  acted_fits (ops.StoreLocal n) stack after known fits executed goes within ready typed has =
      store_fits unit.locals n (local_place unit n) stack after known typed
      (λ place rest is. local_kind unit rest n place is) has
  acted_fits ops.Null stack after known fits executed goes within ready typed has =
      subst (λ s. HasKinds (kinds_over unit s) (pushed known (vars.Reference 0)))
      (same_Some (NullRef ∷ stack) after typed)
      (over_pushed unit NullRef stack (vars.Reference 0) known has (record { there = omega arith; fits = refl }))
  acted_fits (ops.Const n) stack after known fits executed goes within ready typed has =
      subst (λ s. HasKinds (kinds_over unit s) (pushed known (vars.Number (constant n))))
      (same_Some (Int ∷ stack) after typed)
      (over_pushed unit Int stack (vars.Number (constant n)) known has
      (record { there = constant_fits n (length known.facts.ranges) fits; fits = tt }))
  acted_fits (ops.Text token) stack after known fits executed goes within ready typed has =
      subst (λ s. HasKinds (kinds_over unit s) (pushed known vars.Text)) (same_Some (Text ∷ stack) after typed)
      (over_pushed unit Text stack vars.Text known has (record { there = tt; fits = tt }))
  acted_fits ops.Dup stack after known fits executed goes within ready typed has = dup_fits stack after known typed has
  acted_fits ops.Pop stack after known fits executed goes within ready typed has = pop_fits stack after known typed has
  acted_fits (ops.Call number) stack after known fits executed goes within ready typed has =
      call_fits (unit_call number) stack after known executed within typed has
  acted_fits ops.Return stack after known fits executed goes within ready typed has = absurd (goes refl)
  acted_fits (ops.Branch test target) stack after known fits executed goes within ready typed has =
      test_fits test stack after known typed has
  acted_fits (ops.Switch targets) stack after known fits executed goes within ready typed has =
      switch_fits stack after known typed has
  acted_fits (ops.Bin op) stack after known fits executed goes within ready typed has =
      operated_fits op (comparison_of op) stack after known refl typed has
  acted_fits ops.Neg stack after known fits executed goes within ready typed has =
      taken_number (pos 0) stack after known (λ m. constant_zero m) typed has
  acted_fits ops.Not stack after known fits executed goes within ready typed has =
      taken_number (negsuc 0) stack after known (λ m. constant_minus m) typed has
  acted_fits ops.ConvI4 stack after known fits executed goes within ready typed has =
      converted_fits stack after known typed has
  acted_fits (ops.NewArray number) stack after known fits executed goes within ready typed has =
      created_fits (array_place number) stack after known (arrays_are number) typed has
  acted_fits ops.Length stack after known fits executed goes within ready typed has =
      length_fits stack after known typed has
  acted_fits (ops.LoadElem place) stack after known fits executed goes within ready typed has =
      read_fits place stack after known typed has
  acted_fits (ops.StoreElem place) stack after known fits executed goes within ready typed has =
      written_fits place stack after known typed has
  acted_fits (ops.LoadAddr number) stack after known fits executed goes within ready typed has =
      taken_fit (array_place number) stack after known (arrays_are number) ready typed has
  acted_fits (ops.LoadInd place) stack after known fits executed goes within ready typed has =
      read_at_fits place stack after known typed has
  acted_fits (ops.StoreInd place) stack after known fits executed goes within ready typed has =
      written_at_fits place stack after known typed has
