-- Behind what is assumed the form is kept, and what was there is there still.
use Rattle.std.proofs.Common.{◌≡◌, ℕ, zero, suc, ◌==◌, ◌-◌, ◌≤◌, ℤ, pos, negsuc, Bool, true, List, [], ◌∷◌, Option, Some, None, length, refl, sym, ap, subst, ◌∙◌, arith}
use Rattle.std.specs.Prelude.{map, set, slice_get, Ok, if◌then◌else◌}
use Rattle.std.specs.List.{AllByRecursion}
use Rattle.std.specs.Option.{option_and_then, option_map}
use Rattle.std.proofs.lemmas.Bool.{cond_both}
use Rattle.std.proofs.lemmas.List.{length-map}
use Rattle.alias_facts.specs.declared.nullness.Nullness.{Nullness}
use Rattle.cil_model.specs.Arithmetic.{LEAST}
use Rattle.cil_model.specs.declared.instruction.CmpOp.{CmpOp}
use Rattle.cil_model.specs.declared.instruction.CmpOp.TheVariants as comparisons
use Rattle.domain_api.specs.declared.expr.Expr.{Expr}
use Rattle.frame_names.specs.declared.reference.Reference.{Reference}
use Rattle.frame_names.specs.declared.var.Var.{Var}
use Rattle.frame_names.specs.declared.var.Var.TheVariants as vars
use Rattle.number_facts.proofs.Forms.{form_where_ok}
use Rattle.number_facts.specs.Assume as numbers
use Rattle.number_facts.specs.Facts.{Facts, IsNamed}
use Rattle.number_facts.specs.Holds.{AreNamed, KeepsForm, Names, NamesOwn}
use Rattle.number_spans.specs.Constants.{constant}
use Rattle.symbolic_values.specs.Names.{same_flag}
use Rattle.symbolic_values.specs.declared.def.Def.{Def}
use Rattle.symbolic_values.specs.declared.def.Def.TheVariants.{Eq, Lt, LtUn, NullTest, Sub}
use Rattle.state_facts.proofs.AssumptionForms.{assumed_form, length_number}
use Rattle.state_facts.proofs.Growing.{Formed, number_stays, var_stays}
use Rattle.state_facts.specs.Assuming.{assumed, contradicts, definition_at, following, is_equality, null_if, symbol_told, told_by, told_of, with_facts, with_null, with_null_tested, with_nullness, with_steps, with_test, with_told}
use Rattle.state_facts.specs.Comparing.{null_tested}
use Rattle.state_facts.specs.Forms.{HasForm, HasNumber, HasReference, HasVar}
use Rattle.state_facts.specs.Moves.{IsNamedNumber}
use Rattle.state_facts.specs.StateFacts.{StateFacts, State, length_at, nullness_at, reference_at}
use Rattle.state_obligations.specs.Assumed.{amount, assumed_by, compared, differing, is_just, no_division_overflow, not_negative}
use Rattle.state_obligations.specs.Conditions.{AreThere, IsThere}
use Rattle.state_obligations.specs.Following.{StaysThere, StaysThereIn, shape_of}
use Rattle.state_obligations.specs.declared.condition.Condition.{Condition}
use Rattle.state_obligations.specs.declared.condition.Condition.TheVariants as conditions

-- ---- what is there stays

pub stays_itself : (known : StateFacts) → HasForm known → StaysThere known known
stays_itself known form = record { form = form; symbols = omega arith; variables = refl; references = refl }

pub stays_on : (before between after : StateFacts) → StaysThere before between → StaysThere between after
    → StaysThere before after
stays_on before between after first rest =
    let more : length before.facts.ranges ≤ length between.facts.ranges = first.symbols in
    let again : length between.facts.ranges ≤ length after.facts.ranges = rest.symbols in
    record {
      form = rest.form;
      symbols = omega (arith, more, again);
      variables = rest.variables ∙ first.variables;
      references = rest.references ∙ first.references;
    }

stays_on_in : (before between : StateFacts) (o : State) → StaysThere before between → StaysThereIn between o
    → StaysThereIn before o
stays_on_in before between None first rest = tt
stays_on_in before between (Some after) first rest = stays_on before between after first rest

pub then_stays : (known : StateFacts) (o : State) (f : StateFacts → State) → StaysThereIn known o
    → ((x : StateFacts) → StaysThere known x → StaysThereIn x (f x)) → StaysThereIn known (option_and_then f o)
then_stays known None f stays rest = tt
then_stays known (Some x) f stays rest = stays_on_in known x (f x) stays (rest x stays)

pub as_many : (before after : StateFacts) → StaysThere before after → length after.references ≡ length before.references
as_many before after stays =
    sym (length-map after.references shape_of) ∙ ap (λ (l : List _). length l) stays.references
    ∙ length-map before.references shape_of

pub number_still : (before after : StateFacts) (e : Expr) → StaysThere before after → HasNumber before e
    → HasNumber after e
number_still before after e stays there =
    number_stays (length before.facts.ranges) (length after.facts.ranges) e stays.symbols there

pub reference_still : (before after : StateFacts) (r : ℕ) → StaysThere before after → HasReference before r
    → HasReference after r
reference_still before after r stays there = let same = as_many before after stays in omega (arith, same, there)

pub var_still : (before after : StateFacts) (v : Var) → StaysThere before after → HasVar before v → HasVar after v
var_still before after v stays there =
    let same = as_many before after stays in
    var_stays (length before.facts.ranges) (length after.facts.ranges) (length before.references)
    (length after.references) v stays.symbols (omega (arith, same)) there

pub condition_still : (before after : StateFacts) (c : Condition) → StaysThere before after → IsThere before c
    → IsThere after c
condition_still before after (conditions.NullUse r) stays there = reference_still before after r stays there
condition_still before after (conditions.Lower i) stays there = number_still before after i stays there
condition_still before after (conditions.Upper r i) stays there =
    (reference_still before after r stays there.0, number_still before after i stays there.1)
condition_still before after (conditions.ArraySize n) stays there = number_still before after n stays there
condition_still before after (conditions.Shift n) stays there = number_still before after n stays there
condition_still before after (conditions.DivZero b) stays there = number_still before after b stays there
condition_still before after (conditions.DivOverflow a b) stays there =
    (number_still before after a stays there.0, number_still before after b stays there.1)
condition_still before after (conditions.Overflow op a b) stays there =
    (number_still before after a stays there.0, number_still before after b stays there.1)
condition_still before after (conditions.Assert e) stays there = number_still before after e stays there

pub conditions_still : (before after : StateFacts) (cs : List Condition) → StaysThere before after → AreThere before cs
    → AreThere after cs
conditions_still before after [] stays there = tt
conditions_still before after (c ∷ cs) stays there =
    (condition_still before after c stays there.0, conditions_still before after cs stays there.1)

-- ---- references

set_same : {X Y : Type 0} (f : X → Y) (xs : List X) (i : ℕ) (x y : X) → slice_get xs i ≡ Some x → f y ≡ f x
    → map f (set xs i y) ≡ map f xs
set_same f [] i x y is same = refl
set_same f (z ∷ xs) zero x y is same = ap (λ h. h ∷ map f xs) (same ∙ ap f (sym (first z x is)))
  where
    first : {X : Type 0} (a b : X) → Some a ≡ Some b → a ≡ b
    first a b e = cc
set_same f (z ∷ xs) (suc i) x y is same = ap (λ t. f z ∷ t) (set_same f xs i x y is same)

told_same : (r : ℕ) (told : Nullness) (known : StateFacts) (x : Reference)
    → reference_at known.references r ≡ Some x
    → map shape_of (set known.references (r - 1) (record x { nullness = told })) ≡ map shape_of known.references
unfolding reference_at
told_same zero told known x is = absurd cc
told_same (suc r) told known x is =
    let before : suc r - 1 ≡ r = omega arith in
    rw before (set_same shape_of known.references r x (record x { nullness = told }) is refl)

-- ---- steps

-- What is known of numbers names what is there, no symbol is lost, and of variables and references nothing but what is
-- known of null has changed.
record IsAfter (before after : StateFacts) : Type 0 where
  named : AreNamed after.facts
  symbols : length before.facts.ranges ≤ length after.facts.ranges
  variables : after.variables ≡ before.variables
  references : map shape_of after.references ≡ map shape_of before.references

abbrev IsAfterIn : StateFacts → State → Type 0
IsAfterIn before None = Unit {0}
IsAfterIn before (Some after) = IsAfter before after

after_itself : (known : StateFacts) → AreNamed known.facts → IsAfter known known
after_itself known named = record { named = named; symbols = omega arith; variables = refl; references = refl }

after_on : (before between : StateFacts) (o : State) → IsAfter before between → IsAfterIn between o → IsAfterIn before o
after_on before between None first rest = tt
after_on before between (Some after) first rest =
    let more : length before.facts.ranges ≤ length between.facts.ranges = first.symbols in
    let again : length between.facts.ranges ≤ length after.facts.ranges = rest.symbols in
    record {
      named = rest.named;
      symbols = omega (arith, more, again);
      variables = rest.variables ∙ first.variables;
      references = rest.references ∙ first.references;
    }

then_after : (known : StateFacts) (o : State) (f : StateFacts → State) → IsAfterIn known o
    → ((x : StateFacts) → IsAfter known x → IsAfterIn x (f x))
    → IsAfterIn known (option_and_then f o)
then_after known None f after rest = tt
then_after known (Some x) f after rest = after_on known x (f x) after (rest x after)

told_after : (r : ℕ) (told : Nullness) (known : StateFacts) (o : Option Reference) → AreNamed known.facts
    → reference_at known.references r ≡ o
    → IsAfter known (with_told known r told o)
told_after r told known None named is = after_itself known named
told_after r told known (Some x) named is =
    record { named = named; symbols = omega arith; variables = refl; references = told_same r told known x is }

null_after : (r : ℕ) (is : Bool) (known : StateFacts) → AreNamed known.facts → IsAfterIn known (with_null r is known)
unfolding with_null with_nullness
null_after r is known named =
    cond_both (contradicts (nullness_at known r) is) _ _ (IsAfterIn known) (λ e. tt)
    (λ e. told_after r (null_if is) known (reference_at known.references r) named refl)

facts_after : (known : StateFacts) (o : Option Facts) → AreNamed known.facts
    → ((f : Facts) → o ≡ Some f → KeepsForm known.facts f)
    → IsAfterIn known (option_map (with_facts known) o)
facts_after known None named kept = tt
facts_after known (Some f) named kept =
    let form =
    kept f refl in record { named = form.named named; symbols = form.there; variables = refl; references = refl }

numbers_after : (op : CmpOp) (a b : Expr) (holds : Bool) (known : StateFacts) → AreNamed known.facts
    → IsNamed known.facts a → IsNamed known.facts b
    → IsAfterIn known (option_map (with_facts known) (numbers.assumed op known.facts a b holds))
numbers_after op a b holds known named first second =
    facts_after known (numbers.assumed op known.facts a b holds) named
    (λ f is. form_where_ok {E = ℕ} op known.facts a b holds (Ok true) f first second (λ reached. is) refl)

names_more : (m n : ℕ) (def : Def) → m ≤ n → Names m def → Names n def
names_more m n (Eq a b) more names = (omega (arith, more, names.0), omega (arith, more, names.1))
names_more m n (Lt a b) more names = (omega (arith, more, names.0), omega (arith, more, names.1))
names_more m n (LtUn a b) more names = (omega (arith, more, names.0), omega (arith, more, names.1))
names_more m n (NullTest r is) more names = tt
names_more m n (Sub a b) more names = (omega (arith, more, names.0), omega (arith, more, names.1))

-- So many steps, from what a definition says.
abbrev AreSteps : ℕ → Type 0
AreSteps n = (so : Bool) (def : Def) (known : StateFacts) → AreNamed known.facts → Names (length known.facts.ranges) def
    → IsAfterIn known (with_steps n (told_by so def) known)

no_steps : (n : ℕ) (known : StateFacts) → AreNamed known.facts → IsAfterIn known (with_steps n None known)
unfolding with_steps
no_steps zero known named = after_itself known named
no_steps (suc n) known named = after_itself known named

-- what a definition that is found says
found_after : (n : ℕ) (definitions : List (ℕ × Def)) (s : ℕ) (so : Bool) (m : ℕ) (known : StateFacts) → AreSteps n
    → AllByRecursion (NamesOwn m) definitions
    → m ≤ length known.facts.ranges → AreNamed known.facts
    → IsAfterIn known (with_steps n (option_and_then (told_by so) (definition_at definitions s)) known)
found_after n [] s so m known steps all more named = no_steps n known named
found_after n (d ∷ definitions) s so m known steps all more named =
    cond_both (d.0 == s) _ _ (λ (o : Option Def). IsAfterIn known (with_steps n (option_and_then (told_by so) o) known))
    (λ e. steps so d.1 known named (names_more m (length known.facts.ranges) d.1 more all.0.1))
    (λ e. found_after n definitions s so m known steps all.1 more named)

-- what follows from what is told of a symbol
following_after : (n : ℕ) (before : Facts) (o : Option (ℕ × Bool)) (known : StateFacts) → AreSteps n → AreNamed before
    → length before.ranges ≤ length known.facts.ranges → AreNamed known.facts
    → IsAfterIn known (with_steps n (option_and_then (told_of before.definitions) o) known)
following_after n before None known steps before_named more named = no_steps n known named
following_after n before (Some t) known steps before_named more named =
    found_after n before.definitions t.0 t.1 (length before.ranges) known steps before_named.definitions more named

-- a comparison, and what follows from it
compared_after : (n : ℕ) (op : CmpOp) (a b : Expr) (holds : Bool) (known : StateFacts) → AreSteps n
    → AreNamed known.facts → IsNamed known.facts a
    → IsNamed known.facts b
    → IsAfterIn known
    (option_and_then
    (with_steps n
    (option_and_then (told_of known.facts.definitions)
    (symbol_told known.facts (if holds then op else numbers.contrary op) a b)))
    (option_map (with_facts known) (numbers.assumed op known.facts a b holds)))
compared_after n op a b holds known steps named first second =
    then_after known (option_map (with_facts known) (numbers.assumed op known.facts a b holds)) _
    (numbers_after op a b holds known named first second)
    (λ x after.
    following_after n known.facts
    (symbol_told known.facts (if holds then op else numbers.contrary op) a b) x steps named after.symbols after.named)

all_steps : (n : ℕ) → AreSteps n
unfolding with_steps with_test following
all_steps zero so def known named names = after_itself known named
all_steps (suc n) so (Eq a b) known named names =
    compared_after n comparisons.Eq a b so known (all_steps n) named names.0 names.1
all_steps (suc n) so (Lt a b) known named names =
    compared_after n comparisons.Lt a b so known (all_steps n) named names.0 names.1
all_steps (suc n) so (LtUn a b) known named names =
    compared_after n comparisons.LtUn a b so known (all_steps n) named names.0 names.1
all_steps (suc n) so (NullTest r is) known named names =
    then_after known (with_null r (same_flag is so) known) (with_steps n None)
    (null_after r (same_flag is so) known named) (λ x after. no_steps n x after.named)
all_steps (suc n) so (Sub a b) known named names = after_itself known named

-- ---- comparisons

numbers_compared : (op : CmpOp) (a b : Expr) (holds : Bool) (known : StateFacts) → AreNamed known.facts
    → IsNamed known.facts a → IsNamed known.facts b
    → IsAfterIn known (assumed op (vars.Number a) (vars.Number b) holds known)
unfolding assumed with_steps with_test following
numbers_compared op a b holds known named first second =
    compared_after 8 op a b holds known (all_steps 8) named first second

both_stay : (known : StateFacts) (o : State) → Formed o → IsAfterIn known o → StaysThereIn known o
both_stay known None formed after = tt
both_stay known (Some x) formed after =
    record { form = formed; symbols = after.symbols; variables = after.variables; references = after.references }

same_after : (is : Bool) (known : StateFacts) (o : Option ℕ) → AreNamed known.facts
    → IsAfterIn known (with_null_tested o is known)
same_after is known None named = after_itself known named
same_after is known (Some r) named = null_after r is known named

any_after : (op : CmpOp) (a b : Var) (holds : Bool) (known : StateFacts) → AreNamed known.facts → IsNamedNumber known a
    → IsNamedNumber known b
    → IsAfterIn known (assumed op a b holds known)
unfolding assumed
any_after op (vars.Number a) (vars.Number b) holds known named first second =
    numbers_compared op a b holds known named first second
any_after op (vars.Number a) (vars.Reference q) holds known named first second = after_itself known named
any_after op (vars.Number a) vars.Text holds known named first second = after_itself known named
any_after op (vars.Reference r) (vars.Number b) holds known named first second = after_itself known named
any_after op (vars.Reference r) (vars.Reference q) holds known named first second =
    same_after (same_flag (is_equality op) holds) known (null_tested r q) named
any_after op (vars.Reference r) vars.Text holds known named first second = after_itself known named
any_after op vars.Text b holds known named first second = after_itself known named
any_after op (vars.Number a) (vars.Address q f) holds known named first second = after_itself known named
any_after op (vars.Reference r) (vars.Address q f) holds known named first second = after_itself known named
any_after op (vars.Address r e) b holds known named first second = after_itself known named

-- Where a comparison is assumed, what was there is there still.
pub comparison_follows : (op : CmpOp) (a b : Var) (holds : Bool) (known : StateFacts) → HasForm known
    → IsNamedNumber known a → IsNamedNumber known b
    → StaysThereIn known (assumed op a b holds known)
comparison_follows op a b holds known form first second =
    both_stay known (assumed op a b holds known) (assumed_form op a b holds known form first second)
    (any_after op a b holds known form.named first second)

-- ---- conditions

differing_follows : (e : Expr) (n : ℤ) (known : StateFacts) → HasForm known → HasNumber known e
    → StaysThereIn known (differing e n known)
differing_follows e n known form there =
    comparison_follows comparisons.NeUn (vars.Number e) (vars.Number (constant n)) true known form there.there
    (omega arith)

pub not_negative_follows : (e : Expr) (known : StateFacts) → HasForm known → HasNumber known e
    → StaysThereIn known (not_negative e known)
not_negative_follows e known form there =
    comparison_follows comparisons.Le (vars.Number (constant (pos 0))) (vars.Number e) true known form
    (omega arith) there.there

-- The form is kept, and what a number names is there.
pub record IsReadyFor (known : StateFacts) (e : Expr) : Type 0 where
  pub form : HasForm known
  pub named : IsNamed known.facts e

-- So it is where the number was assumed not to be negative.
pub ready_behind : (e : Expr) (known after : StateFacts) → HasForm known → IsNamed known.facts e
    → not_negative e known ≡ Some after → IsReadyFor after e
ready_behind e known after form there is =
    behind
    (subst (StaysThereIn known) is
    (comparison_follows comparisons.Le (vars.Number (constant (pos 0))) (vars.Number e) true known form
    (omega arith) there))
  where
    behind : StaysThere known after → IsReadyFor after e
    behind stays =
        let more : length known.facts.ranges ≤ length after.facts.ranges =
        stays.symbols in record { form = stays.form; named = omega (arith, more, there) }

amount_follows : (n : Expr) (known : StateFacts) → HasForm known → HasNumber known n
    → StaysThereIn known (amount n known)
amount_follows n known form there =
    then_stays known (not_negative n known) (compared comparisons.Le n (constant (pos 31)))
    (not_negative_follows n known form there)
    (λ x stays.
    comparison_follows comparisons.Le (vars.Number n) (vars.Number (constant (pos 31))) true x stays.form
    (number_still known x n stays there).there (omega arith))

division_follows : (a b : Expr) (known : StateFacts) → HasForm known → HasNumber known a → HasNumber known b
    → StaysThereIn known (no_division_overflow a b known)
unfolding no_division_overflow
division_follows a b known form first second =
    cond_both (is_just a LEAST) _ _ (StaysThereIn known) (λ e. differing_follows b (negsuc 0) known form second)
    (λ e. cond_both (is_just b (negsuc 0)) _ _ (StaysThereIn known) (λ f. differing_follows a LEAST known form first)
    (λ f. stays_itself known form))

-- Where a condition is assumed, what was there is there still.
pub assumed_follows : (c : Condition) (known : StateFacts) → HasForm known → IsThere known c
    → StaysThereIn known (assumed_by c known)
unfolding assumed_by
assumed_follows (conditions.NullUse r) known form there =
    comparison_follows comparisons.NeUn (vars.Reference r) (vars.Reference 0) true known form tt tt
assumed_follows (conditions.Lower i) known form there = not_negative_follows i known form there
assumed_follows (conditions.Upper r i) known form there =
    comparison_follows comparisons.Lt (vars.Number i) (vars.Number (length_at known r)) true known form there.1.there
    (length_number known r form there.0).there
assumed_follows (conditions.ArraySize n) known form there = not_negative_follows n known form there
assumed_follows (conditions.Shift n) known form there = amount_follows n known form there
assumed_follows (conditions.DivZero b) known form there = differing_follows b (pos 0) known form there
assumed_follows (conditions.DivOverflow a b) known form there = division_follows a b known form there.0 there.1
assumed_follows (conditions.Overflow op a b) known form there = stays_itself known form
assumed_follows (conditions.Assert e) known form there = differing_follows e (pos 0) known form there
