-- What comparisons keep: what is pushed is what the machine pushes.
use Rattle.std.proofs.Common.{◌≡◌, ℕ, ◌==◌, ◌+◌, ◌≤◌, ℤ, pos, ◌+ℤ◌, Bool, true, false, ◌&&◌, ◌||◌, Option, Some, None, List, [], ◌∷◌, ◌++◌, length, FitsSigned, w32, ◌⊎◌, inl, inr, refl, sym, ap, subst, ◌∙◌, arith}
use Rattle.std.specs.Prelude.{Ok}
use Rattle.std.specs.Option.{ForSome}
use Rattle.std.proofs.lemmas.Bool.{and_parts, cases_Bool, cond_both, eqb-true, false≢true}
use Rattle.std.proofs.lemmas.Int.{ints}
use Rattle.alias_facts.specs.Arrays.{is_no_array}
use Rattle.alias_facts.specs.NullnessOf.{Agrees}
use Rattle.alias_facts.specs.declared.nullness.Nullness.{Nullness}
use Rattle.alias_facts.specs.declared.nullness.Nullness.TheVariants.{May, NotNull, Null}
use Rattle.cil_model.specs.Arithmetic.{compares, truth}
use Rattle.cil_model.specs.Comparisons.{comparison_of, compares_values, number_of, pushed_comparison, reference_of, same_reference}
use Rattle.cil_model.specs.Values.{Heap, IsValue}
use Rattle.cil_model.specs.declared.instruction.BinOp.{BinOp}
use Rattle.cil_model.specs.declared.instruction.BinOp.TheVariants as operators
use Rattle.cil_model.specs.declared.instruction.CmpOp.{CmpOp}
use Rattle.cil_model.specs.declared.instruction.CmpOp.TheVariants as comparisons
use Rattle.cil_model.specs.declared.machine.Value.{Value}
use Rattle.cil_model.specs.declared.machine.Value.TheVariants as values
use Rattle.domain_api.specs.declared.expr.Expr.{Expr}
use Rattle.interval_domain.specs.Interval.{between}
use Rattle.number_facts.proofs.Knowing.{zero_number}
use Rattle.number_facts.proofs.NewSymbols.{noted_holds, with_number as with_new_number}
use Rattle.number_facts.proofs.Truths.{truth_where_ok}
use Rattle.number_facts.specs.Comparisons.{compared}
use Rattle.number_facts.specs.Fresh.{noted}
use Rattle.number_facts.specs.declared.relation.Relation.TheVariants.{Is}
use Rattle.number_spans.specs.Stored.{Allows}
use Rattle.symbolic_values.specs.Names.{same_flag}
use Rattle.symbolic_values.specs.Worth.{worth}
use Rattle.symbolic_values.specs.declared.def.Def.TheVariants.{NullTest}
use Rattle.state_facts.specs.Comparing.{is_array, is_equality, is_not_null, null_known, null_tested, same_known, truth_expr, with_comparison, with_defined, with_known, with_null_known, with_null_test, with_same, with_same_known, with_tested, with_truth}
use Rattle.state_facts.specs.Forms.{HasForm, IsVar}
use Rattle.state_facts.specs.Holds.{HasValue, HoldsBy, address_of}
use Rattle.state_facts.specs.Keeps.{HoldsOn, KeepsComparison}
use Rattle.state_facts.specs.StateFacts.{StateFacts, State, are_apart, nullness_at}
use Rattle.state_facts.specs.States as calls
use Rattle.frame_names.specs.declared.var.Var.{Var}
use Rattle.frame_names.specs.declared.var.Var.TheVariants as vars
use Rattle.state_facts.proofs.Agreeing.{have_pushed, made_holds}
use Rattle.state_facts.proofs.ArraysHold.{are_apart_differ, nullness_agrees}
use Rattle.state_facts.proofs.ComparisonForms.{tested_there}
use Rattle.state_facts.proofs.MovesHold.{number_keeps, push_keeps, same_choice}

-- ---- numbers

some_same : {X : Type 0} (x y : X) → Some x ≡ Some y → x ≡ y
some_same x y is = cc

none_some : {X : Type 0} (x : X) → None ≡ Some x → ⊥
none_some x is = cc

-- a number of the machine is an int32
pub number_fits : (heap : Heap) (value : Value) (n : ℤ) → IsValue heap value → number_of value ≡ Some n → FitsSigned w32 n
number_fits heap (values.Int m) n is has = subst (FitsSigned w32) (some_same m n has) is
number_fits heap (values.Native m) n is has = subst (FitsSigned w32) (some_same (pos m) n has) (omega (arith, ints, is))
number_fits heap values.Null n is has = absurd (none_some n has)
number_fits heap (values.Array i) n is has = absurd (none_some n has)
number_fits heap (values.Addr a k) n is has = absurd (none_some n has)
number_fits heap values.Text n is has = absurd (none_some n has)

pushed_is : (cmp : CmpOp) (x y : Value) (m : ℤ) → number_of x ≡ Some m → pushed_comparison cmp x y ≡ compares_values cmp x y
pushed_is comparisons.Eq x y m has = refl
pushed_is comparisons.Ge x y m has = refl
pushed_is comparisons.Gt x y m has = refl
pushed_is comparisons.Le x y m has = refl
pushed_is comparisons.Lt x y m has = refl
pushed_is comparisons.NeUn x y m has = refl
pushed_is comparisons.GeUn x y m has = refl
pushed_is comparisons.LeUn x y m has = refl
pushed_is comparisons.LtUn x y m has = refl
pushed_is comparisons.GtUn (values.Int n) y m has = refl
pushed_is comparisons.GtUn (values.Native n) y m has = refl
pushed_is comparisons.GtUn (values.Addr a k) y m has = refl
pushed_is comparisons.GtUn values.Text y m has = refl
pushed_is comparisons.GtUn values.Null y m has = absurd (none_some m has)
pushed_is comparisons.GtUn (values.Array i) y m has = absurd (none_some m has)

pub numbers_compare : (cmp : CmpOp) (x y : Value) (m n : ℤ) → number_of x ≡ Some m → number_of y ≡ Some n → compares_values cmp x y ≡ Some (compares cmp m n)
numbers_compare cmp x y m n first second = rw (first, second) refl

pushed_so : (cmp : CmpOp) (x y : Value) (m n : ℤ) (so : Bool) → number_of x ≡ Some m → number_of y ≡ Some n → pushed_comparison cmp x y ≡ Some so → compares cmp m n ≡ so
pushed_so cmp x y m n so first second is = some_same _ so (sym (numbers_compare cmp x y m n first second) ∙ sym (pushed_is cmp x y m first) ∙ is)

truth_keeps : (op : BinOp) (a b : Expr) (known : StateFacts) (vs : List Value) (heap : Heap) (number : ℕ → ℤ) (array : ℕ → Option ℕ) (cmp : CmpOp) (so : Bool)
    → HasForm known → HoldsBy known vs heap number array → a.sym ≤ length known.facts.ranges → b.sym ≤ length known.facts.ranges
    → FitsSigned w32 (worth number a) → FitsSigned w32 (worth number b) → comparison_of op ≡ Some cmp → compares cmp (worth number a) (worth number b) ≡ so
    → HoldsOn (Some known) (Some (with_truth op a b known)) (vs ++ values.Int (truth so) ∷ []) heap number array
unfolding with_truth
truth_keeps op a b known vs heap number array cmp so form holds first second one two is comes =
    let made = compared op known.facts a b in
    let more = truth_where_ok {E = ℕ} op known.facts a b (Ok made.expr) made.facts first second refl refl number (λ r. is_no_array (array r)) cmp form.named is holds.facts one two in
    made_holds known made (known.variables ++ vars.Number made.expr ∷ []) vs (vs ++ values.Int (truth so) ∷ []) heap number array
    (truth (compares cmp (worth number a) (worth number b))) form holds more
    (λ later have worth_is. have_pushed later array known.variables vs (vars.Number made.expr) (values.Int (truth so)) have
    (ap (λ (t : Bool). Some (truth t)) (sym comes) ∙ ap (λ (n : ℤ). Some n) (sym worth_is)))

-- ---- references

-- The value of a reference: null, or an array.
abbrev pub reference_value : Option ℕ → Value
reference_value None = values.Null
reference_value (Some i) = values.Array i

pub value_of_reference : (value : Value) (a : Option ℕ) → reference_of value ≡ Some a → value ≡ reference_value a
value_of_reference values.Null None is = refl
value_of_reference values.Null (Some j) is = absurd cc
value_of_reference (values.Array i) None is = absurd cc
value_of_reference (values.Array i) (Some j) is = cc
value_of_reference (values.Int n) a is = absurd (none_some a is)
value_of_reference (values.Native n) a is = absurd (none_some a is)
value_of_reference (values.Addr b n) a is = absurd (none_some a is)
value_of_reference values.Text a is = absurd (none_some a is)

flag_true : (so b : Bool) → Some b ≡ Some so → so ≡ same_flag b true
flag_true so true is = sym (some_same true so is)
flag_true so false is = sym (some_same false so is)

equal_so : (a b : Option ℕ) (so : Bool) → pushed_comparison comparisons.Eq (reference_value a) (reference_value b) ≡ Some so → so ≡ same_flag (same_reference a b) true
equal_so None None so is = flag_true so _ is
equal_so None (Some j) so is = flag_true so _ is
equal_so (Some i) None so is = flag_true so _ is
equal_so (Some i) (Some j) so is = flag_true so _ is

above_so : (a b : Option ℕ) (so : Bool) → pushed_comparison comparisons.GtUn (reference_value a) (reference_value b) ≡ Some so → so ≡ same_flag (same_reference a b) false
above_so None None so is = sym (some_same _ so is)
above_so (Some i) None so is = sym (some_same _ so is)
above_so None (Some j) so is = absurd (none_some so is)
above_so (Some i) (Some j) so is = absurd (none_some so is)

greater_none : (a b : Option ℕ) (so : Bool) → pushed_comparison comparisons.Gt (reference_value a) (reference_value b) ≡ Some so → ⊥
greater_none None None so is = none_some so is
greater_none None (Some j) so is = none_some so is
greater_none (Some i) None so is = none_some so is
greater_none (Some i) (Some j) so is = none_some so is

less_none : (a b : Option ℕ) (so : Bool) → pushed_comparison comparisons.Lt (reference_value a) (reference_value b) ≡ Some so → ⊥
less_none None None so is = none_some so is
less_none None (Some j) so is = none_some so is
less_none (Some i) None so is = none_some so is
less_none (Some i) (Some j) so is = none_some so is

below_none : (a b : Option ℕ) (so : Bool) → pushed_comparison comparisons.LtUn (reference_value a) (reference_value b) ≡ Some so → ⊥
below_none None None so is = none_some so is
below_none None (Some j) so is = none_some so is
below_none (Some i) None so is = none_some so is
below_none (Some i) (Some j) so is = none_some so is

-- what the machine pushes of two references, by the comparison
truth_of_references : (op : BinOp) (cmp : CmpOp) (a b : Option ℕ) (so : Bool) → comparison_of op ≡ Some cmp
    → pushed_comparison cmp (reference_value a) (reference_value b) ≡ Some so → so ≡ same_flag (same_reference a b) (is_equality op)
truth_of_references operators.Ceq cmp a b so is pushes = equal_so a b so (subst (λ (c : CmpOp). pushed_comparison c (reference_value a) (reference_value b) ≡ Some so) (sym (some_same _ cmp is)) pushes)
truth_of_references operators.Cgt cmp a b so is pushes = absurd (greater_none a b so (subst (λ (c : CmpOp). pushed_comparison c (reference_value a) (reference_value b) ≡ Some so) (sym (some_same _ cmp is)) pushes))
truth_of_references operators.CgtUn cmp a b so is pushes = above_so a b so (subst (λ (c : CmpOp). pushed_comparison c (reference_value a) (reference_value b) ≡ Some so) (sym (some_same _ cmp is)) pushes)
truth_of_references operators.Clt cmp a b so is pushes = absurd (less_none a b so (subst (λ (c : CmpOp). pushed_comparison c (reference_value a) (reference_value b) ≡ Some so) (sym (some_same _ cmp is)) pushes))
truth_of_references operators.CltUn cmp a b so is pushes = absurd (below_none a b so (subst (λ (c : CmpOp). pushed_comparison c (reference_value a) (reference_value b) ≡ Some so) (sym (some_same _ cmp is)) pushes))
truth_of_references operators.Add cmp a b so is pushes = absurd (none_some cmp is)
truth_of_references operators.Sub cmp a b so is pushes = absurd (none_some cmp is)
truth_of_references operators.Mul cmp a b so is pushes = absurd (none_some cmp is)
truth_of_references operators.Div cmp a b so is pushes = absurd (none_some cmp is)
truth_of_references operators.DivUn cmp a b so is pushes = absurd (none_some cmp is)
truth_of_references operators.Rem cmp a b so is pushes = absurd (none_some cmp is)
truth_of_references operators.RemUn cmp a b so is pushes = absurd (none_some cmp is)
truth_of_references operators.And cmp a b so is pushes = absurd (none_some cmp is)
truth_of_references operators.Or cmp a b so is pushes = absurd (none_some cmp is)
truth_of_references operators.Xor cmp a b so is pushes = absurd (none_some cmp is)
truth_of_references operators.Shl cmp a b so is pushes = absurd (none_some cmp is)
truth_of_references operators.Shr cmp a b so is pushes = absurd (none_some cmp is)
truth_of_references operators.ShrUn cmp a b so is pushes = absurd (none_some cmp is)
truth_of_references operators.AddOvf cmp a b so is pushes = absurd (none_some cmp is)
truth_of_references operators.MulOvf cmp a b so is pushes = absurd (none_some cmp is)
truth_of_references operators.SubOvf cmp a b so is pushes = absurd (none_some cmp is)

-- a known truth on top
known_keeps : (holds is so : Bool) (known : StateFacts) (vs : List Value) (heap : Heap) (number : ℕ → ℤ) (array : ℕ → Option ℕ) → HoldsBy known vs heap number array
    → so ≡ same_flag holds is → HoldsOn (Some known) (Some (with_known holds is known)) (vs ++ values.Int (truth so) ∷ []) heap number array
known_keeps holds is so known vs heap number array by so_is =
    same_choice known (with_known holds is known) (vs ++ values.Int (truth so) ∷ []) heap number array
    (push_keeps (vars.Number (truth_expr holds is)) (Some known) vs heap number array (values.Int (truth so)) by
    (ap (λ (n : ℤ). Some n) (zero_plus (number 0) (truth so) (truth (same_flag holds is)) (zero_number known.facts number by.facts.allowed) (ap truth so_is))))
  where
    zero_plus : (z m n : ℤ) → z ≡ pos 0 → m ≡ n → m ≡ (z +ℤ n)
    zero_plus z m n none same = omega (arith, ints, none, same)

bit_allows : (so : Bool) → Allows (between (pos 0) (pos 1)) (truth so)
bit_allows true = record { above = omega (arith, ints); below = omega (arith, ints); no_hole = λ is. cc }
bit_allows false = record { above = omega (arith, ints); below = omega (arith, ints); no_hole = λ is. cc }

own_number : (number : ℕ → ℤ) (t : ℕ) (n : ℤ) → with_new_number number t n t ≡ n
own_number number t n = rw (self t) refl
  where
    self : (m : ℕ) → (m == m) ≡ true
    self m = grind arith

test_keeps : (r : ℕ) (is so : Bool) (known : StateFacts) (vs : List Value) (heap : Heap) (number : ℕ → ℤ) (array : ℕ → Option ℕ) → HasForm known
    → HoldsBy known vs heap number array → so ≡ same_flag (is_no_array (array r)) is
    → HoldsOn (Some known) (Some (with_defined (NullTest r is) known)) (vs ++ values.Int (truth so) ∷ []) heap number array
unfolding with_defined
test_keeps r is so known vs heap number array form holds so_is =
    let made = noted known.facts (between (pos 0) (pos 1)) (Is (NullTest r is) ∷ []) in
    made_holds known made (known.variables ++ vars.Number made.expr ∷ []) vs (vs ++ values.Int (truth so) ∷ []) heap number array (truth so) form holds
    (noted_holds known.facts number (λ q. is_no_array (array q)) (between (pos 0) (pos 1)) (Is (NullTest r is) ∷ []) (truth so) holds.facts form.named (bit_allows so)
    (own_number number (length known.facts.ranges + 1) (truth so) ∙ ap truth so_is, tt))
    (λ later have worth_is. have_pushed later array known.variables vs (vars.Number made.expr) (values.Int (truth so)) have (ap (λ (n : ℤ). Some n) (sym worth_is)))

null_told : (told : Nullness) (b holds : Bool) → Agrees told b → null_known told ≡ Some holds → holds ≡ b
null_told May b holds agrees is = absurd (none_some holds is)
null_told NotNull b holds agrees is = sym (some_same false holds is) ∙ sym agrees
null_told Null b holds agrees is = sym (some_same true holds is) ∙ sym agrees

null_keeps : (r : ℕ) (is so : Bool) (known : StateFacts) (vs : List Value) (heap : Heap) (number : ℕ → ℤ) (array : ℕ → Option ℕ) (o : Option Bool) → HasForm known
    → HoldsBy known vs heap number array → ((holds : Bool) → o ≡ Some holds → holds ≡ is_no_array (array r)) → so ≡ same_flag (is_no_array (array r)) is
    → HoldsOn (Some known) (Some (with_null_known r is known o)) (vs ++ values.Int (truth so) ∷ []) heap number array
null_keeps r is so known vs heap number array None form holds tells so_is = test_keeps r is so known vs heap number array form holds so_is
null_keeps r is so known vs heap number array (Some told) form holds tells so_is =
    known_keeps told is so known vs heap number array holds (so_is ∙ ap (λ (b : Bool). same_flag b is) (sym (tells told refl)))

-- two references that are not the same array, one of them an array, are not the same
not_same : (a b : Option ℕ) (apart : (n : ℕ) → a ≡ Some n → b ≡ Some n → ⊥) → (is_no_array a ≡ false) ⊎ (is_no_array b ≡ false) → same_reference a b ≡ false
not_same None None apart one = elim one [ inl is ↦ absurd (false≢true (sym is)) | inr is ↦ absurd (false≢true (sym is)) ]
not_same None (Some j) apart one = refl
not_same (Some i) None apart one = refl
not_same (Some i) (Some j) apart one = elim (cases_Bool (i == j)) [
  | inl is ↦ absurd (apart i refl (ap (λ (n : ℕ). Some n) (sym (eqb-true i j is))))
  | inr is ↦ is
]

is_itself : (a : Option ℕ) → same_reference a a ≡ true
is_itself None = refl
is_itself (Some i) = self i
  where
    self : (m : ℕ) → (m == m) ≡ true
    self m = grind arith

array_is : (told : Nullness) (b : Bool) → Agrees told b → is_not_null told ≡ true → b ≡ false
array_is May b agrees is = absurd (false≢true is)
array_is NotNull b agrees is = agrees
array_is Null b agrees is = absurd (false≢true is)

or_parts : (a b : Bool) → (a || b) ≡ true → (a ≡ true) ⊎ (b ≡ true)
or_parts true b is = inl refl
or_parts false b is = inr is

same_told : (known : StateFacts) (vs : List Value) (heap : Heap) (number : ℕ → ℤ) (array : ℕ → Option ℕ) (r q : ℕ) (told : Bool) → HoldsBy known vs heap number array
    → r ≤ length known.references → q ≤ length known.references → same_known known r q ≡ Some told → told ≡ same_reference (array r) (array q)
unfolding same_known
same_told known vs heap number array r q told holds first second is =
    cond_both (r == q) _ _ (λ (o : Option Bool). o ≡ Some told → told ≡ same_reference (array r) (array q))
    (λ e so. sym (some_same true told so) ∙ sym (is_itself (array r)) ∙ ap (λ (n : ℕ). same_reference (array r) (array n)) (eqb-true r q e))
    (λ e. cond_both (are_apart known r q && (is_array known r || is_array known q)) _ _ (λ (o : Option Bool). o ≡ Some told → told ≡ same_reference (array r) (array q))
    (λ f so.
    let parts = and_parts (are_apart known r q) _ f in
    sym (some_same false told so) ∙ sym (not_same (array r) (array q) (are_apart_differ known vs heap number array r q holds first second parts.0)
    (elim (or_parts (is_array known r) (is_array known q) parts.1) [
      | inl one ↦ inl (array_is (nullness_at known r) (is_no_array (array r)) (nullness_agrees known vs heap number array r holds first) one)
      | inr two ↦ inr (array_is (nullness_at known q) (is_no_array (array q)) (nullness_agrees known vs heap number array q holds second) two)
    ])))
    (λ f so. absurd (none_some told so))) is

same_keeps : (is so : Bool) (known : StateFacts) (vs : List Value) (heap : Heap) (number : ℕ → ℤ) (array : ℕ → Option ℕ) (same : Bool) (o : Option Bool) → HasForm known
    → HoldsBy known vs heap number array → ((told : Bool) → o ≡ Some told → told ≡ same) → so ≡ same_flag same is
    → HoldsOn (Some known) (with_same_known is known o) (vs ++ values.Int (truth so) ∷ []) heap number array
same_keeps is so known vs heap number array same None form holds tells so_is =
    let fits = bit_allows so in
    number_keeps (pos 0) (pos 1) (truth so) known vs heap number array (values.Int (truth so)) form holds refl
    (omega (arith, ints, fits.above, fits.below)) fits.above fits.below
same_keeps is so known vs heap number array same (Some told) form holds tells so_is =
    known_keeps told is so known vs heap number array holds (so_is ∙ ap (λ (b : Bool). same_flag b is) (sym (tells told refl)))

null_first : (b : Option ℕ) → same_reference None b ≡ is_no_array b
null_first None = refl
null_first (Some j) = refl

null_second : (a : Option ℕ) → same_reference a None ≡ is_no_array a
null_second None = refl
null_second (Some i) = refl

tested_keeps : (r q : ℕ) (is so : Bool) (known : StateFacts) (vs : List Value) (heap : Heap) (number : ℕ → ℤ) (array : ℕ → Option ℕ) (o : Option ℕ) → HasForm known
    → HoldsBy known vs heap number array → r ≤ length known.references → q ≤ length known.references
    → ((n : ℕ) → o ≡ Some n → (n ≤ length known.references) × (same_reference (array r) (array q) ≡ is_no_array (array n)))
    → so ≡ same_flag (same_reference (array r) (array q)) is
    → HoldsOn (Some known) (with_tested r q is known o) (vs ++ values.Int (truth so) ∷ []) heap number array
unfolding with_null_test with_same
tested_keeps r q is so known vs heap number array None form holds first second tested so_is =
    same_keeps is so known vs heap number array (same_reference (array r) (array q)) (same_known known r q) form holds
    (λ told tells. same_told known vs heap number array r q told holds first second tells) so_is
tested_keeps r q is so known vs heap number array (Some n) form holds first second tested so_is =
    let one = tested n refl in
    null_keeps n is so known vs heap number array (null_known (nullness_at known n)) form holds
    (λ told tells. null_told (nullness_at known n) (is_no_array (array n)) told (nullness_agrees known vs heap number array n holds one.0) tells)
    (so_is ∙ ap (λ (b : Bool). same_flag b is) one.1)

-- which reference is tested for null, and what this tells of both
pub tested_tells : (known : StateFacts) (array : ℕ → Option ℕ) (r q n : ℕ) → array 0 ≡ None → null_tested r q ≡ Some n → same_reference (array r) (array q) ≡ is_no_array (array n)
tested_tells known array r q n null is =
    cond_both (r == 0) _ _ (λ (o : Option ℕ). o ≡ Some n → same_reference (array r) (array q) ≡ is_no_array (array n))
    (λ e so.
    let r_null : array r ≡ None = ap array (eqb-true r 0 e) ∙ null in
    ap (λ (a : Option ℕ). same_reference a (array q)) r_null ∙ null_first (array q) ∙ ap (λ (m : ℕ). is_no_array (array m)) (some_same q n so))
    (λ e. cond_both (q == 0) _ _ (λ (o : Option ℕ). o ≡ Some n → same_reference (array r) (array q) ≡ is_no_array (array n))
    (λ f so.
    let q_null : array q ≡ None = ap array (eqb-true q 0 f) ∙ null in
    ap (λ (b : Option ℕ). same_reference (array r) b) q_null ∙ null_second (array r) ∙ ap (λ (m : ℕ). is_no_array (array m)) (some_same r n so))
    (λ f so. absurd (none_some n so))) is

-- ---- both

references_keep : (op : BinOp) (r q : ℕ) (known : StateFacts) (vs : List Value) (heap : Heap) (number : ℕ → ℤ) (array : ℕ → Option ℕ) (first second : Value) (cmp : CmpOp)
    (so : Bool) → HasForm known → r ≤ length known.references → q ≤ length known.references → HoldsBy known vs heap number array
    → reference_of first ≡ Some (array r) → reference_of second ≡ Some (array q) → comparison_of op ≡ Some cmp → pushed_comparison cmp first second ≡ Some so
    → HoldsOn (Some known) (with_tested r q (is_equality op) known (null_tested r q)) (vs ++ values.Int (truth so) ∷ []) heap number array
references_keep op r q known vs heap number array first second cmp so form one two holds has also is pushes =
    let told = truth_of_references op cmp (array r) (array q) so is
    (subst (λ (x : Value). pushed_comparison cmp (reference_value (array r)) x ≡ Some so) (value_of_reference second (array q) also)
    (subst (λ (x : Value). pushed_comparison cmp x second ≡ Some so) (value_of_reference first (array r) has) pushes)) in
    tested_keeps r q (is_equality op) so known vs heap number array (null_tested r q) form holds one two
    (λ n tested. (tested_there r q (length known.references) n one two tested, tested_tells known array r q n holds.null tested)) told

-- ---- values that may not be compared

abbrev pub number_like : Value → Bool
number_like (values.Int n) = true
number_like (values.Native n) = true
number_like _ = false

abbrev pub reference_like : Value → Bool
reference_like values.Null = true
reference_like (values.Array i) = true
reference_like _ = false

-- where the second is not null, a comparison is pushed as it is
pushed_other : (cmp : CmpOp) (x y : Value) → reference_like y ≡ false → pushed_comparison cmp x y ≡ compares_values cmp x y
pushed_other comparisons.Eq x y is = refl
pushed_other comparisons.Ge x y is = refl
pushed_other comparisons.Gt x y is = refl
pushed_other comparisons.Le x y is = refl
pushed_other comparisons.Lt x y is = refl
pushed_other comparisons.NeUn x y is = refl
pushed_other comparisons.GeUn x y is = refl
pushed_other comparisons.LeUn x y is = refl
pushed_other comparisons.LtUn x y is = refl
pushed_other comparisons.GtUn (values.Int m) y is = refl
pushed_other comparisons.GtUn (values.Native m) y is = refl
pushed_other comparisons.GtUn (values.Addr m k) y is = refl
pushed_other comparisons.GtUn values.Text y is = refl
pushed_other comparisons.GtUn values.Null (values.Int n) is = refl
pushed_other comparisons.GtUn values.Null (values.Native n) is = refl
pushed_other comparisons.GtUn values.Null (values.Addr n k) is = refl
pushed_other comparisons.GtUn values.Null values.Text is = refl
pushed_other comparisons.GtUn values.Null values.Null is = absurd (false≢true (sym is))
pushed_other comparisons.GtUn values.Null (values.Array n) is = absurd (false≢true (sym is))
pushed_other comparisons.GtUn (values.Array m) (values.Int n) is = refl
pushed_other comparisons.GtUn (values.Array m) (values.Native n) is = refl
pushed_other comparisons.GtUn (values.Array m) (values.Addr n k) is = refl
pushed_other comparisons.GtUn (values.Array m) values.Text is = refl
pushed_other comparisons.GtUn (values.Array m) values.Null is = absurd (false≢true (sym is))
pushed_other comparisons.GtUn (values.Array m) (values.Array n) is = absurd (false≢true (sym is))

pushed_number : (cmp : CmpOp) (x y : Value) → reference_like x ≡ false → pushed_comparison cmp x y ≡ compares_values cmp x y
pushed_number comparisons.Eq x y is = refl
pushed_number comparisons.Ge x y is = refl
pushed_number comparisons.Gt x y is = refl
pushed_number comparisons.Le x y is = refl
pushed_number comparisons.Lt x y is = refl
pushed_number comparisons.NeUn x y is = refl
pushed_number comparisons.GeUn x y is = refl
pushed_number comparisons.LeUn x y is = refl
pushed_number comparisons.LtUn x y is = refl
pushed_number comparisons.GtUn (values.Int m) y is = refl
pushed_number comparisons.GtUn (values.Native m) y is = refl
pushed_number comparisons.GtUn (values.Addr m k) y is = refl
pushed_number comparisons.GtUn values.Text y is = refl
pushed_number comparisons.GtUn values.Null y is = absurd (false≢true (sym is))
pushed_number comparisons.GtUn (values.Array m) y is = absurd (false≢true (sym is))

mixed_values : (cmp : CmpOp) (x y : Value) (so : Bool) → (number_like x && number_like y) ≡ false → (reference_like x && reference_like y) ≡ false
    → compares_values cmp x y ≡ Some so → ⊥
mixed_values cmp (values.Int m) (values.Int n) so numbers references is = false≢true (sym numbers)
mixed_values cmp (values.Int m) (values.Native n) so numbers references is = false≢true (sym numbers)
mixed_values cmp (values.Int m) values.Null so numbers references is = none_some so is
mixed_values cmp (values.Int m) (values.Array n) so numbers references is = none_some so is
mixed_values cmp (values.Int m) (values.Addr n k) so numbers references is = none_some so is
mixed_values cmp (values.Int m) values.Text so numbers references is = none_some so is
mixed_values cmp (values.Native m) (values.Int n) so numbers references is = false≢true (sym numbers)
mixed_values cmp (values.Native m) (values.Native n) so numbers references is = false≢true (sym numbers)
mixed_values cmp (values.Native m) values.Null so numbers references is = none_some so is
mixed_values cmp (values.Native m) (values.Array n) so numbers references is = none_some so is
mixed_values cmp (values.Native m) (values.Addr n k) so numbers references is = none_some so is
mixed_values cmp (values.Native m) values.Text so numbers references is = none_some so is
mixed_values cmp values.Null (values.Int n) so numbers references is = none_some so is
mixed_values cmp values.Null (values.Native n) so numbers references is = none_some so is
mixed_values cmp values.Null values.Null so numbers references is = false≢true (sym references)
mixed_values cmp values.Null (values.Array n) so numbers references is = false≢true (sym references)
mixed_values cmp values.Null (values.Addr n k) so numbers references is = none_some so is
mixed_values cmp values.Null values.Text so numbers references is = none_some so is
mixed_values cmp (values.Array m) (values.Int n) so numbers references is = none_some so is
mixed_values cmp (values.Array m) (values.Native n) so numbers references is = none_some so is
mixed_values cmp (values.Array m) values.Null so numbers references is = false≢true (sym references)
mixed_values cmp (values.Array m) (values.Array n) so numbers references is = false≢true (sym references)
mixed_values cmp (values.Array m) (values.Addr n k) so numbers references is = none_some so is
mixed_values cmp (values.Array m) values.Text so numbers references is = none_some so is
mixed_values cmp (values.Addr m k) y so numbers references is = none_some so is
mixed_values cmp values.Text y so numbers references is = none_some so is

mixed : (cmp : CmpOp) (x y : Value) (so : Bool) → (number_like x && number_like y) ≡ false → (reference_like x && reference_like y) ≡ false
    → pushed_comparison cmp x y ≡ Some so → ⊥
mixed cmp x y so numbers references is = elim (cases_Bool (reference_like x)) [
  | inl like ↦ mixed_values cmp x y so numbers references (sym (pushed_other cmp x y (subst (λ (b : Bool). (b && reference_like y) ≡ false) like references)) ∙ is)
  | inr other ↦ mixed_values cmp x y so numbers references (sym (pushed_number cmp x y other) ∙ is)
]

-- what a value is like
pub record IsLike (x : Value) (number reference : Bool) : Type 0 where
  pub number_is : number_like x ≡ number
  pub reference_is : reference_like x ≡ reference

pub like_number : (x : Value) (n : ℤ) → number_of x ≡ Some n → IsLike x true false
like_number (values.Int m) n is = record { number_is = refl; reference_is = refl }
like_number (values.Native m) n is = record { number_is = refl; reference_is = refl }
like_number values.Null n is = absurd (none_some n is)
like_number (values.Array i) n is = absurd (none_some n is)
like_number (values.Addr a k) n is = absurd (none_some n is)
like_number values.Text n is = absurd (none_some n is)

pub like_reference : (x : Value) (a : Option ℕ) → reference_of x ≡ Some a → IsLike x false true
like_reference (values.Int m) a is = absurd (none_some a is)
like_reference (values.Native m) a is = absurd (none_some a is)
like_reference values.Null a is = record { number_is = refl; reference_is = refl }
like_reference (values.Array i) a is = record { number_is = refl; reference_is = refl }
like_reference (values.Addr b n) a is = absurd (none_some a is)
like_reference values.Text a is = absurd (none_some a is)

pub like_text : (x : Value) → x ≡ values.Text → IsLike x false false
like_text x is = record { number_is = ap number_like is; reference_is = ap reference_like is }

pub like_address : (x : Value) (at : Option ℕ × ℤ) → address_of x ≡ Some at → IsLike x false false
like_address (values.Addr a n) at is = record { number_is = refl; reference_is = refl }
like_address (values.Int n) at is = absurd (none_some at is)
like_address (values.Native n) at is = absurd (none_some at is)
like_address values.Null at is = absurd (none_some at is)
like_address (values.Array a) at is = absurd (none_some at is)
like_address values.Text at is = absurd (none_some at is)

pub like_itself : (x : Value) → IsLike x (number_like x) (reference_like x)
like_itself x = record { number_is = refl; reference_is = refl }

pub unlike : (cmp : CmpOp) (x y : Value) (so p q r t : Bool) → IsLike x p q → IsLike y r t → (p && r) ≡ false → (q && t) ≡ false
    → pushed_comparison cmp x y ≡ Some so → ⊥
unlike cmp x y so p q r t first second numbers references is =
    mixed cmp x y so (rw (first.number_is, second.number_is) numbers) (rw (first.reference_is, second.reference_is) references) is

pub unlike_values : (cmp : CmpOp) (x y : Value) (so p q r t : Bool) → IsLike x p q → IsLike y r t → (p && r) ≡ false → (q && t) ≡ false
    → compares_values cmp x y ≡ Some so → ⊥
unlike_values cmp x y so p q r t first second numbers references is =
    mixed_values cmp x y so (rw (first.number_is, second.number_is) numbers) (rw (first.reference_is, second.reference_is) references) is

comparison_keeps : (op : BinOp) (a b : Var) (known : StateFacts) (vs : List Value) (heap : Heap) (number : ℕ → ℤ) (array : ℕ → Option ℕ) (first second : Value) (cmp : CmpOp)
    (so : Bool) → HasForm known → IsVar (length known.facts.ranges) (length known.references) a → IsVar (length known.facts.ranges) (length known.references) b
    → HoldsBy known vs heap number array → HasValue number array a first → HasValue number array b second → IsValue heap first → IsValue heap second
    → comparison_of op ≡ Some cmp → pushed_comparison cmp first second ≡ Some so
    → HoldsOn (Some known) (with_comparison op a b known) (vs ++ values.Int (truth so) ∷ []) heap number array
unfolding with_comparison
comparison_keeps op (vars.Number a) (vars.Number b) known vs heap number array first second cmp so form one two holds has also is_value is_also is pushes =
    truth_keeps op a b known vs heap number array cmp so form holds one.there two.there (number_fits heap first (worth number a) is_value has)
    (number_fits heap second (worth number b) is_also also) is (pushed_so cmp first second (worth number a) (worth number b) so has also pushes)
comparison_keeps op (vars.Reference r) (vars.Reference q) known vs heap number array first second cmp so form one two holds has also is_value is_also is pushes =
    references_keep op r q known vs heap number array first second cmp so form one two holds has also is pushes
comparison_keeps op (vars.Number a) (vars.Reference q) known vs heap number array first second cmp so form one two holds has also is_value is_also is pushes =
    elim (unlike cmp first second so true false false true (like_number first (worth number a) has) (like_reference second (array q) also) refl refl pushes) [ ]
comparison_keeps op (vars.Number a) vars.Text known vs heap number array first second cmp so form one two holds has also is_value is_also is pushes =
    elim (unlike cmp first second so true false false false (like_number first (worth number a) has) (like_text second also) refl refl pushes) [ ]
comparison_keeps op (vars.Reference r) (vars.Number b) known vs heap number array first second cmp so form one two holds has also is_value is_also is pushes =
    elim (unlike cmp first second so false true true false (like_reference first (array r) has) (like_number second (worth number b) also) refl refl pushes) [ ]
comparison_keeps op (vars.Reference r) vars.Text known vs heap number array first second cmp so form one two holds has also is_value is_also is pushes =
    elim (unlike cmp first second so false true false false (like_reference first (array r) has) (like_text second also) refl refl pushes) [ ]
comparison_keeps op (vars.Number a) (vars.Address q f) known vs heap number array first second cmp so form one two holds has also is_value is_also is pushes =
    elim (unlike cmp first second so true false false false (like_number first (worth number a) has) (like_address second (array q, worth number f) also) refl refl pushes) [ ]
comparison_keeps op (vars.Reference r) (vars.Address q f) known vs heap number array first second cmp so form one two holds has also is_value is_also is pushes =
    elim (unlike cmp first second so false true false false (like_reference first (array r) has) (like_address second (array q, worth number f) also) refl refl pushes) [ ]
comparison_keeps op vars.Text b known vs heap number array first second cmp so form one two holds has also is_value is_also is pushes =
    elim (unlike cmp first second so false false (number_like second) (reference_like second) (like_text first has) (like_itself second) refl refl pushes) [ ]
comparison_keeps op (vars.Address r e) b known vs heap number array first second cmp so form one two holds has also is_value is_also is pushes =
    elim (unlike cmp first second so false false (number_like second) (reference_like second) (like_address first (array r, worth number e) has) (like_itself second) refl refl pushes) [ ]

pub compare_keeps : (op : BinOp) (a b : Var) (state : State) → ForSome state HasForm
    → ForSome state (λ known. IsVar (length known.facts.ranges) (length known.references) a)
    → ForSome state (λ known. IsVar (length known.facts.ranges) (length known.references) b) → KeepsComparison op a b state (calls.compare op a b state)
compare_keeps op a b None form one two = λ vs heap number array first second cmp so holds has also is_value is_also is pushes. elim holds [ ]
compare_keeps op a b (Some known) form one two = λ vs heap number array first second cmp so holds has also is_value is_also is pushes.
    comparison_keeps op a b known vs heap number array first second cmp so (form known refl) (one known refl) (two known refl) holds has also is_value is_also is pushes
