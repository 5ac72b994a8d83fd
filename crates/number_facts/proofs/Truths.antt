-- What is known of comparisons is so, and what they push keeps it.
use Rattle.std.proofs.Common.{◌≡◌, ◌≢◌, ℕ, ◌+◌, ◌≤◌, ℤ, pos, Bool, true, false, ◌&&◌, ◌||◌, int_lt, int_eq, Option, Some, None, length, refl, sym, ap, ◌∙◌, ⊎_elim, FitsSigned, w32, arith}
use Rattle.std.specs.Prelude.{nat_lt, Result, Ok, Err, IfOk, OnOk}
use Rattle.std.specs.List.{AllByRecursion}
use Rattle.std.specs.Result.{result_ok}
use Rattle.std.proofs.lemmas.Bool.{cond_both, and_parts, or_cases, false_from_ne_true}
use Rattle.std.proofs.lemmas.Bool.Decides.{Decides-int_eq}
use Rattle.std.proofs.lemmas.Int.{ints}
use Rattle.domain_api.specs.declared.expr.Expr.{Expr}
use Rattle.cil_model.specs.Arithmetic.{compares, operated, truth, unsigned}
use Rattle.cil_model.specs.Comparisons.{comparison_of}
use Rattle.cil_model.specs.declared.machine.FaultKind.{FaultKind}
use Rattle.cil_model.specs.declared.instruction.BinOp.{BinOp}
use Rattle.cil_model.specs.declared.instruction.BinOp.TheVariants as operators
use Rattle.cil_model.specs.declared.instruction.CmpOp.{CmpOp}
use Rattle.interval_domain.specs.Interval.{between}
use Rattle.symbolic_values.specs.Meaning as said
use Rattle.symbolic_values.specs.Worth.{worth}
use Rattle.symbolic_values.specs.declared.def.Def.{Def}
use Rattle.number_spans.specs.Constants.{exact_of, is_constant}
use Rattle.number_spans.specs.Spans.{is_not_negative, one_excluded}
use Rattle.number_spans.proofs.ConstantLaws.{exact_gives_it}
use Rattle.number_spans.proofs.ComparingLaws.{lt_true, lt_false, one_apart, plain_less, truth_allowed}
use Rattle.number_facts.specs.Comparisons.{less_known, apart, equal_known, less_unsigned_known, known, truth_of, defined_by, pushed, compared_or, compared}
use Rattle.number_facts.specs.Ends.{range_of}
use Rattle.number_facts.specs.Laws.Allowing.{AllowsNumbers}
use Rattle.number_facts.specs.Facts.{Facts, IsNamed}
use Rattle.number_facts.specs.Fresh.{Made}
use Rattle.number_facts.specs.Gaps.{at_most, less, equal}
use Rattle.number_facts.specs.Holds.{Holds, HoldsWith, AreNamed, IsRelated, KeepsTruth, Names, is_below}
use Rattle.number_facts.proofs.Knowing.{range_has, zero_number, constant_worth, not_negative, at_most_holds, equal_holds}
use Rattle.number_facts.proofs.NewSymbols.{with_number, as_before, new_number, noted_holds, same_told, zero_worth}

-- What is known is what is so, where anything is known.
abbrev Tells : Option Bool → Bool → Type 0
Tells None so = Unit {0}
Tells (Some b) so = b ≡ so

less_tells : (facts : Facts) (number : ℕ → ℤ) (a b : Expr) → AllowsNumbers facts number → Tells (less_known facts a b) (int_lt (worth number a) (worth number b))
unfolding less_known
less_tells facts number a b allowed =
    cond_both (less facts a b) _ _ (λ o. Tells o (int_lt (worth number a) (worth number b)))
    (λ e. let le = at_most_holds facts number a (pos 1) b allowed e in sym (lt_true (worth number a) (worth number b) (omega (arith, ints, le))))
    (λ e. cond_both (at_most facts b (pos 0) a) _ _ (λ o. Tells o (int_lt (worth number a) (worth number b)))
    (λ f. let le = at_most_holds facts number b (pos 0) a allowed f in sym (lt_false (worth number a) (worth number b) (omega (arith, ints, le))))
    (λ f. tt))

apart_holds : (facts : Facts) (number : ℕ → ℤ) (a b : Expr) → AllowsNumbers facts number → IsNamed facts a → IsNamed facts b → apart facts a b ≡ true
    → worth number a ≢ worth number b
unfolding apart
apart_holds facts number a b allowed first second e =
    let one = range_has facts number a allowed first in
    let two = range_has facts number b allowed second in
    ⊎_elim
    (λ order. ⊎_elim
    (λ l. let le = at_most_holds facts number a (pos 1) b allowed l in λ is. omega (arith, ints, le, is))
    (λ l. let le = at_most_holds facts number b (pos 1) a allowed l in λ is. omega (arith, ints, le, is))
    (or_cases (at_most facts a (pos 1) b) _ order))
    (λ single. ⊎_elim
    (λ l. one_apart _ _ _ _ one two l)
    (λ l. λ is. one_apart _ _ _ _ two one l (sym is))
    (or_cases (one_excluded (range_of facts a) (range_of facts b)) _ single))
    (or_cases (at_most facts a (pos 1) b || at_most facts b (pos 1) a) _ e)

equal_tells : (facts : Facts) (number : ℕ → ℤ) (a b : Expr) → AllowsNumbers facts number → IsNamed facts a → IsNamed facts b
    → Tells (equal_known facts a b) (int_eq (worth number a) (worth number b))
unfolding equal_known
equal_tells facts number a b allowed first second =
    cond_both (equal facts a b) _ _ (λ o. Tells o (int_eq (worth number a) (worth number b)))
    (λ e. sym ((Decides-int_eq (worth number a) (worth number b)).1 (equal_holds facts number a b allowed e)))
    (λ e. cond_both (apart facts a b) _ _ (λ o. Tells o (int_eq (worth number a) (worth number b)))
    (λ f. let other = apart_holds facts number a b allowed first second f in
    sym (false_from_ne_true (int_eq (worth number a) (worth number b)) (λ is. other ((Decides-int_eq (worth number a) (worth number b)).0 is))))
    (λ f. tt))

less_unsigned_tells : (facts : Facts) (number : ℕ → ℤ) (a b : Expr) → AllowsNumbers facts number → IsNamed facts a → IsNamed facts b
    → FitsSigned w32 (worth number a) → FitsSigned w32 (worth number b)
    → Tells (less_unsigned_known facts a b) (nat_lt (unsigned (worth number a)) (unsigned (worth number b)))
unfolding less_unsigned_known
less_unsigned_tells facts number a b allowed first second one two =
    cond_both (is_not_negative (range_of facts a) && is_not_negative (range_of facts b)) _ _ (λ o. Tells o (nat_lt (unsigned (worth number a)) (unsigned (worth number b))))
    (λ e. let parts = and_parts (is_not_negative (range_of facts a)) _ e in
    rw (plain_less (worth number a) (worth number b) one two (not_negative facts number a allowed first parts.0) (not_negative facts number b allowed second parts.1))
    (less_tells facts number a b allowed))
    (λ e. tt)

-- ---- each comparison

some_same : (x y : CmpOp) → Some x ≡ Some y → x ≡ y
some_same x y is = cc

-- the two numbers of a comparison
record Given (facts : Facts) (number : ℕ → ℤ) (a b : Expr) : Type 0 where
  allowed : AllowsNumbers facts number
  first : IsNamed facts a
  second : IsNamed facts b
  one : FitsSigned w32 (worth number a)
  two : FitsSigned w32 (worth number b)

known_tells : (op : BinOp) (cmp : CmpOp) (facts : Facts) (number : ℕ → ℤ) (a b : Expr) → comparison_of op ≡ Some cmp → Given facts number a b
    → Tells (known op facts a b) (compares cmp (worth number a) (worth number b))
unfolding known
known_tells operators.Ceq cmp f n a b is g = rw (← some_same _ _ is) (equal_tells f n a b g.allowed g.first g.second)
known_tells operators.Cgt cmp f n a b is g = rw (← some_same _ _ is) (less_tells f n b a g.allowed)
known_tells operators.CgtUn cmp f n a b is g = rw (← some_same _ _ is) (less_unsigned_tells f n b a g.allowed g.second g.first g.two g.one)
known_tells operators.Clt cmp f n a b is g = rw (← some_same _ _ is) (less_tells f n a b g.allowed)
known_tells operators.CltUn cmp f n a b is g = rw (← some_same _ _ is) (less_unsigned_tells f n a b g.allowed g.first g.second g.one g.two)
known_tells operators.Add cmp f n a b is g = tt
known_tells operators.Sub cmp f n a b is g = tt
known_tells operators.Mul cmp f n a b is g = tt
known_tells operators.Div cmp f n a b is g = tt
known_tells operators.DivUn cmp f n a b is g = tt
known_tells operators.Rem cmp f n a b is g = tt
known_tells operators.RemUn cmp f n a b is g = tt
known_tells operators.And cmp f n a b is g = tt
known_tells operators.Or cmp f n a b is g = tt
known_tells operators.Xor cmp f n a b is g = tt
known_tells operators.Shl cmp f n a b is g = tt
known_tells operators.Shr cmp f n a b is g = tt
known_tells operators.ShrUn cmp f n a b is g = tt
known_tells operators.AddOvf cmp f n a b is g = tt
known_tells operators.MulOvf cmp f n a b is g = tt
known_tells operators.SubOvf cmp f n a b is g = tt

-- the order of unsigned numbers is that of int32 in which negative ones come last
below_is : (m n : ℤ) → FitsSigned w32 m → FitsSigned w32 n → is_below m n ≡ nat_lt (unsigned m) (unsigned n)
below_is m n first second = grind (arith, ints, first, second)

def_same : (x y : Def) → Some x ≡ Some y → x ≡ y
def_same x y is = cc

no_operator : {A : Type 0} (cmp : CmpOp) → None ≡ Some cmp → A
no_operator cmp is = absurd cc

-- its truth is what its definition says
truth_told : (op : BinOp) (cmp : CmpOp) (number : ℕ → ℤ) (is_null : ℕ → Bool) (a b : Expr) → comparison_of op ≡ Some cmp
    → FitsSigned w32 (worth number a) → FitsSigned w32 (worth number b)
    → (def : Def) → truth_of op a b ≡ Some def → truth (compares cmp (worth number a) (worth number b)) ≡ said.told is_below number is_null def
truth_told operators.Ceq cmp n z a b is one two def told = rw (← some_same _ _ is, ← def_same _ _ told) refl
truth_told operators.Cgt cmp n z a b is one two def told = rw (← some_same _ _ is, ← def_same _ _ told) refl
truth_told operators.CgtUn cmp n z a b is one two def told = rw (← some_same _ _ is, ← def_same _ _ told) (ap truth (sym (below_is (worth n b) (worth n a) two one)))
truth_told operators.Clt cmp n z a b is one two def told = rw (← some_same _ _ is, ← def_same _ _ told) refl
truth_told operators.CltUn cmp n z a b is one two def told = rw (← some_same _ _ is, ← def_same _ _ told) (ap truth (sym (below_is (worth n a) (worth n b) one two)))
truth_told operators.Add cmp n z a b is one two def told = no_operator cmp is
truth_told operators.Sub cmp n z a b is one two def told = no_operator cmp is
truth_told operators.Mul cmp n z a b is one two def told = no_operator cmp is
truth_told operators.Div cmp n z a b is one two def told = no_operator cmp is
truth_told operators.DivUn cmp n z a b is one two def told = no_operator cmp is
truth_told operators.Rem cmp n z a b is one two def told = no_operator cmp is
truth_told operators.RemUn cmp n z a b is one two def told = no_operator cmp is
truth_told operators.And cmp n z a b is one two def told = no_operator cmp is
truth_told operators.Or cmp n z a b is one two def told = no_operator cmp is
truth_told operators.Xor cmp n z a b is one two def told = no_operator cmp is
truth_told operators.Shl cmp n z a b is one two def told = no_operator cmp is
truth_told operators.Shr cmp n z a b is one two def told = no_operator cmp is
truth_told operators.ShrUn cmp n z a b is one two def told = no_operator cmp is
truth_told operators.AddOvf cmp n z a b is one two def told = no_operator cmp is
truth_told operators.MulOvf cmp n z a b is one two def told = no_operator cmp is
truth_told operators.SubOvf cmp n z a b is one two def told = no_operator cmp is

-- ---- what is pushed

pub named_truth : (op : BinOp) (count : ℕ) (a b : Expr) (def : Def) → a.sym ≤ count → b.sym ≤ count → truth_of op a b ≡ Some def → Names count def
named_truth operators.Ceq count a b def p q is = rw (← def_same _ _ is) (p, q)
named_truth operators.Cgt count a b def p q is = rw (← def_same _ _ is) (q, p)
named_truth operators.CgtUn count a b def p q is = rw (← def_same _ _ is) (q, p)
named_truth operators.Clt count a b def p q is = rw (← def_same _ _ is) (p, q)
named_truth operators.CltUn count a b def p q is = rw (← def_same _ _ is) (p, q)
named_truth operators.Add count a b def p q is = absurd cc
named_truth operators.Sub count a b def p q is = absurd cc
named_truth operators.Mul count a b def p q is = absurd cc
named_truth operators.Div count a b def p q is = absurd cc
named_truth operators.DivUn count a b def p q is = absurd cc
named_truth operators.Rem count a b def p q is = absurd cc
named_truth operators.RemUn count a b def p q is = absurd cc
named_truth operators.And count a b def p q is = absurd cc
named_truth operators.Or count a b def p q is = absurd cc
named_truth operators.Xor count a b def p q is = absurd cc
named_truth operators.Shl count a b def p q is = absurd cc
named_truth operators.Shr count a b def p q is = absurd cc
named_truth operators.ShrUn count a b def p q is = absurd cc
named_truth operators.AddOvf count a b def p q is = absurd cc
named_truth operators.MulOvf count a b def p q is = absurd cc
named_truth operators.SubOvf count a b def p q is = absurd cc

related_by : (o : Option Def) (later : ℕ → ℤ) (is_null : ℕ → Bool) (t : ℕ) (n : ℤ) → later t ≡ n
    → ((def : Def) → o ≡ Some def → n ≡ said.told is_below later is_null def) → AllByRecursion (IsRelated later is_null t) (defined_by o)
related_by None later is_null t n is so = tt
related_by (Some def) later is_null t n is so = (is ∙ so def refl, tt)

pushed_keeps : (op : BinOp) (cmp : CmpOp) (o : Option Bool) (facts : Facts) (number : ℕ → ℤ) (is_null : ℕ → Bool) (a b : Expr) → comparison_of op ≡ Some cmp
    → Holds facts number is_null → AreNamed facts → Given facts number a b → Tells o (compares cmp (worth number a) (worth number b))
    → HoldsWith facts (pushed op facts a b o).facts number is_null (pushed op facts a b o).expr (truth (compares cmp (worth number a) (worth number b)))
pushed_keeps op cmp None facts number is_null a b is holds named given tells =
    let so = compares cmp (worth number a) (worth number b) in
    let t = length facts.ranges + 1 in
    let later = with_number number t (truth so) in
    noted_holds facts number is_null (between (pos 0) (pos 1)) (defined_by (truth_of op a b)) (truth so) holds named (truth_allowed so)
    (related_by (truth_of op a b) later is_null t (truth so) (new_number number t (truth so))
    (λ def told.
    truth_told op cmp number is_null a b is given.one given.two def told
    ∙ sym (same_told number later is_null (length facts.ranges) def (named_truth op (length facts.ranges) a b def given.first given.second told)
    (as_before number (length facts.ranges) (truth so)))))
pushed_keeps op cmp (Some so) facts number is_null a b is holds named given tells = record {
  later = number;
  agrees = λ s there. refl;
  holds = holds;
  is = zero_worth number (truth so) _ (zero_number facts number holds.allowed) (ap truth tells);
}

operated_is : (op : BinOp) (cmp : CmpOp) (m n : ℤ) → comparison_of op ≡ Some cmp → operated op m n ≡ Ok (truth (compares cmp m n))
operated_is operators.Ceq cmp m n is = rw (← some_same _ _ is) refl
operated_is operators.Cgt cmp m n is = rw (← some_same _ _ is) refl
operated_is operators.CgtUn cmp m n is = rw (← some_same _ _ is) refl
operated_is operators.Clt cmp m n is = rw (← some_same _ _ is) refl
operated_is operators.CltUn cmp m n is = rw (← some_same _ _ is) refl
operated_is operators.Add cmp m n is = absurd cc
operated_is operators.Sub cmp m n is = absurd cc
operated_is operators.Mul cmp m n is = absurd cc
operated_is operators.Div cmp m n is = absurd cc
operated_is operators.DivUn cmp m n is = absurd cc
operated_is operators.Rem cmp m n is = absurd cc
operated_is operators.RemUn cmp m n is = absurd cc
operated_is operators.And cmp m n is = absurd cc
operated_is operators.Or cmp m n is = absurd cc
operated_is operators.Xor cmp m n is = absurd cc
operated_is operators.Shl cmp m n is = absurd cc
operated_is operators.Shr cmp m n is = absurd cc
operated_is operators.ShrUn cmp m n is = absurd cc
operated_is operators.AddOvf cmp m n is = absurd cc
operated_is operators.MulOvf cmp m n is = absurd cc
operated_is operators.SubOvf cmp m n is = absurd cc

truth_fits : (so : Bool) → FitsSigned w32 (truth so)
truth_fits true = omega (arith, ints)
truth_fits false = omega (arith, ints)

constants_keep : (r : Result ℤ FaultKind) (n : ℤ) (facts : Facts) (made : Made) (number : ℕ → ℤ) (is_null : ℕ → Bool) → r ≡ Ok n → Holds facts number is_null
    → HoldsWith facts (compared_or (result_ok r) facts made).facts number is_null (compared_or (result_ok r) facts made).expr n
constants_keep r n facts made number is_null is holds = rw is (record {
  later = number;
  agrees = λ s there. refl;
  holds = holds;
  is = zero_worth number n n (zero_number facts number holds.allowed) refl;
})

-- what a comparison pushes is worth its truth
compared_keeps : (op : BinOp) (facts : Facts) (a b : Expr) → IsNamed facts a → IsNamed facts b → KeepsTruth op a b facts (compared op facts a b).expr (compared op facts a b).facts
unfolding compared
compared_keeps op facts a b first second = λ number is_null cmp named is holds one two.
    let so = truth (compares cmp (worth number a) (worth number b)) in
    let made = pushed op facts a b (known op facts a b) in
    let given : Given facts number a b = record { allowed = holds.allowed; first = first; second = second; one = one; two = two } in
    cond_both (is_constant a && is_constant b) _ _ (λ o. HoldsWith facts (compared_or o facts made).facts number is_null (compared_or o facts made).expr so)
    (λ e.
    let parts = and_parts (is_constant a) (is_constant b) e in
    let m = constant_worth facts number a holds.allowed parts.0 in
    let n = constant_worth facts number b holds.allowed parts.1 in
    let first : FitsSigned w32 a.k = rw m at one in
    let second : FitsSigned w32 b.k = rw n at two in
    let gives = exact_gives_it op a.k b.k _ first second (truth_fits (compares cmp a.k b.k)) (operated_is op cmp a.k b.k is) in
    rw (m, n) (constants_keep (exact_of op a.k b.k) (truth (compares cmp a.k b.k)) facts made number is_null gives holds))
    (λ e. pushed_keeps op cmp (known op facts a b) facts number is_null a b is holds named given (known_tells op cmp facts number a b is given))

pub truth_where_ok : {E : Type 0} (op : BinOp) (before : Facts) (a b : Expr) (result : Result Expr E) (after : Facts) → IsNamed before a → IsNamed before b
    → IfOk result (λ e. e ≡ (compared op before a b).expr) → OnOk result (after ≡ (compared op before a b).facts)
    → IfOk result (λ e. KeepsTruth op a b before e after)
truth_where_ok op before a b (Ok e) after first second value facts = rw (value, facts) (compared_keeps op before a b first second)
truth_where_ok op before a b (Err e) after first second value facts = value
