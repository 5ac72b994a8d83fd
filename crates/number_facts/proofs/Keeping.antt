-- What is assumed of a comparison keeps the numbers of which it is so.
use Rattle.std.proofs.Common.{◌≡◌, ◌≢◌, ℕ, zero, suc, ◌==◌, ◌≤◌, ◌<◌, ℤ, pos, ◌+ℤ◌, ◌-ℤ◌, ◌≤ℤ◌, ◌<ℤ◌, Bool, true, false, not, ◌&&◌, Option, Some, None, List, length, int_le, int_lt, int_eq, inl, inr, refl, sym, ap, ◌∙◌, FitsSigned, w32, arith}
use Rattle.std.specs.Prelude.{nat_lt, set, Result, Ok, Err, IfOk}
use Rattle.std.specs.Option.{option_and_then, is_some}
use Rattle.std.specs.List.{AllByRecursion}
use Rattle.std.proofs.lemmas.Int.{ints, clamps}
use Rattle.std.proofs.lemmas.Bool.{cases_eq, cond_both, and_parts}
use Rattle.std.proofs.lemmas.Bool.Decides.{Decides-int_eq}
use Rattle.std.proofs.lemmas.List.{length-set, get_or-set_same, get_or-set_other}
use Rattle.domain_api.specs.declared.expr.Expr.{Expr}
use Rattle.cil_model.specs.Arithmetic.{compares, unsigned}
use Rattle.cil_model.specs.declared.instruction.CmpOp.{CmpOp}
use Rattle.cil_model.specs.declared.instruction.CmpOp.TheVariants as comparisons
use Rattle.interval_domain.specs.Interval.{Interval, one}
use Rattle.pentagon_domain.specs.Rows.{with_bound}
use Rattle.pentagon_domain.proofs.Allowing.{with_bound_allows}
use Rattle.symbolic_values.specs.Worth.{worth}
use Rattle.symbolic_values.specs.declared.def.Def.{Def}
use Rattle.number_spans.specs.Constants.{constant}
use Rattle.number_spans.specs.Spans.{is_one, is_not_negative}
use Rattle.number_spans.specs.Stored.{Allows, SomeAllows}
use Rattle.number_spans.proofs.Lost.{range_without_allows, without_allows}
use Rattle.number_facts.specs.Laws.Allowing.{AllowsNumbers}
use Rattle.number_facts.specs.Assume.{changed, lowered, raised, cut_both, assumed_at_most, assumed_less, assumed_equal, lost, ordered, assumed_apart, assumed_less_unsigned, assumed_at_most_unsigned, holding, contrary, assumed}
use Rattle.number_facts.specs.Ends.{range_of}
use Rattle.number_facts.specs.Facts.{Facts, range_at}
use Rattle.number_facts.specs.Fresh.{bounded, is_long}
use Rattle.number_facts.specs.Gaps.{at_most, equal}
use Rattle.number_facts.specs.Holds.{Compares, Holds, IsDefined, KeepsCompared}
use Rattle.number_facts.proofs.Knowing.{range_has, constant_worth, not_negative, at_most_holds, equal_holds}

-- Facts of so many symbols that allow numbers.
pub record Kept (count : ℕ) (number : ℕ → ℤ) (P : List (ℕ × Def) → Type 0) (facts : Facts) : Type 0 where
  pub size : length facts.ranges ≡ count
  pub allowed : AllowsNumbers facts number
  pub others : P facts.definitions

-- Something is reached, and what is known there is so.
abbrev pub SomeKept : ℕ → (ℕ → ℤ) → (List (ℕ × Def) → Type 0) → Option Facts → Type 0
SomeKept count number P None = ⊥
SomeKept count number P (Some facts) = Kept count number P facts

-- one step after another
pub then_kept : (count : ℕ) (number : ℕ → ℤ) (P : List (ℕ × Def) → Type 0) (o : Option Facts) (f : Facts → Option Facts) → SomeKept count number P o
    → ((facts : Facts) → Kept count number P facts → SomeKept count number P (f facts)) → SomeKept count number P (option_and_then f o)
then_kept count number P None f kept next = elim kept [ ]
then_kept count number P (Some facts) f kept next = next facts kept

named : (count : ℕ) (number : ℕ → ℤ) (P : List (ℕ × Def) → Type 0) (facts : Facts) (s : ℕ) → Kept count number P facts → s ≤ count → s ≤ length facts.ranges
named count number P facts s kept there = let size = kept.size in omega (arith, size, there)

-- ---- one range, and one bound

set_allows : (facts : Facts) (number : ℕ → ℤ) (s : ℕ) (r : Interval) → AllowsNumbers facts number → Allows r (number (suc s)) → s < length facts.ranges
    → (t : ℕ) → t ≤ length (set facts.ranges s r) → Allows (range_at (record facts { ranges = set facts.ranges s r }) t) (number t)
unfolding range_at
set_allows facts number s r allowed here inside zero there = allowed.ranges 0 (omega arith)
set_allows facts number s r allowed here inside (suc t) there =
    let size = length-set facts.ranges s r in
    elim (cases_eq s t) [
      | inl same ↦ rw (← same) (rw (get_or-set_same facts.ranges s r (one (pos 0)) inside) here)
      | inr other ↦
          rw (get_or-set_other facts.ranges s t r (one (pos 0)) (λ is. other (sym is)))
          (allowed.ranges (suc t) (omega (arith, size, there)))
    ]

changed_kept : (count : ℕ) (number : ℕ → ℤ) (P : List (ℕ × Def) → Type 0) (facts : Facts) (s : ℕ) (o : Option Interval) → Kept count number P facts → s ≤ count → SomeAllows o (number s)
    → SomeKept count number P (changed facts s o)
unfolding changed
changed_kept count number P facts zero o kept there allowed = kept
changed_kept count number P facts (suc s) None kept there allowed = elim allowed [ ]
changed_kept count number P facts (suc s) (Some r) kept there allowed =
    let inside : s < length facts.ranges = named count number P facts (suc s) kept there in
    record {
      size = length-set facts.ranges s r ∙ kept.size;
      allowed = record { ranges = set_allows facts number s r kept.allowed allowed inside; bounds = kept.allowed.bounds };
      others = kept.others;
    }

pub lowered_kept : (count : ℕ) (number : ℕ → ℤ) (P : List (ℕ × Def) → Type 0) (facts : Facts) (e : Expr) (n : ℤ) → Kept count number P facts → e.sym ≤ count → worth number e ≤ℤ n
    → SomeKept count number P (lowered facts e n)
unfolding lowered
lowered_kept count number P facts e n kept there below =
    let allowed = kept.allowed.ranges e.sym (named count number P facts e.sym kept there) in
    changed_kept count number P facts e.sym _ kept there
    (range_without_allows _ _ (number e.sym) _ allowed.above (omega (arith, ints, clamps, allowed.below, below)) allowed.no_hole)

pub raised_kept : (count : ℕ) (number : ℕ → ℤ) (P : List (ℕ × Def) → Type 0) (facts : Facts) (e : Expr) (n : ℤ) → Kept count number P facts → e.sym ≤ count → n ≤ℤ worth number e
    → SomeKept count number P (raised facts e n)
unfolding raised
raised_kept count number P facts e n kept there above =
    let allowed = kept.allowed.ranges e.sym (named count number P facts e.sym kept there) in
    changed_kept count number P facts e.sym _ kept there
    (range_without_allows _ _ (number e.sym) _ (omega (arith, ints, clamps, allowed.above, above)) allowed.below allowed.no_hole)

same_ranges : (facts : Facts) (s t : ℕ) (k : ℤ) (u : ℕ) → range_at (record facts { bounds = with_bound facts.bounds s t k }) u ≡ range_at facts u
unfolding range_at
same_ranges facts s t k zero = refl
same_ranges facts s t k (suc u) = refl

bounded_kept : (count : ℕ) (number : ℕ → ℤ) (P : List (ℕ × Def) → Type 0) (facts : Facts) (s t : ℕ) (k : ℤ) → Kept count number P facts → (number s +ℤ k) ≤ℤ number t
    → Kept count number P (bounded facts s t k)
unfolding bounded
bounded_kept count number P facts s t k kept above = cond_both (is_long k) _ _ (λ (f : Facts). Kept count number P f)
    (λ e. record {
      size = kept.size;
      allowed = record {
        ranges = λ u there. rw (same_ranges facts s t k u) (kept.allowed.ranges u there);
        bounds = with_bound_allows facts.bounds number s t k kept.allowed.bounds above;
      };
      others = kept.others;
    })
    (λ e. kept)

-- ---- orders

cut_kept : (count : ℕ) (number : ℕ → ℤ) (P : List (ℕ × Def) → Type 0) (facts : Facts) (a : Expr) (more : ℤ) (b : Expr) → Kept count number P facts → a.sym ≤ count → b.sym ≤ count
    → (worth number a +ℤ more) ≤ℤ worth number b → SomeKept count number P (cut_both facts a more b)
unfolding cut_both
cut_kept count number P facts a more b kept first second le =
    let upto = range_has facts number b kept.allowed (named count number P facts b.sym kept second) in
    then_kept count number P _ _ (lowered_kept count number P facts a _ kept first (omega (arith, ints, le, upto.below)))
    (λ f cut.
    let from = range_has f number a cut.allowed (named count number P f a.sym cut first) in
    raised_kept count number P f b _ cut second (omega (arith, ints, le, from.above)))

pub at_most_kept : (count : ℕ) (number : ℕ → ℤ) (P : List (ℕ × Def) → Type 0) (facts : Facts) (a : Expr) (more : ℤ) (b : Expr) → Kept count number P facts → a.sym ≤ count → b.sym ≤ count
    → (worth number a +ℤ more) ≤ℤ worth number b → SomeKept count number P (assumed_at_most facts a more b)
unfolding assumed_at_most
at_most_kept count number P facts a more b kept first second le =
    cond_both (at_most facts b (pos 1 -ℤ more) a) _ _ (SomeKept count number P)
    (λ e. let other = at_most_holds facts number b (pos 1 -ℤ more) a kept.allowed e in omega (arith, ints, le, other))
    (λ e.
    let stored = bounded_kept count number P facts a.sym b.sym ((a.k +ℤ more) -ℤ b.k) kept (omega (arith, ints, le)) in
    cut_kept count number P (bounded facts a.sym b.sym ((a.k +ℤ more) -ℤ b.k)) a more b stored first second le)

pub less_kept : (count : ℕ) (number : ℕ → ℤ) (P : List (ℕ × Def) → Type 0) (facts : Facts) (a b : Expr) → Kept count number P facts → a.sym ≤ count → b.sym ≤ count
    → worth number a <ℤ worth number b → SomeKept count number P (assumed_less facts a b)
less_kept count number P facts a b kept first second less = at_most_kept count number P facts a (pos 1) b kept first second (omega (arith, ints, less))

pub le_kept : (count : ℕ) (number : ℕ → ℤ) (P : List (ℕ × Def) → Type 0) (facts : Facts) (a b : Expr) → Kept count number P facts → a.sym ≤ count → b.sym ≤ count
    → worth number a ≤ℤ worth number b → SomeKept count number P (assumed_at_most facts a (pos 0) b)
le_kept count number P facts a b kept first second le = at_most_kept count number P facts a (pos 0) b kept first second (omega (arith, ints, le))

pub equal_kept : (count : ℕ) (number : ℕ → ℤ) (P : List (ℕ × Def) → Type 0) (facts : Facts) (a b : Expr) → Kept count number P facts → a.sym ≤ count → b.sym ≤ count
    → worth number a ≡ worth number b → SomeKept count number P (assumed_equal facts a b)
unfolding assumed_equal
equal_kept count number P facts a b kept first second same =
    then_kept count number P _ _ (le_kept count number P facts a b kept first second (omega (arith, ints, same)))
    (λ f cut. le_kept count number P f b a cut second first (omega (arith, ints, same)))

lost_kept : (count : ℕ) (number : ℕ → ℤ) (P : List (ℕ × Def) → Type 0) (facts : Facts) (a b : Expr) → Kept count number P facts → a.sym ≤ count → b.sym ≤ count
    → worth number a ≢ worth number b → SomeKept count number P (lost facts a b)
unfolding lost
lost_kept count number P facts a b kept first second other =
    cond_both (is_one (range_of facts b)) _ _ (SomeKept count number P)
    (λ e.
    let single = (Decides-int_eq (range_of facts b).lo (range_of facts b).hi).0 e in
    let has = range_has facts number b kept.allowed (named count number P facts b.sym kept second) in
    changed_kept count number P facts a.sym _ kept first
    (without_allows _ _ _ (kept.allowed.ranges a.sym (named count number P facts a.sym kept first))
    (λ is. other (omega (arith, ints, is, single, has.above, has.below)))))
    (λ e. kept)

ordered_kept : (count : ℕ) (number : ℕ → ℤ) (P : List (ℕ × Def) → Type 0) (facts : Facts) (a b : Expr) → Kept count number P facts → a.sym ≤ count → b.sym ≤ count
    → worth number a ≢ worth number b → SomeKept count number P (ordered facts a b)
unfolding ordered
ordered_kept count number P facts a b kept first second other =
    cond_both (at_most facts a (pos 0) b) _ _ (SomeKept count number P)
    (λ e. let le = at_most_holds facts number a (pos 0) b kept.allowed e in less_kept count number P facts a b kept first second (omega (arith, ints, le, other)))
    (λ e. cond_both (at_most facts b (pos 0) a) _ _ (SomeKept count number P)
    (λ f. let le = at_most_holds facts number b (pos 0) a kept.allowed f in less_kept count number P facts b a kept second first (omega (arith, ints, le, other)))
    (λ f. kept))

pub apart_kept : (count : ℕ) (number : ℕ → ℤ) (P : List (ℕ × Def) → Type 0) (facts : Facts) (a b : Expr) → Kept count number P facts → a.sym ≤ count → b.sym ≤ count
    → worth number a ≢ worth number b → SomeKept count number P (assumed_apart facts a b)
unfolding assumed_apart
apart_kept count number P facts a b kept first second other =
    cond_both (equal facts a b) _ _ (SomeKept count number P)
    (λ e. elim (other (equal_holds facts number a b kept.allowed e)) [ ])
    (λ e. then_kept count number P _ _
    (then_kept count number P _ _ (lost_kept count number P facts a b kept first second other) (λ f less. lost_kept count number P f b a less second first (λ is. other (sym is))))
    (λ f less. ordered_kept count number P f a b less first second other))

-- ---- comparisons of unsigned numbers

-- an int32 that is less than one that is not negative, both without their signs, is not negative and less
unsigned_less : (m n : ℤ) → FitsSigned w32 m → FitsSigned w32 n → pos 0 ≤ℤ n → nat_lt (unsigned m) (unsigned n) ≡ true → (pos 0 ≤ℤ m) × (m <ℤ n)
unsigned_less m n first second above less = (grind (arith, ints, first, second, above, less), grind (arith, ints, first, second, above, less))

unsigned_at_most : (m n : ℤ) → FitsSigned w32 m → FitsSigned w32 n → pos 0 ≤ℤ n → nat_lt (unsigned n) (unsigned m) ≡ false → (pos 0 ≤ℤ m) × (m ≤ℤ n)
unsigned_at_most m n first second above less = (grind (arith, ints, first, second, above, less), grind (arith, ints, first, second, above, less))

zero_is : (count : ℕ) (number : ℕ → ℤ) (P : List (ℕ × Def) → Type 0) (facts : Facts) → Kept count number P facts → worth number (constant (pos 0)) ≡ pos 0
zero_is count number P facts kept = constant_worth facts number (constant (pos 0)) kept.allowed refl

not_less : (m n : ℕ) → m ≡ n → nat_lt m n ≡ true → ⊥
not_less m n is less = grind (arith, is, less)

none_first : (count : ℕ) → 0 ≤ count
none_first count = omega arith

less_unsigned_kept : (count : ℕ) (number : ℕ → ℤ) (P : List (ℕ × Def) → Type 0) (facts : Facts) (a b : Expr) → Kept count number P facts → a.sym ≤ count → b.sym ≤ count
    → FitsSigned w32 (worth number a) → FitsSigned w32 (worth number b)
    → nat_lt (unsigned (worth number a)) (unsigned (worth number b)) ≡ true → SomeKept count number P (assumed_less_unsigned facts a b)
unfolding assumed_less_unsigned
less_unsigned_kept count number P facts a b kept first second one two less =
    cond_both (is_not_negative (range_of facts b)) _ _ (SomeKept count number P)
    (λ e.
    let order = unsigned_less (worth number a) (worth number b) one two (not_negative facts number b kept.allowed (named count number P facts b.sym kept second) e) less in
    then_kept count number P _ _ (le_kept count number P facts (constant (pos 0)) a kept (none_first count) first (rw (zero_is count number P facts kept) order.0))
    (λ f cut. less_kept count number P f a b cut first second order.1))
    (λ e. cond_both ((a.sym == 0) && int_eq a.k (pos 0)) _ _ (SomeKept count number P)
    (λ f. apart_kept count number P facts b (constant (pos 0)) kept second (none_first count) (λ is. above_zero is (first_is f)))
    (λ f. kept))
  where
    first_is : ((a.sym == 0) && int_eq a.k (pos 0)) ≡ true → worth number a ≡ pos 0
    first_is f = let parts = and_parts (a.sym == 0) (int_eq a.k (pos 0)) f in constant_worth facts number a kept.allowed parts.0 ∙ (Decides-int_eq a.k (pos 0)).0 parts.1

    above_zero : worth number b ≡ worth number (constant (pos 0)) → worth number a ≡ pos 0 → ⊥
    above_zero is none = not_less (unsigned (worth number a)) (unsigned (worth number b)) (ap unsigned (none ∙ sym (zero_is count number P facts kept) ∙ sym is)) less

at_most_unsigned_kept : (count : ℕ) (number : ℕ → ℤ) (P : List (ℕ × Def) → Type 0) (facts : Facts) (a b : Expr) → Kept count number P facts → a.sym ≤ count → b.sym ≤ count
    → FitsSigned w32 (worth number a) → FitsSigned w32 (worth number b)
    → nat_lt (unsigned (worth number b)) (unsigned (worth number a)) ≡ false → SomeKept count number P (assumed_at_most_unsigned facts a b)
unfolding assumed_at_most_unsigned
at_most_unsigned_kept count number P facts a b kept first second one two not_less =
    cond_both (is_not_negative (range_of facts b)) _ _ (SomeKept count number P)
    (λ e.
    let order = unsigned_at_most (worth number a) (worth number b) one two (not_negative facts number b kept.allowed (named count number P facts b.sym kept second) e) not_less in
    then_kept count number P _ _ (le_kept count number P facts (constant (pos 0)) a kept (none_first count) first (rw (zero_is count number P facts kept) order.0))
    (λ f cut. le_kept count number P f a b cut first second order.1))
    (λ e. kept)

-- ---- all comparisons

le_true : (m n : ℤ) → int_le m n ≡ true → m ≤ℤ n
le_true m n e = omega (arith, ints)

lt_true : (m n : ℤ) → int_lt m n ≡ true → m <ℤ n
lt_true m n e = omega (arith, ints)

not_true : (b : Bool) → not b ≡ true → b ≡ false
not_true true e = grind (arith, e)
not_true false e = refl

not_false : (b : Bool) → not b ≡ false → b ≡ true
not_false true e = refl
not_false false e = grind (arith, e)

not_le : (m n : ℤ) → int_le n m ≡ false → int_lt m n ≡ true
not_le m n e = grind (arith, ints, e)

not_lt : (m n : ℤ) → int_lt n m ≡ false → int_le m n ≡ true
not_lt m n e = grind (arith, ints, e)

eq_apart : (m n : ℤ) → not (int_eq m n) ≡ true → m ≢ n
eq_apart m n e = λ is. grind (arith, (Decides-int_eq m n).1 is, e)

-- a comparison that is true of the numbers is assumed of expressions that are worth them
holding_kept : (op : CmpOp) (count : ℕ) (number : ℕ → ℤ) (P : List (ℕ × Def) → Type 0) (facts : Facts) (a b : Expr) → Kept count number P facts → a.sym ≤ count → b.sym ≤ count
    → FitsSigned w32 (worth number a) → FitsSigned w32 (worth number b) → compares op (worth number a) (worth number b) ≡ true
    → SomeKept count number P (holding op facts a b)
unfolding holding
holding_kept comparisons.Eq c n P f a b k p q one two e = equal_kept c n P f a b k p q ((Decides-int_eq (worth n a) (worth n b)).0 e)
holding_kept comparisons.Ge c n P f a b k p q one two e = le_kept c n P f b a k q p (le_true (worth n b) (worth n a) e)
holding_kept comparisons.Gt c n P f a b k p q one two e = less_kept c n P f b a k q p (lt_true (worth n b) (worth n a) e)
holding_kept comparisons.Le c n P f a b k p q one two e = le_kept c n P f a b k p q (le_true (worth n a) (worth n b) e)
holding_kept comparisons.Lt c n P f a b k p q one two e = less_kept c n P f a b k p q (lt_true (worth n a) (worth n b) e)
holding_kept comparisons.NeUn c n P f a b k p q one two e = apart_kept c n P f a b k p q (eq_apart (worth n a) (worth n b) e)
holding_kept comparisons.GeUn c n P f a b k p q one two e = at_most_unsigned_kept c n P f b a k q p two one (not_true _ e)
holding_kept comparisons.GtUn c n P f a b k p q one two e = less_unsigned_kept c n P f b a k q p two one e
holding_kept comparisons.LeUn c n P f a b k p q one two e = at_most_unsigned_kept c n P f a b k p q one two (not_true _ e)
holding_kept comparisons.LtUn c n P f a b k p q one two e = less_unsigned_kept c n P f a b k p q one two e

-- the contrary of a comparison is true where it is false
contrary_true : (op : CmpOp) (m n : ℤ) → compares op m n ≡ false → compares (contrary op) m n ≡ true
contrary_true comparisons.Eq m n e = ap not e
contrary_true comparisons.Ge m n e = not_le m n e
contrary_true comparisons.Gt m n e = not_lt m n e
contrary_true comparisons.Le m n e = not_le n m e
contrary_true comparisons.Lt m n e = not_lt n m e
contrary_true comparisons.NeUn m n e = not_false (int_eq m n) e
contrary_true comparisons.GeUn m n e = not_false _ e
contrary_true comparisons.GtUn m n e = ap not e
contrary_true comparisons.LeUn m n e = not_false _ e
contrary_true comparisons.LtUn m n e = ap not e

assumed_kept : (op : CmpOp) (count : ℕ) (number : ℕ → ℤ) (P : List (ℕ × Def) → Type 0) (facts : Facts) (a b : Expr) (holds : Bool) → Kept count number P facts → a.sym ≤ count → b.sym ≤ count
    → Compares op a b holds number → SomeKept count number P (assumed op facts a b holds)
unfolding assumed
assumed_kept op c n P f a b true kept p q so = holding_kept op c n P f a b kept p q so.first so.second so.so
assumed_kept op c n P f a b false kept p q so =
    holding_kept (contrary op) c n P f a b kept p q so.first so.second (contrary_true op (worth n a) (worth n b) so.so)

-- what was reached, and what is known then
reached_so : (count : ℕ) (number : ℕ → ℤ) (is_null : ℕ → Bool) (o : Option Facts) (reached : Bool) (after : Facts) → reached ≡ is_some o
    → (reached ≡ true → o ≡ Some after) → SomeKept count number (AllByRecursion (IsDefined number is_null)) o → (reached ≡ true) × Holds after number is_null
reached_so count number is_null None reached after is known kept = elim kept [ ]
reached_so count number is_null (Some facts) reached after is known kept =
    let holds : Holds facts number is_null = record { allowed = kept.allowed; definitions = kept.others } in
    (is, rw (some_same (known is)) at holds)
  where
    some_same : Some facts ≡ Some after → facts ≡ after
    some_same e = cc

assumed_keeps : (op : CmpOp) (before : Facts) (a b : Expr) (holds reached : Bool) (after : Facts) → a.sym ≤ length before.ranges → b.sym ≤ length before.ranges
    → reached ≡ is_some (assumed op before a b holds) → (reached ≡ true → assumed op before a b holds ≡ Some after)
    → KeepsCompared op a b holds before reached after
assumed_keeps op before a b holds reached after first second is known = λ number is_null so_far so.
    reached_so (length before.ranges) number is_null (assumed op before a b holds) reached after is known
    (assumed_kept op (length before.ranges) number (AllByRecursion (IsDefined number is_null)) before a b holds
    (record { size = refl; allowed = so_far.allowed; others = so_far.definitions }) first second so)

pub kept_where_ok : {E : Type 0} (op : CmpOp) (before : Facts) (a b : Expr) (holds : Bool) (result : Result Bool E) (after : Facts) → a.sym ≤ length before.ranges
    → b.sym ≤ length before.ranges → IfOk result (λ reached. reached ≡ is_some (assumed op before a b holds))
    → IfOk result (λ reached. reached ≡ true → assumed op before a b holds ≡ Some after)
    → IfOk result (λ reached. KeepsCompared op a b holds before reached after)
kept_where_ok op before a b holds (Ok reached) after first second is known = assumed_keeps op before a b holds reached after first second is known
kept_where_ok op before a b holds (Err e) after first second is known = is
