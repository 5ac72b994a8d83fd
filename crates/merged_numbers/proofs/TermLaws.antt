-- What a state says of terms is so where all that it knows is.
use Rattle.std.proofs.Common.{◌≡◌, ◌≢◌, ℕ, ℤ, pos, ◌+ℤ◌, ◌-ℤ◌, ◌≤ℤ◌, Bool, true, false, not, Option, Some, None, is_some, FitsSigned, w32, slice_get, refl, sym, ap, ◌∙◌, arith}
use Rattle.std.specs.Prelude.{option_map, if◌then◌else◌}
use Rattle.std.specs.Int.{int_min, int_max}
use Rattle.std.proofs.lemmas.Bool.{cond_both}
use Rattle.std.proofs.lemmas.Bool.Decides.{Decides-int_eq}
use Rattle.std.proofs.lemmas.Int.{ints, clamps}
use Rattle.cil_model.specs.Arithmetic.{LEAST, GREATEST}
use Rattle.interval_domain.specs.Interval.{inner_hole, is_hole, is_inside}
use Rattle.pentagon_domain.specs.Gaps as by_bounds
use Rattle.pentagon_domain.specs.Laws.GapsHold.{gap_above, gap_with_above}
use Rattle.number_spans.specs.Spans.{Has, full, moved_hole}
use Rattle.number_spans.specs.declared.span.Span.{Span}
use Rattle.merged_numbers.specs.declared.term.Term.{Term}
use Rattle.merged_numbers.specs.Known.{Known, worth, met, int32_of, int32_or_full, int32s, distance, between, gap_or, gap, term_gap}
use Rattle.merged_numbers.specs.Meaning.{AllowsKnown}

-- ---- the numbers of a term

-- What is not there is none.
pub none_there : {A : Type 0} (o : Option A) (is_none : Bool) → is_some o ≡ not is_none → is_none ≡ true → o ≡ None
none_there None is_none is none = refl
none_there (Some x) is_none is none = let both : true ≡ false = rw none at is in absurd cc

-- Without a hole the ends stay.
met_between : (lo hi : ℤ) → record { lo = lo; hi = hi; hole = None } ≡ met lo hi None
unfolding met inner_hole
met_between lo hi = refl

pub met_whole : (lo hi : ℤ) (hole : Option ℤ) (is_none : Bool) → is_some hole ≡ not is_none → is_none ≡ true
    → record { lo = lo; hi = hi; hole = None } ≡ met lo hi hole
met_whole lo hi hole is_none is none = met_between lo hi ∙ ap (met lo hi) (sym (none_there hole is_none is none))

hole_apart : (hole : Option ℤ) (k n : ℤ) → is_hole hole k ≡ true → hole ≢ Some n → n ≢ k
hole_apart None k n is apart = λ e. grind (arith, is)
hole_apart (Some h) k n is apart = λ e. apart (ap Some (sym_of ((Decides-int_eq h k).0 is) e))
  where
    sym_of : h ≡ k → n ≡ k → h ≡ n
    sym_of first second = cc

inner_apart : (lo hi n : ℤ) (hole : Option ℤ) → hole ≢ Some n → inner_hole lo hi hole ≢ Some n
unfolding inner_hole
inner_apart lo hi n None apart = apart
inner_apart lo hi n (Some h) apart = cond_both (is_inside lo hi h) _ _ (λ o. o ≢ Some n) (λ e. apart) (λ e. λ is. grind arith)

met_above : (lo n : ℤ) (hole : Option ℤ) → lo ≤ℤ n → hole ≢ Some n → (if is_hole hole lo then lo +ℤ pos 1 else lo) ≤ℤ n
met_above lo n hole above apart = cond_both (is_hole hole lo) _ _ (λ l. l ≤ℤ n)
    (λ e. let other = hole_apart hole lo n e apart in omega (arith, ints, above, other)) (λ e. above)

met_below : (hi n : ℤ) (hole : Option ℤ) → n ≤ℤ hi → hole ≢ Some n → n ≤ℤ (if is_hole hole hi then hi -ℤ pos 1 else hi)
met_below hi n hole below apart = cond_both (is_hole hole hi) _ _ (λ h. n ≤ℤ h)
    (λ e. let other = hole_apart hole hi n e apart in omega (arith, ints, below, other)) (λ e. below)

met_has : (lo hi n : ℤ) (hole : Option ℤ) → lo ≤ℤ n → n ≤ℤ hi → hole ≢ Some n → Has (met lo hi hole) n
unfolding met
met_has lo hi n hole above below apart = record {
  above = met_above lo n hole above apart;
  below = met_below hi n hole below apart;
  no_hole = inner_apart lo hi n hole apart;
}

moved_apart : (hole : Option ℤ) (n k : ℤ) → hole ≢ Some n → moved_hole hole k ≢ Some (n +ℤ k)
moved_apart None n k apart = λ is. grind arith
moved_apart (Some h) n k apart = λ is. apart (ap Some (omega (arith, ints, same (h +ℤ k) (n +ℤ k) is)))
  where
    same : (a b : ℤ) → Some a ≡ Some b → a ≡ b
    same a b is = grind arith

int32_of_has : (r : Span) (n k : ℤ) → Has r n → FitsSigned w32 (n +ℤ k) → Has (int32_of r k) (n +ℤ k)
unfolding int32_of
int32_of_has r n k has fits =
    met_has (int_max (r.lo +ℤ k) LEAST) (int_min (r.hi +ℤ k) GREATEST) (n +ℤ k) (moved_hole r.hole k) (omega (arith, ints, clamps, has.above, fits))
    (omega (arith, ints, clamps, has.below, fits)) (moved_apart r.hole n k has.no_hole)

full_has : (n : ℤ) → FitsSigned w32 n → Has full n
full_has n fits = record { above = omega (arith, ints, fits); below = omega (arith, ints, fits); no_hole = λ is. grind arith }

some_has : (side : Known) (number : ℕ → ℤ) (s : ℕ) (k : ℤ) (r : Option Span) → slice_get side.spans s ≡ r → AllowsKnown side number
    → FitsSigned w32 (number s +ℤ k) → Has (int32_or_full r k) (number s +ℤ k)
some_has side number s k None is allowed fits = full_has (number s +ℤ k) fits
some_has side number s k (Some r) is allowed fits = int32_of_has r (number s) k (allowed.spans s r is) fits

-- An int32 that a term is worth is one of those that it may be.
pub int32s_has : (side : Known) (number : ℕ → ℤ) (x : Term) → AllowsKnown side number → FitsSigned w32 (worth number x)
    → Has (int32s side x) (worth number x)
unfolding int32s
int32s_has side number x allowed fits = some_has side number x.sym x.k (slice_get side.spans x.sym) refl allowed fits

-- ---- gaps

some_same : (k l : ℤ) → Some k ≡ Some l → k ≡ l
some_same k l is = cc

far : (number : ℕ → ℤ) (s t : ℕ) (r q : Span) → Has r (number s) → Has q (number t) → by_bounds.LiesAbove number s t (q.lo -ℤ r.hi)
far number s t r q first second = omega (arith, ints, first.below, second.above)

gap_with_spans : (side : Known) (number : ℕ → ℤ) (s t : ℕ) (first second : Option Span) (k : ℤ) → AllowsKnown side number
    → slice_get side.spans s ≡ first → slice_get side.spans t ≡ second → gap_or side.bounds (distance first second) s t ≡ Some k
    → by_bounds.LiesAbove number s t k
gap_with_spans side number s t None second k allowed one other is = gap_above side.bounds number s t allowed.bounds k is
gap_with_spans side number s t (Some r) None k allowed one other is = gap_above side.bounds number s t allowed.bounds k is
gap_with_spans side number s t (Some r) (Some q) k allowed one other is =
    gap_with_above side.bounds number (q.lo -ℤ r.hi) s t allowed.bounds (far number s t r q (allowed.spans s r one) (allowed.spans t q other)) k is

-- The second symbol lies so far above the first.
pub gap_so : (side : Known) (number : ℕ → ℤ) (s t : ℕ) (k : ℤ) → AllowsKnown side number → gap side s t ≡ Some k → by_bounds.LiesAbove number s t k
unfolding gap between
gap_so side number s t k allowed is = gap_with_spans side number s t (slice_get side.spans s) (slice_get side.spans t) k allowed refl refl is

moved_so : (m n a b k : ℤ) (known : Option ℤ) → ((l : ℤ) → known ≡ Some l → (m +ℤ l) ≤ℤ n) → option_map (λ l. l +ℤ (b -ℤ a)) known ≡ Some k
    → ((m +ℤ a) +ℤ k) ≤ℤ (n +ℤ b)
moved_so m n a b k None so is = absurd cc
moved_so m n a b k (Some l) so is =
    let above = so l refl in
    let same : (l +ℤ (b -ℤ a)) ≡ k = some_same (l +ℤ (b -ℤ a)) k is in
    omega (arith, ints, above, same)

-- The second term lies so far above the first.
pub term_gap_so : (side : Known) (number : ℕ → ℤ) (x y : Term) (k : ℤ) → AllowsKnown side number → term_gap side x y ≡ Some k
    → (worth number x +ℤ k) ≤ℤ worth number y
unfolding term_gap
term_gap_so side number x y k allowed is =
    moved_so (number x.sym) (number y.sym) x.k y.k k (gap side x.sym y.sym) (λ l told. gap_so side number x.sym y.sym l allowed told) is
