-- Which numbers are allowed, and that gaps say nothing false of them.
use Rattle.std.proofs.Common.{◌≡◌, ◌≢◌, ℕ, ◌==◌, ◌≤◌, ℤ, pos, ◌+ℤ◌, ◌-ℤ◌, ◌≤ℤ◌, true, ◌&&◌, List, [], ◌∷◌, Option, Some, None, length, ap, inl, inr, arith}
use Rattle.std.specs.Prelude.{nat_le, if◌then◌else◌}
use Rattle.std.specs.Int.{int_min, int_max}
use Rattle.std.proofs.lemmas.Bool.{cases_Bool, cond_both, and_parts, eqb-true}
use Rattle.std.proofs.lemmas.Bool.Decides.{Decides-int_eq}
use Rattle.std.proofs.lemmas.Grind.{common_steps}
use Rattle.std.proofs.lemmas.Int.{ints, clamps}
use Rattle.interval_domain.specs.Interval.{is_hole, inner_hole, is_inside}
use Rattle.pentagon_domain.specs.declared.bound_row.BoundRow.{BoundRow}
use Rattle.pentagon_domain.specs.Rows.{rows_from, rows_to}
use Rattle.pentagon_domain.specs.Gaps as by_bounds
use Rattle.pentagon_domain.specs.Laws.GapsHold.{gap_above, gap_with_above}
use Rattle.number_spans.specs.Spans.{Has}
use Rattle.number_spans.specs.Stored.{Allows}
use Rattle.number_facts.specs.Facts.{Facts, has, range_at}
use Rattle.number_facts.specs.Ends.{cut_by_all, lowered_by, raised_by, met, span_at}
use Rattle.number_facts.specs.Gaps.{gap}

-- Ranges and bounds allow the number of each symbol that is there.
pub record AllowsNumbers (facts : Facts) (number : ℕ → ℤ) : Type 0 where
  pub ranges : (s : ℕ) → s ≤ length facts.ranges → Allows (range_at facts s) (number s)
  pub bounds : by_bounds.Allows facts.bounds number

-- ---- what is left to a symbol has its number

le_true : (m n : ℕ) → nat_le m n ≡ true → m ≤ n
le_true m n e = grind (arith, common_steps, e)

lower_still : (h x k n : ℤ) → n ≤ℤ h → (n +ℤ k) ≤ℤ x → n ≤ℤ int_min h (x -ℤ k)
lower_still h x k n first second = omega (arith, ints, clamps, first, second)

higher_still : (h x k n : ℤ) → h ≤ℤ n → (x +ℤ k) ≤ℤ n → int_max h (x +ℤ k) ≤ℤ n
higher_still h x k n first second = omega (arith, ints, clamps, first, second)

-- the bounds that go from a symbol leave its number below
lowered_below : (facts : Facts) (number : ℕ → ℤ) (s : ℕ) (rows : List BoundRow) (hi : ℤ) → AllowsNumbers facts number → by_bounds.Allows rows number
    → number s ≤ℤ hi → number s ≤ℤ cut_by_all (lowered_by facts) (rows_from rows s) hi
lowered_below facts number s [] hi allowed some below = below
lowered_below facts number s (row ∷ rows) hi allowed some below =
    elim (cases_Bool (row.s == s)) [
      | inl from ↦
          rw from (lowered_below facts number s rows (lowered_by facts hi row) allowed some.1
          (cond_both (has facts row.t) _ _ (λ h. number s ≤ℤ h)
          (λ there.
          let same : number row.s ≡ number s = ap number (eqb-true row.s s from) in
          let upto = (allowed.ranges row.t (le_true row.t (length facts.ranges) there)).below in
          let first : (number row.s +ℤ row.k) ≤ℤ number row.t = some.0 in
          lower_still hi (range_at facts row.t).hi row.k (number s) below (omega (arith, ints, same, upto, first)))
          (λ other. below)))
      | inr other ↦ rw other (lowered_below facts number s rows hi allowed some.1 below)
    ]

-- those that go to it leave it above
raised_above : (facts : Facts) (number : ℕ → ℤ) (t : ℕ) (rows : List BoundRow) (lo : ℤ) → AllowsNumbers facts number → by_bounds.Allows rows number
    → lo ≤ℤ number t → cut_by_all (raised_by facts) (rows_to rows t) lo ≤ℤ number t
raised_above facts number t [] lo allowed some above = above
raised_above facts number t (row ∷ rows) lo allowed some above =
    elim (cases_Bool (row.t == t)) [
      | inl to ↦
          rw to (raised_above facts number t rows (raised_by facts lo row) allowed some.1
          (cond_both (has facts row.s) _ _ (λ l. l ≤ℤ number t)
          (λ there.
          let same : number row.t ≡ number t = ap number (eqb-true row.t t to) in
          let from = (allowed.ranges row.s (le_true row.s (length facts.ranges) there)).above in
          let first : (number row.s +ℤ row.k) ≤ℤ number row.t = some.0 in
          higher_still lo (range_at facts row.s).lo row.k (number t) above (omega (arith, ints, same, from, first)))
          (λ other. above)))
      | inr other ↦ rw other (raised_above facts number t rows lo allowed some.1 above)
    ]

hole_apart : (hole : Option ℤ) (k n : ℤ) → is_hole hole k ≡ true → hole ≢ Some n → n ≢ k
hole_apart None k n is apart = λ e. grind (arith, is)
hole_apart (Some h) k n is apart = λ e. apart (ap Some (sym_of ((Decides-int_eq h k).0 is) e))
  where
    sym_of : h ≡ k → n ≡ k → h ≡ n
    sym_of first second = cc

inner_apart : (lo hi n : ℤ) (hole : Option ℤ) → hole ≢ Some n → inner_hole lo hi hole ≢ Some n
unfolding inner_hole
inner_apart lo hi n None apart = apart
inner_apart lo hi n (Some h) apart = cond_both (is_inside lo hi h) _ _ (λ o. o ≢ Some n) (λ e. apart) (λ e. λ is. grind arith)

met_above : (lo n : ℤ) (hole : Option ℤ) → lo ≤ℤ n → hole ≢ Some n → (if is_hole hole lo then lo +ℤ pos 1 else lo) ≤ℤ n
met_above lo n hole above apart = cond_both (is_hole hole lo) _ _ (λ l. l ≤ℤ n)
    (λ e. let other = hole_apart hole lo n e apart in omega (arith, ints, above, other)) (λ e. above)

met_below : (hi n : ℤ) (hole : Option ℤ) → n ≤ℤ hi → hole ≢ Some n → n ≤ℤ (if is_hole hole hi then hi -ℤ pos 1 else hi)
met_below hi n hole below apart = cond_both (is_hole hole hi) _ _ (λ h. n ≤ℤ h)
    (λ e. let other = hole_apart hole hi n e apart in omega (arith, ints, below, other)) (λ e. below)

met_has : (lo hi n : ℤ) (hole : Option ℤ) → lo ≤ℤ n → n ≤ℤ hi → hole ≢ Some n → Has (met lo hi hole) n
unfolding met
met_has lo hi n hole above below apart = record {
  above = met_above lo n hole above apart;
  below = met_below hi n hole below apart;
  no_hole = inner_apart lo hi n hole apart;
}

-- What is left to a symbol that is there has its number.
pub span_has : (facts : Facts) (number : ℕ → ℤ) (s : ℕ) → s ≤ length facts.ranges → AllowsNumbers facts number → Has (span_at facts s) (number s)
unfolding span_at
span_has facts number s there allowed =
    let own = allowed.ranges s there in
    met_has _ _ (number s) (range_at facts s).hole (raised_above facts number s facts.bounds (range_at facts s).lo allowed allowed.bounds own.above)
    (lowered_below facts number s facts.bounds (range_at facts s).hi allowed allowed.bounds own.below) own.no_hole

-- ---- gaps

between_below : (facts : Facts) (number : ℕ → ℤ) (s t : ℕ) → s ≤ length facts.ranges → t ≤ length facts.ranges → AllowsNumbers facts number
    → by_bounds.LiesAbove number s t ((span_at facts t).lo -ℤ (span_at facts s).hi)
between_below facts number s t first second allowed =
    let low = (span_has facts number t second allowed).above in
    let high = (span_has facts number s first allowed).below in
    omega (arith, ints, low, high)

pub gap_allowed : (facts : Facts) (number : ℕ → ℤ) (s t : ℕ) (k : ℤ) → gap facts s t ≡ Some k → AllowsNumbers facts number → (number s +ℤ k) ≤ℤ number t
unfolding gap
gap_allowed facts number s t k is allowed = cond_both (has facts s && has facts t) _ _ (λ o. o ≡ Some k → (number s +ℤ k) ≤ℤ number t)
    (λ e given.
    let parts = and_parts (has facts s) (has facts t) e in
    let apart = between_below facts number s t (le_true s (length facts.ranges) parts.0) (le_true t (length facts.ranges) parts.1) allowed in
    gap_with_above facts.bounds number ((span_at facts t).lo -ℤ (span_at facts s).hi) s t allowed.bounds apart k given)
    (λ e given. gap_above facts.bounds number s t allowed.bounds k given) is
