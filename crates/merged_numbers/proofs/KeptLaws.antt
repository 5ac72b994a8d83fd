-- Where new ranges are those of a side, the side tells of two keys no more than these, unless a bound does.
use Rattle.std.proofs.Common.{◌≡◌, ◌≢◌, ℕ, zero, suc, ◌+◌, ◌<◌, ◌==◌, ℤ, pos, ◌+ℤ◌, ◌-ℤ◌, ◌≤ℤ◌, true, false, List, [], length, get_or, slice_get, Option, Some, None, refl, sym, ap, ◌∙◌, arith, inl, inr}
use Rattle.std.specs.Prelude.{option_map, if◌then◌else◌}
use Rattle.std.proofs.lemmas.Bool.{cases_Bool, cases_eq, eqb-false, eqb-true, ne_eqb}
use Rattle.std.proofs.lemmas.Int.{ints}
use Rattle.interval_domain.specs.Interval.{Interval, one}
use Rattle.number_spans.specs.declared.span.Span.{Span}
use Rattle.pentagon_domain.specs.declared.bound_row.BoundRow.{BoundRow}
use Rattle.pentagon_domain.specs.Gaps.{cut}
use Rattle.pentagon_domain.specs.Rows.{rows_from}
use Rattle.symbolic_values.specs.declared.pairs.Key.{Key}
use Rattle.symbolic_values.specs.Pairing.{origin}
use Rattle.merged_numbers.specs.declared.rule.Rule.{Rule}
use Rattle.merged_numbers.specs.Known as side_rule
use Rattle.merged_numbers.specs.Known.{Known, distance, term_gap, term_of}
use Rattle.merged_numbers.specs.Merging.{is_told, merged_gap, row_of, rows_of, steps, told, with_gap}
use Rattle.merged_numbers.specs.Own.{AreKept, AreOwn, IsKept}
use Rattle.merged_numbers.specs.Rows.{Tells, beside}
use Rattle.merged_numbers.proofs.ApartLaws.{cut_below, first_told, with_itself}
use Rattle.merged_numbers.proofs.RowLaws.{bare_tells, get_or-any, rows_more}

pub kept_more : (side : Known) (keys : List Key) (ranges : List Interval) (n i : ℕ) (d : Key) (e : Interval) → n < length keys → length ranges ≡ length keys
    → IsKept side (get_or keys n d) (get_or ranges n e)
    → ((k : ℕ) → k < n → IsKept side (get_or keys k origin) (get_or ranges k (one (pos 0))))
    → i < n + 1 → IsKept side (get_or keys i origin) (get_or ranges i (one (pos 0)))
kept_more side keys ranges n i d e inside count own each below =
    elim (cases_Bool (i == n)) [
      | inl same ↦
          rw (eqb-true i n same, sym (get_or-any keys n d origin inside), sym (get_or-any ranges n e (one (pos 0)) (omega (arith, inside, count)))) own
      | inr apart ↦ each i (omega (arith, eqb-false i n apart, below))
    ]

-- ---- one pair

distance_of : (r q : Option Span) (a b : Span) → r ≡ Some a → q ≡ Some b → distance r q ≡ Some (b.lo -ℤ a.hi)
distance_of r q a b first second = rw (first, second) refl

between_of : (side : Known) (s t : ℕ) (a b : Span) → slice_get side.spans s ≡ Some a → slice_get side.spans t ≡ Some b
    → side_rule.between side s t ≡ Some (b.lo -ℤ a.hi)
unfolding side_rule.between
between_of side s t a b first second = distance_of (slice_get side.spans s) (slice_get side.spans t) a b first second

upto : (far more apart : ℤ) (known : Option ℤ) → ((k : ℤ) → known ≡ Some k → k ≤ℤ far) → (far +ℤ more) ≤ℤ apart
    → is_told apart (option_map (λ k. k +ℤ more) known) ≡ true
upto far more apart None below less = refl
upto far more apart (Some k) below less = let least = below k refl in grind (arith, ints)

nothing_itself : (k : ℤ) → None ≡ Some k → ⊥
nothing_itself k is = cc

kept_told : (side : Known) (u v : Key) (from to : Interval) → IsKept side u from → IsKept side v to → Tells side u.s v.s None
    → is_told (to.lo -ℤ from.hi) (term_gap side (term_of true u) (term_of true v)) ≡ true
unfolding term_gap
kept_told side u v from to first second tells =
    let distinct : u.s ≢ v.s = λ same. nothing_itself (pos 0) (tells.itself same) in
    let far : ℤ = second.span.lo -ℤ first.span.hi in
    let between = between_of side u.s v.s first.span second.span first.there second.there in
    let gap : cut far ≡ side_rule.gap side u.s v.s = rw between at (tells.others distinct) in
    let high = first.high in
    let low = second.low in
    rw (← gap)
    (upto far (v.first -ℤ u.first) (to.lo -ℤ from.hi) (cut far) (λ k is. cut_below far k is)
    (omega (arith, ints, high, low)))

pub kept_pair : (side : Known) (keys : List Key) (ranges : List Interval) (i j : ℕ) (d e : Key) (known : Option ℤ) → AreKept side keys ranges → i < length keys
    → j < length keys → Tells side (get_or keys i d).s (get_or keys j e).s known → known ≡ None
    → is_told (told ranges i j) (term_gap side (term_of true (get_or keys i origin)) (term_of true (get_or keys j origin))) ≡ true
kept_pair side keys ranges i j d e known kept first second tells none =
    kept_told side (get_or keys i origin) (get_or keys j origin) (get_or ranges i (one (pos 0))) (get_or ranges j (one (pos 0))) (kept i first) (kept j second)
    (rw (get_or-any keys i d origin first, get_or-any keys j e origin second, none) at tells)

-- ---- a row from which no bound goes

no_gap : (s t : ℕ) → s ≢ t → None ≡ (if s == t then Some (pos 0) else None)
no_gap s t other = rw (ne_eqb s t other) refl

bare_pair : (rule : Rule) (a b : Known) (keys : List Key) (ranges : List Interval) (i j : ℕ) (rows : List BoundRow) → AreKept a keys ranges → AreOwn keys
    → rows_from a.bounds (get_or keys i origin).s ≡ [] → i < length keys → j < length keys
    → with_gap (told ranges i j) i j (merged_gap rule a b (get_or keys i origin) (get_or keys j origin)) rows ≡ rows
bare_pair rule a b keys ranges i j rows kept own bare first second =
    elim (cases_eq i j) [
      | inl same ↦ rw same (with_itself (told ranges j j) j (merged_gap rule a b (get_or keys j origin) (get_or keys j origin)) rows)
      | inr other ↦
          let u : Key = get_or keys i origin in
          let v : Key = get_or keys j origin in
          let distinct : u.s ≢ v.s = λ e. other (omega (arith, e, (own i first).symbol, (own j second).symbol)) in
          first_told rule (told ranges i j) i j (term_gap a (term_of true u) (term_of true v)) (term_gap b (term_of false u) (term_of false v)) rows
          (kept_told a u v (get_or ranges i (one (pos 0))) (get_or ranges j (one (pos 0))) (kept i first) (kept j second)
          (bare_tells a u.s v.s None bare (no_gap u.s v.s distinct)))
    ]

steps_idle : {X : Type 0} (step : ℕ → X → X) (n : ℕ) (x : X) → ((j : ℕ) → j < n → step j x ≡ x) → steps step n x ≡ x
steps_idle step zero x idle = refl
steps_idle step (suc n) x idle =
    ap (step n) (steps_idle step n x (λ j below. idle j (omega (arith, below)))) ∙ idle n (omega arith)

pub bare_row : (rule : Rule) (a b : Known) (keys : List Key) (ranges : List Interval) (i : ℕ) (d : Key) (start before : List BoundRow) → AreKept a keys ranges
    → AreOwn keys → i < length keys → rows_from a.bounds (get_or keys i d).s ≡ [] → before ≡ rows_of (merged_gap rule a b) keys ranges i start
    → before ≡ rows_of (merged_gap rule a b) keys ranges (i + 1) start
bare_row rule a b keys ranges i d start before kept own inside bare so_far =
    rows_more (merged_gap rule a b) keys ranges i start before before
    (sym (steps_idle (λ j. with_gap (told ranges i j) i j (merged_gap rule a b (get_or keys i origin) (get_or keys j origin))) (length keys) before
    (λ j second. bare_pair rule a b keys ranges i j before kept own (rw (get_or-any keys i d origin inside) at bare) inside second)))
    so_far
