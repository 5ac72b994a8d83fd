-- What the new ranges tell is not stored.
use Rattle.std.proofs.Common.{◌≡◌, ℕ, zero, suc, ◌+◌, ◌<◌, ℤ, pos, ◌+ℤ◌, ◌-ℤ◌, ◌≤ℤ◌, true, false, ◌&&◌, ◌||◌, List, [], ◌∷◌, length, get_or, slice_get, Option, Some, None, int_lt, int_le, refl, sym, ap, ◌∙◌, inl, inr, arith}
use Rattle.std.specs.Prelude.{option_map, option_and_then}
use Rattle.std.specs.Int.{int_min, int_max}
use Rattle.std.specs.Ordering.{int_eq}
use Rattle.std.proofs.lemmas.Bool.{cases_Bool, cases_eq, cond_both}
use Rattle.std.proofs.lemmas.Int.{ints, clamps}
use Rattle.cil_model.specs.Arithmetic.{LEAST, GREATEST}
use Rattle.domain_api.specs.Order.{greater_gap}
use Rattle.interval_domain.specs.Interval as intervals
use Rattle.interval_domain.specs.Interval.{Interval, is_hole, lost, lowered, one, raised, without}
use Rattle.pentagon_domain.specs.declared.bound_row.BoundRow.{BoundRow}
use Rattle.pentagon_domain.specs.Gaps.{cut}
use Rattle.pentagon_domain.specs.Rows.{is_pair, with_bound}
use Rattle.number_spans.specs.Spans.{moved_hole}
use Rattle.number_spans.specs.Stored.{range_without}
use Rattle.number_spans.specs.declared.span.Span.{Span}
use Rattle.symbolic_values.specs.declared.pairs.Key.{Key}
use Rattle.symbolic_values.specs.Pairing.{origin}
use Rattle.merged_numbers.specs.declared.rule.Rule.{Rule}
use Rattle.merged_numbers.specs.declared.rule.Rule.TheVariants.{Join, Widening}
use Rattle.merged_numbers.specs.declared.term.Term.{Term}
use Rattle.merged_numbers.specs.Known.{Known, between, distance, int32_of, int32s, met, term_gap, term_of}
use Rattle.merged_numbers.specs.Rows.{Tells, beside}
use Rattle.merged_numbers.specs.Spans.{but_for, gap_by, stored}
use Rattle.merged_numbers.specs.Merging.{is_constant, is_told, merged_gap, own_gap, own_span, put_before, ranges_of, told, with_gap}
use Rattle.merged_numbers.proofs.RowLaws.{gap_itself, get_or-any}

-- ---- a range that is stored lies within its span

record IsInside (lo hi : ℤ) (r : Interval) : Type 0 where
  from : lo ≤ℤ r.lo
  upto : r.hi ≤ℤ hi

abbrev SomeInside : ℤ → ℤ → Option Interval → Type 0
SomeInside lo hi None = Unit {0}
SomeInside lo hi (Some r) = IsInside lo hi r

lost_inside : (lo hi h : ℤ) → IsInside lo hi (lost (intervals.between lo hi) h)
unfolding lost raised lowered
lost_inside lo hi h = cond_both (int_eq h lo) _ _ (IsInside lo hi)
    (λ e. record { from = omega (arith, ints); upto = omega (arith, ints) })
    (λ e. cond_both (int_eq h hi) _ _ (IsInside lo hi)
    (λ f. record { from = omega (arith, ints); upto = omega (arith, ints) })
    (λ f. record { from = omega (arith, ints); upto = omega (arith, ints) }))

without_inside : (lo hi h : ℤ) → SomeInside lo hi (without (intervals.between lo hi) h)
unfolding without
without_inside lo hi h = cond_both (int_lt h lo || int_lt hi h) _ _ (SomeInside lo hi)
    (λ e. record { from = omega (arith, ints); upto = omega (arith, ints) })
    (λ e. cond_both (int_eq lo hi) _ _ (SomeInside lo hi) (λ f. tt) (λ f. lost_inside lo hi h))

but_for_inside : (lo hi : ℤ) (hole : Option ℤ) → SomeInside lo hi (but_for (intervals.between lo hi) hole)
but_for_inside lo hi None = record { from = omega (arith, ints); upto = omega (arith, ints) }
but_for_inside lo hi (Some h) = without_inside lo hi h

stored_inside : (r : Span) → SomeInside r.lo r.hi (stored r)
unfolding range_without
stored_inside r = cond_both (int_le r.lo r.hi) (Some (intervals.between r.lo r.hi)) None
    (λ o. SomeInside r.lo r.hi (option_and_then (λ ends. but_for ends r.hole) o)) (λ e. but_for_inside r.lo r.hi r.hole) (λ e. tt)

some_inside : (lo hi : ℤ) (o : Option Interval) (r : Interval) → SomeInside lo hi o → o ≡ Some r → IsInside lo hi r
some_inside lo hi None r inside is = absurd cc
some_inside lo hi (Some q) r inside is = let same : q ≡ r = of_some is in rw (sym same) inside
  where
    of_some : Some q ≡ Some r → q ≡ r
    of_some e = cc

-- ---- the range of a key

abbrev RangeAt : (Key → Span) → List Key → List Interval → ℕ → Type 0
RangeAt span keys rs i = stored (span (get_or keys i origin)) ≡ Some (get_or rs i (one (pos 0)))

put_at : (span : Key → Span) (u : Key) (us : List Key) (r : Option Interval) (rest : Option (List Interval)) (rs : List Interval) (i : ℕ)
    → stored (span u) ≡ r → Some rs ≡ put_before r rest → ((more : List Interval) (j : ℕ) → Some more ≡ rest → j < length us → RangeAt span us more j)
    → i < length (u ∷ us) → RangeAt span (u ∷ us) rs i
put_at span u us None rest rs i here is later inside = absurd cc
put_at span u us (Some r) None rs i here is later inside = absurd cc
put_at span u us (Some r) (Some more) rs zero here is later inside =
    let same : rs ≡ r ∷ more = of_some is in
    rw same here
  where
    of_some : Some rs ≡ Some (r ∷ more) → rs ≡ r ∷ more
    of_some e = cc
put_at span u us (Some r) (Some more) rs (suc i) here is later inside =
    let same : rs ≡ r ∷ more = of_some is in
    rw same (later more i refl (omega (arith, inside)))
  where
    of_some : Some rs ≡ Some (r ∷ more) → rs ≡ r ∷ more
    of_some e = cc

range_at : (span : Key → Span) (keys : List Key) (rs : List Interval) (i : ℕ) → Some rs ≡ ranges_of span keys → i < length keys → RangeAt span keys rs i
range_at span [] rs i is inside = absurd (omega (arith, inside))
range_at span (u ∷ us) rs i is inside =
    put_at span u us (stored (span u)) (ranges_of span us) rs i refl is (λ more j told within. range_at span us more j told within) inside

-- ---- the int32 of a span lie within it

met_inside : (lo hi : ℤ) (hole : Option ℤ) → (lo ≤ℤ (met lo hi hole).lo) × ((met lo hi hole).hi ≤ℤ hi)
unfolding met
met_inside lo hi hole = (
  cond_both (is_hole hole lo) (lo +ℤ pos 1) lo (λ l. lo ≤ℤ l) (λ e. omega (arith, ints)) (λ e. omega (arith, ints)),
  cond_both (is_hole hole hi) (hi -ℤ pos 1) hi (λ h. h ≤ℤ hi) (λ e. omega (arith, ints)) (λ e. omega (arith, ints)),
)

int32_inside : (r : Span) (k : ℤ) → ((r.lo +ℤ k) ≤ℤ (int32_of r k).lo) × ((int32_of r k).hi ≤ℤ (r.hi +ℤ k))
unfolding int32_of
int32_inside r k =
    let inside = met_inside (int_max (r.lo +ℤ k) LEAST) (int_min (r.hi +ℤ k) GREATEST) (moved_hole r.hole k) in
    let low = inside.0 in
    let high = inside.1 in
    (omega (arith, ints, clamps, low), omega (arith, ints, clamps, high))

own_inside : (a : Known) (u : Key) (r : Span) → slice_get a.spans u.s ≡ Some r
    → ((r.lo +ℤ u.first) ≤ℤ (own_span a u).lo) × ((own_span a u).hi ≤ℤ (r.hi +ℤ u.first))
unfolding int32s
own_inside a u r is = rw is (int32_inside r u.first)

-- ---- the gap of a key and itself

no_pair : (i : ℕ) → is_pair (i + 1) (i + 1) ≡ false
no_pair i = grind arith

pub with_itself : (apart : ℤ) (i : ℕ) (gap : Option ℤ) (rows : List BoundRow) → with_gap apart i i gap rows ≡ rows
with_itself apart i None rows = refl
with_itself apart i (Some k) rows =
    cond_both (int_lt apart k && is_constant k) (with_bound rows (i + 1) (i + 1) k) rows (λ made. made ≡ rows) (λ e. rw (no_pair i) refl) (λ e. refl)

-- Of the key at a place and itself nothing is stored.
pub pair_itself : (apart : ℤ) (i j : ℕ) (gap : Option ℤ) (rows : List BoundRow) → i ≡ j → rows ≡ with_gap apart i j gap rows
pair_itself apart i j gap rows same = rw (sym same) (sym (with_itself apart i gap rows))

-- ---- gaps by ranges alone

pub cut_below : (n k : ℤ) → cut n ≡ Some k → k ≤ℤ n
unfolding cut
cut_below n k is = grind (arith, ints)

pub not_less : (m n : ℤ) → n ≤ℤ m → int_lt m n ≡ false
not_less m n h = grind (arith, ints)

-- A gap that says no more than ranges is not stored.
says_no_more : (apart k : ℤ) (i j : ℕ) (rows : List BoundRow) → k ≤ℤ apart → with_gap apart i j (Some k) rows ≡ rows
says_no_more apart k i j rows less = rw (not_less apart k less) refl

lesser_too : (k c more apart : ℤ) → int_lt k c ≡ true → (c +ℤ more) ≤ℤ apart → (k +ℤ more) ≤ℤ apart
lesser_too k c more apart less upto = grind (arith, ints)

-- So a gap that says no more may be left out of one that is stored.
left_out : (apart more : ℤ) (i j : ℕ) (known known_more : Option ℤ) (rows : List BoundRow) → ((k : ℤ) → known_more ≡ Some k → (k +ℤ more) ≤ℤ apart)
    → with_gap apart i j (option_map (λ k. k +ℤ more) (greater_gap known known_more)) rows ≡ with_gap apart i j (option_map (λ k. k +ℤ more) known) rows
left_out apart more i j None None rows less = refl
left_out apart more i j (Some k) None rows less = refl
left_out apart more i j None (Some c) rows less = says_no_more apart (c +ℤ more) i j rows (less c refl)
left_out apart more i j (Some k) (Some c) rows less =
    elim (cases_Bool (int_lt k c)) [
      | inl lower ↦
          rw lower
          (says_no_more apart (c +ℤ more) i j rows (less c refl)
          ∙ sym (says_no_more apart (k +ℤ more) i j rows (lesser_too k c more apart lower (less c refl))))
      | inr higher ↦ rw higher refl
    ]

spans_left_out : (apart more : ℤ) (i j : ℕ) (known between : Option ℤ) (rows : List BoundRow) → ((d : ℤ) → between ≡ Some d → (d +ℤ more) ≤ℤ apart)
    → with_gap apart i j (option_map (λ k. k +ℤ more) (beside known between)) rows ≡ with_gap apart i j (option_map (λ k. k +ℤ more) known) rows
spans_left_out apart more i j known None rows less = refl
spans_left_out apart more i j known (Some d) rows less =
    let upto = less d refl in
    left_out apart more i j known (cut d) rows (λ k is. let below = cut_below d k is in omega (arith, ints, upto, below))

-- What the spans of two keys tell, their new ranges tell.
ranges_tell : (a : Known) (u v : Key) (r q : Option Span) (from to : Interval) (d : ℤ) → slice_get a.spans u.s ≡ r → slice_get a.spans v.s ≡ q
    → IsInside (own_span a u).lo (own_span a u).hi from → IsInside (own_span a v).lo (own_span a v).hi to → distance r q ≡ Some d
    → (d +ℤ (v.first -ℤ u.first)) ≤ℤ (to.lo -ℤ from.hi)
ranges_tell a u v None q from to d first second one other is = absurd cc
ranges_tell a u v (Some r) None from to d first second one other is = absurd cc
ranges_tell a u v (Some r) (Some q) from to d first second one other is =
    let same : (q.lo -ℤ r.hi) ≡ d = some_same (q.lo -ℤ r.hi) d is in
    let high = (own_inside a u r first).1 in
    let low = (own_inside a v q second).0 in
    let upto = one.upto in
    let above = other.from in
    omega (arith, ints, same, high, low, upto, above)
  where
    some_same : (k l : ℤ) → Some k ≡ Some l → k ≡ l
    some_same k l is = cc

spelled : (a : Known) (s t : ℕ) (d : ℤ) → between a s t ≡ Some d → distance (slice_get a.spans s) (slice_get a.spans t) ≡ Some d
unfolding between
spelled a s t d is = is

-- What tells a gap beside the spans is stored in the place of the gap.
pub by_row : (a : Known) (keys : List Key) (rs : List Interval) (i j : ℕ) (rows : List BoundRow) (known : Option ℤ) → Some rs ≡ ranges_of (own_span a) keys
    → i < length keys → j < length keys → Tells a (get_or keys i origin).s (get_or keys j origin).s known
    → with_gap (told rs i j) i j (option_map (λ k. k +ℤ ((get_or keys j origin).first -ℤ (get_or keys i origin).first)) known) rows
    ≡ with_gap (told rs i j) i j (own_gap a (get_or keys i origin) (get_or keys j origin)) rows
unfolding term_gap
by_row a keys rs i j rows known is first second tells =
    let u : Key = get_or keys i origin in
    let v : Key = get_or keys j origin in
    let more : ℤ = v.first -ℤ u.first in
    let stores : Option ℤ → List BoundRow = (λ gap. with_gap (told rs i j) i j (option_map (λ k. k +ℤ more) gap) rows) in
    let from = some_inside (own_span a u).lo (own_span a u).hi (stored (own_span a u)) (get_or rs i (one (pos 0))) (stored_inside (own_span a u))
    (range_at (own_span a) keys rs i is first) in
    let to = some_inside (own_span a v).lo (own_span a v).hi (stored (own_span a v)) (get_or rs j (one (pos 0))) (stored_inside (own_span a v))
    (range_at (own_span a) keys rs j is second) in
    elim (cases_eq u.s v.s) [
      | inl same ↦ ap stores (tells.itself same ∙ gap_itself a u.s v.s same)
      | inr apart ↦
          sym (spans_left_out (told rs i j) more i j known (between a u.s v.s) rows
          (λ d told_is. ranges_tell a u v (slice_get a.spans u.s) (slice_get a.spans v.s) (get_or rs i (one (pos 0))) (get_or rs j (one (pos 0))) d refl refl from to (spelled a u.s v.s d told_is)))
          ∙ ap stores (tells.others apart)
    ]

-- So it is of the keys at two places.
pub pair_by_row : (a : Known) (keys : List Key) (rs : List Interval) (i j : ℕ) (d e : Key) (known gap : Option ℤ) (before after : List BoundRow)
    → Some rs ≡ ranges_of (own_span a) keys → i < length keys → j < length keys → Tells a (get_or keys i d).s (get_or keys j e).s known
    → gap ≡ option_map (λ k. k +ℤ ((get_or keys j e).first -ℤ (get_or keys i d).first)) known → after ≡ with_gap (told rs i j) i j gap before
    → after ≡ with_gap (told rs i j) i j (own_gap a (get_or keys i origin) (get_or keys j origin)) before
pair_by_row a keys rs i j d e known gap before after is first second tells gap_is after_is =
    let from : get_or keys i d ≡ get_or keys i origin = get_or-any keys i d origin first in
    let to : get_or keys j e ≡ get_or keys j origin = get_or-any keys j e origin second in
    after_is ∙ ap (λ g. with_gap (told rs i j) i j g before) (rw (from, to) at gap_is)
    ∙ by_row a keys rs i j before known is first second (rw (from, to) at tells)

-- ---- two sides

-- Where the first gap says no more than ranges, both as one say no more.
pub first_told : (rule : Rule) (apart : ℤ) (i j : ℕ) (a b : Option ℤ) (rows : List BoundRow) → is_told apart a ≡ true → with_gap apart i j (gap_by rule a b) rows ≡ rows
first_told Join apart i j None b rows is = refl
first_told Join apart i j (Some k) None rows is = refl
first_told Join apart i j (Some k) (Some l) rows is =
    cond_both (int_lt l k) (Some l) (Some k) (λ gap. with_gap apart i j gap rows ≡ rows) (λ less. says_no_more apart l i j rows (grind (arith, ints)))
    (λ more. says_no_more apart k i j rows (omega (arith, ints, is)))
first_told Widening apart i j None b rows is = refl
first_told Widening apart i j (Some k) None rows is = refl
first_told Widening apart i j (Some k) (Some l) rows is =
    cond_both (int_lt l k) None (Some k) (λ gap. with_gap apart i j gap rows ≡ rows) (λ less. refl)
    (λ more. says_no_more apart k i j rows (omega (arith, ints, is)))

-- So nothing is stored of the keys at two places.
pub pair_told : (rule : Rule) (a b : Known) (keys : List Key) (i j : ℕ) (d e : Key) (x y : Term) (apart : ℤ) (left : Option ℤ) (rows : List BoundRow)
    → i < length keys → j < length keys → x ≡ term_of true (get_or keys i d) → y ≡ term_of true (get_or keys j e) → left ≡ term_gap a x y
    → is_told apart left ≡ true → rows ≡ with_gap apart i j (merged_gap rule a b (get_or keys i origin) (get_or keys j origin)) rows
pair_told rule a b keys i j d e x y apart left rows first second x_is y_is is told_is =
    let u : Key = get_or keys i origin in
    let v : Key = get_or keys j origin in
    let from : x ≡ term_of true u = x_is ∙ ap (term_of true) (get_or-any keys i d origin first) in
    let to : y ≡ term_of true v = y_is ∙ ap (term_of true) (get_or-any keys j e origin second) in
    let known : left ≡ term_gap a (term_of true u) (term_of true v) = rw (from, to) at is in
    sym (first_told rule apart i j (term_gap a (term_of true u) (term_of true v)) (term_gap b (term_of false u) (term_of false v)) rows
    (ap (is_told apart) (sym known) ∙ told_is))
