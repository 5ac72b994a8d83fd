-- The normal form of a settled side, and the join of two, have tight bounds.
use Rattle.std.proofs.Common.{◌≡◌, ℕ, zero, suc, ◌<◌, ℤ, pos, negsuc, ◌+ℤ◌, ◌-ℤ◌, ◌≤ℤ◌, true, false, List, [], ◌∷◌, length, get_or, slice_get, Option, Some, refl, ap, ◌∙◌, arith}
use Rattle.std.specs.Prelude.{option_map}
use Rattle.std.specs.Int.{int_min}
use Rattle.std.specs.List.{AllByRecursion}
use Rattle.std.specs.Ordering.{int_eq}
use Rattle.std.proofs.lemmas.Bool.{and_parts}
use Rattle.std.proofs.lemmas.Int.{ints, clamps}
use Rattle.interval_domain.specs.Interval.{Interval}
use Rattle.number_spans.specs.declared.span.Span.{Span}
use Rattle.pentagon_domain.specs.declared.bound_row.BoundRow.{BoundRow}
use Rattle.pentagon_domain.specs.declared.ends.Ends.{Ends}
use Rattle.pentagon_domain.specs.Tight.{AreTightOver, apart, no_ends}
use Rattle.pentagon_domain.proofs.Triangles.{full, full_gap, full_near, triangle}
use Rattle.symbolic_values.specs.declared.pairs.Key.{Key}
use Rattle.symbolic_values.specs.Pairing.{origin}
use Rattle.merged_numbers.specs.declared.rule.Rule.TheVariants.{Join}
use Rattle.merged_numbers.specs.declared.term.Term.{Term}
use Rattle.merged_numbers.specs.Known as side_rule
use Rattle.merged_numbers.specs.Known.{Known, distance, gap_or, term_gap, term_of}
use Rattle.merged_numbers.specs.Merging.{is_constant, merged_gap, own_gap, rows_of}
use Rattle.merged_numbers.specs.Settled.{AreNamed, AreNamedToo, IsNamed, IsNamedToo, IsNear, IsSettledSide, are_exact, ends_of, is_exact}
use Rattle.merged_numbers.specs.Spans.{lesser}
use Rattle.merged_numbers.proofs.TightRows.{AreClosed, rows_tight}

-- ---- how far symbols of a settled side lie apart

exact_length : (ends : List Ends) (rs : List Span) → are_exact ends rs ≡ true → length ends ≡ length rs
exact_length [] [] are = refl
exact_length [] (r ∷ rs) are = absurd cc
exact_length (e ∷ more) [] are = absurd cc
exact_length (e ∷ more) (r ∷ rs) are = ap suc (exact_length more rs (and_parts (is_exact e r) (are_exact more rs) are).1)

-- A symbol has a span with these ends.
record HasSpan (e : Ends) (known : Option Span) : Type 0 where
  span : Span
  is : known ≡ Some span
  low : e.lo ≡ span.lo
  high : e.hi ≡ span.hi

same_of : (m n : ℤ) → int_eq m n ≡ true → m ≡ n
same_of m n e = grind (arith, ints)

span_at : (ends : List Ends) (rs : List Span) (s : ℕ) → are_exact ends rs ≡ true → s < length rs → HasSpan (get_or ends s no_ends) (slice_get rs s)
span_at [] [] s are inside = absurd (omega (arith, inside))
span_at [] (r ∷ rs) s are inside = absurd cc
span_at (e ∷ more) [] s are inside = absurd cc
span_at (e ∷ more) (r ∷ rs) zero are inside =
    let same = and_parts (int_eq e.lo r.lo) (int_eq e.hi r.hi) (and_parts (is_exact e r) (are_exact more rs) are).0 in
    record { span = r; is = refl; low = same_of e.lo r.lo same.0; high = same_of e.hi r.hi same.1 }
span_at (e ∷ more) (r ∷ rs) (suc s) are inside = span_at more rs s (and_parts (is_exact e r) (are_exact more rs) are).1 (omega (arith, inside))

distance_is : (e f : Ends) (r q : Option Span) → HasSpan e r → HasSpan f q → distance r q ≡ Some (f.lo -ℤ e.hi)
distance_is e f r q first second = rw (first.is, second.is, first.high, second.low) refl

between_is : (side : Known) (ends : List Ends) (s t : ℕ) → are_exact ends side.spans ≡ true → s < length side.spans → t < length side.spans
    → side_rule.between side s t ≡ Some (apart ends s t)
unfolding side_rule.between
between_is side ends s t are from to =
    distance_is (get_or ends s no_ends) (get_or ends t no_ends) (slice_get side.spans s) (slice_get side.spans t) (span_at ends side.spans s are from)
    (span_at ends side.spans t are to)

gap_is : (side : Known) (settled : IsSettledSide side) (s t : ℕ) → s < length side.spans → t < length side.spans
    → side_rule.gap side s t ≡ Some (full settled.ends side.bounds s t)
unfolding side_rule.gap
gap_is side settled s t from to =
    let count = exact_length settled.ends side.spans settled.exact in
    ap (λ known. gap_or side.bounds known s t) (between_is side settled.ends s t settled.exact from to)
    ∙ full_gap settled.ends side.bounds s t settled.tight settled.settled (omega (arith, count, from)) (omega (arith, count, to))

-- ---- how far terms of it do

-- A term of a symbol that is there, with a near constant.
record IsTerm (side : Known) (x : Term) : Type 0 where
  symbol : x.sym < length side.spans
  near : IsNear x.k

abbrev amount_of : List Ends → List BoundRow → Term → Term → ℤ
amount_of ends rows x y = full ends rows x.sym y.sym +ℤ (y.k -ℤ x.k)

term_gap_is : (side : Known) (settled : IsSettledSide side) (x y : Term) → IsTerm side x → IsTerm side y
    → term_gap side x y ≡ Some (amount_of settled.ends side.bounds x y)
unfolding term_gap
term_gap_is side settled x y first second =
    ap (option_map (λ k. k +ℤ (y.k -ℤ x.k))) (gap_is side settled x.sym y.sym first.symbol second.symbol)

constant_near : (n : ℤ) → negsuc 9223372036854775807 ≤ℤ n → n ≤ℤ pos 9223372036854775807 → is_constant n ≡ true
constant_near n low high = grind (arith, ints)

-- It is near enough to be a constant, on one side and on both.
record IsAmount (n : ℤ) : Type 0 where
  low : negsuc 9223372036854775807 ≤ℤ n
  high : n ≤ℤ pos 9223372036854775807

amount_fits : (m k l : ℤ) → negsuc 4294967295 ≤ℤ m → m ≤ℤ pos 4294967296 → IsNear k → IsNear l → IsAmount (m +ℤ (l -ℤ k))
amount_fits m k l low high first second =
    let a = first.above in
    let b = first.below in
    let c = second.above in
    let d = second.below in
    record { low = omega (arith, ints, low, b, c); high = omega (arith, ints, high, a, d) }

term_amount : (side : Known) (settled : IsSettledSide side) (x y : Term) → IsTerm side x → IsTerm side y
    → IsAmount (amount_of settled.ends side.bounds x y)
term_amount side settled x y first second =
    let count = exact_length settled.ends side.spans settled.exact in
    let near = full_near settled.ends side.bounds x.sym y.sym settled.settled (omega (arith, count, first.symbol)) (omega (arith, count, second.symbol)) in
    amount_fits (full settled.ends side.bounds x.sym y.sym) x.k y.k near.0 near.1 first.near second.near

sums : (m n most a b c : ℤ) → (m +ℤ n) ≤ℤ most → ((m +ℤ (b -ℤ a)) +ℤ (n +ℤ (c -ℤ b))) ≤ℤ (most +ℤ (c -ℤ a))
sums m n most a b c less = omega (arith, ints, less)

term_through : (side : Known) (settled : IsSettledSide side) (x y z : Term) → IsTerm side x → IsTerm side y → IsTerm side z
    → (amount_of settled.ends side.bounds x y +ℤ amount_of settled.ends side.bounds y z) ≤ℤ amount_of settled.ends side.bounds x z
term_through side settled x y z first second third =
    let count = exact_length settled.ends side.spans settled.exact in
    sums (full settled.ends side.bounds x.sym y.sym) (full settled.ends side.bounds y.sym z.sym) (full settled.ends side.bounds x.sym z.sym) x.k y.k z.k
    (triangle settled.ends side.bounds x.sym y.sym z.sym settled.tight settled.settled (omega (arith, count, first.symbol))
    (omega (arith, count, second.symbol)) (omega (arith, count, third.symbol)))

-- ---- keys

key_at : (P : Key → Type 0) (keys : List Key) (i : ℕ) → AllByRecursion P keys → i < length keys → P (get_or keys i origin)
key_at P [] i all inside = absurd (omega (arith, inside))
key_at P (u ∷ us) zero all inside = all.0
key_at P (u ∷ us) (suc i) all inside = key_at P us i all.1 (omega (arith, inside))

first_term : (side : Known) (keys : List Key) (i : ℕ) → AreNamed side keys → i < length keys → IsTerm side (term_of true (get_or keys i origin))
first_term side keys i named inside =
    let here = key_at (IsNamed side) keys i named inside in
    record { symbol = here.symbol; near = here.near }

second_term : (side : Known) (keys : List Key) (i : ℕ) → AreNamedToo side keys → i < length keys → IsTerm side (term_of false (get_or keys i origin))
second_term side keys i named inside =
    let here = key_at (IsNamedToo side) keys i named inside in
    record { symbol = here.symbol; near = here.near }

own_closed : (a : Known) (keys : List Key) → IsSettledSide a → AreNamed a keys → AreClosed (own_gap a) keys
own_closed a keys settled named =
    let at : ℕ → Term = (λ i. term_of true (get_or keys i origin)) in
    record {
      amount = λ i j. amount_of settled.ends a.bounds (at i) (at j);
      is = λ i j first second. term_gap_is a settled (at i) (at j) (first_term a keys i named first) (first_term a keys j named second);
      constant = λ i j first second.
          let fits = term_amount a settled (at i) (at j) (first_term a keys i named first) (first_term a keys j named second) in
          constant_near (amount_of settled.ends a.bounds (at i) (at j)) fits.low fits.high;
      through = λ i u j first middle last.
          term_through a settled (at i) (at u) (at j) (first_term a keys i named first) (first_term a keys u named middle) (first_term a keys j named last);
    }

-- The bounds of the normal form of a settled side are tight.
pub norm_tight : (keys : List Key) (a : Known) (rs : List Interval) → IsSettledSide a → AreNamed a keys → length rs ≡ length keys
    → AreTightOver (ends_of rs) (rows_of (own_gap a) keys rs (length keys) [])
norm_tight keys a rs settled named count = rows_tight (own_gap a) keys rs (own_closed a keys settled named) count

-- ---- two sides

lesser_is : (k l : ℤ) (a b : Option ℤ) → a ≡ Some k → b ≡ Some l → lesser a b ≡ Some (int_min k l)
lesser_is k l a b first second = rw (first, second) (least k l)
  where
    least : (k l : ℤ) → lesser (Some k) (Some l) ≡ Some (int_min k l)
    least k l = grind (arith, ints)

least_amount : (m n : ℤ) → IsAmount m → IsAmount n → IsAmount (int_min m n)
least_amount m n first second =
    let a = first.low in
    let b = first.high in
    let c = second.low in
    let d = second.high in
    record { low = omega (arith, ints, clamps, a, c); high = omega (arith, ints, clamps, b, d) }

least_through : (k l m n p q : ℤ) → (k +ℤ m) ≤ℤ p → (l +ℤ n) ≤ℤ q → (int_min k l +ℤ int_min m n) ≤ℤ int_min p q
least_through k l m n p q first second = omega (arith, ints, clamps, first, second)

join_closed : (a b : Known) (keys : List Key) → IsSettledSide a → IsSettledSide b → AreNamed a keys → AreNamedToo b keys → AreClosed (merged_gap Join a b) keys
join_closed a b keys one other named named_too =
    let at : ℕ → Term = (λ i. term_of true (get_or keys i origin)) in
    let also : ℕ → Term = (λ i. term_of false (get_or keys i origin)) in
    let left : ℕ → ℕ → ℤ = (λ i j. amount_of one.ends a.bounds (at i) (at j)) in
    let right : ℕ → ℕ → ℤ = (λ i j. amount_of other.ends b.bounds (also i) (also j)) in
    record {
      amount = λ i j. int_min (left i j) (right i j);
      is = λ i j first second.
          lesser_is (left i j) (right i j) (term_gap a (at i) (at j)) (term_gap b (also i) (also j))
          (term_gap_is a one (at i) (at j) (first_term a keys i named first) (first_term a keys j named second))
          (term_gap_is b other (also i) (also j) (second_term b keys i named_too first) (second_term b keys j named_too second));
      constant = λ i j first second.
          let fits = least_amount (left i j) (right i j)
          (term_amount a one (at i) (at j) (first_term a keys i named first) (first_term a keys j named second))
          (term_amount b other (also i) (also j) (second_term b keys i named_too first) (second_term b keys j named_too second)) in
          constant_near (int_min (left i j) (right i j)) fits.low fits.high;
      through = λ i u j first middle last.
          least_through (left i u) (right i u) (left u j) (right u j) (left i j) (right i j)
          (term_through a one (at i) (at u) (at j) (first_term a keys i named first) (first_term a keys u named middle) (first_term a keys j named last))
          (term_through b other (also i) (also u) (also j) (second_term b keys i named_too first) (second_term b keys u named_too middle) (second_term b keys j named_too last));
    }

-- The bounds of the join of two settled sides are tight.
pub join_tight : (keys : List Key) (a b : Known) (rs : List Interval) → IsSettledSide a → IsSettledSide b → AreNamed a keys → AreNamedToo b keys
    → length rs ≡ length keys → AreTightOver (ends_of rs) (rows_of (merged_gap Join a b) keys rs (length keys) [])
join_tight keys a b rs one other named named_too count = rows_tight (merged_gap Join a b) keys rs (join_closed a b keys one other named named_too) count
