-- What is stored of keys: their gaps, each of two keys that says more than their ranges.
use Rattle.std.proofs.Common.{◌≡◌, ◌≢◌, ◌⊎◌, ℕ, zero, suc, ◌+◌, ◌<◌, ℤ, true, false, ◌&&◌, List, [], length, get_or, Option, Some, None, refl, sym, ap, ◌∙◌, arith, inl, inr}
use Rattle.std.specs.Prelude.{int_lt}
use Rattle.std.proofs.lemmas.Bool.{and_from, cases_Bool, cases_eq}
use Rattle.std.proofs.lemmas.Bool.Decides.{nat_tests}
use Rattle.std.proofs.lemmas.Int.{ints}
use Rattle.domain_api.specs.Order.{greater_gap}
use Rattle.interval_domain.specs.Interval.{Interval}
use Rattle.pentagon_domain.specs.declared.bound_row.BoundRow.{BoundRow}
use Rattle.pentagon_domain.specs.Rows.{AreBounds, is_pair, stored, with_bound}
use Rattle.pentagon_domain.proofs.StoredPairs.{stored_with_bound_here, stored_with_bound_other, with_bound_bounds}
use Rattle.symbolic_values.specs.declared.pairs.Key.{Key}
use Rattle.symbolic_values.specs.Pairing.{origin}
use Rattle.merged_numbers.specs.Merging.{is_constant, row_of, rows_of, steps, told, with_gap}

-- The gap of the keys at two places.
abbrev pub gap_at : (Key → Key → Option ℤ) → List Key → ℕ → ℕ → Option ℤ
gap_at gap keys i j = gap (get_or keys i origin) (get_or keys j origin)

-- A constant of two symbols is the gap of their keys.
pub record IsGap (gap : Key → Key → Option ℤ) (keys : List Key) (s t : ℕ) (k : ℤ) : Type 0 where
  pub from : ℕ
  pub to : ℕ
  pub first : s ≡ from + 1
  pub second : t ≡ to + 1
  pub inside : from < length keys
  pub inside_too : to < length keys
  pub is : gap_at gap keys from to ≡ Some k

abbrev pub AreGaps : (Key → Key → Option ℤ) → List Key → List BoundRow → Type 0
AreGaps gap keys rows = (s t : ℕ) (k : ℤ) → stored rows s t ≡ Some k → IsGap gap keys s t k

-- The gap of the keys at two places says more than their ranges.
pub record SaysMore (gap : Key → Key → Option ℤ) (keys : List Key) (rs : List Interval) (i j : ℕ) (k : ℤ) : Type 0 where
  pub is : gap_at gap keys i j ≡ Some k
  pub distinct : i ≢ j
  pub more : int_lt (told rs i j) k ≡ true
  pub constant : is_constant k ≡ true

abbrev IsStored : (Key → Key → Option ℤ) → List Key → List Interval → List BoundRow → ℕ → ℕ → Type 0
IsStored gap keys rs rows i j = (k : ℤ) → SaysMore gap keys rs i j k → stored rows (i + 1) (j + 1) ≡ Some k

-- Rows of gaps became rows of gaps, and what was stored is stored.
record Grow (gap : Key → Key → Option ℤ) (keys : List Key) (rows grown : List BoundRow) : Type 0 where
  form : AreBounds grown
  gaps : AreGaps gap keys grown
  stay : (s t : ℕ) (k : ℤ) → stored rows s t ≡ Some k → stored grown s t ≡ Some k

some_same : (k l : ℤ) → Some k ≡ Some l → k ≡ l
some_same k l is = cc

grow_none : (gap : Key → Key → Option ℤ) (keys : List Key) (rows : List BoundRow) → AreBounds rows → AreGaps gap keys rows → Grow gap keys rows rows
grow_none gap keys rows form gaps = record { form = form; gaps = gaps; stay = λ s t k is. is }

grow_twice : (gap : Key → Key → Option ℤ) (keys : List Key) (rows more most : List BoundRow) → Grow gap keys rows more → Grow gap keys more most
    → Grow gap keys rows most
grow_twice gap keys rows more most first second =
    record { form = second.form; gaps = second.gaps; stay = λ s t k is. second.stay s t k (first.stay s t k is) }

-- ---- one gap

-- What is stored of the keys at two places is their gap, before and after.
greater_same : (known : Option ℤ) (k : ℤ) → ((l : ℤ) → known ≡ Some l → l ≡ k) → greater_gap known (Some k) ≡ Some k
greater_same None k same = refl
greater_same (Some l) k same = let is = same l refl in rw is (twice k)
  where
    twice : (k : ℤ) → greater_gap (Some k) (Some k) ≡ Some k
    twice k = grind (arith, ints)

same_gap : (gap : Key → Key → Option ℤ) (keys : List Key) (i j : ℕ) (k l : ℤ) → gap_at gap keys i j ≡ Some k → IsGap gap keys (i + 1) (j + 1) l → l ≡ k
same_gap gap keys i j k l is known =
    let from : known.from ≡ i = omega (arith, known.first) in
    let to : known.to ≡ j = omega (arith, known.second) in
    some_same l k (sym (rw (from, to) at known.is) ∙ is)

stored_now : (gap : Key → Key → Option ℤ) (keys : List Key) (rows : List BoundRow) (i j : ℕ) (k : ℤ) → AreBounds rows → AreGaps gap keys rows
    → gap_at gap keys i j ≡ Some k → is_pair (i + 1) (j + 1) ≡ true → stored (with_bound rows (i + 1) (j + 1) k) (i + 1) (j + 1) ≡ Some k
stored_now gap keys rows i j k form gaps is pair =
    stored_with_bound_here rows (i + 1) (j + 1) k form pair
    ∙ greater_same (stored rows (i + 1) (j + 1)) k (λ l there. same_gap gap keys i j k l is (gaps (i + 1) (j + 1) l there))

-- Two symbols are those of the places, or one of them is another one.
either_other : (s t a b : ℕ) → ((s ≡ a) × (t ≡ b)) ⊎ ((s ≢ a) ⊎ (t ≢ b))
either_other s t a b =
    elim (cases_eq s a) [
      | inl first ↦ elim (cases_eq t b) [ inl second ↦ inl (first, second) | inr other ↦ inr (inr other) ]
      | inr other ↦ inr (inl other)
    ]

grow_bound : (gap : Key → Key → Option ℤ) (keys : List Key) (rows : List BoundRow) (i j : ℕ) (k : ℤ) → i < length keys → j < length keys
    → AreBounds rows → AreGaps gap keys rows → gap_at gap keys i j ≡ Some k → is_pair (i + 1) (j + 1) ≡ true
    → Grow gap keys rows (with_bound rows (i + 1) (j + 1) k)
grow_bound gap keys rows i j k inside also form gaps is pair =
    let now = stored_now gap keys rows i j k form gaps is pair in
    record {
      form = with_bound_bounds rows (i + 1) (j + 1) k form;
      gaps = λ s t l there.
          elim (either_other (i + 1) (j + 1) s t) [
            | inl same ↦
                let first : s ≡ i + 1 = sym same.0 in
                let second : t ≡ j + 1 = sym same.1 in
                let amount : k ≡ l = some_same k l (sym now ∙ rw (first, second) at there) in
                record { from = i; to = j; first = first; second = second; inside = inside; inside_too = also; is = is ∙ ap (λ n. Some n) amount }
            | inr other ↦ gaps s t l (sym (stored_with_bound_other rows (i + 1) (j + 1) k s t other) ∙ there)
          ];
      stay = λ s t l there.
          elim (either_other (i + 1) (j + 1) s t) [
            | inl same ↦
                let first : s ≡ i + 1 = sym same.0 in
                let second : t ≡ j + 1 = sym same.1 in
                let amount : l ≡ k = same_gap gap keys i j k l is (rw (first, second) at (gaps s t l there)) in
                rw (first, second) (now ∙ ap (λ n. Some n) (sym amount))
            | inr other ↦ stored_with_bound_other rows (i + 1) (j + 1) k s t other ∙ there
          ];
    }

no_pair : (i j : ℕ) → is_pair (i + 1) (j + 1) ≡ false → i ≡ j
no_pair i j none = grind (arith, nat_tests)

idle_bound : (rows : List BoundRow) (s t : ℕ) (k : ℤ) → is_pair s t ≡ false → with_bound rows s t k ≡ rows
idle_bound rows s t k none = rw none refl

-- The rows with a gap, and that it is stored where it says more.
record Grows (gap : Key → Key → Option ℤ) (keys : List Key) (rs : List Interval) (rows grown : List BoundRow) (i j : ℕ) : Type 0 where
  grow : Grow gap keys rows grown
  is_stored : IsStored gap keys rs grown i j

-- A gap that does not say more is not stored.
grows_idle : (gap : Key → Key → Option ℤ) (keys : List Key) (rs : List Interval) (rows : List BoundRow) (i j : ℕ) → AreBounds rows → AreGaps gap keys rows
    → ((k : ℤ) → SaysMore gap keys rs i j k → ⊥) → Grows gap keys rs rows rows i j
grows_idle gap keys rs rows i j form gaps never =
    record { grow = grow_none gap keys rows form gaps; is_stored = λ k says. absurd (never k says) }

grows_with : (gap : Key → Key → Option ℤ) (keys : List Key) (rs : List Interval) (rows : List BoundRow) (i j : ℕ) (known : Option ℤ) → i < length keys
    → j < length keys → AreBounds rows → AreGaps gap keys rows → gap_at gap keys i j ≡ known
    → Grows gap keys rs rows (with_gap (told rs i j) i j known rows) i j
grows_with gap keys rs rows i j None inside also form gaps is =
    grows_idle gap keys rs rows i j form gaps (λ k says. nothing k (sym is ∙ says.is))
  where
    nothing : (k : ℤ) → None ≡ Some k → ⊥
    nothing k e = cc
grows_with gap keys rs rows i j (Some k) inside also form gaps is =
    elim (cases_Bool (int_lt (told rs i j) k && is_constant k)) [
      | inl says ↦
          elim (cases_Bool (is_pair (i + 1) (j + 1))) [
            | inl pair ↦
                rw says
                (record {
                  grow = grow_bound gap keys rows i j k inside also form gaps is pair;
                  is_stored = λ l more. stored_now gap keys rows i j k form gaps is pair ∙ sym is ∙ more.is;
                })
            | inr none ↦
                rw (says, idle_bound rows (i + 1) (j + 1) k none)
                (grows_idle gap keys rs rows i j form gaps (λ l more. more.distinct (no_pair i j none)))
          ]
      | inr less ↦
          rw less
          (grows_idle gap keys rs rows i j form gaps
          (λ l more.
          let same : l ≡ k = some_same l k (sym more.is ∙ is) in
          false_true (sym less ∙ and_from (int_lt (told rs i j) k) (is_constant k) (rw same at more.more) (rw same at more.constant))))
    ]
  where
    false_true : false ≡ true → ⊥
    false_true e = cc

-- ---- all gaps

-- Where each step below a count keeps what is so and does what it is to do, all of them do.
record Done {X : Type 0} (Q : X → X → Type 0) (P : ℕ → X → Type 0) (count : ℕ) (start end : X) : Type 0 where
  kept : Q start end
  each : (i : ℕ) → i < count → P i end

all_done : {X : Type 0} (Q : X → X → Type 0) (P : ℕ → X → Type 0) (step : ℕ → X → X) (n count : ℕ) (start : X) → n < count + 1
    → ((x y z : X) → Q x y → Q y z → Q x z) → ((i : ℕ) (x y : X) → Q x y → P i x → P i y)
    → ((i : ℕ) (x : X) → i < count → Q start x → Q x (step i x)) → ((i : ℕ) (x : X) → i < count → Q start x → P i (step i x)) → Q start start
    → Done Q P n start (steps step n start)
all_done Q P step zero count start upto twice carried keeps does none = record { kept = none; each = λ i inside. absurd (omega (arith, inside)) }
all_done Q P step (suc n) count start upto twice carried keeps does none =
    let before = all_done Q P step n count start (omega (arith, upto)) twice carried keeps does none in
    let here = keeps n (steps step n start) (omega (arith, upto)) before.kept in
    record {
      kept = twice start (steps step n start) (step n (steps step n start)) before.kept here;
      each = λ i inside.
          elim (cases_eq i n) [
            | inl same ↦ rw same (does n (steps step n start) (omega (arith, upto)) before.kept)
            | inr other ↦ carried i (steps step n start) (step n (steps step n start)) here (before.each i (omega (arith, inside, other)))
          ];
    }

carried_on : (gap : Key → Key → Option ℤ) (keys : List Key) (rs : List Interval) (i j : ℕ) (rows grown : List BoundRow) → Grow gap keys rows grown
    → IsStored gap keys rs rows i j → IsStored gap keys rs grown i j
carried_on gap keys rs i j rows grown grow is = λ k says. grow.stay (i + 1) (j + 1) k (is k says)

one_step : (gap : Key → Key → Option ℤ) (keys : List Key) (rs : List Interval) (i j : ℕ) (rows : List BoundRow) → i < length keys → j < length keys
    → AreBounds rows → AreGaps gap keys rows → Grows gap keys rs rows (with_gap (told rs i j) i j (gap_at gap keys i j) rows) i j
one_step gap keys rs i j rows inside also form gaps = grows_with gap keys rs rows i j (gap_at gap keys i j) inside also form gaps refl

abbrev RowStored : (Key → Key → Option ℤ) → List Key → List Interval → ℕ → List BoundRow → Type 0
RowStored gap keys rs i rows = (j : ℕ) → j < length keys → IsStored gap keys rs rows i j

row_done : (gap : Key → Key → Option ℤ) (keys : List Key) (rs : List Interval) (i : ℕ) (rows : List BoundRow) → i < length keys → AreBounds rows
    → AreGaps gap keys rows
    → Done (Grow gap keys) (λ j after. IsStored gap keys rs after i j) (length keys) rows (row_of gap keys rs i (length keys) rows)
row_done gap keys rs i rows inside form gaps =
    all_done (Grow gap keys) (λ j after. IsStored gap keys rs after i j) (λ j. with_gap (told rs i j) i j (gap_at gap keys i j)) (length keys) (length keys) rows
    (omega arith) (grow_twice gap keys) (λ j. carried_on gap keys rs i j)
    (λ j after also grown. (one_step gap keys rs i j after inside also grown.form grown.gaps).grow)
    (λ j after also grown. (one_step gap keys rs i j after inside also grown.form grown.gaps).is_stored) (grow_none gap keys rows form gaps)

none_gaps : (gap : Key → Key → Option ℤ) (keys : List Key) → AreGaps gap keys []
none_gaps gap keys s t k is = absurd (nothing k is)
  where
    nothing : (k : ℤ) → None ≡ Some k → ⊥
    nothing k e = cc

rows_done : (gap : Key → Key → Option ℤ) (keys : List Key) (rs : List Interval)
    → Done (Grow gap keys) (RowStored gap keys rs) (length keys) [] (rows_of gap keys rs (length keys) [])
rows_done gap keys rs =
    all_done (Grow gap keys) (RowStored gap keys rs) (λ i. row_of gap keys rs i (length keys)) (length keys) (length keys) [] (omega arith) (grow_twice gap keys)
    (λ i rows grown grow is j inside. carried_on gap keys rs i j rows grown grow (is j inside))
    (λ i rows inside grown. (row_done gap keys rs i rows inside grown.form grown.gaps).kept)
    (λ i rows inside grown. (row_done gap keys rs i rows inside grown.form grown.gaps).each) (grow_none gap keys [] tt (none_gaps gap keys))

-- They are rows of bounds.
pub rows_form : (gap : Key → Key → Option ℤ) (keys : List Key) (rs : List Interval) → AreBounds (rows_of gap keys rs (length keys) [])
rows_form gap keys rs = (rows_done gap keys rs).kept.form

-- What is stored is the gap of two keys.
pub rows_gaps : (gap : Key → Key → Option ℤ) (keys : List Key) (rs : List Interval) → AreGaps gap keys (rows_of gap keys rs (length keys) [])
rows_gaps gap keys rs = (rows_done gap keys rs).kept.gaps

-- Each gap that says more than ranges is stored.
pub rows_stored : (gap : Key → Key → Option ℤ) (keys : List Key) (rs : List Interval) (i j : ℕ) (k : ℤ) → i < length keys → j < length keys
    → SaysMore gap keys rs i j k → stored (rows_of gap keys rs (length keys) []) (i + 1) (j + 1) ≡ Some k
rows_stored gap keys rs i j k inside also says = (rows_done gap keys rs).each i inside j also k says
