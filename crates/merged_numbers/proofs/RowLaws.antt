-- Gaps that are read from a row.
use Rattle.std.proofs.Common.{◌≡◌, ◌≢◌, ℕ, zero, suc, ◌+◌, ◌<◌, ◌≤◌, ◌==◌, ℤ, pos, true, false, not, List, [], ◌∷◌, length, get_or, Option, Some, None, refl, sym, ap, subst, ◌∙◌, add-one, inl, inr, arith}
use Rattle.std.specs.List.{list_all}
use Rattle.std.proofs.lemmas.Bool.{and_parts, cases_Bool}
use Rattle.std.specs.Prelude.{EachIndex, if◌then◌else◌}
use Rattle.interval_domain.specs.Interval.{Interval}
use Rattle.pentagon_domain.specs.Gaps as by_bounds
use Rattle.pentagon_domain.specs.Rows.{rows_from}
use Rattle.symbolic_values.specs.declared.pairs.Key.{Key}
use Rattle.symbolic_values.specs.Pairing.{origin}
use Rattle.merged_numbers.specs.Merging.{steps, told, with_gap, row_of, rows_of}
use Rattle.pentagon_domain.specs.declared.bound_row.BoundRow.{BoundRow}
use Rattle.pentagon_domain.specs.Gaps.{direct_gap}
use Rattle.pentagon_domain.proofs.Reaches.{gap_same, gap_with_apart, gap_with_same}
use Rattle.pentagon_domain.proofs.TightGaps.{direct_same}
use Rattle.merged_numbers.specs.Known as side_rule
use Rattle.merged_numbers.specs.Known.{Known, gap_or, between}
use Rattle.merged_numbers.specs.Rows.{IsRow, IsTight, Tells, beside}

or_same : (bounds : List BoundRow) (apart : Option ℤ) (s t : ℕ) → s ≡ t → Some (pos 0) ≡ gap_or bounds apart s t
or_same bounds None s t same = sym (gap_same bounds s t same)
or_same bounds (Some n) s t same = sym (gap_with_same bounds n s t same)

-- A symbol lies nowhere above itself.
pub gap_itself : (side : Known) (s t : ℕ) → s ≡ t → Some (pos 0) ≡ side_rule.gap side s t
unfolding side_rule.gap
gap_itself side s t same = or_same side.bounds (between side s t) s t same

-- ---- what is written tells what is known

with_spans : (bounds : List BoundRow) (apart : Option ℤ) (s t : ℕ) → s ≢ t → beside (by_bounds.gap bounds s t) apart ≡ gap_or bounds apart s t
with_spans bounds None s t other = refl
with_spans bounds (Some n) s t other = gap_with_apart bounds n s t other

-- A gap by bounds alone does.
pub gap_tells : (side : Known) (s t : ℕ) (known : Option ℤ) → known ≡ by_bounds.gap side.bounds s t → Tells side s t known
unfolding side_rule.gap
gap_tells side s t known is = record {
  itself = λ same. is ∙ gap_same side.bounds s t same;
  others = λ other. ap (λ k. beside k (between side s t)) is ∙ with_spans side.bounds (between side s t) s t other;
}

-- Where each bound goes from another symbol, none goes from this one.
pub none_from : (rows : List BoundRow) (s : ℕ) → list_all (λ row. not (row.s == s)) rows ≡ true → rows_from rows s ≡ []
none_from [] s all = refl
none_from (row ∷ rows) s all =
    let parts = and_parts (not (row.s == s)) (list_all (λ row. not (row.s == s)) rows) all in
    elim (cases_Bool (row.s == s)) [
      | inl same ↦ let never : false ≡ true = rw same at parts.0 in absurd cc
      | inr other ↦ rw other (none_from rows s parts.1)
    ]

-- From a symbol from which no bound goes, the symbol itself alone is known to lie so far.
bare_gap : (rows : List BoundRow) (s t : ℕ) → rows_from rows s ≡ [] → by_bounds.gap rows s t ≡ (if s == t then Some (pos 0) else None)
unfolding by_bounds.gap by_bounds.exact_gap by_bounds.greatest_sum
bare_gap rows s t none = rw none refl

pub bare_tells : (side : Known) (s t : ℕ) (known : Option ℤ) → rows_from side.bounds s ≡ [] → known ≡ (if s == t then Some (pos 0) else None)
    → Tells side s t known
bare_tells side s t known none is = gap_tells side s t known (is ∙ sym (bare_gap side.bounds s t none))

pub gaps_tell : (side : Known) (s : ℕ) (row : List (Option ℤ)) → EachIndex row (λ t. get_or row t None ≡ by_bounds.gap side.bounds s t) → IsRow row side s
gaps_tell side s row are = λ t inside. gap_tells side s t (get_or row t None) (are t inside)

-- What is stored does, where the state is tight.
pub stored_tells : (side : Known) (s t : ℕ) (known : Option ℤ) → IsTight side → known ≡ direct_gap side.bounds s t → Tells side s t known
stored_tells side s t known tight is = record {
  itself = λ same. is ∙ direct_same side.bounds s t same;
  others = λ other. ap (λ k. beside k (between side s t)) is ∙ tight.stored s t other;
}

pub all_stored_tell : (side : Known) (s : ℕ) (row : List (Option ℤ)) → IsTight side → EachIndex row (λ t. get_or row t None ≡ direct_gap side.bounds s t)
    → IsRow row side s
all_stored_tell side s row tight are = λ t inside. stored_tells side s t (get_or row t None) tight (are t inside)

-- Beside the spans, what tells what is known is what is known.
pub told_gap : (side : Known) (s t : ℕ) (known found : Option ℤ) → s ≢ t → Tells side s t known → found ≡ beside known (between side s t)
    → found ≡ side_rule.gap side s t
told_gap side s t known found other tells is = is ∙ tells.others other

-- ---- rows of bounds, one gap after another

pub get_or-any : {X : Type 0} (xs : List X) (i : ℕ) (d e : X) → i < length xs → get_or xs i d ≡ get_or xs i e
get_or-any [] i d e inside = absurd (omega (arith, inside))
get_or-any (x ∷ xs) zero d e inside = refl
get_or-any (x ∷ xs) (suc i) d e inside = get_or-any xs i d e (omega (arith, inside))

steps_more : {X : Type 0} (step : ℕ → X → X) (n : ℕ) (x : X) → steps step (n + 1) x ≡ step n (steps step n x)
steps_more step n x = rw (add-one n) refl

pub row_more : (gap : Key → Key → Option ℤ) (keys : List Key) (rs : List Interval) (i j : ℕ) (d e : Key) (known : Option ℤ)
    (start before after : List BoundRow) → i < length keys → j < length keys → known ≡ gap (get_or keys i d) (get_or keys j e)
    → after ≡ with_gap (told rs i j) i j known before → before ≡ row_of gap keys rs i j start → after ≡ row_of gap keys rs i (j + 1) start
row_more gap keys rs i j d e known start before after inside also known_is after_is so_far =
    let step : ℕ → List BoundRow → List BoundRow = (λ k. with_gap (told rs i k) i k (gap (get_or keys i origin) (get_or keys k origin))) in
    after_is ∙ ap (λ rows. with_gap (told rs i j) i j known rows) so_far
    ∙ ap (λ known. with_gap (told rs i j) i j known (row_of gap keys rs i j start))
    (known_is ∙ ap (λ u. gap u (get_or keys j e)) (get_or-any keys i d origin inside) ∙ ap (gap (get_or keys i origin)) (get_or-any keys j e origin also))
    ∙ sym (steps_more step j start)

pub rows_more : (gap : Key → Key → Option ℤ) (keys : List Key) (rs : List Interval) (i : ℕ) (start before after : List BoundRow)
    → after ≡ row_of gap keys rs i (length keys) before → before ≡ rows_of gap keys rs i start → after ≡ rows_of gap keys rs (i + 1) start
rows_more gap keys rs i start before after after_is so_far =
    after_is ∙ ap (row_of gap keys rs i (length keys)) so_far ∙ sym (steps_more (λ k. row_of gap keys rs k (length keys)) i start)

pub row_end : (gap : Key → Key → Option ℤ) (keys : List Key) (rs : List Interval) (i j : ℕ) (start rows : List BoundRow) → j ≤ length keys → length keys ≤ j
    → rows ≡ row_of gap keys rs i j start → rows ≡ row_of gap keys rs i (length keys) start
row_end gap keys rs i j start rows upto past so_far =
    let end : j ≡ length keys = omega (arith, upto, past) in
    so_far ∙ ap (λ n. row_of gap keys rs i n start) end

pub rows_end : (gap : Key → Key → Option ℤ) (keys : List Key) (rs : List Interval) (i : ℕ) (start rows : List BoundRow) → i ≤ length keys → length keys ≤ i
    → rows ≡ rows_of gap keys rs i start → rows ≡ rows_of gap keys rs (length keys) start
rows_end gap keys rs i start rows upto past so_far =
    let end : i ≡ length keys = omega (arith, upto, past) in
    so_far ∙ ap (λ n. rows_of gap keys rs n start) end

-- The row of a symbol that is the same.
pub row_of_same : (row : List (Option ℤ)) (side : Known) (s t : ℕ) → s ≡ t → IsRow row side s → IsRow row side t
row_of_same row side s t same is = subst (λ k. IsRow row side k) same is

-- The symbols of the key at a place.
pub key_symbol : (keys : List Key) (i : ℕ) (d : Key) → i < length keys → (get_or keys i d).s ≡ (get_or keys i origin).s
key_symbol keys i d inside = ap (λ u. u.s) (get_or-any keys i d origin inside)

pub key_other : (keys : List Key) (i : ℕ) (d : Key) → i < length keys → (get_or keys i d).t ≡ (get_or keys i origin).t
key_other keys i d inside = ap (λ u. u.t) (get_or-any keys i d origin inside)

-- One more pair of a row, where its bound is that of the definition.
pub pair_more : (gap : Key → Key → Option ℤ) (keys : List Key) (rs : List Interval) (i j : ℕ) (start before after : List BoundRow)
    → after ≡ with_gap (told rs i j) i j (gap (get_or keys i origin) (get_or keys j origin)) before → before ≡ row_of gap keys rs i j start
    → after ≡ row_of gap keys rs i (j + 1) start
pair_more gap keys rs i j start before after after_is so_far =
    let step : ℕ → List BoundRow → List BoundRow = (λ k. with_gap (told rs i k) i k (gap (get_or keys i origin) (get_or keys k origin))) in
    after_is ∙ ap (step j) so_far ∙ sym (steps_more step j start)

pub ruleset own_rows = (pair_more, row_end)

pub ruleset rows = (row_more, rows_more, row_end, rows_end, row_of_same, key_symbol, key_other)
