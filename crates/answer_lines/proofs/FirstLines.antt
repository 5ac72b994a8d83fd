-- The first line of a text, and what is left behind it.
use Rattle.std.proofs.Common.{◌≡◌, ◌≢◌, ℕ, zero, suc, ◌+◌, ◌<◌, ◌==◌, true, false, List, [], ◌∷◌, ◌++◌, length, take, drop, get_or, Some, None, refl, sym, ap, ◌∙◌, inl, inr, zero-add, arith}
use Rattle.std.specs.List.{position, position_or_len}
use Rattle.std.proofs.lemmas.Bool.{cases_lt, eq-eqb, lt-ltb, true≢false}
use Rattle.std.proofs.lemmas.List.Quantifiers.{position-Some}
use Rattle.std.proofs.lemmas.List.Sums.{fails_before_first}
use Rattle.answer_lines.specs.LineCounts.{EndsLine, line_count}
use Rattle.answer_lines.proofs.LineLemmas.{line_count-append, none_in_byte}

-- ---- what is left behind a prefix

one_left : (b : ℕ) (text prefix : List ℕ) → b ∷ text ≡ prefix ++ 10 ∷ [] → EndsLine text
one_left b text [] is = let empty : text ≡ [] = cc in inl empty
one_left b text (c ∷ prefix) is = let later : text ≡ prefix ++ 10 ∷ [] = cc in inr (prefix, later)

pub left_ends : (n : ℕ) (text : List ℕ) → EndsLine text → EndsLine (drop n text)
left_ends zero text ends = ends
left_ends (suc n) [] ends = inl refl
left_ends (suc n) (b ∷ text) (inl empty) = absurd cc
left_ends (suc n) (b ∷ text) (inr (prefix, is)) = left_ends n text (one_left b text prefix is)

-- ---- up to the first line feed

one_more : (b : ℕ) (text : List ℕ) → b ≢ 10 → line_count (b ∷ text) ≡ line_count text
one_more b text other = line_count-append (b ∷ []) text ∙ rw (none_in_byte b other) (zero-add (line_count text))

up_to_feed : (text : List ℕ) (i : ℕ) → i < length text → (get_or text i 0 == 10) ≡ true → ((k : ℕ) → k < i → (get_or text k 0 == 10) ≡ false)
    → line_count (take (suc i) text) ≡ 1
unfolding line_count
up_to_feed [] i below at before = absurd (omega (arith, below))
up_to_feed (b ∷ text) zero below at before = rw at refl
up_to_feed (b ∷ text) (suc i) below at before =
    one_more b (take (suc i) text) (λ same. true≢false (sym (eq-eqb b 10 same) ∙ before 0 (omega arith)))
    ∙ up_to_feed text i (omega (arith, below)) at (λ k less. before (suc k) (omega (arith, less)))

pub found_is_line : (text : List ℕ) (i : ℕ) → position (λ byte. byte == 10) text ≡ Some i → line_count (take (i + 1) text) ≡ 1
found_is_line text i found =
    let at = position-Some (λ (byte : ℕ). byte == 10) text i 0 found in
    let next : i + 1 ≡ suc i = omega arith in
    ap (λ (n : ℕ). line_count (take n text)) next ∙ up_to_feed text i at.0 at.1 at.2

-- ---- without a line feed

-- A text of whole lines is empty, or has a line feed.
ends_at : (prefix : List ℕ) → (i : ℕ) × (i < length (prefix ++ 10 ∷ [])) × ((get_or (prefix ++ 10 ∷ []) i 0 == 10) ≡ true)
ends_at [] = (0, omega arith, refl)
ends_at (b ∷ prefix) = let later = ends_at prefix in (suc later.0, omega (arith, later.1), later.2)

none_found : (text : List ℕ) → position (λ byte. byte == 10) text ≡ None → (k : ℕ) → k < length text → (get_or text k 0 == 10) ≡ false
none_found text none k below =
    let first = position_or_len (λ (byte : ℕ). byte == 10) text in
    elim (cases_lt first (length text)) [
      | inl lt ↦ absurd (let some : position (λ (byte : ℕ). byte == 10) text ≡ Some first = rw (lt-ltb first (length text) lt) refl in cc)
      | inr ge ↦ fails_before_first (λ (byte : ℕ). byte == 10) text k 0 (omega (arith, below, ge))
    ]

pub whole_has_feed : (text : List ℕ) → EndsLine text → 0 < length text → position (λ byte. byte == 10) text ≡ None → ⊥
whole_has_feed text (inl empty) more none = omega (arith, ap length empty, more)
whole_has_feed text (inr (prefix, is)) more none =
    let at = ends_at prefix in
    let below : at.0 < length text = rw is at.1 in
    let byte : (get_or text at.0 0 == 10) ≡ true = rw is at.2 in
    true≢false (sym byte ∙ none_found text none at.0 below)

pub ruleset first_lines = (left_ends, found_is_line, whole_has_feed)
