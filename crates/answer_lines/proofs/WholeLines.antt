-- Whole lines in a text of lines.
use Rattle.std.proofs.Common.{◌≡◌, ◌≢◌, ◌⊎◌, ℕ, suc, List, [], ◌∷◌, ◌++◌, refl, sym, ap, ◌∙◌, append_assoc, append-nil, inl, inr, codes, arith}
use Rattle.std.specs.Prelude.{Contains}
use Rattle.std.proofs.lemmas.Bool.{cases_eq}
use Rattle.std.specs.List.{AllByRecursion, flat_map}
use Rattle.answer_lines.specs.LineCounts.{EndsLine, line_count}
use Rattle.answer_lines.proofs.LineLemmas.{line_count-append}

-- The text has no line feed.
abbrev pub IsOneLine : List ℕ → Type 0
IsOneLine text = AllByRecursion (λ b. b ≢ 10) text

-- So has one that counts no line.
pub one_line : (text : List ℕ) → line_count text ≡ 0 → IsOneLine text
unfolding line_count
one_line [] none = tt
one_line (b ∷ text) none =
    elim (cases_eq b 10) [
      | inl feed ↦ absurd (omega (arith, none, line_count-append (b ∷ []) text, (let one : line_count (b ∷ []) ≡ 1 = rw feed refl in one)))
      | inr other ↦ (other, one_line text (omega (arith, none, line_count-append (b ∷ []) text)))
    ]

-- Each of these texts as a line.
abbrev pub as_line : List ℕ → List ℕ
as_line text = text ++ 10 ∷ []

abbrev pub as_lines : List (List ℕ) → List ℕ
as_lines texts = flat_map as_line texts

-- Texts that begin with a line begin with the same one.
pub same_first : (a b x y : List ℕ) → IsOneLine a → IsOneLine b → a ++ 10 ∷ x ≡ b ++ 10 ∷ y → (a ≡ b) × (x ≡ y)
same_first [] [] x y one other e = (refl, (let same : x ≡ y = cc in same))
same_first [] (c ∷ b) x y one other e = absurd (other.0 (let same : c ≡ 10 = cc in same))
same_first (c ∷ a) [] x y one other e = absurd (one.0 (let same : c ≡ 10 = cc in same))
same_first (c ∷ a) (d ∷ b) x y one other e =
    let first : c ≡ d = cc in
    let later : a ++ 10 ∷ x ≡ b ++ 10 ∷ y = cc in
    let both = same_first a b x y one.1 other.1 later in
    ((let same : c ∷ a ≡ d ∷ b = rw (first, both.0) refl in same), both.1)

-- A text is one line, or one line and more.
FirstOf : List ℕ → Type 0
FirstOf text = IsOneLine text ⊎ ((line more : List ℕ) × IsOneLine line × (text ≡ line ++ 10 ∷ more))

with_first : (c : ℕ) (cs : List ℕ) → (c ≢ 10) → FirstOf cs → FirstOf (c ∷ cs)
unfolding FirstOf
with_first c cs other (inl one) = inl (other, one)
with_first c cs other (inr (line, more, one, is)) = inr (c ∷ line, more, (other, one), ap (λ (l : List ℕ). c ∷ l) is)

first_of : (text : List ℕ) → FirstOf text
unfolding FirstOf
first_of [] = inl tt
first_of (c ∷ cs) =
    elim (cases_eq c 10) [
      | inl feed ↦ inr ([], cs, tt, ap (λ (b : ℕ). b ∷ cs) feed)
      | inr other ↦ with_first c cs other (first_of cs)
    ]

-- The prefix of a text of lines that ends with a line is its first line and a prefix of the others that does so too.
behind_first : (text more : List ℕ) (before rest : List ℕ) → IsOneLine text → as_line text ++ more ≡ (before ++ codes "\n") ++ rest
    → (prefix : List ℕ) × EndsLine prefix × (more ≡ prefix ++ rest)
unfolding FirstOf
behind_first text more before rest one e = by_first (first_of before)
  where
    whole : text ++ 10 ∷ more ≡ before ++ 10 ∷ rest
    whole = sym (append_assoc text (10 ∷ []) more) ∙ e ∙ append_assoc before (10 ∷ []) rest

    by_first : FirstOf before → (prefix : List ℕ) × EndsLine prefix × (more ≡ prefix ++ rest)
    by_first (inl line) = ([], inl refl, (same_first text before more rest one line whole).1)
    by_first (inr (line, left, is_line, is)) =
        let later : text ++ 10 ∷ more ≡ line ++ 10 ∷ (left ++ 10 ∷ rest) =
        whole ∙ ap (λ (l : List ℕ). l ++ 10 ∷ rest) is ∙ append_assoc line (10 ∷ left) (10 ∷ rest) in
        let same = (same_first text line more (left ++ 10 ∷ rest) one is_line later).1 in
        (left ++ codes "\n", inr (left, refl), same ∙ sym (append_assoc left (10 ∷ []) rest))

pub is_first : {X : Type 0} (x y : X) (xs : List X) → x ≡ y → Contains (x ∷ xs) y
is_first x y xs same = (0, omega arith, same)

pub is_later : {X : Type 0} (x y : X) (xs : List X) → Contains xs y → Contains (x ∷ xs) y
is_later x y xs (k, below, same) = (suc k, omega (arith, below), same)

-- A whole line of a text of lines is one of them.
pub line_among : (texts : List (List ℕ)) (before line behind : List ℕ) → AllByRecursion IsOneLine texts → IsOneLine line → EndsLine before
    → as_lines texts ≡ before ++ (as_line line ++ behind) → Contains texts line
line_among [] [] [] behind all one ends e = absurd cc
line_among [] [] (b ∷ line) behind all one ends e = absurd cc
line_among [] (b ∷ before) line behind all one ends e = absurd cc
line_among (text ∷ texts) [] line behind all one (inl empty) e =
    let whole : text ++ 10 ∷ as_lines texts ≡ line ++ 10 ∷ behind = sym (append_assoc text (10 ∷ []) (as_lines texts)) ∙ e ∙ append_assoc line (10 ∷ []) behind in
    is_first text line texts (same_first text line (as_lines texts) behind all.0 one whole).0
line_among (text ∷ texts) (c ∷ before) line behind all one (inl empty) e = absurd cc
line_among (text ∷ texts) before line behind all one (inr (lines, is)) e =
    let found = behind_first text (as_lines texts) lines (as_line line ++ behind) all.0 (e ∙ ap (λ (l : List ℕ). l ++ (as_line line ++ behind)) is) in
    is_later text line texts (line_among texts found.0 line behind all.1 one found.1 found.2)

-- ---- ends of lines

-- What ends a line does so after a line too.
pub ends_behind : (first before : List ℕ) → EndsLine before → EndsLine (as_line first ++ before)
ends_behind first before (inl empty) = inr (first, ap (λ (l : List ℕ). as_line first ++ l) empty ∙ append-nil (as_line first))
ends_behind first before (inr (lines, is)) =
    inr (as_line first ++ lines, ap (λ (l : List ℕ). as_line first ++ l) is ∙ sym (append_assoc (as_line first) lines (codes "\n")))

-- A text of lines ends with a line.
pub lines_end : (lines : List (List ℕ)) → EndsLine (as_lines lines)
lines_end [] = inl refl
lines_end (line ∷ lines) = ends_behind line (as_lines lines) (lines_end lines)
