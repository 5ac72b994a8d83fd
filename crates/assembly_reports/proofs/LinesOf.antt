-- What the lines that are read of a text tell of the text.
use Rattle.std.proofs.Common.{◌≡◌, ◌≢◌, ℕ, ◌==◌, Bool, true, false, cond, List, [], ◌∷◌, ◌++◌, Some, slice_get, refl, sym, ap, subst, ◌∙◌, append_assoc}
use Rattle.std.specs.List.{AllByRecursion}
use Rattle.std.proofs.lemmas.Bool.{eq-eqb, eqb-true, true≢false}
use Rattle.assembly_reports.specs.Sections.{lines_of, longer}
use Rattle.answer_lines.proofs.WholeLines.{IsOneLine, as_line, as_lines}

-- ---- lines of a text

-- A text is its lines, and what is left.
pub text_is_lines : (text : List ℕ) → (left : List ℕ) × (text ≡ as_lines (lines_of text) ++ left)
text_is_lines [] = ([], refl)
text_is_lines (byte ∷ text) = by_byte (byte == 10) refl (text_is_lines text)
  where
    behind_byte : (lines : List (List ℕ)) → (left : List ℕ) × (text ≡ as_lines lines ++ left) → (left : List ℕ) × (byte ∷ text ≡ as_lines (longer byte lines) ++ left)
    behind_byte [] whole = (byte ∷ text, refl)
    behind_byte (line ∷ lines) whole = (whole.0, ap (λ (l : List ℕ). byte ∷ l) whole.1)

    by_byte : (feed : Bool) → (byte == 10) ≡ feed → (left : List ℕ) × (text ≡ as_lines (lines_of text) ++ left)
        → (left : List ℕ) × (byte ∷ text ≡ as_lines (cond feed ([] ∷ lines_of text) (longer byte (lines_of text))) ++ left)
    by_byte true is whole = (whole.0, ap (λ (b : ℕ). b ∷ text) (eqb-true byte 10 is) ∙ ap (λ (l : List ℕ). 10 ∷ l) whole.1)
    by_byte false is whole = behind_byte (lines_of text) whole

-- No line has a line feed.
pub lines_one_line : (text : List ℕ) → AllByRecursion IsOneLine (lines_of text)
lines_one_line [] = tt
lines_one_line (byte ∷ text) = by_byte (byte == 10) refl (lines_one_line text)
  where
    behind_byte : (lines : List (List ℕ)) → (byte ≢ 10) → AllByRecursion IsOneLine lines → AllByRecursion IsOneLine (longer byte lines)
    behind_byte [] other all = tt
    behind_byte (line ∷ lines) other all = ((other, all.0), all.1)

    by_byte : (feed : Bool) → (byte == 10) ≡ feed → AllByRecursion IsOneLine (lines_of text)
        → AllByRecursion IsOneLine (cond feed ([] ∷ lines_of text) (longer byte (lines_of text)))
    by_byte true is all = (tt, all)
    by_byte false is all = behind_byte (lines_of text) (λ same. true≢false (sym (eq-eqb byte 10 same) ∙ is)) all

-- The first line, and what stands after it.
pub first_line : (text line : List ℕ) → slice_get (lines_of text) 0 ≡ Some line → IsOneLine line × ((more : List ℕ) × (text ≡ line ++ 10 ∷ more))
first_line text line first = by_lines (lines_of text) first (lines_one_line text) (text_is_lines text)
  where
    by_lines : (lines : List (List ℕ)) → slice_get lines 0 ≡ Some line → AllByRecursion IsOneLine lines → (left : List ℕ) × (text ≡ as_lines lines ++ left)
        → IsOneLine line × ((more : List ℕ) × (text ≡ line ++ 10 ∷ more))
    by_lines [] first all whole = absurd cc
    by_lines (other ∷ lines) first all (left, is) =
        let same : other ≡ line = cc in (
          subst IsOneLine same all.0,
          (
            as_lines lines ++ left,
            is ∙ append_assoc (as_line other) (as_lines lines) left ∙ append_assoc other (10 ∷ []) (as_lines lines ++ left)
                ∙ ap (λ (l : List ℕ). l ++ 10 ∷ (as_lines lines ++ left)) same,
          ),
        )
