-- The lines of methods among those of a report, and what one that tells a method to be proved means.
use Rattle.std.proofs.Common.{◌≡◌, ℕ, zero, suc, ◌*◌, ◌/◌, ◌%◌, ◌<◌, ◌^◌, Bool, true, false, List, [], ◌∷◌, ◌++◌, length, map, get_or, refl, sym, ap, ◌∙◌, append_assoc, inl, inr, codes, arith}
use Rattle.std.specs.Prelude.{Contains}
use Rattle.std.specs.List.{flat_map}
use Rattle.std.proofs.lemmas.Bool.{cases_lt, le-ltb, lt-ltb}
use Rattle.std.proofs.lemmas.List.{append_cancel_left}
use Rattle.cc_base.specs.Digits.{hex, hex_digit}
use Rattle.asm_image.specs.Rows.{method_row}
use Rattle.asm_image.specs.declared.method_row.MethodRow.{MethodRow}
use Rattle.pe_reader.specs.Addresses.{metadata}
use Rattle.cil_model.specs.declared.unit.Unit.{Unit as MethodUnit}
use Rattle.invariant_checker.specs.Counts.{all_proved}
use Rattle.invariant_checker.specs.Safety.{IsSafe}
use Rattle.unit_verdicts.proofs.UnitSafety.{proved_under_safe}
use Rattle.method_unit.specs.Units.{IsUnit}
use Rattle.unit_builder.specs.Outcomes.{IfAnalysed}
use Rattle.unit_builder.specs.declared.entry.Outcome.{Outcome}
use Rattle.unit_builder.specs.declared.entry.Outcome.TheVariants.{Analysed, Skipped}
use Rattle.assembly_reports.specs.CheckText.{Finding, WithVerdicts, NotAnalysed, outcome_finding, is_proved, verdict_text}
use Rattle.assembly_reports.specs.InferredUnits.{entry_by}
use Rattle.answer_lines.specs.Lines.{proved_text}
use Rattle.assembly_reports.proofs.Members.{contains_behind, contains_first, held_of, none_contained}
use Rattle.assembly_reports.proofs.ReportTexts.{IsSpaced, verdicts_spaced}
use Rattle.assembly_reports.proofs.Reported.{entry_said, method_said, outcome_said, shown_said, verdicts_said}
use Rattle.assembly_reports.proofs.ShownLines.{no_shown_line}
use Rattle.cc_base.proofs.DigitLemmas.{length-hex}
use Rattle.unit_verdicts.specs.Picks.{Manner, Pick}

-- ---- numbers in base sixteen

pub same_parts : (a b x y : List ℕ) → length a ≡ length b → a ++ x ≡ b ++ y → (a ≡ b) × (x ≡ y)
same_parts [] [] x y long e = (refl, e)
same_parts [] (d ∷ b) x y long e = absurd (omega (arith, long))
same_parts (c ∷ a) [] x y long e = absurd (omega (arith, long))
same_parts (c ∷ a) (d ∷ b) x y long e =
    let first : c ≡ d = cc in
    let later : a ++ x ≡ b ++ y = cc in
    let both = same_parts a b x y (omega (arith, long)) later in
    ((let same : c ∷ a ≡ d ∷ b = rw (first, both.0) refl in same), both.1)

digit_tells : (m n : ℕ) → m < 16 → n < 16 → hex_digit m ≡ hex_digit n → m ≡ n
digit_tells m n small other e =
    elim (cases_lt m 10) [
      | inl m_less ↦
          elim (cases_lt n 10) [
            | inl n_less ↦ let same = rw (lt-ltb m 10 m_less, lt-ltb n 10 n_less) at e in omega (arith, same)
            | inr n_more ↦ let same = rw (lt-ltb m 10 m_less, le-ltb n 10 n_more) at e in absurd (omega (arith, same, m_less))
          ]
      | inr m_more ↦
          elim (cases_lt n 10) [
            | inl n_less ↦ let same = rw (le-ltb m 10 m_more, lt-ltb n 10 n_less) at e in absurd (omega (arith, same, n_less))
            | inr n_more ↦ let same = rw (le-ltb m 10 m_more, le-ltb n 10 n_more) at e in omega (arith, same)
          ]
    ]

hex_tells : (digits m n : ℕ) → m < 16 ^ digits → n < 16 ^ digits → hex digits m ≡ hex digits n → m ≡ n
unfolding hex
hex_tells zero m n small other e = omega (arith, small, other)
hex_tells (suc digits) m n small other e =
    let both = same_parts (hex digits (m / 16)) (hex digits (n / 16)) (hex_digit (m % 16) ∷ []) (hex_digit (n % 16) ∷ []) (length-hex digits (m / 16) ∙ sym (length-hex digits (n / 16))) e in
    let last : hex_digit (m % 16) ≡ hex_digit (n % 16) = ap (λ (l : List ℕ). get_or l 0 0) both.1 in
    let low = digit_tells (m % 16) (n % 16) (omega arith) (omega arith) last in
    let power : 16 ^ suc digits ≡ 16 * 16 ^ digits = omega arith in
    let high = hex_tells digits (m / 16) (n / 16) (omega (arith, small, power)) (omega (arith, other, power)) both.0 in
    omega (arith, low, high)

-- ---- the line of a method

-- It is `method `, the token's digits and a text after them.
pub behind_digits : List ℕ → List ℕ → List ℕ
behind_digits name text = codes " " ++ (name ++ (codes ": " ++ text))

said_again : (token : ℕ) (name text : List ℕ) → method_said token name text ≡ codes "method " ++ (hex 8 token ++ behind_digits name text)
unfolding method_said behind_digits
said_again token name text =
    let digits = codes "method " ++ hex 8 token in
    append_assoc (digits ++ codes " " ++ name) (codes ": ") text
    ∙ append_assoc (digits ++ codes " ") name (codes ": " ++ text)
    ∙ append_assoc digits (codes " ") (name ++ (codes ": " ++ text))
    ∙ append_assoc (codes "method ") (hex 8 token) (behind_digits name text)

-- Equal lines tell one token, and the same after it.
pub same_said : (t u : ℕ) (n m x y : List ℕ) → t < 2 ^ 32 → u < 2 ^ 32 → method_said t n x ≡ method_said u m y → (t ≡ u) × (behind_digits n x ≡ behind_digits m y)
same_said t u n m x y small other e =
    let aligned = sym (said_again t n x) ∙ e ∙ said_again u m y in
    let behind = append_cancel_left (codes "method ") (hex 8 t ++ behind_digits n x) (hex 8 u ++ behind_digits m y) aligned in
    let both = same_parts (hex 8 t) (hex 8 u) (behind_digits n x) (behind_digits m y) (length-hex 8 t ∙ sym (length-hex 8 u)) behind in
    (hex_tells 8 t u small other both.0, both.1)

-- Behind one name the texts are equal.
pub same_text : (name x y : List ℕ) → behind_digits name x ≡ behind_digits name y → x ≡ y
unfolding behind_digits
same_text name x y e =
    let behind = append_cancel_left (codes " ") (name ++ (codes ": " ++ x)) (name ++ (codes ": " ++ y)) e in
    append_cancel_left (codes ": ") x y (append_cancel_left name (codes ": " ++ x) (codes ": " ++ y) behind)

-- No other line of a report is that of a method.
none_of_verdicts : (pick : Pick) (outcome : Outcome) (token : ℕ) (name text : List ℕ) → Contains (verdicts_said pick outcome) (method_said token name text) → ⊥
unfolding method_said
none_of_verdicts pick outcome token name text has =
    let letters : 109 ≡ 32 = held_of IsSpaced (verdicts_said pick outcome) (method_said token name text) (verdicts_spaced pick outcome) has in omega (arith, letters)

none_of_shown : (manner : Manner) (outcome : Outcome) (token : ℕ) (name text : List ℕ) → Contains (shown_said manner outcome) (method_said token name text) → ⊥
unfolding shown_said method_said
none_of_shown manner outcome token name text has = no_shown_line manner outcome _ (λ e. let letters : 109 ≡ 32 = e in omega (arith, letters)) has

-- ---- the line among those of some rows

-- What is told of the method of a row, where this comes of methods.
unfoldable pub row_said : Pick → List ℕ → (MethodRow → Outcome) → ℕ → List ℕ
row_said pick asm of row =
    let method = method_row (metadata asm) row in method_said method.token.0 method.name (verdict_text (outcome_finding pick (of method)))

pub among_rows : (asm : List ℕ) (of : MethodRow → Outcome) (manner : Manner) (rows : List ℕ) (token : ℕ) (name text : List ℕ)
    → Contains (flat_map (entry_said manner) (map (entry_by of) (map (method_row (metadata asm)) rows))) (method_said token name text)
    → (row : ℕ) × Contains rows row × (row_said manner.pick asm of row ≡ method_said token name text)
unfolding entry_said outcome_said row_said
among_rows asm of manner [] token name text has = absurd (none_contained _ has)
among_rows asm of manner (row ∷ rows) token name text has =
    let line = method_said token name text in
    let outcome = of (method_row (metadata asm) row) in
    let said = row_said manner.pick asm of row ∷ verdicts_said manner.pick outcome in
    elim (contains_behind (said ++ shown_said manner outcome) (flat_map (entry_said manner) (map (entry_by of) (map (method_row (metadata asm)) rows))) line has) [
      | inl here ↦
          elim (contains_behind said (shown_said manner outcome) line here) [
            | inl among ↦
                elim (contains_first (row_said manner.pick asm of row) line (verdicts_said manner.pick outcome) among) [
                  | inl same ↦ (row, (0, omega arith, refl), same)
                  | inr verdict ↦ absurd (none_of_verdicts manner.pick outcome token name text verdict)
                ]
            | inr shown ↦ absurd (none_of_shown manner outcome token name text shown)
          ]
      | inr later ↦
          let there = among_rows asm of manner rows token name text later in
          (there.0, (suc there.1.0, omega (arith, there.1.1), there.1.2), there.2)
    ]

-- ---- what a printed `proved` tells

pub proved_tells : (found : Finding) → verdict_text found ≡ codes "proved" → is_proved found ≡ true
proved_tells (WithVerdicts labels found) e = by_verdict (all_proved found) e
  where
    by_verdict : (proved : Bool) → proved_text proved ≡ codes "proved" → proved ≡ true
    by_verdict true e = refl
    by_verdict false e = absurd (let letters : 117 ≡ 112 = ap (λ (l : List ℕ). get_or l 0 0) e in omega (arith, letters))
proved_tells (NotAnalysed reason) e = absurd (let letters : 110 ≡ 112 = ap (λ (l : List ℕ). get_or l 0 0) e in omega (arith, letters))

-- The method is analysed, where this comes of methods, and its unit is safe.
pub record IsSafeIn (of : MethodRow → Outcome) (method : MethodRow) : Type 0 where
  pub unit : MethodUnit
  pub analysed : of method ≡ Analysed unit
  pub safe : IsSafe unit

-- A method that is proved is analysed, and its unit has no obligation that is not proved.
pub safe_by : (pick : Pick) (of : MethodRow → Outcome) (method : MethodRow) (outcome : Outcome) → of method ≡ outcome
    → is_proved (outcome_finding pick outcome) ≡ true → IfAnalysed outcome IsUnit → IsSafeIn of method
safe_by pick of method (Analysed unit) same proved runnable =
    record { unit = unit; analysed = same; safe = proved_under_safe pick unit runnable proved }
safe_by pick of method (Skipped reason) same proved runnable = absurd cc
