-- What is shown of an invariant is whole lines, and each begins with a space.
use Rattle.std.proofs.Common.{◌≡◌, ◌≢◌, ℕ, zero, suc, ◌==◌, not, Bool, true, false, List, [], ◌∷◌, ◌++◌, if◌then◌else◌, get_or, refl, sym, ap, ◌∙◌, subst, append_assoc, arith}
use Rattle.std.specs.Prelude.{Contains}
use Rattle.std.proofs.lemmas.Bool.{and_parts, ne_eqb}
use Rattle.invariant_checker.specs.Inducts.{has_shape}
use Rattle.invariant_text.specs.InvariantText.{invariant_text}
use Rattle.invariant_text.proofs.Indented.{AreIndented, indented, more, none}
use Rattle.invariant_text.proofs.PlainTexts.{NoFeed, has_no_feed}
use Rattle.state_facts.specs.StateFacts.{State}
use Rattle.unit_builder.specs.declared.entry.Outcome.{Outcome}
use Rattle.unit_builder.specs.declared.entry.Outcome.TheVariants.{Analysed, Skipped}
use Rattle.unit_flow.specs.FlowOf.{flow_of}
use Rattle.unit_flow.specs.declared.unit_flow.UnitFlow.{UnitFlow}
use Rattle.assembly_reports.specs.CheckText.{outcome_shown}
use Rattle.assembly_reports.specs.Sections.{lines_of}
use Rattle.answer_lines.proofs.WholeLines.{IsOneLine, as_lines}
use Rattle.unit_verdicts.specs.Picks.{Manner, shown_text, states_text}

-- ---- lines of a text

-- A text that passes the test of invariant_text is one line.
one_line : (text : List ℕ) → NoFeed text → IsOneLine text
one_line [] plain = tt
one_line (b ∷ text) plain =
    let both = and_parts (not (b == 10)) (has_no_feed text) plain in
    ((λ feed. absurd (let clash : false ≡ true = rw feed at both.0 in cc)), one_line text both.1)

-- The lines of a line and more.
lines_behind : (line rest : List ℕ) → IsOneLine line → lines_of (line ++ 10 ∷ rest) ≡ line ∷ lines_of rest
lines_behind [] rest one = refl
lines_behind (b ∷ line) rest one = rw (ne_eqb b 10 one.0, lines_behind line rest one.1) refl

are_lines : (text : List ℕ) → AreIndented text → as_lines (lines_of text) ≡ text
are_lines _ none = refl
are_lines _ (more line rest plain others) =
    let one = one_line line plain in
    let first : 32 ∷ line ++ 10 ∷ rest ≡ (32 ∷ line) ++ 10 ∷ rest = refl in
    ap as_lines (lines_behind (32 ∷ line) rest ((λ same. omega (arith, same)), one))
    ∙ append_assoc (32 ∷ line) (10 ∷ []) (as_lines (lines_of rest)) ∙ ap (λ (l : List ℕ). (32 ∷ line) ++ 10 ∷ l) (are_lines rest others)

-- A line that does not begin with a space is behind one that does.
behind_first : (first line : List ℕ) (lines : List (List ℕ)) → get_or line 0 0 ≢ 32 → Contains ((32 ∷ first) ∷ lines) line → Contains lines line
behind_first first line lines letter (zero, below, same) =
    absurd (letter (sym (ap (λ (l : List ℕ). get_or l 0 0) same)))
behind_first first line lines letter (suc k, below, same) = (k, omega (arith, below), same)

no_other : (text line : List ℕ) → AreIndented text → get_or line 0 0 ≢ 32 → Contains (lines_of text) line → ⊥
no_other _ line none letter (k, below, same) = omega (arith, below)
no_other _ line (more first rest plain others) letter has =
    let one = one_line first plain in
    let lines = lines_behind (32 ∷ first) rest ((λ same. omega (arith, same)), one) in
    no_other rest line others letter (behind_first first line (lines_of rest) letter (subst (λ (l : List (List ℕ)). Contains l line) lines has))

-- ---- what is shown

states_indented : (code : UnitFlow) (states : List State) → AreIndented (states_text code states)
states_indented code states = by_shape (has_shape code states)
  where
    by_shape : (shaped : Bool) → AreIndented (if shaped then invariant_text code.unit code.graph.blocks states else [])
    by_shape true = indented code.unit code.graph.blocks states
    by_shape false = none

shown_indented : (manner : Manner) (outcome : Outcome) → AreIndented (outcome_shown manner outcome)
unfolding shown_text
shown_indented manner (Analysed unit) = by_show manner.show
  where
    by_show : (show : Bool) → AreIndented (if show then states_text (flow_of unit) (manner.pick unit) else [])
    by_show true = states_indented (flow_of unit) (manner.pick unit)
    by_show false = none
shown_indented manner (Skipped reason) = none

pub shown_are_lines : (manner : Manner) (outcome : Outcome) → as_lines (lines_of (outcome_shown manner outcome)) ≡ outcome_shown manner outcome
shown_are_lines manner outcome = are_lines (outcome_shown manner outcome) (shown_indented manner outcome)

-- No line of it begins with another byte.
pub no_shown_line : (manner : Manner) (outcome : Outcome) (line : List ℕ) → get_or line 0 0 ≢ 32 → Contains (lines_of (outcome_shown manner outcome)) line → ⊥
no_shown_line manner outcome line letter has = no_other (outcome_shown manner outcome) line (shown_indented manner outcome) letter has
