-- Entries are told apart by their texts, and a text is cut behind its first entry.
use Rattle.std.proofs.Common.{◌≡◌, ℕ, List, [], ◌∷◌, ◌++◌, refl, sym, ap, ◌∙◌, subst, append_assoc, codes}
use Rattle.std.specs.List.{AllByRecursion}
use Rattle.std.proofs.lemmas.List.Concat.{flat_map-cons}
use Rattle.cc_base.specs.Digits.{hex}
use Rattle.cc_base.specs.LittleEndian.{IsBytes}
use Rattle.cil_model.specs.declared.unit.Unit.{Unit as MethodUnit}
use Rattle.invariant_text.specs.InvariantText.{invariant_text}
use Rattle.invariant_text.specs.Shape.{AreOfBlocks}
use Rattle.invariant_text.proofs.BlockReading.{distinct}
use Rattle.invariant_text.proofs.Indented.{AreIndented, indented, more, none}
use Rattle.invariant_text.proofs.PlainTexts.{hex_no_feed, no_feed_behind, no_feed_in}
use Rattle.method_unit.proofs.SpellingBytes.{spelling_is_bytes}
use Rattle.method_unit.proofs.UnitAgain.{one_unit}
use Rattle.state_facts.specs.StateFacts.{State}
use Rattle.unit_form.specs.Spelling.{unit_bytes}
use Rattle.proof_files.specs.Lines.{IsCut, IsOtherLine, NoFeed, lines_text, with_feed}
use Rattle.proof_files.specs.Proofs.{Entry, IsEntry, blocks_of, entry_text, prefix_text, hex_text, unit_line}
use Rattle.proof_files.specs.Steps.{line_text}
use Rattle.proof_files.proofs.HexLemmas.{hex_once}
use Rattle.proof_files.proofs.LineLemmas.{line_once}

-- ---- the line of a unit

pub text_no_feed : (bytes : List ℕ) → NoFeed (hex_text bytes)
text_no_feed bytes = no_feed_in (hex 2) bytes (λ b. hex_no_feed 2 b)

pub unit_no_feed : (bytes : List ℕ) → NoFeed (codes "unit " ++ hex_text bytes)
unit_no_feed bytes = no_feed_behind (codes "unit ") (hex_text bytes) refl (text_no_feed bytes)

-- The line, and then its line feed and the rest.
line_is : (key rest : List ℕ) → line_text key rest ≡ (codes "unit " ++ hex_text key) ++ 10 ∷ rest
unfolding line_text
line_is key rest = append_assoc (codes "unit " ++ hex_text key) (10 ∷ []) rest

pub unit_line_once : (key other rest after : List ℕ) → IsBytes key → IsBytes other
    → line_text key rest ≡ line_text other after
    → (key ≡ other) × (rest ≡ after)
unit_line_once key other rest after first second same =
    let both = line_once (codes "unit " ++ hex_text key) (codes "unit " ++ hex_text other) rest after (unit_no_feed key)
    (unit_no_feed other) (sym (line_is key rest) ∙ same ∙ line_is other after) in
    (hex_once key other first second (behind (hex_text key) (hex_text other) both.0), both.1)
  where
    behind : (a b : List ℕ) → codes "unit " ++ a ≡ codes "unit " ++ b → a ≡ b
    behind a b same = cc

-- ---- entries

-- The text of an entry but for its last line, by the bytes of its unit and the lines of its invariant.
pub prefix_is : (e : Entry)
    → prefix_text e ≡ line_text (unit_bytes e.unit) (invariant_text e.unit (blocks_of e.unit) e.states)
unfolding prefix_text unit_line line_text
prefix_is e = refl

abbrev pub states_text : MethodUnit → List State → List ℕ
states_text unit states = invariant_text unit (blocks_of unit) states

pub entry_once : (e f : Entry) → IsEntry e → IsEntry f → prefix_text e ≡ prefix_text f → e ≡ f
entry_once e f e_is f_is same =
    let both = unit_line_once (unit_bytes e.unit) (unit_bytes f.unit) (states_text e.unit e.states)
    (states_text f.unit f.states)
    (spelling_is_bytes e.unit e_is.is_unit) (spelling_is_bytes f.unit f_is.is_unit) (sym (prefix_is e) ∙ same
    ∙ prefix_is f) in
    let unit : e.unit ≡ f.unit = one_unit e.unit f.unit e_is.is_unit f_is.is_unit both.0 in
    let states : e.states ≡ f.states =
    distinct f.unit (blocks_of f.unit) e.states f.states
    (subst (λ (u : MethodUnit). AreOfBlocks (blocks_of u) e.states) unit e_is.printable) f_is.printable
    (ap (λ (u : MethodUnit). states_text u e.states) (sym unit) ∙ both.1) in
    λ i. record { unit = unit i; states = states i }

-- ---- the lines of an entry

pub record IsOfLines (text : List ℕ) : Type 0 where
  pub lines : List (List ℕ)
  pub other : AllByRecursion IsOtherLine lines
  pub are : lines_text lines ≡ text

other_first : (text : List ℕ) → 32 ∷ text ≡ codes "end" → ⊥
other_first text same = absurd cc

indented_lines : (text : List ℕ) → AreIndented text → IsOfLines text
indented_lines _ none = record { lines = []; other = tt; are = refl }
indented_lines _ (more text rest plain others) =
    let later = indented_lines rest others in
    record {
      lines = (32 ∷ text) ∷ later.lines;
      other = (record { plain = plain; other = other_first text }, later.other);
      are =
          flat_map-cons with_feed (32 ∷ text) later.lines ∙ ap (λ (t : List ℕ). with_feed (32 ∷ text) ++ t) later.are
          ∙ append_assoc (32 ∷ text) (10 ∷ []) rest;
    }

other_unit : (bytes : List ℕ) → codes "unit " ++ hex_text bytes ≡ codes "end" → ⊥
other_unit bytes same = absurd cc

prefix_lines : (e : Entry) → IsOfLines (prefix_text e)
prefix_lines e =
    let text = states_text e.unit e.states in
    let later = indented_lines text (indented e.unit (blocks_of e.unit) e.states) in
    let first = codes "unit " ++ hex_text (unit_bytes e.unit) in
    record {
      lines = first ∷ later.lines;
      other = (
        record { plain = unit_no_feed (unit_bytes e.unit); other = other_unit (unit_bytes e.unit) },
        later.other,
      );
      are =
          flat_map-cons with_feed first later.lines ∙ ap (λ (t : List ℕ). with_feed first ++ t) later.are
          ∙ append_assoc first (10 ∷ []) text ∙ sym (line_is (unit_bytes e.unit) text) ∙ sym (prefix_is e);
    }

-- The first line `end` of a text that begins with an entry is the last line of the entry.
pub entry_cut : (e : Entry) (rest : List ℕ) → IsCut (entry_text e ++ rest) (prefix_text e) rest
entry_cut e rest =
    let prefix = prefix_lines e in
    record { lines = prefix.lines; other = prefix.other; are = prefix.are; same = refl }
