-- The line of a unit is read.
use Rattle.std.proofs.Common.{◌≡◌, ℕ, suc, ◌+◌, ◌-◌, ◌<◌, ◌==◌, not, Bool, true, false, cond, List, [], ◌∷◌, ◌++◌}
use Rattle.std.proofs.Common.{length, take, drop, nat_lt, Some, None, refl, sym, ap, ◌∙◌, subst, append_assoc, codes}
use Rattle.std.proofs.Common.{arith, length-drop}
use Rattle.std.specs.Prelude.{position}
use Rattle.std.specs.List.{position_or_len}
use Rattle.std.proofs.lemmas.Bool.{eqb-true, ltb-true, ltb-false}
use Rattle.std.proofs.lemmas.List.{take_all}
use Rattle.proof_files.specs.Lines.{NoFeed}
use Rattle.proof_files.specs.Proofs.{hex_text}
use Rattle.proof_files.specs.Steps.{IsBehindWord, IsHexOf, IsLineOf, IsUnitLineOf, line_text}
use Rattle.proof_files.proofs.EntryLemmas.{text_no_feed}
use Rattle.proof_files.proofs.LineLemmas.{feed_none, line_once}

-- ---- the first line feed

abbrev pub feed_at : List ℕ → ℕ
feed_at text = position_or_len (λ b. b == 10) text

-- No line feed comes before this place, and where it lies in the text, one stands there.
record IsFeedAt (text : List ℕ) (place : ℕ) : Type 0 where
  plain : NoFeed (take place text)
  there : place < length text → take place text ++ 10 ∷ drop (suc place) text ≡ text

feed_first : (text : List ℕ) → IsFeedAt text (feed_at text)
feed_first [] = record { plain = refl; there = λ below. absurd (omega (arith, below)) }
feed_first (b ∷ text) = by (b == 10) refl (feed_first text)
  where
    by : (same : Bool) → (b == 10) ≡ same → IsFeedAt text (feed_at text)
        → IsFeedAt (b ∷ text) (cond (not same) (1 + feed_at text) 0)
    by true is later = record { plain = refl; there = λ below. ap (λ (c : ℕ). c ∷ text) (sym (eqb-true b 10 is)) }
    by false is later =
        let next : 1 + feed_at text ≡ suc (feed_at text) = omega arith in
        subst (IsFeedAt (b ∷ text)) (sym next)
        (record {
          plain = rw is later.plain;
          there = λ below. ap (λ (t : List ℕ). b ∷ t) (later.there (omega (arith, below)));
        })

pub line_there : (text : List ℕ) (end : ℕ) → Some end ≡ position (λ b. b == 10) text
    → NoFeed (take end text)
    × (take end text ++ codes "\n" ++ take (length text - (end + 1)) (drop (end + 1) text) ≡ text)
line_there text end is = by (nat_lt (feed_at text) (length text)) refl is
  where
    by : (within : Bool) → nat_lt (feed_at text) (length text) ≡ within
        → Some end ≡ cond within (Some (feed_at text)) None
        → NoFeed (take end text)
        × (take end text ++ codes "\n" ++ take (length text - (end + 1)) (drop (end + 1) text) ≡ text)
    by true within is =
        let same : end ≡ feed_at text = cc in
        let first = subst (IsFeedAt text) (sym same) (feed_first text) in
        let below : end < length text = omega (arith, ltb-true (feed_at text) (length text) within, same) in
        let next : end + 1 ≡ suc end = omega arith in (
          first.plain,
          ap (λ (t : List ℕ). (take end text ++ 10 ∷ []) ++ t)
              (take_all (length text - (end + 1)) (drop (end + 1) text) (omega (arith, length-drop (end + 1) text)))
              ∙ append_assoc (take end text) (10 ∷ []) (drop (end + 1) text)
              ∙ ap (λ (n : ℕ). take end text ++ 10 ∷ drop n text) next ∙ first.there below,
        )
    by false within is = absurd cc

pub line_none : (text : List ℕ) → None ≡ position (λ b. b == 10) text → NoFeed text
line_none text is = by (nat_lt (feed_at text) (length text)) refl is
  where
    by : (within : Bool) → nat_lt (feed_at text) (length text) ≡ within → None ≡ cond within (Some (feed_at text)) None
        → NoFeed text
    by true within is = absurd cc
    by false past is =
        subst NoFeed (take_all (feed_at text) text (ltb-false (feed_at text) (length text) past))
        (feed_first text).plain

-- ---- the line

line_behind : (key rest : List ℕ) → line_text key rest ≡ codes "unit " ++ (hex_text key ++ 10 ∷ rest)
unfolding line_text
line_behind key rest =
    append_assoc (codes "unit " ++ hex_text key) (10 ∷ []) rest
    ∙ append_assoc (codes "unit ") (hex_text key) (10 ∷ rest)

behind_word : (text a b : List ℕ) → codes "unit " ++ a ≡ text → codes "unit " ++ b ≡ text → a ≡ b
behind_word text a b first second = by (first ∙ sym second)
  where
    by : codes "unit " ++ a ≡ codes "unit " ++ b → a ≡ b
    by same = cc

pub word_none : (text : List ℕ) → IsBehindWord text None → IsUnitLineOf text None
word_none text none key rest small is = none (hex_text key ++ 10 ∷ rest) (sym (line_behind key rest) ∙ is)

pub feed_missing : (text behind : List ℕ) → codes "unit " ++ behind ≡ text → NoFeed behind → IsUnitLineOf text None
feed_missing text behind word plain key rest small is =
    feed_none (hex_text key) rest behind plain
    (behind_word text (hex_text key ++ 10 ∷ rest) behind (sym (line_behind key rest) ∙ is) word)

whole_line : (digits lines behind : List ℕ) → digits ++ codes "\n" ++ lines ≡ behind → digits ++ 10 ∷ lines ≡ behind
whole_line digits lines behind same = sym (append_assoc digits (10 ∷ []) lines) ∙ same

pub hex_missing : (text behind digits lines : List ℕ) → codes "unit " ++ behind ≡ text
    → IsLineOf behind (Some (digits, lines))
    → IsHexOf digits None → IsUnitLineOf text None
hex_missing text behind digits lines word line none key rest small is =
    let same = behind_word text (hex_text key ++ 10 ∷ rest) behind (sym (line_behind key rest) ∙ is) word in
    let both = line_once (hex_text key) digits rest lines (text_no_feed key) line.0
    (same ∙ sym (whole_line digits lines behind line.1)) in
    none key small both.0

pub line_read : (text behind digits lines key : List ℕ) → codes "unit " ++ behind ≡ text
    → IsLineOf behind (Some (digits, lines))
    → IsHexOf digits (Some key) → IsUnitLineOf text (Some (key, lines))
line_read text behind digits lines key word line is = (
  is.0,
  line_behind key lines
      ∙ ap (λ (t : List ℕ). codes "unit " ++ t) (ap (λ (t : List ℕ). t ++ 10 ∷ lines) is.1
      ∙ whole_line digits lines behind line.1) ∙ word,
)
