-- The first line `end` is found by one pass over a text.
use Rattle.std.proofs.Common.{◌≡◌, ℕ, zero, suc, ◌+◌, ◌-◌, ◌<◌, ◌≤◌, ◌==◌, true, false, List, [], ◌∷◌, ◌++◌}
use Rattle.std.proofs.Common.{length, take, drop, get_or, refl, sym, ap, ap₂, ◌∙◌, subst, append_assoc, append-nil}
use Rattle.std.proofs.Common.{codes, arith, length-drop, take-append-drop}
use Rattle.std.specs.List.{AllByRecursion}
use Rattle.std.specs.Str.{bytes_eq}
use Rattle.std.proofs.lemmas.Bool.{false≢true, eqb-true}
use Rattle.std.proofs.lemmas.List.{get_or-drop, take_all, take_more}
use Rattle.std.proofs.lemmas.List.Concat.{flat_map-append, flat_map-cons}
use Rattle.std.proofs.lemmas.Slice.Eq.{bytes_eq-Decides}
use Rattle.invariant_text.proofs.PlainTexts.{no_feed_behind}
use Rattle.proof_files.specs.Lines.{END_LINE, IsCut, IsOtherLine, IsUncut, NoFeed, lines_text, with_feed}

-- Lines other than `end` come up to one offset, and from there to another one no line feed.
pub record IsScanned (text : List ℕ) (start place : ℕ) : Type 0 where
  pub lines : List (List ℕ)
  pub other : AllByRecursion IsOtherLine lines
  pub are : lines_text lines ≡ take start text
  pub low : start ≤ place
  pub within : place ≤ length text
  pub plain : NoFeed (take (place - start) (drop start text))

pub scan_starts : (text : List ℕ) → IsScanned text 0 0
scan_starts text = record { lines = []; other = tt; are = refl; low = omega arith; within = omega arith; plain = refl }

one_plain : (b : ℕ) → (b == 10) ≡ false → NoFeed (b ∷ [])
one_plain b other = rw other refl

line_more : (text : List ℕ) (start place : ℕ) → start ≤ place → place < length text
    → take (place + 1 - start) (drop start text) ≡ take (place - start) (drop start text) ++ get_or text place 0 ∷ []
line_more text start place low within =
    let next : place + 1 - start ≡ place - start + 1 = omega (arith, low) in
    let there : start + (place - start) ≡ place = omega (arith, low) in
    ap (λ (n : ℕ). take n (drop start text)) next
    ∙ take_more (drop start text) (place - start) 0 (omega (arith, low, within, length-drop start text))
    ∙ ap (λ (b : ℕ). take (place - start) (drop start text) ++ b ∷ [])
    (get_or-drop start text (place - start) 0 ∙ ap (λ (n : ℕ). get_or text n 0) there)

pub scan_on : (text : List ℕ) (start place : ℕ) → IsScanned text start place → place < length text
    → (get_or text place 0 == 10) ≡ false → IsScanned text start (place + 1)
scan_on text start place before within other = record {
  lines = before.lines;
  other = before.other;
  are = before.are;
  low = omega (arith, before.low);
  within = omega (arith, within);
  plain = subst NoFeed (sym (line_more text start place before.low within))
      (no_feed_behind (take (place - start) (drop start text)) (get_or text place 0 ∷ []) before.plain
      (one_plain (get_or text place 0) other));
}

take_split : (n m : ℕ) (xs : List ℕ) → take n xs ++ take m (drop n xs) ≡ take (n + m) xs
take_split zero m xs = let on : zero + m ≡ m = omega arith in ap (λ (k : ℕ). take k xs) (sym on)
take_split (suc n) m [] = let on : suc n + m ≡ suc (n + m) = omega arith in take_all m [] (omega arith)
    ∙ sym (take_all (suc n + m) [] (omega arith))
take_split (suc n) m (x ∷ xs) =
    let on : suc n + m ≡ suc (n + m) = omega arith in
    ap (λ (zs : List ℕ). x ∷ zs) (take_split n m xs) ∙ ap (λ (k : ℕ). take k (x ∷ xs)) (sym on)

-- The text up to a line feed is the text before its line, the line, and the line feed.
line_there : (text : List ℕ) (start place : ℕ) → start ≤ place → place < length text
    → (get_or text place 0 == 10) ≡ true
    → take (place + 1) text ≡ take start text ++ with_feed (take (place - start) (drop start text))
line_there text start place low within feed =
    let there : start + (place - start) ≡ place = omega (arith, low) in
    let line = take (place - start) (drop start text) in
    take_more text place 0 within
    ∙ ap₂ (λ (prefix : List ℕ) (b : ℕ). prefix ++ b ∷ [])
    (ap (λ (n : ℕ). take n text) (sym there) ∙ sym (take_split start (place - start) text))
    (eqb-true (get_or text place 0) 10 feed)
    ∙ append_assoc (take start text) line (10 ∷ [])

others_behind : (xs ys : List (List ℕ)) → AllByRecursion IsOtherLine xs → AllByRecursion IsOtherLine ys
    → AllByRecursion IsOtherLine (xs ++ ys)
others_behind [] ys xs_are ys_are = ys_are
others_behind (x ∷ xs) ys xs_are ys_are = (xs_are.0, others_behind xs ys xs_are.1 ys_are)

not_end : (line : List ℕ) → bytes_eq line (codes "end") ≡ false → line ≡ codes "end" → ⊥
not_end line other same = false≢true (sym other ∙ (bytes_eq-Decides line (codes "end")).1 same)

pub scan_line : (text : List ℕ) (start place : ℕ) → IsScanned text start place → place < length text
    → (get_or text place 0 == 10) ≡ true → bytes_eq (take (place - start) (drop start text)) (codes "end") ≡ false
    → IsScanned text (place + 1) (place + 1)
scan_line text start place before within feed other =
    let line = take (place - start) (drop start text) in
    let nothing : place + 1 - (place + 1) ≡ 0 = omega arith in
    record {
      lines = before.lines ++ line ∷ [];
      other = others_behind before.lines (line ∷ []) before.other
          (record { plain = before.plain; other = not_end line other }, tt);
      are =
          flat_map-append with_feed before.lines (line ∷ [])
          ∙ ap₂ (λ (prefix last : List ℕ). prefix ++ last) before.are (flat_map-cons with_feed line []
          ∙ append-nil (with_feed line))
          ∙ sym (line_there text start place before.low within feed);
      low = omega arith;
      within = omega (arith, within);
      plain = rw nothing refl;
    }

pub scan_ends : (text : List ℕ) (start place : ℕ) → IsScanned text start place → place < length text
    → (get_or text place 0 == 10) ≡ true → bytes_eq (take (place - start) (drop start text)) (codes "end") ≡ true
    → (rest : List ℕ) × IsCut text (take start text) rest
scan_ends text start place before within feed same =
    let line = take (place - start) (drop start text) in
    let is_end : line ≡ codes "end" = (bytes_eq-Decides line (codes "end")).0 same in
    let whole : take start text ++ END_LINE ≡ take (place + 1) text =
    ap (λ (t : List ℕ). take start text ++ with_feed t) (sym is_end)
    ∙ sym (line_there text start place before.low within feed) in (
      drop (place + 1) text,
      record {
        lines = before.lines;
        other = before.other;
        are = before.are;
        same = ap (λ (t : List ℕ). t ++ drop (place + 1) text) whole ∙ take-append-drop (place + 1) text;
      },
    )

pub scan_none : (text : List ℕ) (start place : ℕ) → IsScanned text start place → length text ≤ place → IsUncut text
scan_none text start place before past = record {
  lines = before.lines;
  other = before.other;
  last = drop start text;
  plain = subst NoFeed (take_all (place - start) (drop start text) (omega (arith, past, length-drop start text)))
      before.plain;
  same = ap (λ (t : List ℕ). t ++ drop start text) before.are ∙ take-append-drop start text;
}
