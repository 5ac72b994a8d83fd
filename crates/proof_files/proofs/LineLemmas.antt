-- A text is cut at its first line `end` in one way.
use Rattle.std.proofs.Common.{◌≡◌, ℕ, ◌==◌, not, true, List, [], ◌∷◌, ◌++◌, refl, sym, ap, ap₂, ◌∙◌, subst}
use Rattle.std.proofs.Common.{append_assoc, codes}
use Rattle.std.specs.List.{AllByRecursion, list_all}
use Rattle.std.proofs.lemmas.Bool.{and_parts, false≢true}
use Rattle.std.proofs.lemmas.List.Concat.{flat_map-cons}
use Rattle.proof_files.specs.Lines.{END_LINE, IsCut, IsOtherLine, IsUncut, NoFeed, lines_text, with_feed}

-- ---- one line

-- A line that begins so has a line feed.
no_feed_first : (text : List ℕ) (b : ℕ) → NoFeed (b ∷ text) → 10 ≡ b → ⊥
no_feed_first text b plain same =
    let both = and_parts (not (b == 10)) (list_all (λ b. not (b == 10)) text) plain in
    false≢true (subst (λ (n : ℕ). not (n == 10) ≡ true) (sym same) both.0)

no_feed_tail : (text : List ℕ) (b : ℕ) → NoFeed (b ∷ text) → NoFeed text
no_feed_tail text b plain = (and_parts (not (b == 10)) (list_all (λ b. not (b == 10)) text) plain).1

head_same : (a b : ℕ) (r s : List ℕ) → a ∷ r ≡ b ∷ s → a ≡ b
head_same a b r s same = cc

tail_same : (a b : ℕ) (r s : List ℕ) → a ∷ r ≡ b ∷ s → r ≡ s
tail_same a b r s same = cc

-- Two lines, each before a line feed.
pub line_once : (a b r s : List ℕ) → NoFeed a → NoFeed b → a ++ 10 ∷ r ≡ b ++ 10 ∷ s → (a ≡ b) × (r ≡ s)
line_once [] [] r s plain other same = (refl, tail_same 10 10 r s same)
line_once [] (y ∷ b) r s plain other same = absurd (no_feed_first b y other (head_same 10 y r (b ++ 10 ∷ s) same))
line_once (x ∷ a) [] r s plain other same =
    absurd (no_feed_first a x plain (sym (head_same x 10 (a ++ 10 ∷ r) s same)))
line_once (x ∷ a) (y ∷ b) r s plain other same =
    let later = line_once a b r s (no_feed_tail a x plain) (no_feed_tail b y other)
    (tail_same x y (a ++ 10 ∷ r) (b ++ 10 ∷ s) same) in
    (ap₂ (λ (z : ℕ) (zs : List ℕ). z ∷ zs) (head_same x y (a ++ 10 ∷ r) (b ++ 10 ∷ s) same) later.0, later.1)

-- What has no line feed is no text with one.
pub feed_none : (a r last : List ℕ) → NoFeed last → a ++ 10 ∷ r ≡ last → ⊥
feed_none [] r [] plain same = absurd cc
feed_none (x ∷ a) r [] plain same = absurd cc
feed_none [] r (y ∷ last) plain same = no_feed_first last y plain (head_same 10 y r last same)
feed_none (x ∷ a) r (y ∷ last) plain same = feed_none a r last (no_feed_tail last y plain)
    (tail_same x y (a ++ 10 ∷ r) last same)

-- ---- lines

-- The first line, and what comes behind its line feed.
pub lines_first : (line : List ℕ) (lines : List (List ℕ)) (rest : List ℕ)
    → lines_text (line ∷ lines) ++ rest ≡ line ++ 10 ∷ (lines_text lines ++ rest)
lines_first line lines rest =
    ap (λ (t : List ℕ). t ++ rest) (flat_map-cons with_feed line lines)
    ∙ append_assoc (with_feed line) (lines_text lines) rest
    ∙ append_assoc line (10 ∷ []) (lines_text lines ++ rest)

record AreOnce (prefix other rest more : List ℕ) : Type 0 where
  prefixes : prefix ≡ other
  rests : rest ≡ more

end_of : (a r s : List ℕ) → a ++ END_LINE ++ r ≡ s → a ++ (101 ∷ 110 ∷ 100 ∷ 10 ∷ r) ≡ s
end_of a r s same = sym (append_assoc a END_LINE r) ∙ same

prefixes_once : (xs ys : List (List ℕ)) (r s : List ℕ) → AllByRecursion IsOtherLine xs → AllByRecursion IsOtherLine ys
    → lines_text xs ++ (codes "end" ++ 10 ∷ r) ≡ lines_text ys ++ (codes "end" ++ 10 ∷ s)
    → AreOnce (lines_text xs) (lines_text ys) r s
prefixes_once [] [] r s xs_are ys_are same =
    record { prefixes = refl; rests = (line_once (codes "end") (codes "end") r s refl refl same).1 }
prefixes_once [] (y ∷ ys) r s xs_are ys_are same =
    let one = line_once (codes "end") y r (lines_text ys ++ (codes "end" ++ 10 ∷ s)) refl ys_are.0.plain
    (same ∙ lines_first y ys (codes "end" ++ 10 ∷ s)) in
    absurd (ys_are.0.other (sym one.0))
prefixes_once (x ∷ xs) [] r s xs_are ys_are same =
    let one = line_once x (codes "end") (lines_text xs ++ (codes "end" ++ 10 ∷ r)) s xs_are.0.plain refl
    (sym (lines_first x xs (codes "end" ++ 10 ∷ r)) ∙ same) in
    absurd (xs_are.0.other one.0)
prefixes_once (x ∷ xs) (y ∷ ys) r s xs_are ys_are same =
    let one = line_once x y (lines_text xs ++ (codes "end" ++ 10 ∷ r)) (lines_text ys ++ (codes "end" ++ 10 ∷ s))
    xs_are.0.plain ys_are.0.plain
    (sym (lines_first x xs (codes "end" ++ 10 ∷ r)) ∙ same ∙ lines_first y ys (codes "end" ++ 10 ∷ s)) in
    let later = prefixes_once xs ys r s xs_are.1 ys_are.1 one.1 in
    record {
      prefixes = flat_map-cons with_feed x xs ∙ ap₂ (λ (z zs : List ℕ). with_feed z ++ zs) one.0 later.prefixes
          ∙ sym (flat_map-cons with_feed y ys);
      rests = later.rests;
    }

ends_never : (xs ys : List (List ℕ)) (r last : List ℕ) → AllByRecursion IsOtherLine xs → AllByRecursion IsOtherLine ys
    → NoFeed last
    → lines_text xs ++ (codes "end" ++ 10 ∷ r) ≡ lines_text ys ++ last → ⊥
ends_never [] [] r last xs_are ys_are plain same = feed_none (codes "end") r last plain same
ends_never [] (y ∷ ys) r last xs_are ys_are plain same =
    let one = line_once (codes "end") y r (lines_text ys ++ last) refl ys_are.0.plain (same ∙ lines_first y ys last) in
    ys_are.0.other (sym one.0)
ends_never (x ∷ xs) [] r last xs_are ys_are plain same =
    feed_none x (lines_text xs ++ (codes "end" ++ 10 ∷ r)) last plain (sym (lines_first x xs (codes "end" ++ 10 ∷ r))
    ∙ same)
ends_never (x ∷ xs) (y ∷ ys) r last xs_are ys_are plain same =
    let one = line_once x y (lines_text xs ++ (codes "end" ++ 10 ∷ r)) (lines_text ys ++ last) xs_are.0.plain
    ys_are.0.plain
    (sym (lines_first x xs (codes "end" ++ 10 ∷ r)) ∙ same ∙ lines_first y ys last) in
    ends_never xs ys r last xs_are.1 ys_are.1 plain one.1

-- ---- the cut

pub cut_is : {text prefix rest : List ℕ} (cut : IsCut text prefix rest)
    → lines_text cut.lines ++ (codes "end" ++ 10 ∷ rest) ≡ text
cut_is {text} {prefix} {rest} cut =
    ap (λ (t : List ℕ). t ++ (codes "end" ++ 10 ∷ rest)) cut.are ∙ sym (append_assoc prefix END_LINE rest) ∙ cut.same

pub cut_once : (text prefix rest other more : List ℕ) → IsCut text prefix rest → IsCut text other more
    → (prefix ≡ other) × (rest ≡ more)
cut_once text prefix rest other more one two =
    let both = prefixes_once one.lines two.lines rest more one.other two.other (cut_is one ∙ sym (cut_is two)) in
    (sym one.are ∙ both.prefixes ∙ two.are, both.rests)

pub cut_never : (text prefix rest : List ℕ) → IsCut text prefix rest → IsUncut text → ⊥
cut_never text prefix rest cut uncut =
    ends_never cut.lines uncut.lines rest uncut.last cut.other uncut.other uncut.plain (cut_is cut ∙ sym uncut.same)
