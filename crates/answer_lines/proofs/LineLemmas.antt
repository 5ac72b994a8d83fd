-- How many lines texts have that are made of others.
use Rattle.std.proofs.Common.{◌≡◌, ◌≢◌, ℕ, zero, suc, ◌+◌, ◌/◌, ◌%◌, ◌==◌, ◌&&◌, not, nat_le, List, [], ◌∷◌, ◌++◌, Option, if◌then◌else◌, refl, sym, ap, ◌∙◌, inl, inr, codes, arith}
use Rattle.std.proofs.lemmas.Bool.{and_parts, cond_both, cases_lt, leb-true, le-ltb, lt-ltb, ne_eqb}
use Rattle.std.proofs.lemmas.List.Sums.{sum_by-append}
use Rattle.cc_base.specs.Digits.{hex, hex_digit}
use Rattle.cc_base.specs.Escapes.{escaped, escaped_byte, is_plain}
use Rattle.cc_base.specs.Sink.{counted}
use Rattle.cc_base.proofs.SinkLemmas.{counted-counted}
use Rattle.answer_lines.specs.Answers.{cache_line, error_line, misfit_line, missing_line, refused_line, unread_line}
use Rattle.answer_lines.specs.LineCounts.{line_count}

-- Two texts have the lines of both.
pub line_count-append : (a b : List ℕ) → line_count (a ++ b) ≡ line_count a + line_count b
unfolding line_count
line_count-append a b = sum_by-append (λ (byte : ℕ). if byte == 10 then 1 else 0) a b

-- Puts for the lines of a text, and then for those of another one.
pub counted-lines : (a b : List ℕ) (told : Option ℕ) → counted (line_count b) (counted (line_count a) told) ≡ counted (line_count (a ++ b)) told
counted-lines a b told = counted-counted (line_count a) (line_count b) told ∙ ap (λ (n : ℕ). counted n told) (sym (line_count-append a b))

-- No put, where nothing is written.
pub puts_none : (told : Option ℕ) → told ≡ counted (line_count []) told
unfolding line_count
puts_none told = refl

-- ---- texts without a line feed

pub none_behind : (a b : List ℕ) → line_count a ≡ 0 → line_count b ≡ 0 → line_count (a ++ b) ≡ 0
none_behind a b none other = line_count-append a b ∙ rw (none, other) refl

pub none_in_byte : (b : ℕ) → b ≢ 10 → line_count (b ∷ []) ≡ 0
unfolding line_count
none_in_byte b other = rw (ne_eqb b 10 other) refl

none_in_digit : (n : ℕ) → line_count (hex_digit n ∷ []) ≡ 0
none_in_digit n =
    elim (cases_lt n 10) [
      | inl less ↦ rw (lt-ltb n 10 less) (none_in_byte (48 + n) (λ same. omega (arith, same)))
      | inr not_less ↦ rw (le-ltb n 10 not_less) (none_in_byte (87 + n) (λ same. omega (arith, same)))
    ]

pub none_in_hex : (digits n : ℕ) → line_count (hex digits n) ≡ 0
unfolding hex line_count
none_in_hex zero n = refl
none_in_hex (suc digits) n = none_behind (hex digits (n / 16)) (hex_digit (n % 16) ∷ []) (none_in_hex digits (n / 16)) (none_in_digit (n % 16))

none_in_escape : (b : ℕ) → line_count (escaped_byte b) ≡ 0
unfolding line_count
none_in_escape b =
    cond_both (is_plain b) (b ∷ []) (0x5c ∷ hex 2 b) (λ (text : List ℕ). line_count text ≡ 0)
    (λ plain. none_in_byte b (λ same. omega (arith, same, leb-true 0x21 b (and_parts (nat_le 0x21 b) (nat_le b 0x7e) (and_parts (nat_le 0x21 b && nat_le b 0x7e) (not (b == 0x5c)) plain).0).0)))
    (λ escapes. none_behind (0x5c ∷ []) (hex 2 b) refl (none_in_hex 2 b))

pub none_in_name : (name : List ℕ) → line_count (escaped name) ≡ 0
unfolding line_count
none_in_name [] = refl
none_in_name (b ∷ name) = none_behind (escaped_byte b) (escaped name) (none_in_escape b) (none_in_name name)

-- ---- the lines of errors

-- A text without a line feed, and one at its end.
pub line_of_text : (text : List ℕ) → line_count text ≡ 0 → line_count (text ++ codes "\n") ≡ 1
unfolding line_count
line_of_text text none = line_count-append text (codes "\n") ∙ rw none refl

pub error_is_line : (text : List ℕ) → line_count text ≡ 0 → line_count (error_line text) ≡ 1
unfolding line_count
error_is_line text none = line_of_text (codes "cccheck: " ++ text) (none_behind (codes "cccheck: ") text refl none)

pub missing_is_line : (name : List ℕ) → line_count (missing_line name) ≡ 1
unfolding line_count
missing_is_line name = error_is_line (codes "missing file " ++ escaped name) (none_behind (codes "missing file ") (escaped name) refl (none_in_name name))

pub unread_is_line : (name : List ℕ) → line_count (unread_line name) ≡ 1
unfolding line_count
unread_is_line name = error_is_line (codes "cannot read " ++ escaped name) (none_behind (codes "cannot read ") (escaped name) refl (none_in_name name))

pub misfit_is_line : (reason : List ℕ) → line_count reason ≡ 0 → line_count (misfit_line reason) ≡ 1
unfolding line_count
misfit_is_line reason none = error_is_line (codes "does not fit: " ++ reason) (none_behind (codes "does not fit: ") reason refl none)

pub refused_is_line : (name fault : List ℕ) (at : ℕ) → line_count fault ≡ 0 → line_count (refused_line name fault at) ≡ 1
unfolding line_count
refused_is_line name fault at none =
    let begun = codes "refused " ++ escaped name in
    error_is_line (begun ++ codes ": " ++ fault ++ codes " at " ++ hex 8 at)
    (none_behind (begun ++ codes ": " ++ fault ++ codes " at ") (hex 8 at)
    (none_behind (begun ++ codes ": " ++ fault) (codes " at ")
    (none_behind (begun ++ codes ": ") fault
    (none_behind begun (codes ": ") (none_behind (codes "refused ") (escaped name) refl (none_in_name name)) refl) none) refl) (none_in_hex 8 at))

pub cache_is_line : (name fault : List ℕ) → line_count fault ≡ 0 → line_count (cache_line name fault) ≡ 1
unfolding line_count
cache_is_line name fault none =
    let begun = codes "cache " ++ escaped name in
    error_is_line (begun ++ codes ": " ++ fault)
    (none_behind (begun ++ codes ": ") fault (none_behind begun (codes ": ") (none_behind (codes "cache ") (escaped name) refl (none_in_name name)) refl) none)

pub ruleset lines = (line_count-append, counted-lines, puts_none, missing_is_line, unread_is_line, misfit_is_line, refused_is_line, cache_is_line)
