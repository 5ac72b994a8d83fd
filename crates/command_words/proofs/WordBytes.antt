-- Tests of the bytes of words.
use Rattle.std.proofs.Common.{◌≡◌, ℕ, ◌+◌, Bool, cond, not, nat_lt, List, [], ◌∷◌, length, String, Global, Some, None, refl, sym, ap, ◌∙◌}
use Rattle.std.specs.Prelude.{position}
use Rattle.std.specs.List.{count_by, list_all, position_or_len, prefix_len}
use Rattle.std.specs.String.{string_bytes}
use Rattle.std.proofs.lemmas.List.{length-map}
use Rattle.std.proofs.lemmas.List.Folds.{list_all-map}
use Rattle.std.proofs.lemmas.List.Sums.{sum_by-cons}
use Rattle.command_words.specs.Words.{words_bytes}

-- Whether each word passes.
pub all_words : (p : List ℕ → Bool) (words : List (String Global)) → list_all (λ word. p (string_bytes word)) words ≡ list_all p (words_bytes words)
all_words p words = sym (list_all-map p (λ (word : String Global). string_bytes word) words)

-- How many words pass.
pub count_of_words : (p : List ℕ → Bool) (words : List (String Global)) → count_by (λ word. p (string_bytes word)) words ≡ count_by p (words_bytes words)
count_of_words p [] = refl
count_of_words p (word ∷ words) =
    sum_by-cons (λ (w : String Global). cond (p (string_bytes w)) 1 0) word words ∙ ap (λ n. cond (p (string_bytes word)) 1 0 + n) (count_of_words p words)
    ∙ sym (sum_by-cons (λ (b : List ℕ). cond (p b) 1 0) (string_bytes word) (words_bytes words))

passing_prefix : (p : List ℕ → Bool) (words : List (String Global)) → prefix_len (λ word. p (string_bytes word)) words ≡ prefix_len p (words_bytes words)
passing_prefix p [] = refl
passing_prefix p (word ∷ words) = ap (λ n. cond (p (string_bytes word)) (1 + n) 0) (passing_prefix p words)

-- Which of them is the first that passes.
pub position_of_words : (p : List ℕ → Bool) (words : List (String Global)) → position (λ word. p (string_bytes word)) words ≡ position p (words_bytes words)
position_of_words p words =
    let first = position_or_len p (words_bytes words) in
    ap (λ n. cond (nat_lt n (length words)) (Some n) None) (passing_prefix (λ bytes. not (p bytes)) words)
    ∙ ap (λ n. cond (nat_lt first n) (Some first) None) (sym (length-map words (λ (word : String Global). string_bytes word)))

pub ruleset told = (all_words, count_of_words, position_of_words, length-map)
