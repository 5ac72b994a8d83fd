use Rattle.std.proofs.Common.{◌≡◌, ℕ, zero, suc, ◌<◌, List, [], ◌∷◌, length, get_or, String, Global, sym, ap, ◌∙◌, arith}
use Rattle.std.specs.String.{string_bytes}
use Rattle.command_words.specs.Words.{word_at, words_bytes}
use Rattle.command_words.proofs.command.word_at.Goals as goal

-- The word at an index, as bytes.
word_is : (words : List (String Global)) (index : ℕ) (word : String Global) → index < length words → word ≡ get_or words index word
    → word_at (words_bytes words) index ≡ string_bytes word
word_is [] index word inside is = absurd (omega arith)
word_is (w ∷ words) zero word inside is = ap (λ (s : String Global). string_bytes s) (sym is)
word_is (w ∷ words) (suc index) word inside is = word_is words index word (omega arith) is

pub returns : goal.returns
returns c = c.as_str.ensures.value ∙ sym (word_is c.args.words.now c.args.index c.index-words-index.result c.requires c.index-words-index.is)
