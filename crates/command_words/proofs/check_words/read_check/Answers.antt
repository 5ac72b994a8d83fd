use Rattle.std.proofs.Common.{◌+◌, length, refl, ap, ◌∙◌, arith}
use Rattle.command_words.specs.Words.{cache_place, proof_place, word_index, words_bytes}
use Rattle.command_words.proofs.CheckWordLemmas.{used_inside, word_inside}
use Rattle.command_words.proofs.check_words.read_check.Goals as goal

pub returns-clause-inside : goal.returns-clause-inside
returns-clause-inside c =
    let words = c.args.words.now in
    let limit = length words + 1 in
    let cache = c.word_index-3.ensures ∙ ap word_index c.cache_place.ensures.value in
    let proof = c.word_index-4.ensures ∙ ap word_index c.proof_place.ensures.value in
    let cache_inside = word_inside (cache_place (words_bytes words)) (length words) (c.if-not-are_check_words.ensures.cache refl) in
    let proof_inside = word_inside (proof_place (words_bytes words)) (length words) (c.if-not-are_check_words.ensures.proof refl) in
    used_inside (record { count = limit; show = c.word_index.result; infer = c.word_index-2.result; cache = c.word_index-3.result; proof = c.word_index-4.result }) limit refl (omega arith)
    (rw cache cache_inside) (rw proof proof_inside)
