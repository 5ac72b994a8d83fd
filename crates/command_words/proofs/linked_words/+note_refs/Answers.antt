use Rattle.std.proofs.Common.{◌≡◌, ℕ, ◌+◌, ◌<◌, ◌++◌, [], ◌∷◌, List, Option, Some, length, length-append, append_assoc, set, sym, ap, ◌∙◌, arith}
use Rattle.command_words.specs.Words.{padded, refs_from, words_bytes}
use Rattle.command_words.proofs.CheckWordLemmas.{note_one, refs_of_first, rest_of, some_room}
use Rattle.command_words.proofs.linked_words.+note_refs.Goals as goal

pub returns-in-len1-up : goal.returns-in-len1-up
returns-in-len1-up t c = λ before long is.
    let words = c.args.words.now in
    let index = c.args.index in
    let one = (index + 1) ∷ [] in
    let room : length before < 16 = omega (arith, long, c.requires.room, some_room words c.word-item.result c.in-len1-up.len_at_least c.word-item.is c.if-is_ref.ensures) in
    let many : length (before ++ one) ≡ c.args.count + 1 = omega (arith, length-append before one, long) in
    let set_one : set c.args.refs.now c.args.count (Some (index + 1)) ≡ padded 16 (before ++ one) =
    ap (λ (refs : List (Option ℕ)). set refs c.args.count (Some (index + 1))) is ∙ ap (λ (n : ℕ). set (padded 16 before) n (Some (index + 1))) (sym long) ∙ note_one 16 before (index + 1) room in
    c.note_refs.ensures (before ++ one) many set_one
    ∙ ap (padded 16)
    (append_assoc before one (refs_from (index + 1) (words_bytes (rest_of words)))
    ∙ ap (λ (l : List ℕ). before ++ l) (sym (refs_of_first words c.word-item.result index c.in-len1-up.len_at_least c.word-item.is c.if-is_ref.ensures)))
