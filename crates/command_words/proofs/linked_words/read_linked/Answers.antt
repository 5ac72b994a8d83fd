use Rattle.std.proofs.Common.{◌+◌, ◌<◌, length, ◌≤◌, sym, subst, List, ℕ, Option, String, Global, ◌++◌, option_to_list, filter, not, arith}
use Rattle.std.specs.Prelude.{All}
use Rattle.std.proofs.lemmas.List.{length-map}
use Rattle.std.specs.String.{string_bytes}
use Rattle.command_words.specs.Words.{check_files, refs_in, tells_ref, words_bytes}
use Rattle.command_words.proofs.CheckWordLemmas.{linked_inside}
use Rattle.command_words.proofs.linked_words.read_linked.Goals as goal

pub returns-clause-inside : goal.returns-clause-inside
returns-clause-inside c =
    let words = words_bytes c.args.words.now in
    let limit = length c.args.words.now + 1 in
    let check = c.in_ok-check.check in
    let long : 1 + length words ≤ limit = omega (arith, length-map c.args.words.now (λ (word : String Global). string_bytes word)) in
    subst (λ (refs : List (Option ℕ)). All (λ index. index < limit)
    (filter (λ index. not (tells_ref refs index)) (check_files check) ++ refs_in refs ++ option_to_list check.cache ++ option_to_list check.proof))
    (sym c.find_refs-refs.ensures) (linked_inside limit check words c.in_ok-check.ensures.named long c.in_ok-check.ensures.inside)
