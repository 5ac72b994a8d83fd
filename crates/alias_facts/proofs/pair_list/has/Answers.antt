use Rattle.std.proofs.Common.{sym, ap, ◌∙◌, ◌<◌, ◌≤◌, length, get_or, arith}
use Rattle.std.specs.List.{prefix_len}
use Rattle.alias_facts.specs.PairsOf.{comes_before, same_pair}
use Rattle.alias_facts.proofs.PairLists.{found_at_place, none_at_end, not_less}
use Rattle.alias_facts.proofs.pair_list.has.Goals as goal

pub returns-then-place-pairs : goal.returns-then-place-pairs
returns-then-place-pairs c =
    let pairs = c.args.pairs.now in
    let pair = c.args.pair in
    let within : prefix_len (λ p. comes_before p pair) pairs < length pairs = omega (arith, c.if-place-pairs.true, c.place_of-place.ensures.place) in
    c.is_same.ensures ∙ ap (λ n. same_pair pair (get_or pairs n (0, 0))) c.place_of-place.ensures.place ∙ sym (found_at_place pair pairs (0, 0) c.requires within)

pub returns-else-place-pairs : goal.returns-else-place-pairs
returns-else-place-pairs c =
    let pairs = c.args.pairs.now in
    let pair = c.args.pair in
    let end : length pairs ≤ prefix_len (λ p. comes_before p pair) pairs = omega (arith, c.if-place-pairs.false, c.place_of-place.ensures.place) in
    not_less c.place_of-place.result (length pairs) c.if-place-pairs.false ∙ sym (none_at_end pair pairs c.requires end)
