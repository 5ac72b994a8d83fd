use Rattle.std.proofs.Common.{◌≡◌, ◌++◌, ◌∷◌, take, drop, true, false, sym, ap, subst, ◌∙◌}
use Rattle.std.specs.List.{prefix_len}
use Rattle.alias_facts.specs.PairsOf.{AreInOrder, comes_before, contains}
use Rattle.alias_facts.proofs.PairLists.{inserted_there, inserted_at_place, order-inserted}
use Rattle.alias_facts.proofs.pair_list.insert.Goals as goal

pub returns-then-has-clause-ok : goal.returns-then-has-clause-ok
returns-then-has-clause-ok c =
    let pair = c.args.pair in
    let there : contains c.args.pairs.now.items pair ≡ true = ap (λ l. contains l pair) (sym c.as_slice.ensures.value) ∙ sym c.has.ensures ∙ c.if-has.true in
    sym (inserted_there pair c.args.pairs.now.items c.requires there)

pub returns-clause-ok : goal.returns-clause-ok
returns-clause-ok c =
    let pairs = c.args.pairs.now.items in
    let pair = c.args.pair in
    let none : contains pairs pair ≡ false = ap (λ l. contains l pair) (sym c.as_slice.ensures.value) ∙ sym c.has.ensures ∙ c.if-has.false in
    let place : c.place_of-place.result ≡ prefix_len (λ p. comes_before p pair) pairs =
    c.place_of-place.ensures.place ∙ ap (prefix_len (λ p. comes_before p pair)) c.as_slice-2.ensures.value in
    c.in_ok-insert.ensures.items ∙ ap (λ n. take n pairs ++ pair ∷ drop n pairs) place ∙ inserted_at_place pair pairs none

pub returns-clause-in_order : goal.returns-clause-in_order
returns-clause-in_order c = subst AreInOrder (sym (returns-clause-ok c)) (order-inserted c.args.pair c.args.pairs.now.items c.requires)
