-- The items between commas are what std's `split` gives.
use Rattle.std.proofs.Common.{rules, tests, lit<}
use Rattle.std.proofs.lemmas.Iterator.{items_from_collect}
use Rattle.std.proofs.lemmas.Iterator.Consumers.{YieldsList-from_filter_map, YieldsList-at}
use Rattle.std.proofs.lemmas.Iterator.Splits.{YieldsList-from_str_split}
use Rattle.run_arguments.proofs.items.bools_of.Goals as goal

pub returns : goal.returns
returns c =
    let items = YieldsList-from_str_split 44 c.args.items.now (lit< tt) c.split.ensures.text c.split.ensures.has_more c.split.ensures.pattern in
    items_from_collect _ c.collect.ensures.ran
    (YieldsList-from_filter_map _ _ (YieldsList-at c.filter_map.ensures.source items) c.filter_map.ensures.closure (λ x r q k. search (rules, tests)))
