-- The items between commas are what std's `split` gives.
use Rattle.std.proofs.Common.{rules, tests, lit<}
use Rattle.std.proofs.lemmas.Iterator.Search.{all_from_yields_List}
use Rattle.std.proofs.lemmas.Iterator.Splits.{YieldsList-from_str_split}
use Rattle.run_arguments.specs.Arguments.{is_bool}
use Rattle.run_arguments.proofs.items.are_bools.Goals as goal

pub returns : goal.returns
returns c =
    all_from_yields_List is_bool _ _ c.all.result c.all.ensures.ran
    (YieldsList-from_str_split 44 c.args.items.now (lit< tt) c.split.ensures.text c.split.ensures.has_more c.split.ensures.pattern)
    (λ x b q k. search (rules, tests))
