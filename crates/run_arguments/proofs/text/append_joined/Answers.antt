use Rattle.std.proofs.Common.{rules}
use Rattle.run_arguments.proofs.ItemLemmas.{first_and_others}
use Rattle.run_arguments.proofs.text.append_joined.Goals as goal

pub returns-in_ok-append_item-in-len1-up : goal.returns-in_ok-append_item-in-len1-up
returns-in_ok-append_item-in-len1-up g c = search (rules, first_and_others)
