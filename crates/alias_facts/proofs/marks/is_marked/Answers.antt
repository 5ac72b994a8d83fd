use Rattle.std.proofs.Common.{◌∙◌}
use Rattle.alias_facts.proofs.MarkLists.{found_among}
use Rattle.alias_facts.proofs.marks.is_marked.Goals as goal

pub returns : goal.returns
returns c = c.is_ok.ensures.value ∙ found_among c.args.marks.now c.args.reference _ c.binary_search.ensures.position c.requires
