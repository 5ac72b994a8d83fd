use Rattle.std.proofs.Common.{sym, ◌∙◌}
use Rattle.std.proofs.lemmas.Bool.{eqb-true}
use Rattle.std.proofs.lemmas.List.{nil_from_length}
use Rattle.alias_facts.proofs.kept.has_no_mark.Goals as goal

pub returns : goal.returns
returns c = λ is. nil_from_length c.args.marks.now (eqb-true _ _ (sym c.is_empty.ensures ∙ is))
