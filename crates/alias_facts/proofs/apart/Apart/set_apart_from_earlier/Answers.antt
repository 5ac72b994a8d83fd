use Rattle.std.proofs.Common.{ap, subst, sym, ◌∙◌}
use Rattle.alias_facts.specs.KeptPairs.{lower_first}
use Rattle.alias_facts.specs.PairsOf.{with_all_before}
use Rattle.alias_facts.proofs.KeptLaws.{kept_marked}
use Rattle.alias_facts.specs.Arrays.{AllDiffer}
use Rattle.alias_facts.proofs.ApartLaws.{with_all_before_differ}
use Rattle.alias_facts.proofs.apart.Apart.set_apart_from_earlier.Goals as goal

pub returns-clause-ok : goal.returns-clause-ok
returns-clause-ok c =
    kept_marked (lower_first c.self.inside.rows.items) c.self.inside.marks.items c.mark.new.marks.items c.args.r c.in_ok-mark.ensures.marked
    ∙ ap (with_all_before c.args.r) c.self.view_is

pub returns-clause-keeps : goal.returns-clause-keeps
returns-clause-keeps c = λ array all earlier.
    subst (AllDiffer array) (sym (returns-clause-ok c)) (with_all_before_differ c.args.self.now array c.args.r all earlier)
