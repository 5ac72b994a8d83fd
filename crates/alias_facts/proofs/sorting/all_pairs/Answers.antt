use Rattle.std.proofs.Common.{subst, sym}
use Rattle.std.proofs.lemmas.Result.{IfOk-weaker}
use Rattle.alias_facts.specs.KeptPairs.{lower_first}
use Rattle.alias_facts.specs.PairsOf.{AreProper}
use Rattle.alias_facts.proofs.KeptLaws.{proper-kept_pairs}
use Rattle.alias_facts.proofs.SortingLaws.{kept_in_order}
use Rattle.alias_facts.proofs.sorting.all_pairs.Goals as goal

pub returns-clause-value : goal.returns-clause-value
returns-clause-value c =
    IfOk-weaker c.in_order.result _ _
    (λ all is. kept_in_order (lower_first c.args.rows.now) c.in_ok-all.all.items all.items c.args.marks.now c.in_ok-all.ensures is) c.in_order.ensures

pub returns-clause-in_order : goal.returns-clause-in_order
returns-clause-in_order c = IfOk-weaker c.in_order.result _ _ (λ all is. is.in_order) c.in_order.ensures

pub returns-clause-proper : goal.returns-clause-proper
returns-clause-proper c =
    IfOk-weaker c.in_order.result _ _
    (λ all is. subst AreProper (sym (kept_in_order (lower_first c.args.rows.now) c.in_ok-all.all.items all.items c.args.marks.now c.in_ok-all.ensures is))
    (proper-kept_pairs (lower_first c.args.rows.now) c.args.marks.now c.requires.proper))
    c.in_order.ensures
