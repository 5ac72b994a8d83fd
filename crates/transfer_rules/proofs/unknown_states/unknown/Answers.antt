use Rattle.std.proofs.Common.{ap, subst, sym, ◌∙◌}
use Rattle.std.proofs.lemmas.Result.{IfOk-weaker}
use Rattle.transfer_rules.specs.Flow.{Fits}
use Rattle.transfer_rules.specs.Laws.UnknownLaws.{unknown_fits}
use Rattle.transfer_rules.specs.Unknown.{unknown, unknown_over}
use Rattle.transfer_rules.proofs.unknown_states.unknown.Goals as goal

pub returns-in-None-clause-value : goal.returns-in-None-clause-value
unfolding unknown
returns-in-None-clause-value c = c.nothing.ensures ∙ ap (unknown_over c.args.code.now.unit) c.in-None.ensures

pub returns-in-Some-clause-value : goal.returns-in-Some-clause-value
unfolding unknown
returns-in-Some-clause-value c =
    IfOk-weaker c.unknown_over.result _ _ (λ state is. is ∙ ap (unknown_over c.args.code.now.unit) c.in-Some.ensures)
    c.unknown_over.ensures

pub returns-in-Some-clause-fits : goal.returns-in-Some-clause-fits
returns-in-Some-clause-fits c =
    IfOk-weaker c.unknown_over.result _ (Fits c.args.code.now c.args.block)
    (λ state is. subst (Fits c.args.code.now c.args.block) (sym is)
    (unknown_fits c.args.code.now c.args.block c.requires.lawful))
    (returns-in-Some-clause-value c)
