use Rattle.std.proofs.Common.{◌≡◌, ◌⊎◌, true, subst, sym}
use Rattle.std.proofs.lemmas.Result.{IfOk-weaker, on_ok_weaker}
use Rattle.widening_engine.specs.Flows.{flow_of}
use Rattle.widening_engine.specs.Rounds.{Flow, all_unknown, is_inductive}
use Rattle.widening_engine.proofs.EveryEdge.{every_most, every_ticked}
use Rattle.widening_engine.proofs.Rounds.{limit_is_settled}
use Rattle.widening_engine.proofs.keeping.limit.Goals as goal

pub returns-clause-settled : goal.returns-clause-settled
returns-clause-settled g c =
    let flow : Flow _ = flow_of g.S.FlowState g.S.Lattice c.args.code.now in
    IfOk-weaker c.kept_limit.result _ _ (λ states is. subst (λ items. (is_inductive flow items ≡ true) ⊎ (items ≡ all_unknown flow)) (sym is) (limit_is_settled flow)) c.kept_limit.ensures.value

pub returns-clause-ticked : goal.returns-clause-ticked
returns-clause-ticked g c =
    let flow : Flow _ = flow_of g.S.FlowState g.S.Lattice c.args.code.now in
    on_ok_weaker c.kept_limit.result (λ ticked. every_ticked flow _ _ ticked) c.kept_limit.ensures.ticked

pub returns-clause-most : goal.returns-clause-most
returns-clause-most g c =
    let flow : Flow _ = flow_of g.S.FlowState g.S.Lattice c.args.code.now in
    every_most flow _ _ c.kept_limit.ensures.work
