use Rattle.std.proofs.Common.{◌++◌, List, take, Option, ap, sym, ◌∙◌}
use Rattle.std.specs.Prelude.{option_to_list}
use Rattle.number_spans.specs.declared.span.Span.{Span}
use Rattle.state_facts.specs.StateFacts.{State}
use Rattle.ensures_infer.specs.Following.{range_at, ranges_at}
use Rattle.ensures_infer.proofs.Filtering.{one_more_filtered}
use Rattle.ensures_infer.proofs.following.ranges_at.Goals as goal

pub loop-state-preserved : goal.loop-state-preserved
loop-state-preserved c =
    let state = c.state-item.result in
    let before = c.loop-state.ranges.items in
    let of_it = λ (s : State). option_to_list (range_at s) in
    c.in_ok-push_some.ensures
    ∙ (ap (λ (range : Option Span). before ++ option_to_list range) c.range_at.ensures
    ∙ (ap (λ (ranges : List Span). ranges ++ of_it state) c.loop-state.invariant
    ∙ (ap (λ (s : State). ranges_at (take c.loop-state.state-index c.args.returns.now) ++ of_it s) c.state-item.is
    ∙ sym (one_more_filtered range_at c.args.returns.now c.loop-state.state-index state c.loop-state-test.true))))
