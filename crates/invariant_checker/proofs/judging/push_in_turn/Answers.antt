use Rattle.std.proofs.Common.{◌≡◌, ◌∷◌, ◌++◌, ◌<◌, [], length, get_or, ◌∙◌}
use Rattle.cil_model.specs.declared.machine.FaultKind.TheVariants.{Requires}
use Rattle.obligation_prover.specs.Avoiding.{avoid}
use Rattle.obligation_prover.specs.Faults.{faults_of}
use Rattle.invariant_checker.proofs.JudgeSteps.{one_more_judged, verdict_at}
use Rattle.invariant_checker.proofs.judging.push_in_turn.Goals as goal

pub loop-kind-preserved : goal.loop-kind-preserved
loop-kind-preserved c =
    let i = c.args.instr.now in
    let unit = c.args.unit.now in
    let kinds = faults_of unit i.op in
    let kind = get_or kinds c.loop-kind.kind-index (Requires 0) in
    let here = c.faults_of-kind-items.ensures.value in
    let step : c.in_ok-state.state ≡ avoid unit i.op kind c.loop-kind.state = rw here at c.in_ok-state.ensures.value in
    let within : c.loop-kind.kind-index < length kinds = rw here at c.loop-kind-test.true in
    let pushed : c.push.new.self.items ≡ c.loop-kind.found.items ++ verdict_at unit i kind c.loop-kind.state ∷ [] =
    rw (c.rules_out.ensures.value, here) at c.in_ok-push.ensures.items in
    rw (pushed, step)
    (one_more_judged c.loop-kind.found.items unit i kinds c.loop-kind.kind-index (Requires 0) c.loop-kind.state within
    ∙ c.loop-kind.invariant)
