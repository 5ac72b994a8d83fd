use Rattle.std.specs.Prelude.{unwrap_or}
use Rattle.std.proofs.Common.{◌≡◌, ◌+◌, Some, arith, ◌∙◌, ap, sym}
use Rattle.cil_eval.specs.Machines.{Machinery}
use Rattle.cil_eval.specs.declared.limits.Limits.{Limits}
use Rattle.cil_eval.specs.declared.stop.Stop.TheVariants as stops
use Rattle.cil_eval.proofs.MachineLemmas.{by_steps, same_on, stops_now, stops_of_run}
use Rattle.cil_eval.proofs.machine.Machine.run.Goals as goal

pub returns-in-Some-clause-end : goal.returns-in-Some-clause-end
returns-in-Some-clause-end c =
    λ start run.
    stops_of_run c.args.self.now c.loop.self start c.loop.invariant.same c.in-Some.stop c.args.n c.loop.counter c.loop.invariant.taken c.loop-test.true
    (c.in-Some.ensures.stops start (c.loop.invariant.kept start run))

pub returns-in-Some-clause-kept : goal.returns-in-Some-clause-kept
returns-in-Some-clause-kept c = λ start run. c.step.ensures.kept start (c.loop.invariant.kept start run)

pub loop-preserved : goal.loop-preserved
loop-preserved c = record {
  kept = λ start run. c.step.ensures.kept start (c.loop.invariant.kept start run);
  same = same_on c.args.self.now c.loop.self c.step.new.self c.loop.invariant.same c.step.ensures.same;
  taken = omega (arith, c.in_default.ensures.taken, c.loop.invariant.taken);
}

pub returns-clause-end : goal.returns-clause-end
returns-clause-end c =
    λ start run.
    let all : c.loop.self.taken ≡ c.args.self.now.taken + c.args.n = omega (arith, c.loop.invariant.taken, c.loop-test.false, c.loop.auto.counter-end) in
    let ended : unwrap_or c.loop.self.ended stops.Steps ≡ c.unwrap_or.result = ap (λ (m : Machinery). unwrap_or m.ended stops.Steps) (sym c.self.view_is) ∙ sym c.unwrap_or.ensures in
    stops_now c.args.self.now c.loop.self start c.loop.invariant.same c.args.n all (c.loop.invariant.kept start run) ∙ ap Some ended

pub returns-in-Some-clause-taken : goal.returns-in-Some-clause-taken
returns-in-Some-clause-taken c =
    λ start run live.
    let took = c.in-Some.ensures.taken live in
    let mid = c.loop.invariant.kept start run in
    let most : c.loop.self.limits.steps ≡ c.args.self.now.limits.steps = ap (λ (l : Limits). l.steps) c.loop.invariant.same.limits in
    omega (arith, took.0, took.1, mid.within, most, c.loop.invariant.taken, c.loop-test.true)

pub returns-clause-taken : goal.returns-clause-taken
returns-clause-taken c =
    λ start run live.
    let mid = c.loop.invariant.kept start run in
    let most : c.loop.self.limits.steps ≡ c.args.self.now.limits.steps = ap (λ (l : Limits). l.steps) c.loop.invariant.same.limits in
    omega (arith, mid.within, most, c.loop.invariant.taken, c.loop-test.false, c.loop.auto.counter-end)

pub returns-in-Some-clause-steps : goal.returns-in-Some-clause-steps
returns-in-Some-clause-steps c = λ start run. by_steps c.step.new.self start (c.step.ensures.kept start (c.loop.invariant.kept start run))

pub returns-clause-steps : goal.returns-clause-steps
returns-clause-steps c = λ start run. by_steps c.loop.self start (c.loop.invariant.kept start run)
