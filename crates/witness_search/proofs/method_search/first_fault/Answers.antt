use Rattle.std.proofs.Common.{◌+◌, sym, ap, subst, ◌∙◌, arith}
use Rattle.witness_search.specs.Searches.{HasTried}
use Rattle.witness_search.proofs.FoundLemmas.{none_is_left, number_of, tried_one}
use Rattle.witness_search.proofs.method_search.first_fault.Goals as goal

pub returns-in_default : goal.returns-in_default
returns-in_default c =
    none_is_left c.args.machine.now.world c.args.unit c.args.lists c.loop-tried.tried c.loop-tried.started c.loop-tried.lists c.loop-tried.invariant.2
    c.args.runs c.in_default.ensures (omega (arith, c.loop-tried-test.true))

pub loop-tried-preserved : goal.loop-tried-preserved
loop-tried-preserved c = (
  c.ending-stop.ensures.same.world ∙ c.loop-tried.invariant.0,
  c.ending-stop.ensures.same.limits ∙ c.loop-tried.invariant.1,
  subst (HasTried c.args.machine.now.world c.args.unit c.args.lists (c.loop-tried.tried + 1) (c.loop-tried.started + c.from-started.result)) (sym c.in_ok-go_on.ensures)
      (tried_one c.args.machine.now.world c.args.unit c.args.lists c.loop-tried.tried c.loop-tried.started c.loop-tried.lists c.loop-tried.invariant.2
      c.in-Some.args.now c.in-Some.ensures c.loop-tried.machine.world c.loop-tried.invariant.0 c.ending-stop.result c.ending-stop.ensures.ending
      (c.loop-tried.started + c.from-started.result) c.ending-stop.ensures.started c.in_default-fault_in.ensures (ap (λ n. c.loop-tried.started + n) (c.from-started.ensures ∙ ap number_of c.is_some.ensures))),
)
