use Rattle.std.proofs.Common.{◌∙◌, ◌<◌, length, arith, rules, sym, subst}
use Rattle.invariant_checker.proofs.Judgeable.{block_judged}
use Rattle.invariant_checker.proofs.JudgeSteps.{few_blocks_there}
use Rattle.transfer_rules.proofs.Inducing.{item_is}
use Rattle.transfer_rules.specs.Flow.{Fits}
use Rattle.flow_cases.proofs.flows.behind.Goals as goal

pub overflow_cast-block : goal.overflow_cast-block
overflow_cast-block c =
    let below : c.in-Some.block < length c.args.states.now = search rules in
    let few = few_blocks_there c.args.code.now c.args.states.now c.requires.lawful c.in_ok-fit_all.ensures c.in-Some.block below in
    omega (arith, few)

pub go_behind-requires-clause-ready : goal.go_behind-requires-clause-ready
go_behind-requires-clause-ready c =
    let below : c.in-Some.block < length c.args.states.now = search rules in
    let there : c.in-Some.block < length c.args.code.now.graph.blocks = search rules in
    let is = c.in_ok-begun.ensures ∙ item_is c.args.states.now c.in-Some.block c.index-states-block.result below c.index-states-block.is in
    rw c.block.ensures
    (block_judged c.args.code.now c.requires.lawful c.in-Some.block c.in_ok-begun.begun there
    (subst (Fits c.args.code.now c.in-Some.block) (sym is) (c.in_ok-fit_all.ensures.fit c.in-Some.block below)))
