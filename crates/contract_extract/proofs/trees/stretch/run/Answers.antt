-- Each step leads on, or there is no tree.
use Rattle.std.proofs.Common.{Some, IfSome, subst, arith}
use Rattle.contract_extract.specs.Dropping.{GoesTo, behind, dropped_at}
use Rattle.contract_extract.specs.Growth.{forward, tree_here}
use Rattle.contract_extract.specs.TreeStacks.{IsFromNext}
use Rattle.contract_extract.proofs.TreeLemmas.StackLemmas.{arrives, from_before, next_before}
use Rattle.contract_extract.proofs.trees.stretch.run.Goals as goal

pub returns-then-ends_stretch-clause-tree : goal.returns-then-ends_stretch-clause-tree
returns-then-ends_stretch-clause-tree c = λ items stands.
    let is = c.args.instrs.now in
    from_before (forward is c.args.start items) (forward is c.loop-working.at) (dropped_at is c.args.ahead.now c.loop-working.at) c.loop-working.stack.items
    (forward is) c.loop-working.stack.items (Some c.in-Some.working) (c.loop-working.invariant.tree items stands)
    (c.in-Some.ensures.tree c.loop-working.stack.items)

pub returns-in_default-2-clause-tree : goal.returns-in_default-2-clause-tree
returns-in_default-2-clause-tree c = λ items stands.
    let is = c.args.instrs.now in
    let w = c.in-Some.working in
    let i = w.instr.now in
    let tree = forward is c.args.start items in
    let found = from_before tree (forward is c.loop-working.at) (dropped_at is c.args.ahead.now c.loop-working.at) c.loop-working.stack.items
    (forward is) c.loop-working.stack.items (Some w) (c.loop-working.invariant.tree items stands) (c.in-Some.ensures.tree c.loop-working.stack.items) in
    subst (IsFromNext tree (forward is) (behind i.op w.dropped) c.step.new.stack.items) c.in_default-2.is
    (next_before tree (tree_here (forward is) i) w.dropped c.loop-working.stack.items (forward is) (behind i.op w.dropped) c.step.new.stack.items
    c.in_ok-later.field-0 found (λ others s. c.in_ok-later.ensures.tree is others w.dropped c.in-Some.ensures.works.spares s))

pub loop-working-preserved : goal.loop-working-preserved
loop-working-preserved c =
    let is = c.args.instrs.now in
    let w = c.in-Some.working in
    let i = w.instr.now in
    record {
      tree = λ items stands.
          let tree = forward is c.args.start items in
          let found = from_before tree (forward is c.loop-working.at) (dropped_at is c.args.ahead.now c.loop-working.at) c.loop-working.stack.items
          (forward is) c.loop-working.stack.items (Some w) (c.loop-working.invariant.tree items stands) (c.in-Some.ensures.tree c.loop-working.stack.items) in
          let next = subst (IsFromNext tree (forward is) (behind i.op w.dropped) c.step.new.stack.items) c.in-Some-2.is
          (next_before tree (tree_here (forward is) i) w.dropped c.loop-working.stack.items (forward is) (behind i.op w.dropped) c.step.new.stack.items
          c.in_ok-later.field-0 found (λ others s. c.in_ok-later.ensures.tree is others w.dropped c.in-Some.ensures.works.spares s)) in
          arrives tree (forward is c.in-Some-2.later) (behind i.op w.dropped) (dropped_at is c.args.ahead.now c.in-Some-2.later) c.step.new.stack.items
          c.arrive.new.stack.items next c.in_ok-arrive.ensures;
      later =
          let goes = subst (λ o. IfSome o (GoesTo i)) c.in-Some-2.is c.in_ok-later.ensures.later in
          let above = goes.0 in
          let first = c.loop-working.invariant.later in
          let second = c.in-Some.ensures.later in
          omega (arith, above, first, second);
    }
