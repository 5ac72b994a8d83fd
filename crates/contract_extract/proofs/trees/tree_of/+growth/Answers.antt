-- Where a condition is not there, or not kept, no tree grows.
use Rattle.std.proofs.Common.{◌≡◌, true, IfSome, option_map, subst, sym, ap, ◌∙◌}
use Rattle.contract_extract.proofs.TreeLemmas.StackLemmas.{fork_grows, grows_untested}
use Rattle.contract_extract.specs.Dropping.{Works, ahead_at}
use Rattle.contract_extract.specs.Growth.{ends_stretch, forward}
use Rattle.contract_extract.specs.TreeStacks.{IsFromWorking}
use Rattle.contract_extract.proofs.trees.tree_of.+growth.Goals as goal

pub grow-returns-in_default-2-clause-tree : goal.grow-returns-in_default-2-clause-tree
grow-returns-in_default-2-clause-tree t c = λ items stands.
    let is = c.args.instrs.now in
    let tree = forward is c.args.at items in
    let i = c.in-Some.end.instr.now in
    let works = subst (λ o. IfSome o (λ w. Works (ahead_at is c.args.ahead.now) w.instr.now w.dropped)) c.in-Some.is c.in_ok-end.ensures.works in
    grows_untested c.args.limits tree (forward is) i c.in-Branch.test c.in-Branch.target c.in-Some.end.dropped
    c.run.new.stack.items c.take_condition.new.stack.items c.in_ok-condition.field-0
    (subst (IsFromWorking tree (forward is) c.run.new.stack.items) c.in-Some.is (c.in_ok-end.ensures.tree items stands)) works.spares
    (subst (λ o. IfSome o (λ w. ends_stretch w.instr.now.op ≡ true)) c.in-Some.is c.in_ok-end.ensures.ends)
    c.in-Branch.is c.in_ok-condition.ensures c.in_default-2.is

pub grow-returns-clause-tree : goal.grow-returns-clause-tree
grow-returns-clause-tree t c = λ items stands.
    let is = c.args.instrs.now in
    let tree = forward is c.args.at items in
    let i = c.in-Some.end.instr.now in
    let works = subst (λ o. IfSome o (λ w. Works (ahead_at is c.args.ahead.now) w.instr.now w.dropped)) c.in-Some.is c.in_ok-end.ensures.works in
    fork_grows c.fork.result c.args.limits tree (forward is) i c.in-Branch.test c.in-Branch.target c.in-Some.end.dropped
    c.run.new.stack.items c.take_condition.new.stack.items c.in-Some-2.condition
    (subst (IsFromWorking tree (forward is) c.run.new.stack.items) c.in-Some.is (c.in_ok-end.ensures.tree items stands)) works.spares
    (subst (λ o. IfSome o (λ w. ends_stretch w.instr.now.op ≡ true)) c.in-Some.is c.in_ok-end.ensures.ends)
    c.in-Branch.is (sym (ap (option_map (λ condition. (condition, c.take_condition.new.stack.items))) c.in-Some-2.is) ∙ c.in_ok-condition.ensures)
    c.fork.ensures.tree
