use Rattle.std.proofs.Common.{◌≡◌, List, Some, None, refl, sym, ap, ◌∙◌}
use Rattle.cil_model.specs.Calls.{clauses_in_force}
use Rattle.cil_model.specs.Clauses.{false_requires}
use Rattle.cil_model.specs.declared.clause.Clause.{Clause}
use Rattle.cil_eval.proofs.CallLemmas.{stuck, refused, too_deep, enters}
use Rattle.cil_eval.proofs.calls.call.Goals as goal

pub returns-then-not-take_args-clause-calls : goal.returns-then-not-take_args-clause-calls
returns-then-not-take_args-clause-calls c =
    let took = rw (c.as_slice-places.ensures, c.open.ensures, c.if-not-take_args.true) at c.take_args.ensures.taken in
    λ limits w s h found same depth.
    stuck w limits s c.args.instr.now c.args.callee.now c.args.index c.args.frames.now _ c.args.memory.now.heap _ c.take_args.new.stack c.take_args.new.args h took

pub returns-in-Some-clause-calls : goal.returns-in-Some-clause-calls
returns-in-Some-clause-calls c =
    let took = rw (c.as_slice-places.ensures, c.open.ensures, c.if-not-take_args.false) at c.take_args.ensures.taken in
    let is : Some c.in-Some.k ≡ false_requires (clauses_in_force c.args.callee.now) c.take_args.new.args.top c.args.memory.now.heap =
    sym c.in-Some.is ∙ c.false_requires.ensures ∙ ap (λ (cs : List Clause). false_requires cs c.take_args.new.args.top c.args.memory.now.heap) c.clauses_in_force.ensures in
    λ limits w s h found same depth.
    refused w limits s c.args.instr.now c.args.callee.now c.args.index c.args.frames.now _ c.args.memory.now.heap _ c.take_args.new.stack c.take_args.new.args h took
    c.in-Some.k c.args.from.unit is same refl

pub returns-then-not-deeper-clause-calls : goal.returns-then-not-deeper-clause-calls
returns-then-not-deeper-clause-calls c =
    let took = rw (c.as_slice-places.ensures, c.open.ensures, c.if-not-take_args.false) at c.take_args.ensures.taken in
    let is : None ≡ false_requires (clauses_in_force c.args.callee.now) c.take_args.new.args.top c.args.memory.now.heap =
    sym c.in_default.is ∙ c.false_requires.ensures ∙ ap (λ (cs : List Clause). false_requires cs c.take_args.new.args.top c.args.memory.now.heap) c.clauses_in_force.ensures in
    λ limits w s h found same depth.
    too_deep w limits s c.args.instr.now c.args.callee.now c.args.index c.args.frames.now _ c.args.memory.now.heap _ c.take_args.new.stack c.take_args.new.args h took
    c.args.deeper is depth c.if-not-deeper.true refl

pub returns-clause-calls : goal.returns-clause-calls
returns-clause-calls c =
    let took = rw (c.as_slice-places.ensures, c.open.ensures, c.if-not-take_args.false) at c.take_args.ensures.taken in
    let is : None ≡ false_requires (clauses_in_force c.args.callee.now) c.take_args.new.args.top c.args.memory.now.heap =
    sym c.in_default.is ∙ c.false_requires.ensures ∙ ap (λ (cs : List Clause). false_requires cs c.take_args.new.args.top c.args.memory.now.heap) c.clauses_in_force.ensures in
    λ limits w s h found same depth.
    enters w limits s c.args.instr.now c.args.callee.now c.args.index c.args.frames.now c.enter.new.frames c.args.memory.now.heap None c.take_args.new.stack c.take_args.new.args h took
    found c.args.from.unit same c.take_args.ensures.stack.below (c.take_args.ensures.below ∙ ap (λ p. p.below) c.open.ensures)
    c.args.deeper is depth c.if-not-deeper.false refl c.enter.ensures
