use Rattle.std.proofs.Common.{sym, subst, ◌∙◌}
use Rattle.std.proofs.lemmas.Bool.{false≢true}
use Rattle.transfer_rules.specs.Inductive.{AreBeforeLast, AreBegun}
use Rattle.invariant_checker.proofs.JudgeSteps.{judged_by_blocks, judged_unproved}
use Rattle.invariant_checker.proofs.judging.find_verdicts.Goals as goal

pub returns-then-not-branch : goal.returns-then-not-branch
returns-then-not-branch c =
    rw (judged_unproved c.args.code.now c.args.states.now
    (λ inductive. false≢true
    (sym c.if-not-branch.true
    ∙ c.in_ok-are_begun.ensures.1 (record { shape = inductive.shape; begun = inductive.begun }))))
    c.all_unproved.ensures

pub judge_blocks-requires-clause-shape : goal.judge_blocks-requires-clause-shape
judge_blocks-requires-clause-shape c =
    let are : AreBegun c.args.code.now c.args.states.now = c.in_ok-are_begun.ensures.0 c.if-not-branch.false in
    are.shape

pub all_carried-requires-clause-shape : goal.all_carried-requires-clause-shape
all_carried-requires-clause-shape c =
    let are : AreBegun c.args.code.now c.args.states.now = c.in_ok-are_begun.ensures.0 c.if-not-branch.false in
    are.shape

pub all_carried-requires-clause-befores : goal.all_carried-requires-clause-befores
all_carried-requires-clause-befores c =
    subst (AreBeforeLast c.args.code.now c.args.states.now) (sym c.as_slice.ensures.value)
    c.in_ok-found.ensures.befores

pub returns-then-branch : goal.returns-then-branch
returns-then-branch c =
    let are : AreBegun c.args.code.now c.args.states.now = c.in_ok-are_begun.ensures.0 c.if-not-branch.false in
    c.in_ok-found.ensures.found
    ∙ sym (judged_by_blocks c.args.code.now c.args.states.now (record {
      shape = are.shape;
      begun = are.begun;
      edges = c.in_ok-all_carried.ensures.0 c.if-branch.true;
    }))

pub returns-else-branch : goal.returns-else-branch
returns-else-branch c =
    rw (judged_unproved c.args.code.now c.args.states.now
    (λ inductive. false≢true (sym c.if-branch.false ∙ c.in_ok-all_carried.ensures.1 inductive.edges)))
    c.all_unproved-else-branch.ensures
