use Rattle.std.proofs.Common.{ℕ, sym, subst, ◌∙◌}
use Rattle.cil_model.specs.Bodies.{HasBody}
use Rattle.contract_extract.proofs.TreeLemmas.AllNumbers.{all_numbers}
use Rattle.contract_extract.proofs.BlockLemmas.BodyRuns.{body_runs}
use Rattle.contract_extract.proofs.BlockLemmas.Passed.{contracts_left, fault_left}
use Rattle.contract_extract.proofs.contracts.extract.Goals as goal

pub returns-in-Some-clause-judged : goal.returns-in-Some-clause-judged
returns-in-Some-clause-judged c =
    rw c.into.ensures
    (fault_left c.args.instrs.now c.args.shape.now c.in_ok-block.block.clauses.items c.in_ok-block.block.old_values c.in_ok-block.block.first c.in_ok-block.block.start c.in_ok-block.ensures ∙ sym c.in-Some.ensures)

pub returns-clause-judged : goal.returns-clause-judged
returns-clause-judged c =
    rw c.from_vec.ensures (
      fault_left c.args.instrs.now c.args.shape.now c.in_ok-block.block.clauses.items c.in_ok-block.block.old_values c.in_ok-block.block.first c.in_ok-block.block.start c.in_ok-block.ensures ∙ sym c.in_default.ensures,
      contracts_left c.args.instrs.now c.args.shape.now c.in_ok-block.block.clauses.items c.in_ok-block.block.old_values c.in_ok-block.block.first c.in_ok-block.block.start c.in_ok-block.ensures,
    )

pub returns-clause-numbers : goal.returns-clause-numbers
returns-clause-numbers c =
    λ stacks decoded kinds.
    let none = fault_left c.args.instrs.now c.args.shape.now c.in_ok-block.block.clauses.items c.in_ok-block.block.old_values c.in_ok-block.block.first c.in_ok-block.block.start c.in_ok-block.ensures ∙ sym c.in_default.ensures in
    let read = contracts_left c.args.instrs.now c.args.shape.now c.in_ok-block.block.clauses.items c.in_ok-block.block.old_values c.in_ok-block.block.first c.in_ok-block.block.start c.in_ok-block.ensures in
    rw c.from_vec.ensures
    (all_numbers c.args.instrs.now c.args.shape.now stacks c.requires.lie decoded kinds none c.in_ok-block.block.clauses.items read.told)

pub returns-clause-body : goal.returns-clause-body
returns-clause-body c =
    λ stacks decoded kinds.
    let none = fault_left c.args.instrs.now c.args.shape.now c.in_ok-block.block.clauses.items c.in_ok-block.block.old_values c.in_ok-block.block.first c.in_ok-block.block.start c.in_ok-block.ensures ∙ sym c.in_default.ensures in
    let read = contracts_left c.args.instrs.now c.args.shape.now c.in_ok-block.block.clauses.items c.in_ok-block.block.old_values c.in_ok-block.block.first c.in_ok-block.block.start c.in_ok-block.ensures in
    subst (λ (n : ℕ). HasBody c.args.instrs.now stacks n) (sym read.body) (body_runs c.args.instrs.now c.args.shape.now stacks c.requires.lie decoded kinds none)
