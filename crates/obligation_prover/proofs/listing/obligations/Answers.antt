use Rattle.std.proofs.Common.{◌≤◌, length, ap, ◌∙◌}
use Rattle.std.specs.List.{flat_map}
use Rattle.std.proofs.lemmas.List.{take_all}
use Rattle.obligation_prover.specs.Obligations.{obligations_in}
use Rattle.obligation_prover.proofs.EachListed.{lists_each_fault}
use Rattle.obligation_prover.proofs.listing.obligations.Goals as goal

pub returns-clause-value : goal.returns-clause-value
returns-clause-value c =
    let unit = c.args.unit.now in
    let all : length unit.instrs ≤ c.loop-instr.instr-index = rw c.as_slice-instr-items.ensures at c.loop-instr-test.false in
    c.loop-instr.invariant ∙ ap (flat_map (obligations_in unit)) (take_all c.loop-instr.instr-index unit.instrs all)

pub returns-clause-complete : goal.returns-clause-complete
returns-clause-complete c = rw (returns-clause-value c) (lists_each_fault c.args.unit.now)
