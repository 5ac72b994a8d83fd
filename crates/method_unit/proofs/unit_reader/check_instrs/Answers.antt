use Rattle.method_unit.proofs.unit_reader.check_instrs.Goals as goal

pub returns-clause-numbers : goal.returns-clause-numbers
returns-clause-numbers c stacks decoded kinds = c.in_ok-contracts.ensures.numbers stacks decoded kinds

pub returns-clause-body : goal.returns-clause-body
returns-clause-body c stacks decoded kinds = c.in_ok-contracts.ensures.body stacks decoded kinds
