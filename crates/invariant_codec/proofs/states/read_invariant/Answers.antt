use Rattle.cc_base.proofs.ByteLemmas.{IsBytes-from_fits}
use Rattle.invariant_codec.proofs.StateAnswers.{read_only, read_spelled}
use Rattle.invariant_codec.proofs.states.read_invariant.Goals as goal

pub returns-clause-spelled : goal.returns-clause-spelled
returns-clause-spelled c = read_spelled c.args.bytes.now (λ read. read.states.items) c.read_whole.result
    (IsBytes-from_fits c.args.bytes.now c.type_inv.bytes) c.read_whole.ensures

pub returns-clause-only : goal.returns-clause-only
returns-clause-only c spelled is told = read_only c.args.bytes.now (λ read. read.states.items) c.read_whole.result spelled
    (IsBytes-from_fits c.args.bytes.now c.type_inv.bytes) is told c.read_whole.ensures
