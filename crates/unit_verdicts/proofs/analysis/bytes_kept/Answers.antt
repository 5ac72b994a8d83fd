use Rattle.unit_verdicts.proofs.FoundOf.{bytes_of_states}
use Rattle.unit_verdicts.proofs.analysis.bytes_kept.Goals as goal

pub returns-then-keeps : goal.returns-then-keeps
returns-then-keeps c =
    bytes_of_states c.invariant_bytes.result c.args.keeps c.args.invariant.now.states.items
    c.invariant_bytes.ensures.bytes c.invariant_bytes.ensures.invariant c.invariant_bytes.ensures.again
