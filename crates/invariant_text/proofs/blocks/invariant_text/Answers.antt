use Rattle.invariant_text.proofs.BlockReading.{distinct}
use Rattle.invariant_text.proofs.blocks.invariant_text.Goals as goal

pub returns-clause-distinct : goal.returns-clause-distinct
returns-clause-distinct c first second first_are second_are same =
    distinct c.args.unit.now c.args.blocks.now first second first_are second_are same
