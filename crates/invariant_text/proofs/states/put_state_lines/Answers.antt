use Rattle.invariant_text.proofs.StateReading.{state_distinct}
use Rattle.invariant_text.proofs.states.put_state_lines.Goals as goal

pub returns-clause-distinct : goal.returns-clause-distinct
returns-clause-distinct c first second first_printable second_printable same =
    state_distinct c.args.unit.now first second first_printable second_printable same
