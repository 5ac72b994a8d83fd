use Rattle.std.proofs.Common.{subst}
use Rattle.abs_state.specs.StateParts.{AreParts}
use Rattle.invariant_reader.proofs.SeenStates.{printable_state}
use Rattle.invariant_reader.proofs.constants.see_state.Goals as goal

pub returns-clause-printable : goal.returns-clause-printable
returns-clause-printable c =
    let same = c.in_ok-parts.ensures.value in
    printable_state c.args.state.now c.in_ok-parts.parts same (subst AreParts same c.in_ok-parts.ensures.form)
    c.see_numbers.ensures
