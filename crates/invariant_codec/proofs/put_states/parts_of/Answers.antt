use Rattle.std.proofs.Common.{subst}
use Rattle.abs_state.specs.StateParts.{AreParts}
use Rattle.invariant_codec.specs.Spellable.{HasShortConstants}
use Rattle.invariant_codec.proofs.SmallStates.{small_spellable}
use Rattle.invariant_codec.proofs.put_states.parts_of.Goals as goal

pub returns-clause-spellable : goal.returns-clause-spellable
returns-clause-spellable c =
    let same = c.in_ok-parts.ensures.value in
    small_spellable c.args.state.now c.requires.small (subst AreParts same c.in_ok-parts.ensures.form)
    (subst HasShortConstants same c.read_constants.ensures)
