use Rattle.cc_base.proofs.ByteLemmas.{IsBytes-from_fits}
use Rattle.invariant_codec.proofs.StateAnswers.{IsReadAgain, written_again}
use Rattle.invariant_codec.proofs.put_states.see_invariant.Goals as goal

pub returns-clause-invariant : goal.returns-clause-invariant
returns-clause-invariant c =
    let fits = IsBytes-from_fits c.args.bytes.now c.type_inv.bytes in
    IsReadAgain.invariant (written_again c.args.bytes.now c.args.states.now fits c.requires.spellable c.requires.spelled)

pub returns-clause-again : goal.returns-clause-again
returns-clause-again c =
    let fits = IsBytes-from_fits c.args.bytes.now c.type_inv.bytes in
    IsReadAgain.parts (written_again c.args.bytes.now c.args.states.now fits c.requires.spellable c.requires.spelled)
