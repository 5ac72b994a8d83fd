use Rattle.cc_base.proofs.ByteLemmas.{IsBytes-from_fits}
use Rattle.invariant_codec.proofs.StateAnswers.{known_read}
use Rattle.invariant_codec.proofs.states.read_state.Goals as goal

pub state_of-requires : goal.state_of-requires
state_of-requires c =
    record {
      are = known_read c.args.bytes.now _ _
          (IsBytes-from_fits c.args.bytes.now c.type_inv.bytes) c.in_ok-parts.ensures.0 c.in_ok-parts.ensures.1.0;
    }
