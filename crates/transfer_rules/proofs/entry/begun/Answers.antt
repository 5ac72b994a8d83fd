use Rattle.std.proofs.Common.{◌∙◌, refl}
use Rattle.transfer_rules.proofs.Beginning.{zeros_are}
use Rattle.transfer_rules.proofs.entry.begun.Goals as goal

pub returns : goal.returns
returns c =
    c.in_ok-push_zeros.ensures
    ∙ (zeros_are c.as_slice-2.result.now c.push_twice.new.state
    ∙ rw (c.in_ok-push_twice.ensures, c.in_ok-push_unknown.ensures, c.in_ok-state.ensures, c.as_slice.ensures, c.as_slice-2.ensures) refl)
