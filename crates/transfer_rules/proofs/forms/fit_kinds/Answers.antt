use Rattle.std.proofs.Common.{◌∙◌, ◌+◌, sym}
use Rattle.transfer_rules.proofs.FitTold.{one_misfit}
use Rattle.transfer_rules.proofs.forms.fit_kinds.Goals as goal

pub returns-then-not-fits_at : goal.returns-then-not-fits_at
returns-then-not-fits_at c =
    sym (c.loop-i.invariant
    ∙ one_misfit c.args.state.now c.args.kinds.now (c.args.first + c.loop-i.i) c.loop-i.i _ c.loop-i-test.true
    (sym c.fits_at.ensures ∙ c.if-not-fits_at.true))
