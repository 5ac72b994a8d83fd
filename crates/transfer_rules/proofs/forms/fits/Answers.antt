use Rattle.std.proofs.Common.{refl}
use Rattle.transfer_rules.proofs.FitTold.{fits_told}
use Rattle.transfer_rules.proofs.forms.fits.Goals as goal

pub returns-in-Some : goal.returns-in-Some
returns-in-Some c =
    fits_told c.args.code.now c.args.block c.args.state.now c.in-Some.kinds.now c.fit_stack.result
    (c.if-not-reached.ensures.reached.0 refl) c.if-not-reached.ensures.form c.fit_stack.ensures c.in-Some.ensures
