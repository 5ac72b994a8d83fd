use Rattle.std.proofs.Common.{◌≡◌, ◌-◌, length, ap, arith}
use Rattle.std.proofs.lemmas.List.{take_rest}
use Rattle.stack_typer.proofs.TurnedLemmas.{top_turned}
use Rattle.stack_typer.proofs.stack.Stack.fits.Goals as goal

pub returns : goal.returns
returns c =
    let kinds = c.self.inside.kinds.items in
    let n : c.saturating_sub-rest.result ≡ length kinds - length c.args.places.now = omega (arith, ap length c.deref.ensures.value) in
    rw (c.take_each.ensures, ← c.self.view_is, top_turned (length c.args.places.now) kinds, take_rest, c.deref.ensures.value, n)
