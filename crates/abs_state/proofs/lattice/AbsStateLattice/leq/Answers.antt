use Rattle.std.proofs.Common.{sym, ◌∙◌}
use Rattle.abs_state.proofs.Boxed.{alike_known, boxed}
use Rattle.abs_state.proofs.lattice.AbsStateLattice.leq.Goals as goal

pub includes-requires-clause-alike : goal.includes-requires-clause-alike
includes-requires-clause-alike c = alike_known c.args.self.now c.args.other.now _ _
    (sym c.self.view_is ∙ boxed c.in-Some-Some.is-0 c.deref.ensures)
    (sym c.other.view_is ∙ boxed c.in-Some-Some.is-1 c.deref-in-Some-Some.ensures) c.requires
