use Rattle.std.proofs.Common.{arith}
use Rattle.clause_eval.proofs.PileLemmas.{row_size}
use Rattle.clause_eval.proofs.pile.Pile.push.Goals as goal

pub append-requires : goal.append-requires
append-requires g c =
    let p = c.self.inside in
    let size = row_size p.items.items p.start p.starts.items p.room p.depth c.self.invariant.inside c.self.invariant.descend in
    let few = rw (← c.self.view_is) at c.requires in
    omega (arith, size, few, c.self.invariant.items_fit, p.items.ok.0)
