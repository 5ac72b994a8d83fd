use Rattle.std.proofs.Common.{take, arith}
use Rattle.clause_eval.proofs.PileLemmas.{how_many}
use Rattle.clause_eval.proofs.pile.Pile.open.Goals as goal

pub append-requires : goal.append-requires
append-requires g c =
    let p = c.self.inside in
    let many = how_many p.starts.items (take p.start p.items.items) in
    let few = rw (← c.self.view_is) at c.requires in
    omega (arith, many, few, c.self.invariant.starts_fit, p.starts.ok.0)
