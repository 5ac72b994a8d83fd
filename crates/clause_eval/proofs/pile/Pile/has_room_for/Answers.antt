use Rattle.std.proofs.Common.{arith, rules, ltb-true, leb-true}
use Rattle.clause_eval.proofs.PileLemmas.{room_for, room_within}
use Rattle.clause_eval.proofs.pile.Pile.has_room_for.Goals as goal

pub returns-then-len-from : goal.returns-then-len-from
returns-then-len-from g c =
    let p = c.self.inside in
    rw (← c.self.view_is) (
      λ t. room_for p.items.items p.start p.starts.items p.room p.depth c.args.count c.self.invariant.inside c.self.invariant.descend (omega arith) (let less = ltb-true _ _ t in omega (arith, less)),
      λ h. let w = room_within p.items.items p.start p.starts.items p.room p.depth c.args.count c.self.invariant.inside c.self.invariant.descend h in
          search (rules, w.1),
    )

pub returns-else-len-from : goal.returns-else-len-from
returns-else-len-from g c =
    let p = c.self.inside in
    rw (← c.self.view_is) (
      λ t. absurd (let less = leb-true _ _ t in omega (arith, less)),
      λ h. let w = room_within p.items.items p.start p.starts.items p.room p.depth c.args.count c.self.invariant.inside c.self.invariant.descend h in
          absurd (omega (arith, w.0)),
    )
