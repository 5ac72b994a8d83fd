use Rattle.std.proofs.Common.{◌≡◌, ◌-◌, length, slice_set, ap, ◌∙◌, arith}
use Rattle.clause_eval.specs.Piles.{piled}
use Rattle.clause_eval.proofs.PileLemmas.{replaced_in_pile}
use Rattle.clause_eval.proofs.pile.Pile.set.Goals as goal

pub returns-then-n-len : goal.returns-then-n-len
returns-then-n-len g c =
    let p = c.self.inside in
    let long : c.len-last.result ≡ length p.items.items = c.len-last.ensures ∙ p.items.ok.0 in
    let inside = replaced_in_pile p.items.items p.start p.starts.items p.room p.depth c.args.n c.args.item
    (omega (arith, c.if-n-len.true, c.len.ensures, p.items.ok.0, c.self.invariant.inside)) in
    rw (← c.self.view_is) (ap (λ k. piled (slice_set p.items.items (k - 1 - c.args.n) c.args.item) p.start p.starts.items p.room p.depth) long ∙ inside)
