use Rattle.std.proofs.Common.{sym, ◌∙◌}
use Rattle.array_segments.specs.Segments.{lists_of}
use Rattle.array_segments.proofs.ClauseLaws.{included_law}
use Rattle.array_segments.proofs.segments.Segs.leq_under.Goals as goal

pub returns-clause-sound : goal.returns-clause-sound
returns-clause-sound g c = λ shown number theirs items end allows are zero_is has is holds.
    included_law g.C.Values.contains g.C.Values.within g.met.C.Values.within_contains (g.O.Order.gap c.args.order.now) number
    (λ s t k known. g.met.O.Order.gap_allowed c.args.order.now number s t k known allows)
    theirs c.args.map.now are items (lists_of c.args.self.now) (lists_of c.args.other.now) end c.requires.form c.requires.other zero_is has is holds
    (sym c.includes.ensures ∙ shown)
