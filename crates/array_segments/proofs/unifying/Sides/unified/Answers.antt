use Rattle.std.proofs.Common.{subst, sym}
use Rattle.array_segments.specs.Counted.{IsCounted}
use Rattle.array_segments.specs.Segments.{lists_of}
use Rattle.array_segments.specs.Unifying.{make_of}
use Rattle.array_segments.proofs.UnifyLaw.{unified_counted}
use Rattle.array_segments.proofs.unifying.Sides.unified.Goals as goal

pub keep_limit-requires : goal.keep_limit-requires
keep_limit-requires g c =
    let sides = c.args.self.now in
    subst IsCounted (sym c.in_ok-made.ensures)
    (unified_counted g.C.Values.hull (make_of c.args.self.now.merge g.C.Values.hull g.C.Values.widened) g.C.Values.full c.args.self.now.pairs.now c.args.self.now.end
    (lists_of c.args.self.now.first.now) (lists_of c.args.self.now.second.now) c.requires.form c.requires.other)
