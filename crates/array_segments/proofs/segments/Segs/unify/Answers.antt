use Rattle.std.proofs.Common.{true, false, subst, sym}
use Rattle.std.proofs.lemmas.Result.{IfOk-weaker}
use Rattle.array_segments.specs.Behind.{behind}
use Rattle.array_segments.specs.Meaning.{Holds}
use Rattle.array_segments.specs.SegmentLists.{Has, HasForm, last_bound}
use Rattle.array_segments.specs.Segments.{lists_of}
use Rattle.array_segments.proofs.EndLaw.{unified_end}
use Rattle.array_segments.proofs.UnifyLaw.{unified_first, unified_form, unified_second}
use Rattle.array_segments.proofs.segments.Segs.unify.Goals as goal

pub returns-clause-form : goal.returns-clause-form
returns-clause-form g c =
    IfOk-weaker c.unified.result _ _
    (λ both is. subst HasForm (sym is)
    (unified_form g.C.Values.hull g.C.Values.hull g.C.Values.full c.args.pairs.now c.args.length (lists_of c.args.self.now) (lists_of c.args.other.now) c.requires.form c.requires.other))
    c.unified.ensures

pub returns-clause-ends : goal.returns-clause-ends
returns-clause-ends g c =
    IfOk-weaker c.unified.result _ _
    (λ both is. subst (λ lists. Has c.args.length (last_bound lists)) (sym is)
    (unified_end g.C.Values.hull g.C.Values.hull g.C.Values.full c.args.pairs.now c.args.length (lists_of c.args.self.now) (lists_of c.args.other.now) c.requires.form c.requires.other))
    c.unified.ensures

pub returns-clause-keeps : goal.returns-clause-keeps
returns-clause-keeps g c =
    IfOk-weaker c.unified.result _ _
    (λ both is number items holds. subst (Holds g.C.Values.contains (behind true number c.args.pairs.now) items) (sym is)
    (unified_first g.C.Values.contains number items g.C.Values.hull g.C.Values.hull g.C.Values.full g.met.C.Values.hull_left g.met.C.Values.hull_right g.met.C.Values.hull_left g.met.C.Values.hull_right
    c.args.pairs.now c.args.length (lists_of c.args.self.now) (lists_of c.args.other.now) c.requires.form c.requires.other c.requires.ends holds))
    c.unified.ensures

pub returns-clause-keeps_other : goal.returns-clause-keeps_other
returns-clause-keeps_other g c =
    IfOk-weaker c.unified.result _ _
    (λ both is number items holds. subst (Holds g.C.Values.contains (behind false number c.args.pairs.now) items) (sym is)
    (unified_second g.C.Values.contains number items g.C.Values.hull g.C.Values.hull g.C.Values.full g.met.C.Values.hull_left g.met.C.Values.hull_right g.met.C.Values.hull_left g.met.C.Values.hull_right
    c.args.pairs.now c.args.length (lists_of c.args.self.now) (lists_of c.args.other.now) c.requires.form c.requires.other c.requires.ends holds))
    c.unified.ensures
