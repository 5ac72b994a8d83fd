use Rattle.std.proofs.Common.{rules, subst, sym}
use Rattle.array_segments.specs.Meaning.{Holds}
use Rattle.array_segments.specs.SegmentLists.{HasForm}
use Rattle.array_segments.proofs.WholeLaw.{whole_form, whole_law}
use Rattle.array_segments.proofs.segments.Segs.whole.Goals as goal

pub returns-clause-value : goal.returns-clause-value
returns-clause-value g c = search rules

pub returns-clause-form : goal.returns-clause-form
returns-clause-form g c = subst HasForm (sym (returns-clause-value g c)) (whole_form c.args.end c.args.value c.args.may_be_empty)

pub returns-clause-holds : goal.returns-clause-holds
returns-clause-holds g c = λ number items zero_is ends some has.
    subst (Holds g.C.Values.contains number items) (sym (returns-clause-value g c))
    (whole_law g.C.Values.contains number items c.args.end c.args.value c.args.may_be_empty zero_is ends some has)
