use Rattle.std.proofs.Common.{◌≤◌, ◌<◌, length, arith, ap, pos, subst, sym, ◌∙◌}
use Rattle.std.specs.List.{filter_map}
use Rattle.symbolic_values.specs.Names.{moved, renamed}
use Rattle.array_segments.specs.Meaning.{Holds, segments_of}
use Rattle.array_segments.specs.Renaming.{renamed_lists}
use Rattle.array_segments.specs.SegmentLists.{HasForm, last_bound}
use Rattle.array_segments.specs.Segments.{lists_of}
use Rattle.array_segments.proofs.EndLaw.{last_renamed}
use Rattle.array_segments.proofs.NameSteps.{last_bound_is, renamed_done}
use Rattle.array_segments.proofs.RenamingLaw.{renamed_form}
use Rattle.array_segments.proofs.Spans.{zipped_length}
use Rattle.array_segments.proofs.ClauseLaws.{renamed_keeps}
use Rattle.array_segments.proofs.segments.Segs.renamed.Goals as goal

pub returns-clause-value : goal.returns-clause-value
returns-clause-value g c =
    let lists = lists_of c.args.self.now in
    let count = zipped_length (lists.bounds) lists.contents lists.marks in
    let past : length (segments_of lists) ≤ c.loop-place.place = omega (arith, zipped_length {C = g.row.C.Denot}) in
    renamed_done g.C.Values.hull (renamed c.args.names.now) (lists_of c.loop-place.renaming.made) c.loop-place.renaming.held (segments_of lists) c.loop-place.place
    (renamed_lists g.C.Values.hull (renamed c.args.names.now) lists) past c.loop-place.invariant

pub returns-clause-form : goal.returns-clause-form
returns-clause-form g c =
    let lists = lists_of c.args.self.now in
    let names = c.args.names.now in
    let past : length (segments_of lists) ≤ c.loop-place.place = omega (arith, zipped_length {C = g.row.C.Denot}) in
    let value = renamed_done g.C.Values.hull (renamed names) (lists_of c.loop-place.renaming.made) c.loop-place.renaming.held (segments_of lists) c.loop-place.place
    (renamed_lists g.C.Values.hull (renamed names) lists) past c.loop-place.invariant in
    subst HasForm (sym value)
    (renamed_form g.C.Values.hull (renamed names) lists c.requires.form (ap (λ name. moved name (pos 0)) c.requires.zero)
    (subst (λ bound. 0 < length (filter_map (renamed names) bound)) (last_bound_is lists c.requires.form) c.requires.ends))

pub returns-clause-ends : goal.returns-clause-ends
returns-clause-ends g c =
    ap last_bound (returns-clause-value g c)
    ∙ last_renamed g.C.Values.hull (renamed c.args.names.now) (lists_of c.args.self.now) c.requires.form c.requires.ends

pub returns-clause-keeps : goal.returns-clause-keeps
returns-clause-keeps g c = λ before number items are holds.
    subst (Holds g.C.Values.contains number items) (sym (returns-clause-value g c))
    (renamed_keeps g.C.Values.contains before number items g.C.Values.hull g.met.C.Values.hull_left g.met.C.Values.hull_right c.args.names.now (lists_of c.args.self.now)
    c.requires.form c.requires.ends are holds)
