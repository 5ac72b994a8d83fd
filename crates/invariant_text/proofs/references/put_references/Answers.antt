use Rattle.std.proofs.Common.{◌≡◌, ◌∙◌, ap, map, subst, sym}
use Rattle.std.specs.List.{AllByRecursion}
use Rattle.array_segments.specs.SegmentLists.{HasForm}
use Rattle.array_segments.specs.Segments.{lists_of}
use Rattle.invariant_text.proofs.SegmentForms.{each_of_form}
use Rattle.invariant_text.proofs.references.put_references.Goals as goal

pub put_each_reference-requires-clause-formed : goal.put_each_reference-requires-clause-formed
put_each_reference-requires-clause-formed c =
    let same : map lists_of c.as_slice.result.now ≡ c.args.contents.now =
    ap (map lists_of) c.as_slice.ensures.value ∙ c.contents.view_is in
    each_of_form lists_of c.as_slice.result.now (subst (AllByRecursion HasForm) (sym same) c.requires.formed.formed)
