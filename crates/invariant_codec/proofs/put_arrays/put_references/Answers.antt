use Rattle.std.proofs.Common.{◌≡◌, ◌∙◌, ap, map, subst, sym}
use Rattle.std.specs.List.{AllByRecursion}
use Rattle.invariant_codec.specs.Written.{IsWritten}
use Rattle.array_segments.specs.Segments.{lists_of}
use Rattle.invariant_codec.proofs.PutSteps.{each_of_form}
use Rattle.invariant_codec.proofs.put_arrays.put_references.Goals as goal

pub put_each_reference-requires-clause-written : goal.put_each_reference-requires-clause-written
put_each_reference-requires-clause-written c =
    let same : map lists_of c.as_slice.result.now ≡ c.args.contents.now =
    ap (map lists_of) c.as_slice.ensures.value ∙ c.contents.view_is in
    each_of_form lists_of c.as_slice.result.now (subst (AllByRecursion IsWritten) (sym same) c.requires.written.written)
