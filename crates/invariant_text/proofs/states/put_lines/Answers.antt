use Rattle.std.proofs.Common.{◌≡◌, ◌∙◌, ap}
use Rattle.abs_state.specs.StateParts.{StateParts}
use Rattle.invariant_text.proofs.SegmentForms.{segments_in}
use Rattle.invariant_text.proofs.states.put_lines.Goals as goal

pub put_references-requires : goal.put_references-requires
put_references-requires c =
    let references : c.as_slice-3.result.now ≡ c.args.parts.now.references =
    c.as_slice-3.ensures.value ∙ ap (λ (p : StateParts). p.references) c.parts.view_is in
    let contents : c.parts.inside.contents ≡ c.args.parts.now.contents =
    ap (λ (p : StateParts). p.contents) c.parts.view_is in
    record { formed = rw (references, contents) (segments_in c.args.parts.now c.requires.formed c.requires.reached) }
