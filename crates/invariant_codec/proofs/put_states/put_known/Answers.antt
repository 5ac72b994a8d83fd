use Rattle.std.proofs.Common.{◌≡◌, ◌∙◌, ap}
use Rattle.abs_state.specs.StateParts.{StateParts}
use Rattle.invariant_codec.proofs.PutSteps.{segments_written}
use Rattle.invariant_codec.proofs.put_states.put_known.Goals as goal

pub put_references-requires : goal.put_references-requires
put_references-requires c =
    let references : c.deref-2.result.now ≡ c.args.parts.now.references =
    c.deref-2.ensures.value ∙ ap (λ (p : StateParts). p.references) c.parts.view_is in
    let contents : c.parts.inside.contents ≡ c.args.parts.now.contents =
    ap (λ (p : StateParts). p.contents) c.parts.view_is in
    record { written = rw (references, contents) (segments_written c.args.parts.now c.requires.are c.requires.reached) }
