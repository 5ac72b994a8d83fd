use Rattle.merged_states.proofs.Handed.{near_frame}
use Rattle.merged_states.proofs.merging.known_of_one.Goals as goal

pub name_frame-requires : goal.name_frame-requires
name_frame-requires c = near_frame c.args.a.now _ _ c.requires c.frame_of.ensures.variables c.frame_of.ensures.references
