use Rattle.merged_states.proofs.Handed.{near_frame}
use Rattle.merged_states.proofs.merging.known_of_both.Goals as goal

pub pair_frames-requires-clause-first : goal.pair_frames-requires-clause-first
pair_frames-requires-clause-first c = near_frame c.args.a.now _ _ c.requires.first c.frame_of.ensures.variables c.frame_of.ensures.references

pub pair_frames-requires-clause-second : goal.pair_frames-requires-clause-second
pair_frames-requires-clause-second c =
    near_frame c.args.b.now _ _ c.requires.second c.frame_of-2.ensures.variables c.frame_of-2.ensures.references
