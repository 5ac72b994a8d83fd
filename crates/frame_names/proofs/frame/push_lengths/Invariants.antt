use Rattle.std.proofs.Common.{◌≡◌, ◌++◌, drop, map}
use Rattle.frame_names.specs.Frames.{length_at}
use Rattle.frame_names.specs.PairedFrames.{old_of}
use Rattle.frame_names.proofs.frame.push_lengths.Given as goal

abbrev pub invariant-loop-key : goal.invariant-loop-key
invariant-loop-key l =
    l.exprs.items ++ map (λ key. length_at l.table (old_of l.is_first key)) (drop l.key-index l.keys)
    ≡ l.fn.exprs.items ++ map (λ key. length_at l.table (old_of l.is_first key)) l.keys
