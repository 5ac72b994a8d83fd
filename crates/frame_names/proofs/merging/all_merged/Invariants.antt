use Rattle.std.proofs.Common.{◌≡◌, ◌++◌, drop}
use Rattle.frame_names.specs.MergedReferences.{merged_references}
use Rattle.frame_names.proofs.merging.all_merged.Given as goal

abbrev pub invariant-loop-index : goal.invariant-loop-index
invariant-loop-index l =
    l.merged.items ++ merged_references l.a l.b (drop l.index l.keys) (drop l.index l.lengths) ≡ merged_references l.a l.b l.keys l.lengths
