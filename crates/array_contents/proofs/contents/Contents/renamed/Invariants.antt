use Rattle.std.proofs.Common.{◌≡◌, ◌++◌, map, drop}
use Rattle.array_segments.specs.Segments.{lists_of}
use Rattle.array_contents.specs.Ends.{EachIsNamed}
use Rattle.array_contents.specs.Merging.{renamed_each}
use Rattle.array_contents.proofs.contents.Contents.renamed.Given as goal

abbrev pub invariant-loop-key : goal.invariant-loop-key
invariant-loop-key l = record {
  named : EachIsNamed l.names l.self (drop l.key-index l.keys);
  done : map lists_of l.segments.items ++ renamed_each l.names l.self (drop l.key-index l.keys) ≡ renamed_each l.names l.self l.keys;
}
