use Rattle.std.proofs.Common.{◌≡◌, map, length}
use Rattle.std.specs.Option.{option_map}
use Rattle.array_segments.specs.Segments.{lists_of}
use Rattle.array_contents.specs.Replacing.{replaced_each}
use Rattle.array_contents.proofs.EachSteps.{replaced_from}
use Rattle.array_contents.proofs.forgetting.replace_each.Given as goal

abbrev pub invariant-loop-place : goal.invariant-loop-place
invariant-loop-place l = record {
  kept : length l.fresh.items ≡ length l.initial.fresh.items;
  done : replaced_from l.place (map (option_map lists_of) l.fresh.items) (map lists_of l.segments)
      ≡ replaced_each (map (option_map lists_of) l.initial.fresh.items) (map lists_of l.initial.segments);
}
