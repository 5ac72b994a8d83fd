use Rattle.std.proofs.Common.{◌≡◌, take}
use Rattle.std.specs.Prelude.{filter_map}
use Rattle.ensures_infer.specs.Following.{shown_of}
use Rattle.ensures_infer.proofs.inference.first_shown.Given as goal

abbrev pub invariant-loop-row : goal.invariant-loop-row
invariant-loop-row l =
    l.found.items ≡ take l.room (filter_map (shown_of l.returns) (take l.row-index l.rows))
