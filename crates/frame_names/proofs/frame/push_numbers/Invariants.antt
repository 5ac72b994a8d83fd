use Rattle.std.proofs.Common.{◌≡◌, ◌++◌, drop}
use Rattle.frame_names.specs.Frames.{numbers_of}
use Rattle.frame_names.proofs.frame.push_numbers.Given as goal

abbrev pub invariant-loop-var : goal.invariant-loop-var
invariant-loop-var l =
    l.exprs.items ++ numbers_of (drop l.var-index l.vars) ≡ l.fn.exprs.items ++ numbers_of l.vars
