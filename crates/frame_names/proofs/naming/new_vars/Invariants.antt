use Rattle.std.proofs.Common.{◌≡◌, ◌++◌, drop}
use Rattle.frame_names.specs.PairedFrames.{new_vars}
use Rattle.frame_names.proofs.naming.new_vars.Given as goal

abbrev pub invariant-loop-var : goal.invariant-loop-var
invariant-loop-var l =
    l.new.items ++ new_vars (drop l.taken.numbers l.numbers) (drop l.taken.references l.references) (drop l.var-index l.vars)
    ≡ new_vars l.numbers l.references l.vars
