use Rattle.std.proofs.Common.{◌≡◌, ◌-◌, [], get_or, map, take}
use Rattle.cc_base.specs.Tokens.{row_of}
use Rattle.assembly_reports.proofs.inferring.lists_of.Given as goal

abbrev pub invariant-loop-key : goal.invariant-loop-key
invariant-loop-key l = l.lists.items ≡ map (λ key. get_or l.inferred (row_of key - 1) []) (take l.key-index l.keys)
