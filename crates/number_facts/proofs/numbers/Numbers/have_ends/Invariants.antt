use Rattle.std.proofs.Common.{ℕ, ◌<◌, get_or}
use Rattle.pentagon_domain.specs.Tight.{no_ends}
use Rattle.number_facts.specs.SpanLists.{HasEnds}
use Rattle.number_facts.proofs.numbers.Numbers.have_ends.Given as goal

-- So it is of each symbol so far.
abbrev pub invariant-loop-symbol : goal.invariant-loop-symbol
invariant-loop-symbol l = (s : ℕ) → s < l.symbol → HasEnds l.self s (get_or l.ends s no_ends)
