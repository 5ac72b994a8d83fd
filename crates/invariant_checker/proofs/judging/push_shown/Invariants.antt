use Rattle.std.proofs.Common.{◌≡◌, ◌+◌, ◌++◌, drop}
use Rattle.invariant_checker.specs.Verdicts.{clauses_from}
use Rattle.invariant_checker.proofs.judging.push_shown.Given as goal

abbrev pub invariant-loop-before : goal.invariant-loop-before
invariant-loop-before l =
    l.found.items ++ clauses_from l.instr l.test (l.before + 1) (drop l.before l.shown)
    ≡ l.initial.found.items ++ clauses_from l.instr l.test 1 l.shown
