use Rattle.std.proofs.Common.{◌≡◌, ◌++◌, codes, take}
use Rattle.std.specs.List.{flat_map}
use Rattle.assembly_answers.specs.RefuteText.{next_argument}
use Rattle.assembly_answers.proofs.refute_answer.refuted_line.Given as goal

abbrev pub invariant-loop-arg : goal.invariant-loop-arg
invariant-loop-arg l = l.line.items ≡ codes "refuted:" ++ flat_map next_argument (take l.arg-index l.args)
