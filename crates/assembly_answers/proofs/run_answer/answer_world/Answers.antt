use Rattle.std.proofs.Common.{sym, subst}
use Rattle.assembly_answers.specs.Answers.{TellsLine}
use Rattle.assembly_answers.proofs.CountedRuns.{run_tells}
use Rattle.assembly_answers.proofs.run_answer.answer_world.Goals as goal

pub answer_told-requires : goal.answer_told-requires
answer_told-requires g c = subst TellsLine (sym c.in_ok-answer.ensures.answer) (run_tells c.args.world.now _ _ c.requires.world)
