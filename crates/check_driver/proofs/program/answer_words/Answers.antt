use Rattle.std.proofs.Common.{refl, [], None, inl}
use Rattle.answer_lines.specs.LineCounts.{line_count}
use Rattle.answer_lines.specs.Answers.{USAGE}
use Rattle.command_words.specs.Words.{words_bytes}
use Rattle.check_driver.specs.CacheMet.{CallMet}
use Rattle.check_driver.proofs.Answering.{no_command_answer, no_command_asked, no_command_cache, no_command_files, no_command_known, no_command_left}
use Rattle.check_driver.proofs.Asking.{answer_asks_none}
use Rattle.check_driver.proofs.CheckParts.{honest_as_before, leaves_none}
use Rattle.answer_lines.proofs.Writings.{gives_error}
use Rattle.check_driver.proofs.program.answer_words.Goals as goal

pub answer_error-requires : goal.answer_error-requires
unfolding line_count
answer_error-requires g c = refl

pub returns-in-None-clause-answer : goal.returns-in-None-clause-answer
returns-in-None-clause-answer g c =
    let words = words_bytes c.args.words.now in
    let none = c.in-None.ensures.command in
    let met : CallMet = record { files = []; cache = None; proof = None } in
    let usage = no_command_answer words met none in (
      met,
      record { files = rw (no_command_files words none) tt; cache = rw (no_command_cache words none) refl; proof = refl },
      inl (inl (rw usage
          (gives_error 2 USAGE c.answer_error.result (g.O.Sink.written c.args.out.now) (g.O.Sink.puts c.args.out.now) (g.O.Sink.faults c.args.out.now) _ c.answer_error.ensures.status c.answer_error.ensures.written))),
      rw (no_command_asked words met none) (answer_asks_none c.answer_error.result (g.D.Finder.asked c.args.finder.now)),
      rw (no_command_left words met none) (leaves_none _ c.answer_error.result _ _ _ refl),
      no_command_known words met c.answer_error.result none,
      honest_as_before _ _ _ _ _ refl,
    )
