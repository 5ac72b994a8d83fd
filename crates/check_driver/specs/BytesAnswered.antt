-- The answer to a command for what was read of its files, and the files that it leaves.
use Rattle.std.specs.Prelude.{◌≢◌, ℕ, List, Option, Result, IfOk}
use Rattle.answer_lines.specs.Writing.{Change}
use Rattle.answer_lines.specs.declared.interrupt.Interrupt.{Interrupt}
use Rattle.cc_base.specs.Files.{Held}
use Rattle.check_driver.specs.Expected.{bytes_answer}
use Rattle.check_driver.specs.FilesLeft.{AnswerLeaves, GivesOrUnreplaced, bytes_left}
use Rattle.command_words.specs.declared.command.Command.{Command}
use Rattle.proof_files.specs.Reading.{ProofRead}

-- The call answered the command for what was read of its cache, of its proof file and of its files. An answer that came
-- does not tell that memory ran out: then the proof file was read where it had to be.
pub record AnswersBytes (command : Command) (words : List (List ℕ)) (cache : Option (List ℕ)) (read : Option ProofRead)
    (files : List (List ℕ)) (unreplaced : Type 0) (result : Result ℕ Interrupt) (out err : Change) (old new : Option Held) : Type 0 where
  pub gives : GivesOrUnreplaced (bytes_answer command words cache read files) unreplaced result out err
  pub left : AnswerLeaves (bytes_left command words cache files) (bytes_answer command words cache read files).out result out old new
  pub memory : IfOk result (λ status. status ≢ 7)
