use Rattle.std.proofs.Common.{◌≡◌, ℕ, ◌<◌, List, Vec, Global, length, sym, ap, subst, refl, ◌∙◌, arith}
use Rattle.std.specs.Prelude.{All}
use Rattle.std.proofs.lemmas.Result.{err_from_is_err_and}
use Rattle.answer_lines.specs.Answers.{missing_line, unread_line}
use Rattle.answer_lines.proofs.Writings.{gives_error}
use Rattle.command_words.specs.Words.{file_indexes, word_at, words_bytes}
use Rattle.command_words.proofs.UsedIndexes.{cache_used, files_used, proof_used}
use Rattle.check_driver.proofs.CommandEnds.{missing_call, no_memory_call, read_call, unread_call}
use Rattle.check_driver.specs.BytesAnswered.{AnswersBytes}
use Rattle.check_driver.specs.CacheMet.{IsMet}
use Rattle.check_driver.proofs.FilesRead.{contents_long}
use Rattle.check_driver.proofs.InputsRead.{file_below, no_cache_read, read_below}
use Rattle.check_driver.proofs.Statuses.{never_missing, status_below}
use Rattle.check_driver.proofs.LinkedBegun.{held_linked, none_linked}
use Rattle.check_driver.proofs.Reportable.{held_checked, none_begun}
use Rattle.check_driver.proofs.SpelledUnits.{held_spelled}
use Rattle.check_driver.proofs.program.answer_command.Goals as goal

pub read_inputs-requires-clause-inside : goal.read_inputs-requires-clause-inside
read_inputs-requires-clause-inside g c =
    let below : ℕ → Type 0 = λ index. index < length c.args.words.now in
    let indexes : c.deref.result.now ≡ file_indexes c.args.command = c.deref.ensures.value ∙ c.in_ok-indexes.ensures in
    subst (All below) (sym indexes) (files_used (length c.args.words.now) c.args.command c.requires.inside)

pub read_inputs-requires-clause-named : goal.read_inputs-requires-clause-named
read_inputs-requires-clause-named g c = cache_used (length c.args.words.now) c.args.command c.requires.inside

pub word_at-requires : goal.word_at-requires
word_at-requires g c =
    let met = rw c.in-Err-Missing.field-0-is at c.in-Err-Missing.ensures.read in
    rw c.in-Err-Missing.file-is (file_below (length c.args.words.now) c.args.command c.in-Err-Missing.file c.requires.inside met.2.1)

pub word_at-requires-in-Err-Failed : goal.word_at-requires-in-Err-Failed
word_at-requires-in-Err-Failed g c =
    let met = rw c.in-Err-Failed.field-0-is at c.in-Err-Failed.ensures.read in
    rw c.in-Err-Failed.file-is (read_below (length c.args.words.now) c.args.command c.in-Err-Failed.file c.requires.inside met.2.1)

pub answer_bytes-requires-clause-called : goal.answer_bytes-requires-clause-called
answer_bytes-requires-clause-called g c =
    let told = g.F.Files.held c.args.files.now in
    let words = words_bytes c.args.words.now in
    let met = c.in-Ok.ensures.read in
    record {
      used = c.requires.inside;
      files = files_used (length c.args.words.now) c.args.command c.requires.inside;
      cache = cache_used (length c.args.words.now) c.args.command c.requires.inside;
      proof = proof_used (length c.args.words.now) c.args.command c.requires.inside;
      indexes = c.deref-in-Ok.ensures.value ∙ c.in_ok-indexes.ensures;
      each =
          ap (λ (read : List (Vec ℕ Global)). length read) c.deref-in-Ok-2.ensures.value
          ∙ contents_long told words (file_indexes c.args.command) met.0.files c.in-Ok.inputs.files.items (IsMet.files met.1) met.2.0;
      none = no_cache_read told words c.args.command met.0.cache c.in-Ok.inputs.cache (IsMet.cache met.1) met.2.1;
    }

-- ---- the files were read

pub returns-in-Ok-clause-answer : goal.returns-in-Ok-clause-answer
returns-in-Ok-clause-answer g c =
    let told = g.F.Files.held c.args.files.now in
    let words = words_bytes c.args.words.now in
    let met = c.in-Ok.ensures.read in
    let files = c.deref-in-Ok-2.ensures.value in
    let answer = rw files at c.answer_bytes.ensures.answer in
    read_call told words c.args.command (g.F.Files.held c.read_inputs.new.files) _ _ _ _ met.0 c.in-Ok.inputs.files.items c.in-Ok.inputs.cache answer.0 c.answer_bytes.result _ _ _ _
    c.read_inputs.ensures.files c.read_inputs.ensures.faults_kept met.1 met.2.0 met.2.1 answer.1 answer.2 (rw files at c.answer_bytes.ensures.asked)
    (rw files at c.answer_bytes.ensures.known) c.answer_bytes.ensures.honest

pub returns-in-Ok-clause-missing : goal.returns-in-Ok-clause-missing
returns-in-Ok-clause-missing g c =
    let answer = c.answer_bytes.ensures.answer in
    never_missing c.args.command (words_bytes c.args.words.now) _ answer.0 _ c.answer_bytes.result _ _ _ _ (AnswersBytes.gives answer.2)

pub returns-in-Ok-clause-memory : goal.returns-in-Ok-clause-memory
returns-in-Ok-clause-memory g c = AnswersBytes.memory c.answer_bytes.ensures.answer.2

pub returns-in-Ok-clause-begun : goal.returns-in-Ok-clause-begun
returns-in-Ok-clause-begun g c =
    let met = c.in-Ok.ensures.read in
    held_checked (g.F.Files.held c.args.files.now) c.args.command (words_bytes c.args.words.now) met.0.files c.in-Ok.inputs.files.items met.0.cache c.in-Ok.inputs.cache _ _
    (IsMet.files met.1) met.2.0 (IsMet.cache met.1) met.2.1
    (rw c.deref-in-Ok-2.ensures.value at c.answer_bytes.ensures.begun)

pub returns-in-Ok-clause-linked : goal.returns-in-Ok-clause-linked
returns-in-Ok-clause-linked g c =
    let met = c.in-Ok.ensures.read in
    held_linked (g.F.Files.held c.args.files.now) c.args.command (words_bytes c.args.words.now) met.0.files c.in-Ok.inputs.files.items _ _ (IsMet.files met.1) met.2.0
    (rw c.deref-in-Ok-2.ensures.value at c.answer_bytes.ensures.linked)

pub returns-in-Ok-clause-spelled : goal.returns-in-Ok-clause-spelled
returns-in-Ok-clause-spelled g c =
    let met = c.in-Ok.ensures.read in
    held_spelled (g.F.Files.held c.args.files.now) c.args.command (words_bytes c.args.words.now) met.0.files c.in-Ok.inputs.files.items _ (IsMet.files met.1) met.2.0
    (rw c.deref-in-Ok-2.ensures.value at c.answer_bytes.ensures.spelled)

-- ---- one was not

pub returns-in-Err-Missing-clause-answer : goal.returns-in-Err-Missing-clause-answer
returns-in-Err-Missing-clause-answer g c =
    let words = words_bytes c.args.words.now in
    let name = word_at words c.in-Err-Missing.file in
    let met = rw c.in-Err-Missing.field-0-is at c.in-Err-Missing.ensures.read in
    let written = rw (c.as_bytes.ensures.value, c.word_at.ensures, c.in-Err-Missing.file-is) at c.answer_missing.ensures.written in
    missing_call (g.F.Files.held c.args.files.now) words c.args.command (g.F.Files.held c.read_inputs.new.files) _ met.0 c.in-Err-Missing.file c.answer_missing.result _ _ _
    c.read_inputs.ensures.files met.1 met.2.2
    (gives_error 3 (missing_line name) c.answer_missing.result (g.O.Sink.written c.args.out.now) (g.O.Sink.puts c.args.out.now) (g.O.Sink.faults c.args.out.now) _ c.answer_missing.ensures.status written)

pub returns-in-Err-Missing-clause-memory : goal.returns-in-Err-Missing-clause-memory
returns-in-Err-Missing-clause-memory g c = status_below 3 7 c.answer_missing.result (omega arith) c.answer_missing.ensures.status

pub returns-in-Err-Missing-clause-begun : goal.returns-in-Err-Missing-clause-begun
returns-in-Err-Missing-clause-begun g c = none_begun (g.F.Files.held c.args.files.now) c.args.command (words_bytes c.args.words.now) (g.O.Sink.written c.args.out.now)

pub returns-in-Err-Missing-clause-linked : goal.returns-in-Err-Missing-clause-linked
returns-in-Err-Missing-clause-linked g c = none_linked (g.F.Files.held c.args.files.now) c.args.command (words_bytes c.args.words.now) (g.O.Sink.written c.args.out.now)

pub returns-in-Err-Failed-clause-answer : goal.returns-in-Err-Failed-clause-answer
returns-in-Err-Failed-clause-answer g c =
    let words = words_bytes c.args.words.now in
    let name = word_at words c.in-Err-Failed.file in
    let met = rw c.in-Err-Failed.field-0-is at c.in-Err-Failed.ensures.read in
    let written = rw (c.as_bytes-in-Err-Failed.ensures.value, c.word_at-in-Err-Failed.ensures, c.in-Err-Failed.file-is) at c.answer_unread.ensures.written in
    unread_call (g.F.Files.held c.args.files.now) words c.args.command (g.F.Files.held c.read_inputs.new.files) _ met.0 c.in-Err-Failed.file c.answer_unread.result _ _ _
    c.read_inputs.ensures.files met.1 met.2.0 met.2.1 c.answer_unread.ensures.status
    (gives_error 4 (unread_line name) c.answer_unread.result (g.O.Sink.written c.args.out.now) (g.O.Sink.puts c.args.out.now) (g.O.Sink.faults c.args.out.now) _ c.answer_unread.ensures.status written)

pub returns-in-Err-Failed-clause-memory : goal.returns-in-Err-Failed-clause-memory
returns-in-Err-Failed-clause-memory g c = status_below 4 7 c.answer_unread.result (omega arith) c.answer_unread.ensures.status

pub returns-in-Err-Failed-clause-begun : goal.returns-in-Err-Failed-clause-begun
returns-in-Err-Failed-clause-begun g c = none_begun (g.F.Files.held c.args.files.now) c.args.command (words_bytes c.args.words.now) (g.O.Sink.written c.args.out.now)

pub returns-in-Err-Failed-clause-linked : goal.returns-in-Err-Failed-clause-linked
returns-in-Err-Failed-clause-linked g c = none_linked (g.F.Files.held c.args.files.now) c.args.command (words_bytes c.args.words.now) (g.O.Sink.written c.args.out.now)

-- ---- memory ran out

pub returns-clause-answer : goal.returns-clause-answer
returns-clause-answer g c =
    no_memory_call (g.F.Files.held c.args.files.now) (words_bytes c.args.words.now) c.args.command (g.F.Files.held c.read_inputs.new.files) _ _ _ _ _ _ _ _ c.read_inputs.ensures.files

pub returns-in_err-indexes-clause-answer : goal.returns-in_err-indexes-clause-answer
returns-in_err-indexes-clause-answer g c =
    let p = err_from_is_err_and c.from_residual.result c.from_residual.ensures.1 in
    rw (p.1, p.2) (no_memory_call (g.F.Files.held c.args.files.now) (words_bytes c.args.words.now) c.args.command (g.F.Files.held c.args.files.now) _ _ _ _ _ _ _ _ refl)

pub returns-clause-begun : goal.returns-clause-begun
returns-clause-begun g c = none_begun (g.F.Files.held c.args.files.now) c.args.command (words_bytes c.args.words.now) (g.O.Sink.written c.args.out.now)

pub returns-in_err-indexes-clause-begun : goal.returns-in_err-indexes-clause-begun
returns-in_err-indexes-clause-begun g c = none_begun (g.F.Files.held c.args.files.now) c.args.command (words_bytes c.args.words.now) (g.O.Sink.written c.args.out.now)

pub returns-clause-linked : goal.returns-clause-linked
returns-clause-linked g c = none_linked (g.F.Files.held c.args.files.now) c.args.command (words_bytes c.args.words.now) (g.O.Sink.written c.args.out.now)

pub returns-in_err-indexes-clause-linked : goal.returns-in_err-indexes-clause-linked
returns-in_err-indexes-clause-linked g c = none_linked (g.F.Files.held c.args.files.now) c.args.command (words_bytes c.args.words.now) (g.O.Sink.written c.args.out.now)
