use Rattle.std.proofs.Common.{◌≢◌, sym, ◌∙◌}
use Rattle.command_words.specs.Words.{cache_name, linked_files, proof_name, read_names, words_at, words_bytes}
use Rattle.answer_lines.specs.Outcome.{status_of}
use Rattle.answer_lines.specs.Writing.{change_of}
use Rattle.answer_lines.proofs.Leaving.{prefix_given}
use Rattle.check_driver.specs.Asked.{asked_by}
use Rattle.check_driver.specs.CacheMet.{IsMet}
use Rattle.check_driver.specs.Expected.{expected}
use Rattle.check_driver.specs.FilesLeft.{left_by}
use Rattle.check_driver.specs.LinkedHeadline.{AreLinkedOf}
use Rattle.check_driver.proofs.Asking.{leaves_asked}
use Rattle.check_driver.proofs.CallLeft.{leaves_plainly, unread_cause, unwritten_cause}
use Rattle.check_driver.proofs.CallEnds.{cache_alike, kept_honest, leaves_files, same_without}
use Rattle.check_driver.proofs.CheckedSafety.{section_safe, section_with_inferred}
use Rattle.check_driver.proofs.ConfirmedReports.{confirms_reports}
use Rattle.check_driver.proofs.HeadlineSafety.{headline_inferred, headline_keeps, headline_safe}
use Rattle.check_driver.proofs.LinkedAlike.{linked_cache_alike}
use Rattle.check_driver.proofs.LinkedBegun.{begun_of}
use Rattle.check_driver.proofs.LinkedSafety.{linked_keeps, linked_safe}
use Rattle.check_driver.proofs.OwnNames.{own_names}
use Rattle.check_driver.proofs.ProvedUnits.{proved_unit_is_safe}
use Rattle.check_driver.proofs.RefutedMethods.{refuted_is_unsafe}
use Rattle.check_driver.proofs.Statuses.{usage_only, plain_expected}
use Rattle.check_driver.proofs.program.run_words.Goals as goal

pub returns-clause-output : goal.returns-clause-output
returns-clause-output g c =
    let words = words_bytes c.args.words.now in
    let answer = c.answer_words-answered.ensures.answer in
    let met = answer.0 in (
      met,
      answer.1,
      rw c.finish.ensures.status
          (leaves_plainly (expected words met) (read_names words) _ _ c.answer_words-answered.result _ _ _ _ _ _ _ _ _ _ (plain_expected words met c.answer_words-answered.result c.answer_words-answered.ensures.memory) answer.2 c.finish.ensures.prefix c.finish.ensures.puts),
      rw c.finish.ensures.status (leaves_asked (asked_by words met) c.answer_words-answered.result _ _ answer.3),
      rw c.finish.ensures.status (leaves_files (left_by words met) (expected words met).out c.answer_words-answered.result _ _ _ answer.4),
    )

pub returns-clause-files : goal.returns-clause-files
returns-clause-files g c = λ no_cache no_proof.
    let words = words_bytes c.args.words.now in
    let answer = c.answer_words-answered.ensures.answer in
    same_without words answer.0 (expected words answer.0).out c.answer_words-answered.result _ _ _ answer.4 no_cache no_proof

pub returns-clause-cache : goal.returns-clause-cache
returns-clause-cache g c = λ held other told asks honest read written memory.
    let words = words_bytes c.args.words.now in
    let answer = c.answer_words-answered.ensures.answer in
    let met = answer.0 in
    let status = c.finish.ensures.status in
    let ends =
    leaves_plainly (expected words met) (read_names words) _ _ c.answer_words-answered.result _ _ _ _ _ _ _ _ _ (g.E.Sink.faults c.finish.new.err) (plain_expected words met c.answer_words-answered.result c.answer_words-answered.ensures.memory) answer.2
    c.finish.ensures.prefix c.finish.ensures.puts in
    let not_read : status_of c.answer_words-answered.result ≢ 4 = λ e. read (status ∙ e) in
    let not_written : status_of c.answer_words-answered.result ≢ 6 = λ e. written (status ∙ e) in
    let no_memory : status_of c.answer_words-answered.result ≢ 7 = λ e. memory (status ∙ e) in
    let all = ends.answered not_read not_written no_memory in
    rw status
    (cache_alike words other (g.F.Files.held c.args.files.now) held met c.answer_words-answered.result _ asks told answer.1 honest answer.5 not_read not_written no_memory (all.0, all.1))

pub returns-clause-linked_cache : goal.returns-clause-linked_cache
returns-clause-linked_cache g c = λ held other told asks honest read written memory.
    let words = words_bytes c.args.words.now in
    let answer = c.answer_words-answered.ensures.answer in
    let met = answer.0 in
    let status = c.finish.ensures.status in
    let ends =
    leaves_plainly (expected words met) (read_names words) _ _ c.answer_words-answered.result _ _ _ _ _ _ _ _ _ (g.E.Sink.faults c.finish.new.err) (plain_expected words met c.answer_words-answered.result c.answer_words-answered.ensures.memory) answer.2
    c.finish.ensures.prefix c.finish.ensures.puts in
    let not_read : status_of c.answer_words-answered.result ≢ 4 = λ e. read (status ∙ e) in
    let not_written : status_of c.answer_words-answered.result ≢ 6 = λ e. written (status ∙ e) in
    let no_memory : status_of c.answer_words-answered.result ≢ 7 = λ e. memory (status ∙ e) in
    let all = ends.answered not_read not_written no_memory in
    rw status
    (linked_cache_alike words other (g.F.Files.held c.args.files.now) held met c.answer_words-answered.result _ asks told answer.1 honest answer.5 not_read not_written no_memory (all.0, all.1))

pub returns-clause-kept_honest : goal.returns-clause-kept_honest
returns-clause-kept_honest g c = λ held after told now honest.
    let words = words_bytes c.args.words.now in
    let answer = c.answer_words-answered.ensures.answer in
    kept_honest (cache_name words) (proof_name words) answer.0.cache _ _ held after (own_names words) told now (IsMet.cache answer.1) answer.6 honest

pub returns-clause-confirmed : goal.returns-clause-confirmed
returns-clause-confirmed g c = λ held after other met told now asks is few memory.
    let words = words_bytes c.args.words.now in
    let answer = c.answer_words-answered.ensures.answer in
    let status = c.finish.ensures.status in
    rw status
    (confirms_reports words other (g.F.Files.held c.args.files.now) _ held after answer.0 met c.answer_words-answered.result (read_names words) _ _ _ _ told now asks answer.1 answer.2 answer.4 answer.5 is
    (rw status at few) memory)

pub returns-clause-headline : goal.returns-clause-headline
returns-clause-headline g c = λ held k bytes text method told assembly appended has all.
    let written = g.O.Sink.written in
    headline_safe (g.F.Files.held c.args.files.now) (words_bytes c.args.words.now) held k bytes text (written c.args.out.now) (written c.answer_words-answered.new.out)
    (record { told_is = told; assembly = assembly; begun = c.answer_words-answered.ensures.begun; appended = appended }) method has all

pub returns-clause-keeps : goal.returns-clause-keeps
returns-clause-keeps g c = λ held k bytes text method told assembly appended has all.
    let written = g.O.Sink.written in
    headline_keeps (g.F.Files.held c.args.files.now) (words_bytes c.args.words.now) held k bytes text (written c.args.out.now) (written c.answer_words-answered.new.out)
    (record { told_is = told; assembly = assembly; begun = c.answer_words-answered.ensures.begun; appended = appended }) method has all

pub returns-clause-inferred : goal.returns-clause-inferred
returns-clause-inferred g c = λ held k bytes text method told assembly appended has all so.
    let written = g.O.Sink.written in
    headline_inferred (g.F.Files.held c.args.files.now) (words_bytes c.args.words.now) held k bytes text (written c.args.out.now) (written c.answer_words-answered.new.out)
    (record { told_is = told; assembly = assembly; begun = c.answer_words-answered.ensures.begun; appended = appended }) method has all so

pub returns-clause-linked : goal.returns-clause-linked
returns-clause-linked g c = λ held all k bytes text method told are appended at has tell.
    let words = words_bytes c.args.words.now in
    let old = g.O.Sink.written c.args.out.now in
    let new = g.O.Sink.written c.answer_words-answered.new.out in
    linked_safe (words_at words (linked_files (AreLinkedOf.linked are))) all old new text appended
    (begun_of (g.F.Files.held c.args.files.now) words held all old new told are c.answer_words-answered.ensures.linked) k bytes method at has tell

pub returns-clause-linked_keeps : goal.returns-clause-linked_keeps
returns-clause-linked_keeps g c = λ held all k bytes text method told are appended at has tell.
    let words = words_bytes c.args.words.now in
    let old = g.O.Sink.written c.args.out.now in
    let new = g.O.Sink.written c.answer_words-answered.new.out in
    linked_keeps (words_at words (linked_files (AreLinkedOf.linked are))) all old new text appended
    (begun_of (g.F.Files.held c.args.files.now) words held all old new told are c.answer_words-answered.ensures.linked) k bytes method at has tell

pub returns-clause-refuted : goal.returns-clause-refuted
returns-clause-refuted g c = λ held bytes token told asks prints safe.
    let words = words_bytes c.args.words.now in
    let answer = c.answer_words-answered.ensures.answer in
    let written = g.O.Sink.written in
    refuted_is_unsafe (g.F.Files.held c.args.files.now) words held bytes token answer.0 (written c.args.out.now) (written c.answer_words-answered.new.out) told asks (IsMet.files answer.1)
    (prefix_given (expected words answer.0) (read_names words) _ _ c.answer_words-answered.result
    (change_of written g.O.Sink.puts g.O.Sink.faults c.args.out.now c.answer_words-answered.new.out) _ answer.2)
    prints safe

pub returns-clause-single_unit : goal.returns-clause-single_unit
returns-clause-single_unit g c = λ held bytes signature told asks prints.
    let words = words_bytes c.args.words.now in
    let answer = c.answer_words-answered.ensures.answer in
    let written = g.O.Sink.written in
    proved_unit_is_safe (g.F.Files.held c.args.files.now) words held bytes signature answer.0 (written c.args.out.now) (written c.answer_words-answered.new.out) told asks (IsMet.files answer.1)
    (prefix_given (expected words answer.0) (read_names words) _ _ c.answer_words-answered.result
    (change_of written g.O.Sink.puts g.O.Sink.faults c.args.out.now c.answer_words-answered.new.out) _ answer.2)
    c.answer_words-answered.ensures.spelled prints

pub returns-clause-unread_cause : goal.returns-clause-unread_cause
returns-clause-unread_cause g c = λ is.
    let words = words_bytes c.args.words.now in
    let answer = c.answer_words-answered.ensures.answer in
    unread_cause (expected words answer.0) (read_names words) _ _ c.answer_words-answered.result _ _ (plain_expected words answer.0 c.answer_words-answered.result c.answer_words-answered.ensures.memory) answer.2 (sym c.finish.ensures.status ∙ is)

pub returns-clause-unwritten_cause : goal.returns-clause-unwritten_cause
returns-clause-unwritten_cause g c = λ is.
    let words = words_bytes c.args.words.now in
    let answer = c.answer_words-answered.ensures.answer in
    unwritten_cause (expected words answer.0) (read_names words) _ _ c.answer_words-answered.result _ _ _ (plain_expected words answer.0 c.answer_words-answered.result c.answer_words-answered.ensures.memory) answer.2 c.finish.ensures.kept
    (sym c.finish.ensures.status ∙ is)

pub returns-clause-usage : goal.returns-clause-usage
returns-clause-usage g c = λ is.
    let words = words_bytes c.args.words.now in
    let answer = c.answer_words-answered.ensures.answer in
    usage_only words answer.0 (read_names words) _ _ c.answer_words-answered.result _ _ answer.2 (sym c.finish.ensures.status ∙ is)

pub returns-clause-checked : goal.returns-clause-checked
returns-clause-checked g c = λ held k bytes text method told assembly appended has line so.
    let written = g.O.Sink.written in
    section_safe (g.F.Files.held c.args.files.now) (words_bytes c.args.words.now) held k bytes text (written c.args.out.now) (written c.answer_words-answered.new.out)
    (record { told_is = told; assembly = assembly; begun = c.answer_words-answered.ensures.begun; appended = appended }) so method has line

pub returns-clause-checked_inferred : goal.returns-clause-checked_inferred
returns-clause-checked_inferred g c = λ held k bytes text method told assembly appended has line so.
    let written = g.O.Sink.written in
    section_with_inferred (g.F.Files.held c.args.files.now) (words_bytes c.args.words.now) held k bytes text (written c.args.out.now) (written c.answer_words-answered.new.out)
    (record { told_is = told; assembly = assembly; begun = c.answer_words-answered.ensures.begun; appended = appended }) so method has line
