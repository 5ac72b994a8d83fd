use Rattle.std.proofs.Common.{ℕ, ◌<◌, length, Err, sym, ap, subst}
use Rattle.std.specs.Prelude.{All}
use Rattle.std.proofs.lemmas.List.Elements.{recursion_from_All}
use Rattle.std.proofs.lemmas.Result.{err_from_is_err_and}
use Rattle.answer_lines.specs.declared.interrupt.Interrupt.{Interrupt}
use Rattle.command_words.specs.Words.{linked_files, words_at, words_bytes}
use Rattle.command_words.specs.declared.command.Command.TheVariants as commands
use Rattle.unit_verdicts.specs.VerdictCache.{manner_of}
use Rattle.check_driver.specs.Asked.{linked_keys}
use Rattle.check_driver.specs.CacheMet.{command_cache, command_proof}
use Rattle.check_driver.specs.CallRead.{cache_of, files_of, names_of}
use Rattle.check_driver.specs.Expected.{check_manner}
use Rattle.check_driver.specs.FilesLeft.{are_accepted}
use Rattle.check_driver.specs.LinkedReports.{linked_answer}
use Rattle.check_driver.proofs.CallParts.{left_at_last, left_or_not, reported, stopped_at_files, stopped_at_line}
use Rattle.check_driver.proofs.LinkedAnswers.{linked_few, some_begun}
use Rattle.check_driver.proofs.linked_answer.answer_linked.Goals as goal

-- ---- its cache is not told

pub returns-in_err-units-clause-answer : goal.returns-in_err-units-clause-answer
returns-in_err-units-clause-answer g c =
    let p = err_from_is_err_and c.from_residual.result c.from_residual.ensures.1 in
    let words = words_bytes c.args.given.now.words.now in
    let command = commands.Linked c.args.linked in
    let met = cache_of c.args.given.now in
    let files = files_of c.args.given.now in
    let reports = linked_answer (check_manner c.args.linked.check met) (words_at words (linked_files c.args.linked)) files in
    rw (p.1, p.2)
    (stopped_at_line c.args.linked.check (command_proof words command) (command_cache words command) met reports (linked_keys files) c.in_err-units.field-0.0 _ _ _ _ _ c.in_err-units.ensures.written)

-- ---- its reports are interrupted

pub answer_all-requires-clause-inside : goal.answer_all-requires-clause-inside
answer_all-requires-clause-inside g c =
    let below : ℕ → Type 0 = λ index. index < length c.args.given.now.words.now in
    recursion_from_All below c.args.given.now.indexes.now (subst (All below) (sym c.requires.indexes) c.requires.files)

pub returns-in_err-status-clause-answer : goal.returns-in_err-status-clause-answer
returns-in_err-status-clause-answer g c =
    let p = err_from_is_err_and c.from_residual-in_err-status.result c.from_residual-in_err-status.ensures.1 in
    let words = words_bytes c.args.given.now.words.now in
    let command = commands.Linked c.args.linked in
    let met = cache_of c.args.given.now in
    let files = files_of c.args.given.now in
    let reports = linked_answer (check_manner c.args.linked.check met) (words_at words (linked_files c.args.linked)) files in
    let gives = rw (c.requires.indexes, c.in_ok-units.ensures.cache) at c.in_err-status.ensures.answer in
    rw (p.1, p.2)
    (reported c.args.linked.check (command_proof words command) (command_cache words command) met reports (linked_keys files) c.in_ok-units.units _ _ _ _ _ _ _ _ _ _ c.in_ok-units.ensures.written _ _ gives)

pub returns-in_err-status-clause-begun : goal.returns-in_err-status-clause-begun
returns-in_err-status-clause-begun g c =
    some_begun (manner_of c.in_ok-units.units) (names_of c.args.given.now) (files_of c.args.given.now) _ _ c.in_err-status.ensures.begun

-- ---- its files are not left

pub returns-in_err-leave_files-clause-answer : goal.returns-in_err-leave_files-clause-answer
returns-in_err-leave_files-clause-answer g c =
    let p = err_from_is_err_and c.from_residual-in_err-leave_files.result c.from_residual-in_err-leave_files.ensures.1 in
    let words = words_bytes c.args.given.now.words.now in
    let command = commands.Linked c.args.linked in
    let met = cache_of c.args.given.now in
    let files = files_of c.args.given.now in
    let reports = linked_answer (check_manner c.args.linked.check met) (words_at words (linked_files c.args.linked)) files in
    let gives = rw (c.requires.indexes, c.in_ok-units.ensures.cache) at c.in_ok-status.ensures.answer in
    rw (p.1, p.2)
    (stopped_at_files c.args.linked.check (command_proof words command) (command_cache words command) met reports (linked_keys files) c.in_ok-units.units _ _ _ _ _ _ _ _ _ _ c.in_ok-units.ensures.written
    _ c.in_ok-status.status c.in_err-leave_files.field-0.0 gives (λ same. c.in_err-leave_files.ensures.cause (ap (λ (i : Interrupt). Err i) same)))

pub returns-in_err-leave_files-clause-begun : goal.returns-in_err-leave_files-clause-begun
returns-in_err-leave_files-clause-begun g c =
    some_begun (manner_of c.in_ok-units.units) (names_of c.args.given.now) (files_of c.args.given.now) _ _ c.in_ok-status.ensures.begun

pub returns-in_err-leave_files-clause-left : goal.returns-in_err-leave_files-clause-left
returns-in_err-leave_files-clause-left g c =
    let p = err_from_is_err_and c.from_residual-in_err-leave_files.result c.from_residual-in_err-leave_files.ensures.1 in
    let words = words_bytes c.args.given.now.words.now in
    let command = commands.Linked c.args.linked in
    let met = cache_of c.args.given.now in
    let files = files_of c.args.given.now in
    let names = words_at words (linked_files c.args.linked) in
    let manner = check_manner c.args.linked.check met in
    let gives = rw (c.requires.indexes, c.in_ok-units.ensures.cache) at c.in_ok-status.ensures.answer in
    rw (p.1, p.2)
    (left_or_not c.args.linked.check (command_proof words command) (command_cache words command) met (linked_answer manner names files) (linked_keys files) (are_accepted files) c.in_ok-status.status c.in_ok-units.units c.answer_all.new.cache
    (linked_few manner names files) gives.status c.in_ok-units.ensures.cache c.in_ok-status.ensures.cache c.in_err-leave_files.field-0.0 _ _ _ gives.out_all c.in_err-leave_files.ensures.err)

-- ---- all was answered

pub returns-clause-answer : goal.returns-clause-answer
returns-clause-answer g c =
    let words = words_bytes c.args.given.now.words.now in
    let command = commands.Linked c.args.linked in
    let met = cache_of c.args.given.now in
    let files = files_of c.args.given.now in
    let reports = linked_answer (check_manner c.args.linked.check met) (words_at words (linked_files c.args.linked)) files in
    let gives = rw (c.requires.indexes, c.in_ok-units.ensures.cache) at c.in_ok-status.ensures.answer in
    reported c.args.linked.check (command_proof words command) (command_cache words command) met reports (linked_keys files) c.in_ok-units.units _ _ _ _ _ _ _ _ _ _ c.in_ok-units.ensures.written _ _ gives

pub returns-clause-begun : goal.returns-clause-begun
returns-clause-begun g c = some_begun (manner_of c.in_ok-units.units) (names_of c.args.given.now) (files_of c.args.given.now) _ _ c.in_ok-status.ensures.begun

pub returns-clause-left : goal.returns-clause-left
returns-clause-left g c =
    let words = words_bytes c.args.given.now.words.now in
    let command = commands.Linked c.args.linked in
    let met = cache_of c.args.given.now in
    let files = files_of c.args.given.now in
    let names = words_at words (linked_files c.args.linked) in
    let manner = check_manner c.args.linked.check met in
    let gives = rw (c.requires.indexes, c.in_ok-units.ensures.cache) at c.in_ok-status.ensures.answer in
    left_at_last c.args.linked.check (command_proof words command) (command_cache words command) met (linked_answer manner names files) (linked_keys files) (are_accepted files) c.in_ok-status.status c.in_ok-units.units c.answer_all.new.cache
    (linked_few manner names files) gives.status c.in_ok-units.ensures.cache c.in_ok-status.ensures.cache _ _ _ gives.out_all c.in_ok-leave_files.ensures.ok
