use Rattle.std.proofs.Common.{get_or, Ok, refl, ◌∙◌}
use Rattle.std.proofs.lemmas.Result.{err_from_is_err_and}
use Rattle.answer_lines.specs.Writing.{Writes}
use Rattle.command_words.specs.Words.{words_bytes}
use Rattle.unit_verdicts.specs.Asked.{Asks}
use Rattle.unit_verdicts.specs.VerdictCache.{manner_of}
use Rattle.unit_verdicts.proofs.Asking.{asks_all, asks_prefix}
use Rattle.assembly_reports.specs.JudgedUnits.{judged_keys}
use Rattle.assembly_reports.specs.Reportable.{entries_at}
use Rattle.assembly_reports.proofs.Judging.{asked_more, asks_for_none, asks_later, prefix_of_first, judged_more}
use Rattle.check_driver.proofs.LinkedAnswers.{entries_is, first_begun, head_is, more_begun, no_index, reported_is, writes_both, writes_later_stop, writes_nothing, writes_stop}
use Rattle.check_driver.proofs.linked_answer.+answer_files.Goals as goal

-- ---- no file is left

pub returns-in_default-clause-written : goal.returns-in_default-clause-written
returns-in_default-clause-written g t c = rw (no_index c.args.indexes.now c.in_default.len_below) (writes_nothing 0 _ _ _)

pub returns-in_default-clause-asked : goal.returns-in_default-clause-asked
returns-in_default-clause-asked g t c = rw (no_index c.args.indexes.now c.in_default.len_below) (asks_for_none c.args.cache.now (Ok 0) _ _ refl)

-- ---- its report is interrupted

pub returns-in_err-status-clause-written : goal.returns-in_err-status-clause-written
returns-in_err-status-clause-written g t c =
    let p = err_from_is_err_and c.from_residual.result c.from_residual.ensures.1 in
    let words = words_bytes c.args.words.now in
    let indexes = c.args.indexes.now in
    let is = head_is indexes (get_or indexes 0 0) c.in-len1-up.len_at_least refl in
    let reported = reported_is c.args.units.now c.args.file words indexes (get_or indexes 0 0) c.as_bytes-name.result.now is (c.as_bytes-name.ensures.value ∙ c.word_at.ensures) in
    rw (p.1, p.2, reported) (writes_stop c.in_err-status.field-0.0 _ _ _ c.in_err-status.ensures.written)

pub returns-in_err-status-clause-begun : goal.returns-in_err-status-clause-begun
returns-in_err-status-clause-begun g t c =
    let words = words_bytes c.args.words.now in
    let indexes = c.args.indexes.now in
    let is = head_is indexes (get_or indexes 0 0) c.in-len1-up.len_at_least refl in
    let reported = reported_is c.args.units.now c.args.file words indexes (get_or indexes 0 0) c.as_bytes-name.result.now is (c.as_bytes-name.ensures.value ∙ c.word_at.ensures) in
    rw reported
    (first_begun (manner_of c.args.cache.now) c.as_bytes-name.result.now (entries_at c.args.units.now c.args.file) _ _ _ c.in_err-status.ensures.runnable (Writes.prefix c.in_err-status.ensures.written))

pub returns-in_err-status-clause-asked : goal.returns-in_err-status-clause-asked
returns-in_err-status-clause-asked g t c =
    let p = err_from_is_err_and c.from_residual.result c.from_residual.ensures.1 in
    let words = words_bytes c.args.words.now in
    let indexes = c.args.indexes.now in
    let is = head_is indexes (get_or indexes 0 0) c.in-len1-up.len_at_least refl in
    let entries = entries_is c.args.units.now c.args.file words indexes (get_or indexes 0 0) c.as_bytes-name.result.now is (c.as_bytes-name.ensures.value ∙ c.word_at.ensures) in
    rw entries
    (asks_prefix _ c.from_residual.result p.0 _ _ p.1
    (prefix_of_first c.args.cache.now (judged_keys (entries_at c.args.units.now c.args.file)) _ _ _ (Asks.prefix c.in_err-status.ensures.asked)))

-- ---- a later one is interrupted

pub returns-in_err-others-clause-written : goal.returns-in_err-others-clause-written
returns-in_err-others-clause-written g t c =
    let p = err_from_is_err_and c.from_residual-in_err-others.result c.from_residual-in_err-others.ensures.1 in
    let words = words_bytes c.args.words.now in
    let indexes = c.args.indexes.now in
    let is = head_is indexes (get_or indexes 0 0) c.in-len1-up.len_at_least refl in
    let reported = reported_is c.args.units.now c.args.file words indexes (get_or indexes 0 0) c.as_bytes-name.result.now is (c.as_bytes-name.ensures.value ∙ c.word_at.ensures) in
    rw (p.1, p.2, reported)
    (writes_later_stop c.in_ok-status.status _ _ _ _ _ _ _ _ _ _ _ c.in_ok-status.ensures.written c.in_err-others.field-0.0
    (rw (c.in_ok-status.ensures.same, c.in_ok-status.ensures.cache) at c.in_err-others.ensures.written))

pub returns-in_err-others-clause-begun : goal.returns-in_err-others-clause-begun
returns-in_err-others-clause-begun g t c =
    let words = words_bytes c.args.words.now in
    let indexes = c.args.indexes.now in
    let is = head_is indexes (get_or indexes 0 0) c.in-len1-up.len_at_least refl in
    let reported = reported_is c.args.units.now c.args.file words indexes (get_or indexes 0 0) c.as_bytes-name.result.now is (c.as_bytes-name.ensures.value ∙ c.word_at.ensures) in
    rw reported
    (more_begun (manner_of c.args.cache.now) c.as_bytes-name.result.now (entries_at c.args.units.now c.args.file) _ _ _ _ c.in_ok-status.ensures.known (Writes.whole c.in_ok-status.ensures.written)
    (rw (c.in_ok-status.ensures.same, c.in_ok-status.ensures.cache) at c.answer_files.ensures.begun))

pub returns-in_err-others-clause-asked : goal.returns-in_err-others-clause-asked
returns-in_err-others-clause-asked g t c =
    let p = err_from_is_err_and c.from_residual-in_err-others.result c.from_residual-in_err-others.ensures.1 in
    let words = words_bytes c.args.words.now in
    let indexes = c.args.indexes.now in
    let is = head_is indexes (get_or indexes 0 0) c.in-len1-up.len_at_least refl in
    let entries = entries_is c.args.units.now c.args.file words indexes (get_or indexes 0 0) c.as_bytes-name.result.now is (c.as_bytes-name.ensures.value ∙ c.word_at.ensures) in
    rw entries
    (asks_prefix _ c.from_residual-in_err-others.result p.0 _ _ p.1
    (Asks.prefix (asks_later c.args.cache.now c.answer_file.new.cache (judged_keys (entries_at c.args.units.now c.args.file)) c.in_ok-status.ensures.cache _ _ _ _ _
    (Asks.whole c.in_ok-status.ensures.asked) (rw c.in_ok-status.ensures.same at c.in_err-others.ensures.asked))))

-- ---- all are answered

pub returns-clause-written : goal.returns-clause-written
returns-clause-written g t c =
    let words = words_bytes c.args.words.now in
    let indexes = c.args.indexes.now in
    let is = head_is indexes (get_or indexes 0 0) c.in-len1-up.len_at_least refl in
    let reported = reported_is c.args.units.now c.args.file words indexes (get_or indexes 0 0) c.as_bytes-name.result.now is (c.as_bytes-name.ensures.value ∙ c.word_at.ensures) in
    rw reported
    (writes_both c.in_ok-status.status _ _ _ _ _ _ _ _ _ _ _ c.in_ok-status.ensures.written c.in_ok-others.others c.max.result
    (rw (c.in_ok-status.ensures.same, c.in_ok-status.ensures.cache) at c.in_ok-others.ensures.written))

pub returns-clause-begun : goal.returns-clause-begun
returns-clause-begun g t c =
    let words = words_bytes c.args.words.now in
    let indexes = c.args.indexes.now in
    let is = head_is indexes (get_or indexes 0 0) c.in-len1-up.len_at_least refl in
    let reported = reported_is c.args.units.now c.args.file words indexes (get_or indexes 0 0) c.as_bytes-name.result.now is (c.as_bytes-name.ensures.value ∙ c.word_at.ensures) in
    rw reported
    (more_begun (manner_of c.args.cache.now) c.as_bytes-name.result.now (entries_at c.args.units.now c.args.file) _ _ _ _ c.in_ok-status.ensures.known (Writes.whole c.in_ok-status.ensures.written)
    (rw (c.in_ok-status.ensures.same, c.in_ok-status.ensures.cache) at c.answer_files.ensures.begun))

pub returns-clause-cache : goal.returns-clause-cache
returns-clause-cache g t c =
    let words = words_bytes c.args.words.now in
    let indexes = c.args.indexes.now in
    let is = head_is indexes (get_or indexes 0 0) c.in-len1-up.len_at_least refl in
    let entries = entries_is c.args.units.now c.args.file words indexes (get_or indexes 0 0) c.as_bytes-name.result.now is (c.as_bytes-name.ensures.value ∙ c.word_at.ensures) in
    rw entries
    (judged_more c.args.cache.now c.answer_file.new.cache (judged_keys (entries_at c.args.units.now c.args.file)) c.in_ok-status.ensures.cache _ _
    (rw c.in_ok-status.ensures.same at c.in_ok-others.ensures.cache))

pub returns-clause-asked : goal.returns-clause-asked
returns-clause-asked g t c =
    let words = words_bytes c.args.words.now in
    let indexes = c.args.indexes.now in
    let is = head_is indexes (get_or indexes 0 0) c.in-len1-up.len_at_least refl in
    let entries = entries_is c.args.units.now c.args.file words indexes (get_or indexes 0 0) c.as_bytes-name.result.now is (c.as_bytes-name.ensures.value ∙ c.word_at.ensures) in
    rw entries
    (asks_all _ _ _ _
    (asked_more c.args.cache.now c.answer_file.new.cache (judged_keys (entries_at c.args.units.now c.args.file)) c.in_ok-status.ensures.cache _ _ _ _
    (Asks.whole c.in_ok-status.ensures.asked) (Asks.whole (rw c.in_ok-status.ensures.same at c.in_ok-others.ensures.asked))))
