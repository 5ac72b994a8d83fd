use Rattle.std.proofs.Common.{◌≡◌, max, [], Some, Ok, get_or, refl, sym, ap, ◌∙◌, rules}
use Rattle.std.proofs.lemmas.Result.{err_from_is_err_and}
use Rattle.asm_image.specs.Faults.{FirstBroken}
use Rattle.answer_lines.specs.Answers.{refused_line}
use Rattle.answer_lines.specs.Writing.{Writes}
use Rattle.answer_lines.specs.declared.interrupt.Interrupt.TheVariants as interrupts
use Rattle.answer_lines.proofs.Writings.{gives_error}
use Rattle.assembly_answers.specs.FaultText.{assembly_fault_text}
use Rattle.assembly_answers.proofs.PlainFaults.{assembly_fault_plain}
use Rattle.command_words.specs.Words.{words_bytes}
use Rattle.unit_verdicts.specs.Asked.{Asks}
use Rattle.unit_verdicts.specs.Picks.{pick_from}
use Rattle.unit_verdicts.specs.VerdictCache.{manner_of}
use Rattle.unit_verdicts.proofs.Asking.{asks_all, asks_prefix, asks_nothing}
use Rattle.check_driver.specs.Asked.{check_keys}
use Rattle.assembly_reports.specs.JudgedUnits.{report_keys, with_judged}
use Rattle.assembly_reports.specs.Reportable.{IsReportable}
use Rattle.check_driver.specs.Met.{bytes_read}
use Rattle.check_driver.proofs.CheckParts.{if_ok, where_ok}
use Rattle.assembly_reports.proofs.Judging.{asks_for_none, asks_later, prefix_of_first, judged_more, judged_none}
use Rattle.check_driver.proofs.SeveralFiles.{answer_of_first, answer_refused, asks_for_later, asks_is, begun_first, begun_more, begun_of_first, first_is, gives_both, gives_is, gives_later_stop, gives_nothing, gives_stop, judged_for_later, keys_of_first, no_answer, no_file, no_keys, no_runnable, runnable_of_first, runnable_refused}
use Rattle.check_driver.proofs.check_answer.+answer_each.Goals as goal

-- ---- what each part needs

pub answer_assembly-requires : goal.answer_assembly-requires
answer_assembly-requires g t c = record { keeps = c.requires.keeps }

-- ---- no file is left

pub returns-in_default-clause-answer : goal.returns-in_default-clause-answer
returns-in_default-clause-answer g t c =
    gives_is _ _ _ _ _ (no_answer c.args.infer (manner_of c.args.cache.now) (words_bytes c.args.given.now.words.now) c.args.given.now.indexes.now (bytes_read c.args.given.now.read.now) c.in_default.len_below)
    (gives_nothing (g.O.Sink.written c.args.out.now) (g.E.Sink.written c.args.err.now) (g.O.Sink.puts c.args.out.now) (g.E.Sink.puts c.args.err.now) (g.O.Sink.faults c.args.out.now) (g.E.Sink.faults c.args.err.now))

pub returns-in_default-clause-asked : goal.returns-in_default-clause-asked
returns-in_default-clause-asked g t c =
    asks_is c.args.cache.now _ [] (Ok 0) _ _ (ap (check_keys c.args.infer (pick_from c.args.cache.now.held)) (no_file c.args.given.now.read.now (rw (← c.requires.each) at c.in_default.len_below)))
    (asks_for_none c.args.cache.now (Ok 0) _ _ refl)

pub returns-in_default-clause-cache : goal.returns-in_default-clause-cache
returns-in_default-clause-cache g t c =
    judged_none c.args.cache.now ∙ ap (with_judged c.args.cache.now) (sym (ap (check_keys c.args.infer (pick_from c.args.cache.now.held)) (no_file c.args.given.now.read.now (rw (← c.requires.each) at c.in_default.len_below))))

pub returns-in_default-clause-known : goal.returns-in_default-clause-known
returns-in_default-clause-known g t c = no_runnable c.args.given.now.read.now (rw (← c.requires.each) at c.in_default.len_below)

-- ---- the first is refused

pub answer_refused-requires : goal.answer_refused-requires
answer_refused-requires g t c = rw c.assembly_fault_text.ensures (assembly_fault_plain _)

pub returns-in-Err-Bad-clause-answer : goal.returns-in-Err-Bad-clause-answer
returns-in-Err-Bad-clause-answer g t c =
    let fault = c.in-Err-Bad.fault in
    let name = c.as_bytes-name.result.now in
    let is = first_is (words_bytes c.args.given.now.words.now) c.args.given.now.indexes.now c.args.given.now.read.now name c.deref.result.now (get_or c.args.given.now.indexes.now 0 0) c.bytes-item.result c.in-len1-up.len_at_least
    c.in-len1-up-read.len_at_least refl c.bytes-item.is (c.as_bytes-name.ensures.value ∙ c.word_at.ensures) c.deref.ensures.value in
    let first : FirstBroken c.deref.result.now ≡ Some fault = (rw c.in-Err-Bad.field-0-is at c.in-Err-Bad.ensures.refused) fault refl in
    gives_is _ _ _ _ _ (answer_refused c.args.infer (manner_of c.args.cache.now) (words_bytes c.args.given.now.words.now) c.args.given.now.indexes.now c.args.given.now.read.now name c.deref.result.now is fault first)
    (gives_error 5 (refused_line name (assembly_fault_text fault.cause) fault.at) c.answer_refused.result
    (g.O.Sink.written c.args.out.now) (g.O.Sink.puts c.args.out.now) (g.O.Sink.faults c.args.out.now) _ c.answer_refused.ensures.status
    (rw (c.assembly_fault_text.ensures, c.in-Err-Bad.fault-is) at c.answer_refused.ensures.written))

pub returns-in-Err-Bad-clause-asked : goal.returns-in-Err-Bad-clause-asked
returns-in-Err-Bad-clause-asked g t c =
    let fault = c.in-Err-Bad.fault in
    let name = c.as_bytes-name.result.now in
    let is = first_is (words_bytes c.args.given.now.words.now) c.args.given.now.indexes.now c.args.given.now.read.now name c.deref.result.now (get_or c.args.given.now.indexes.now 0 0) c.bytes-item.result c.in-len1-up.len_at_least
    c.in-len1-up-read.len_at_least refl c.bytes-item.is (c.as_bytes-name.ensures.value ∙ c.word_at.ensures) c.deref.ensures.value in
    let first : FirstBroken c.deref.result.now ≡ Some fault = (rw c.in-Err-Bad.field-0-is at c.in-Err-Bad.ensures.refused) fault refl in
    asks_is c.args.cache.now _ [] c.answer_refused.result _ _ (no_keys c.args.infer (manner_of c.args.cache.now) (words_bytes c.args.given.now.words.now) c.args.given.now.indexes.now c.args.given.now.read.now name c.deref.result.now is fault first)
    (asks_for_none c.args.cache.now c.answer_refused.result _ _ refl)

pub returns-in-Err-Bad-clause-cache : goal.returns-in-Err-Bad-clause-cache
returns-in-Err-Bad-clause-cache g t c =
    let fault = c.in-Err-Bad.fault in
    let name = c.as_bytes-name.result.now in
    let is = first_is (words_bytes c.args.given.now.words.now) c.args.given.now.indexes.now c.args.given.now.read.now name c.deref.result.now (get_or c.args.given.now.indexes.now 0 0) c.bytes-item.result c.in-len1-up.len_at_least
    c.in-len1-up-read.len_at_least refl c.bytes-item.is (c.as_bytes-name.ensures.value ∙ c.word_at.ensures) c.deref.ensures.value in
    let first : FirstBroken c.deref.result.now ≡ Some fault = (rw c.in-Err-Bad.field-0-is at c.in-Err-Bad.ensures.refused) fault refl in
    where_ok c.answer_refused.result (judged_none c.args.cache.now ∙ ap (with_judged c.args.cache.now) (sym (no_keys c.args.infer (manner_of c.args.cache.now) (words_bytes c.args.given.now.words.now) c.args.given.now.indexes.now c.args.given.now.read.now name c.deref.result.now is fault first)))

pub returns-in-Err-Bad-clause-known : goal.returns-in-Err-Bad-clause-known
returns-in-Err-Bad-clause-known g t c =
    let fault = c.in-Err-Bad.fault in
    let name = c.as_bytes-name.result.now in
    let is = first_is (words_bytes c.args.given.now.words.now) c.args.given.now.indexes.now c.args.given.now.read.now name c.deref.result.now (get_or c.args.given.now.indexes.now 0 0) c.bytes-item.result c.in-len1-up.len_at_least
    c.in-len1-up-read.len_at_least refl c.bytes-item.is (c.as_bytes-name.ensures.value ∙ c.word_at.ensures) c.deref.ensures.value in
    let first : FirstBroken c.deref.result.now ≡ Some fault = (rw c.in-Err-Bad.field-0-is at c.in-Err-Bad.ensures.refused) fault refl in
    if_ok c.answer_refused.result (runnable_refused c.args.infer (manner_of c.args.cache.now) (words_bytes c.args.given.now.words.now) c.args.given.now.indexes.now c.args.given.now.read.now name c.deref.result.now is fault first)

pub returns-in-Err-NoMemory-clause-asked : goal.returns-in-Err-NoMemory-clause-asked
returns-in-Err-NoMemory-clause-asked g t c = asks_nothing _ _ interrupts.NoMemory _ _ refl refl

-- ---- its report is interrupted

pub returns-in_err-status-in-Ok-clause-answer : goal.returns-in_err-status-in-Ok-clause-answer
returns-in_err-status-in-Ok-clause-answer g t c =
    let p = err_from_is_err_and c.from_residual.result c.from_residual.ensures.1 in
    let name = c.as_bytes-name.result.now in
    let is = first_is (words_bytes c.args.given.now.words.now) c.args.given.now.indexes.now c.args.given.now.read.now name c.deref.result.now (get_or c.args.given.now.indexes.now 0 0) c.bytes-item.result c.in-len1-up.len_at_least
    c.in-len1-up-read.len_at_least refl c.bytes-item.is (c.as_bytes-name.ensures.value ∙ c.word_at.ensures) c.deref.ensures.value in
    gives_is _ _ _ _ _ (answer_of_first c.args.infer (manner_of c.args.cache.now) (words_bytes c.args.given.now.words.now) c.args.given.now.indexes.now c.args.given.now.read.now name c.deref.result.now is c.in-Ok.ensures.accepted)
    (rw (p.1, p.2) (gives_stop _ _ _ c.in_err-status-in-Ok.field-0.0 _ _ _ _ (rw c.in-Ok.ensures.value.same at c.in_err-status-in-Ok.ensures.written)))

pub returns-in_err-status-in-Ok-clause-begun : goal.returns-in_err-status-in-Ok-clause-begun
returns-in_err-status-in-Ok-clause-begun g t c =
    let name = c.as_bytes-name.result.now in
    let is = first_is (words_bytes c.args.given.now.words.now) c.args.given.now.indexes.now c.args.given.now.read.now name c.deref.result.now (get_or c.args.given.now.indexes.now 0 0) c.bytes-item.result c.in-len1-up.len_at_least
    c.in-len1-up-read.len_at_least refl c.bytes-item.is (c.as_bytes-name.ensures.value ∙ c.word_at.ensures) c.deref.ensures.value in
    begun_of_first c.args.infer (manner_of c.args.cache.now) (words_bytes c.args.given.now.words.now) c.args.given.now.indexes.now c.args.given.now.read.now name c.deref.result.now is _ _
    (begun_first c.args.infer (manner_of c.args.cache.now) name c.deref.result.now _ _ _ (rw c.in-Ok.ensures.value.same at c.in_err-status-in-Ok.ensures.reportable)
    (Writes.prefix (rw c.in-Ok.ensures.value.same at c.in_err-status-in-Ok.ensures.written)))

pub returns-in_err-status-in-Ok-clause-asked : goal.returns-in_err-status-in-Ok-clause-asked
returns-in_err-status-in-Ok-clause-asked g t c =
    let p = err_from_is_err_and c.from_residual.result c.from_residual.ensures.1 in
    let name = c.as_bytes-name.result.now in
    let is = first_is (words_bytes c.args.given.now.words.now) c.args.given.now.indexes.now c.args.given.now.read.now name c.deref.result.now (get_or c.args.given.now.indexes.now 0 0) c.bytes-item.result c.in-len1-up.len_at_least
    c.in-len1-up-read.len_at_least refl c.bytes-item.is (c.as_bytes-name.ensures.value ∙ c.word_at.ensures) c.deref.ensures.value in
    asks_is c.args.cache.now _ _ c.from_residual.result _ _
    (keys_of_first c.args.infer (manner_of c.args.cache.now) (words_bytes c.args.given.now.words.now) c.args.given.now.indexes.now c.args.given.now.read.now name c.deref.result.now is c.in-Ok.ensures.accepted)
    (asks_prefix _ c.from_residual.result p.0 _ _ p.1
    (prefix_of_first c.args.cache.now (report_keys c.args.infer (pick_from c.args.cache.now.held) c.deref.result.now) _ _ _ (Asks.prefix (rw c.in-Ok.ensures.value.same at c.in_err-status-in-Ok.ensures.asked))))

-- ---- a later one is interrupted

pub returns-in_err-others-in-Ok-clause-answer : goal.returns-in_err-others-in-Ok-clause-answer
returns-in_err-others-in-Ok-clause-answer g t c =
    let p = err_from_is_err_and c.from_residual-in_err-others-in-Ok.result c.from_residual-in_err-others-in-Ok.ensures.1 in
    let name = c.as_bytes-name.result.now in
    let judged = rw c.in-Ok.ensures.value.same at c.in_ok-status-in-Ok.ensures.cache in
    let is = first_is (words_bytes c.args.given.now.words.now) c.args.given.now.indexes.now c.args.given.now.read.now name c.deref.result.now (get_or c.args.given.now.indexes.now 0 0) c.bytes-item.result c.in-len1-up.len_at_least
    c.in-len1-up-read.len_at_least refl c.bytes-item.is (c.as_bytes-name.ensures.value ∙ c.word_at.ensures) c.deref.ensures.value in
    gives_is _ _ _ _ _ (answer_of_first c.args.infer (manner_of c.args.cache.now) (words_bytes c.args.given.now.words.now) c.args.given.now.indexes.now c.args.given.now.read.now name c.deref.result.now is c.in-Ok.ensures.accepted)
    (rw (p.1, p.2)
    (gives_later_stop c.in_ok-status-in-Ok.status _ _ c.in_ok-status-in-Ok.status _ _ _ _ _ _ _ _ _ _ _ (rw c.in-Ok.ensures.value.same at c.in_ok-status-in-Ok.ensures.status)
    (rw c.in-Ok.ensures.value.same at c.in_ok-status-in-Ok.ensures.written) c.in_err-others-in-Ok.field-0.0 (rw judged at c.in_err-others-in-Ok.ensures.answer)))

pub returns-in_err-others-in-Ok-clause-begun : goal.returns-in_err-others-in-Ok-clause-begun
returns-in_err-others-in-Ok-clause-begun g t c =
    let name = c.as_bytes-name.result.now in
    let judged = rw c.in-Ok.ensures.value.same at c.in_ok-status-in-Ok.ensures.cache in
    let is = first_is (words_bytes c.args.given.now.words.now) c.args.given.now.indexes.now c.args.given.now.read.now name c.deref.result.now (get_or c.args.given.now.indexes.now 0 0) c.bytes-item.result c.in-len1-up.len_at_least
    c.in-len1-up-read.len_at_least refl c.bytes-item.is (c.as_bytes-name.ensures.value ∙ c.word_at.ensures) c.deref.ensures.value in
    begun_of_first c.args.infer (manner_of c.args.cache.now) (words_bytes c.args.given.now.words.now) c.args.given.now.indexes.now c.args.given.now.read.now name c.deref.result.now is _ _
    (begun_more c.args.infer (manner_of c.args.cache.now) name c.deref.result.now _ _ _ _ (rw c.in-Ok.ensures.value.same at c.in_ok-status-in-Ok.ensures.known)
    (Writes.whole (rw c.in-Ok.ensures.value.same at c.in_ok-status-in-Ok.ensures.written)) (rw judged at c.answer_each.ensures.begun))

pub returns-in_err-others-in-Ok-clause-asked : goal.returns-in_err-others-in-Ok-clause-asked
returns-in_err-others-in-Ok-clause-asked g t c =
    let p = err_from_is_err_and c.from_residual-in_err-others-in-Ok.result c.from_residual-in_err-others-in-Ok.ensures.1 in
    let name = c.as_bytes-name.result.now in
    let is = first_is (words_bytes c.args.given.now.words.now) c.args.given.now.indexes.now c.args.given.now.read.now name c.deref.result.now (get_or c.args.given.now.indexes.now 0 0) c.bytes-item.result c.in-len1-up.len_at_least
    c.in-len1-up-read.len_at_least refl c.bytes-item.is (c.as_bytes-name.ensures.value ∙ c.word_at.ensures) c.deref.ensures.value in
    asks_is c.args.cache.now _ _ c.from_residual-in_err-others-in-Ok.result _ _
    (keys_of_first c.args.infer (manner_of c.args.cache.now) (words_bytes c.args.given.now.words.now) c.args.given.now.indexes.now c.args.given.now.read.now name c.deref.result.now is c.in-Ok.ensures.accepted)
    (asks_prefix _ c.from_residual-in_err-others-in-Ok.result p.0 _ _ p.1
    (Asks.prefix (asks_later c.args.cache.now c.answer_assembly.new.cache (report_keys c.args.infer (pick_from c.args.cache.now.held) c.deref.result.now) (rw c.in-Ok.ensures.value.same at c.in_ok-status-in-Ok.ensures.cache) _ _ _ _ _
    (Asks.whole (rw c.in-Ok.ensures.value.same at c.in_ok-status-in-Ok.ensures.asked)) (asks_for_later c.args.infer c.args.cache.now c.answer_assembly.new.cache _ _ _ _ _ (rw c.in-Ok.ensures.value.same at c.in_ok-status-in-Ok.ensures.cache) c.in_err-others-in-Ok.ensures.asked))))

-- ---- all are answered

pub returns-in_ok-others-in-Ok-clause-answer : goal.returns-in_ok-others-in-Ok-clause-answer
returns-in_ok-others-in-Ok-clause-answer g t c =
    let name = c.as_bytes-name.result.now in
    let judged = rw c.in-Ok.ensures.value.same at c.in_ok-status-in-Ok.ensures.cache in
    let is = first_is (words_bytes c.args.given.now.words.now) c.args.given.now.indexes.now c.args.given.now.read.now name c.deref.result.now (get_or c.args.given.now.indexes.now 0 0) c.bytes-item.result c.in-len1-up.len_at_least
    c.in-len1-up-read.len_at_least refl c.bytes-item.is (c.as_bytes-name.ensures.value ∙ c.word_at.ensures) c.deref.ensures.value in
    let greater : c.max.result ≡ max c.in_ok-status-in-Ok.status c.in_ok-others-in-Ok.others = search rules in
    gives_is _ _ _ _ _ (answer_of_first c.args.infer (manner_of c.args.cache.now) (words_bytes c.args.given.now.words.now) c.args.given.now.indexes.now c.args.given.now.read.now name c.deref.result.now is c.in-Ok.ensures.accepted)
    (gives_both c.in_ok-status-in-Ok.status _ _ c.in_ok-status-in-Ok.status _ _ _ _ _ _ _ _ _ _ _ (rw c.in-Ok.ensures.value.same at c.in_ok-status-in-Ok.ensures.status)
    (rw c.in-Ok.ensures.value.same at c.in_ok-status-in-Ok.ensures.written) c.in_ok-others-in-Ok.others c.max.result greater (rw judged at c.in_ok-others-in-Ok.ensures.answer))

pub returns-in_ok-others-in-Ok-clause-begun : goal.returns-in_ok-others-in-Ok-clause-begun
returns-in_ok-others-in-Ok-clause-begun g t c =
    let name = c.as_bytes-name.result.now in
    let judged = rw c.in-Ok.ensures.value.same at c.in_ok-status-in-Ok.ensures.cache in
    let is = first_is (words_bytes c.args.given.now.words.now) c.args.given.now.indexes.now c.args.given.now.read.now name c.deref.result.now (get_or c.args.given.now.indexes.now 0 0) c.bytes-item.result c.in-len1-up.len_at_least
    c.in-len1-up-read.len_at_least refl c.bytes-item.is (c.as_bytes-name.ensures.value ∙ c.word_at.ensures) c.deref.ensures.value in
    begun_of_first c.args.infer (manner_of c.args.cache.now) (words_bytes c.args.given.now.words.now) c.args.given.now.indexes.now c.args.given.now.read.now name c.deref.result.now is _ _
    (begun_more c.args.infer (manner_of c.args.cache.now) name c.deref.result.now _ _ _ _ (rw c.in-Ok.ensures.value.same at c.in_ok-status-in-Ok.ensures.known)
    (Writes.whole (rw c.in-Ok.ensures.value.same at c.in_ok-status-in-Ok.ensures.written)) (rw judged at c.answer_each.ensures.begun))

pub returns-in_ok-others-in-Ok-clause-asked : goal.returns-in_ok-others-in-Ok-clause-asked
returns-in_ok-others-in-Ok-clause-asked g t c =
    let name = c.as_bytes-name.result.now in
    let is = first_is (words_bytes c.args.given.now.words.now) c.args.given.now.indexes.now c.args.given.now.read.now name c.deref.result.now (get_or c.args.given.now.indexes.now 0 0) c.bytes-item.result c.in-len1-up.len_at_least
    c.in-len1-up-read.len_at_least refl c.bytes-item.is (c.as_bytes-name.ensures.value ∙ c.word_at.ensures) c.deref.ensures.value in
    asks_is c.args.cache.now _ _ (Ok c.max.result) _ _
    (keys_of_first c.args.infer (manner_of c.args.cache.now) (words_bytes c.args.given.now.words.now) c.args.given.now.indexes.now c.args.given.now.read.now name c.deref.result.now is c.in-Ok.ensures.accepted)
    (asks_all _ (Ok c.max.result) _ _
    (Asks.whole (asks_later c.args.cache.now c.answer_assembly.new.cache (report_keys c.args.infer (pick_from c.args.cache.now.held) c.deref.result.now) (rw c.in-Ok.ensures.value.same at c.in_ok-status-in-Ok.ensures.cache) _ _ _ _ _
    (Asks.whole (rw c.in-Ok.ensures.value.same at c.in_ok-status-in-Ok.ensures.asked)) (asks_for_later c.args.infer c.args.cache.now c.answer_assembly.new.cache _ _ _ _ _ (rw c.in-Ok.ensures.value.same at c.in_ok-status-in-Ok.ensures.cache) c.in_ok-others-in-Ok.ensures.asked))))

pub returns-in_ok-others-in-Ok-clause-cache : goal.returns-in_ok-others-in-Ok-clause-cache
returns-in_ok-others-in-Ok-clause-cache g t c =
    let name = c.as_bytes-name.result.now in
    let is = first_is (words_bytes c.args.given.now.words.now) c.args.given.now.indexes.now c.args.given.now.read.now name c.deref.result.now (get_or c.args.given.now.indexes.now 0 0) c.bytes-item.result c.in-len1-up.len_at_least
    c.in-len1-up-read.len_at_least refl c.bytes-item.is (c.as_bytes-name.ensures.value ∙ c.word_at.ensures) c.deref.ensures.value in
    let judged = rw c.in-Ok.ensures.value.same at c.in_ok-status-in-Ok.ensures.cache in
    judged_more c.args.cache.now c.answer_assembly.new.cache (report_keys c.args.infer (pick_from c.args.cache.now.held) c.deref.result.now) judged _ _ (judged_for_later c.args.infer c.args.cache.now c.answer_assembly.new.cache _ _ _ judged c.in_ok-others-in-Ok.ensures.cache)
    ∙ ap (with_judged c.args.cache.now) (sym (keys_of_first c.args.infer (manner_of c.args.cache.now) (words_bytes c.args.given.now.words.now) c.args.given.now.indexes.now c.args.given.now.read.now name c.deref.result.now is c.in-Ok.ensures.accepted))

pub returns-in_ok-others-in-Ok-clause-known : goal.returns-in_ok-others-in-Ok-clause-known
returns-in_ok-others-in-Ok-clause-known g t c =
    let name = c.as_bytes-name.result.now in
    let is = first_is (words_bytes c.args.given.now.words.now) c.args.given.now.indexes.now c.args.given.now.read.now name c.deref.result.now (get_or c.args.given.now.indexes.now 0 0) c.bytes-item.result c.in-len1-up.len_at_least
    c.in-len1-up-read.len_at_least refl c.bytes-item.is (c.as_bytes-name.ensures.value ∙ c.word_at.ensures) c.deref.ensures.value in
    let known : IsReportable c.deref.result.now = rw c.in-Ok.ensures.value.same at c.in_ok-status-in-Ok.ensures.known in
    runnable_of_first c.args.infer (manner_of c.args.cache.now) (words_bytes c.args.given.now.words.now) c.args.given.now.indexes.now c.args.given.now.read.now name c.deref.result.now is c.in-Ok.ensures.accepted
    known.runnable c.in_ok-others-in-Ok.ensures.known
