use Rattle.std.proofs.Common.{◌≡◌, ◌<◌, [], length, get_or, refl, sym, ap, ◌∙◌, arith}
use Rattle.std.proofs.lemmas.List.{get_or-map, length-map}
use Rattle.answer_lines.specs.Answers.{refused_line}
use Rattle.answer_lines.proofs.Writings.{gives_error}
use Rattle.assembly_answers.specs.FaultText.{assembly_fault_text}
use Rattle.assembly_answers.proofs.PlainFaults.{assembly_fault_plain}
use Rattle.command_words.specs.Words.{word_at, words_bytes}
use Rattle.unit_verdicts.specs.VerdictCache.{manner_of}
use Rattle.assembly_reports.specs.JudgedUnits.{with_judged}
use Rattle.check_driver.specs.CallRead.{files_of, names_of}
use Rattle.check_driver.proofs.CheckParts.{if_ok, where_ok}
use Rattle.assembly_reports.proofs.Judging.{asks_for_none, judged_none}
use Rattle.check_driver.proofs.LinkedAnswers.{answer_refused_as, gives_links, no_keys, refused_runnable}
use Rattle.check_driver.proofs.SeveralFiles.{asks_is, gives_is}
use Rattle.check_driver.proofs.linked_answer.answer_all.Goals as goal

pub answer_refused-requires : goal.answer_refused-requires
answer_refused-requires g c = rw c.assembly_fault_text.ensures (assembly_fault_plain _)

pub returns-in_ok-links-in-Ok-clause-answer : goal.returns-in_ok-links-in-Ok-clause-answer
returns-in_ok-links-in-Ok-clause-answer g c =
    gives_links (manner_of c.args.cache.now) (names_of c.args.given.now) (files_of c.args.given.now) c.in_ok-links-in-Ok.links c.answer_links.result _ _ _ _
    (c.in_ok-links-in-Ok.ensures ∙ c.in-Ok.ensures.0) c.in-Ok.ensures.1 c.answer_links.ensures.status c.answer_links.ensures.written

pub returns-in-Err-Refused-clause-answer : goal.returns-in-Err-Refused-clause-answer
returns-in-Err-Refused-clause-answer g c =
    let fault = c.in-Err-Refused.fault in
    let file = c.in-Err-Refused.file in
    let name = c.as_bytes-name.result.now in
    let indexes = c.args.given.now.indexes.now in
    let words = words_bytes c.args.given.now.words.now in
    let files = files_of c.args.given.now in
    let found = rw c.in-Err-Refused.field-0-is at c.in-Err-Refused.ensures in
    let lt : file < length indexes = omega (arith, found.0, length-map c.args.given.now.read.now (λ b. b.items), c.requires.each) in
    let named : get_or (names_of c.args.given.now) file [] ≡ name = get_or-map (word_at words) indexes file 0 [] lt ∙ sym (rw c.in-Err-Refused.file-is at (c.as_bytes-name.ensures.value ∙ c.word_at.ensures)) in
    gives_is _ _ _ _ _ (answer_refused_as (manner_of c.args.cache.now) (names_of c.args.given.now) files file fault name found.1 named)
    (gives_error 5 (refused_line name (assembly_fault_text fault.cause) fault.at) c.answer_refused.result
    (g.O.Sink.written c.args.out.now) (g.O.Sink.puts c.args.out.now) (g.O.Sink.faults c.args.out.now) _ c.answer_refused.ensures.status
    (rw (c.assembly_fault_text.ensures, c.in-Err-Refused.fault-is) at c.answer_refused.ensures.written))

pub returns-in-Err-Refused-clause-cache : goal.returns-in-Err-Refused-clause-cache
returns-in-Err-Refused-clause-cache g c =
    let found = rw c.in-Err-Refused.field-0-is at c.in-Err-Refused.ensures in
    where_ok c.answer_refused.result
    (judged_none c.args.cache.now ∙ ap (with_judged c.args.cache.now) (sym (no_keys (files_of c.args.given.now) (c.in-Err-Refused.file, c.in-Err-Refused.fault) found.1)))

pub returns-in-Err-Refused-clause-asked : goal.returns-in-Err-Refused-clause-asked
returns-in-Err-Refused-clause-asked g c =
    let found = rw c.in-Err-Refused.field-0-is at c.in-Err-Refused.ensures in
    asks_is c.args.cache.now _ [] c.answer_refused.result _ _ (no_keys (files_of c.args.given.now) (c.in-Err-Refused.file, c.in-Err-Refused.fault) found.1)
    (asks_for_none c.args.cache.now c.answer_refused.result _ _ refl)

pub returns-in-Err-Refused-clause-known : goal.returns-in-Err-Refused-clause-known
returns-in-Err-Refused-clause-known g c =
    let found = rw c.in-Err-Refused.field-0-is at c.in-Err-Refused.ensures in
    if_ok c.answer_refused.result (refused_runnable (files_of c.args.given.now) (c.in-Err-Refused.file, c.in-Err-Refused.fault) found.1)
