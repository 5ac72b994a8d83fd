use Rattle.std.proofs.Common.{false, if◌then◌else◌, ◌∙◌}
use Rattle.answer_lines.proofs.Writings.{gives_output}
use Rattle.command_words.specs.Words.{words_bytes}
use Rattle.unit_verdicts.specs.Picks.{limit_pick}
use Rattle.unit_verdicts.proofs.Asking.{asks_none}
use Rattle.written_assemblies.specs.GeneratedFiles.{generated_file}
use Rattle.check_driver.specs.CallRead.{cache_of, files_of}
use Rattle.assembly_reports.specs.CheckText.{all_methods_proved, summary_text}
use Rattle.check_driver.proofs.Answering.{only_file}
use Rattle.check_driver.proofs.BytesParts.{check_words_answered, gen_answered, linked_words_answered, run_answered, unit_answered, verify_answered}
use Rattle.check_driver.proofs.program.answer_bytes.Goals as goal

pub returns-in-Unit-clause-answer : goal.returns-in-Unit-clause-answer
returns-in-Unit-clause-answer g c =
    let file = c.deref.ensures.value ∙ only_file c.args.given.now.read.now c.index-given-0.result (rw c.in-Unit.is at c.requires.called.each) in
    rw c.in-Unit.is
    (unit_answered (words_bytes c.args.given.now.words.now) (cache_of c.args.given.now) (files_of c.args.given.now) _ c.answer_unit_file.result _ _ _ c.in-Unit.file
    (rw (c.as_bytes-name.ensures.value, c.word_at.ensures, file) at c.answer_unit_file.ensures.answer))

pub returns-in-Unit-clause-spelled : goal.returns-in-Unit-clause-spelled
returns-in-Unit-clause-spelled g c =
    let file = c.deref.ensures.value ∙ only_file c.args.given.now.read.now c.index-given-0.result (rw c.in-Unit.is at c.requires.called.each) in
    rw c.in-Unit.is (rw file at c.answer_unit_file.ensures.spelled)

pub returns-in-Check-clause-answer : goal.returns-in-Check-clause-answer
returns-in-Check-clause-answer g c =
    rw c.in-Check.is
    (check_words_answered (words_bytes c.args.given.now.words.now) (cache_of c.args.given.now) (files_of c.args.given.now) _ c.answer_check.result _ _ _ c.in-Check.check _
    c.answer_check.ensures.answer c.answer_check.ensures.left)

pub returns-in-Check-clause-begun : goal.returns-in-Check-clause-begun
returns-in-Check-clause-begun g c = rw c.in-Check.is (rw (rw c.in-Check.is at c.requires.called.indexes) at c.answer_check.ensures.begun)

pub returns-in-Linked-clause-answer : goal.returns-in-Linked-clause-answer
returns-in-Linked-clause-answer g c =
    rw c.in-Linked.is
    (linked_words_answered (words_bytes c.args.given.now.words.now) (cache_of c.args.given.now) (files_of c.args.given.now) _ c.answer_linked.result _ _ _ c.in-Linked.linked _
    c.answer_linked.ensures.answer c.answer_linked.ensures.left)

pub returns-in-Linked-clause-linked : goal.returns-in-Linked-clause-linked
returns-in-Linked-clause-linked g c = rw c.in-Linked.is (rw (rw c.in-Linked.is at c.requires.called.indexes) at c.answer_linked.ensures.begun)

pub returns-in-Verify-clause-answer : goal.returns-in-Verify-clause-answer
returns-in-Verify-clause-answer g c =
    rw c.in-Verify.is
    (verify_answered (words_bytes c.args.given.now.words.now) (cache_of c.args.given.now) c.args.given.now.read.now _ c.answer_verify.result _ _ _ c.in-Verify.file c.in-Verify.proof
    c.index-given-0-in-Verify.result c.index-given-1.result _ _ (rw c.in-Verify.is at c.requires.called.each) c.deref-in-Verify.ensures.value c.deref-in-Verify-2.ensures.value
    (rw (c.names_at-in-Verify.ensures.file, c.names_at-in-Verify.ensures.method) at c.answer_verify.ensures.answer) c.answer_verify.ensures.memory)

pub returns-in-Verify-clause-asked : goal.returns-in-Verify-clause-asked
returns-in-Verify-clause-asked g c = rw c.in-Verify.is (asks_none c.answer_verify.result _ _ c.answer_verify.ensures.asked)

pub returns-in-Run-clause-answer : goal.returns-in-Run-clause-answer
returns-in-Run-clause-answer g c =
    let file = c.deref-in-Run.ensures.value ∙ only_file c.args.given.now.read.now c.index-given-0-in-Run.result (rw c.in-Run.is at c.requires.called.each) in
    rw c.in-Run.is
    (run_answered (words_bytes c.args.given.now.words.now) (cache_of c.args.given.now) (files_of c.args.given.now) _ c.answer_run_words.result _ _ _ _
    (rw file at c.answer_run_words.ensures))

pub returns-in-Gen-clause-answer : goal.returns-in-Gen-clause-answer
returns-in-Gen-clause-answer g c =
    let bytes = generated_file c.in-Gen.seed c.in-Gen.count in
    rw c.in-Gen.is
    (gen_answered (words_bytes c.args.given.now.words.now) (cache_of c.args.given.now) (files_of c.args.given.now) _ c.answer_gen.result _ _ _ c.in-Gen.seed c.in-Gen.count
    (gives_output (if all_methods_proved false limit_pick bytes then 0 else 1) (summary_text limit_pick bytes) c.answer_gen.result _
    (g.E.Sink.written c.args.err.now) (g.E.Sink.puts c.args.err.now) (g.E.Sink.faults c.args.err.now) c.answer_gen.ensures.status c.answer_gen.ensures.written))
