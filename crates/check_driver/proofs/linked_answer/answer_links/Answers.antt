use Rattle.std.proofs.Common.{◌≡◌, List, ℕ, length, if◌then◌else◌, sym, subst, ◌∙◌}
use Rattle.std.specs.Prelude.{IfOk, OnOk}
use Rattle.std.proofs.lemmas.List.{length-map}
use Rattle.answer_lines.specs.Answers.{Answer}
use Rattle.answer_lines.specs.Writing.{Writes, change_of}
use Rattle.command_words.specs.Words.{word_at, words_bytes}
use Rattle.unit_verdicts.specs.Asked.{Asks}
use Rattle.unit_verdicts.specs.VerdictCache.{manner_of}
use Rattle.assembly_reports.specs.JudgedUnits.{asked_for, with_judged}
use Rattle.check_driver.specs.CallRead.{names_of}
use Rattle.check_driver.specs.LinkedReports.{ReportedFile, ReportsBegun, are_all_proved, file_reports}
use Rattle.check_driver.proofs.LinkedAnswers.{all_keys, all_reported_by, answer_is, if_weaker, runnable_by}
use Rattle.check_driver.proofs.linked_answer.answer_links.Goals as goal

pub returns-clause-status : goal.returns-clause-status
returns-clause-status g c =
    let manner = manner_of c.args.cache.now in
    let names = names_of c.args.given.now in
    let links = c.args.links.now in
    let long = c.requires.each ∙ sym (length-map c.args.given.now.indexes.now (word_at (words_bytes c.args.given.now.words.now))) in
    subst (λ (a : Answer). IfOk c.answer_files.result (λ status. status ≡ a.status)) (sym (answer_is manner names links c.requires.accepted))
    (subst (λ (files : List ReportedFile). IfOk c.answer_files.result (λ status. status ≡ (if are_all_proved manner.pick files then 0 else 1)))
    (all_reported_by _ links names c.in_ok-units.ensures long) c.answer_files.ensures.status)

pub returns-clause-written : goal.returns-clause-written
returns-clause-written g c =
    let manner = manner_of c.args.cache.now in
    let names = names_of c.args.given.now in
    let links = c.args.links.now in
    let long = c.requires.each ∙ sym (length-map c.args.given.now.indexes.now (word_at (words_bytes c.args.given.now.words.now))) in
    let sink = change_of g.O.Sink.written g.O.Sink.puts g.O.Sink.faults c.args.out.now c.answer_files.new.out in
    subst (λ (a : Answer). Writes c.answer_files.result sink a.out) (sym (answer_is manner names links c.requires.accepted))
    (subst (λ (files : List ReportedFile). Writes c.answer_files.result sink (file_reports manner files)) (all_reported_by _ links names c.in_ok-units.ensures long) c.answer_files.ensures.written)

pub returns-clause-begun : goal.returns-clause-begun
returns-clause-begun g c =
    let manner = manner_of c.args.cache.now in
    let names = names_of c.args.given.now in
    let links = c.args.links.now in
    let long = c.requires.each ∙ sym (length-map c.args.given.now.indexes.now (word_at (words_bytes c.args.given.now.words.now))) in
    record {
      accepted = c.requires.accepted;
      begun = subst (λ (files : List ReportedFile). ReportsBegun manner files (g.O.Sink.written c.args.out.now) (g.O.Sink.written c.answer_files.new.out)) (all_reported_by _ links names c.in_ok-units.ensures long) c.answer_files.ensures.begun;
    }

pub returns-clause-cache : goal.returns-clause-cache
returns-clause-cache g c =
    subst (λ (keys : List (List ℕ)). OnOk c.answer_files.result (c.answer_files.new.cache ≡ with_judged c.args.cache.now keys))
    (all_keys _ c.args.links.now (length c.args.given.now.indexes.now) c.in_ok-units.ensures c.requires.each c.requires.accepted) c.answer_files.ensures.cache

pub returns-clause-asked : goal.returns-clause-asked
returns-clause-asked g c =
    subst (λ (keys : List (List ℕ)). Asks (asked_for c.args.cache.now keys) c.answer_files.result (g.D.Finder.asked c.args.finder.now) (g.D.Finder.asked c.answer_files.new.finder))
    (all_keys _ c.args.links.now (length c.args.given.now.indexes.now) c.in_ok-units.ensures c.requires.each c.requires.accepted) c.answer_files.ensures.asked

pub returns-clause-known : goal.returns-clause-known
returns-clause-known g c =
    if_weaker c.answer_files.result c.answer_files.ensures.known (runnable_by _ c.args.links.now (length c.args.given.now.indexes.now) c.in_ok-units.ensures c.requires.each c.requires.accepted)
