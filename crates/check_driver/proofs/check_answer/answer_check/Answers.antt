use Rattle.std.proofs.Common.{ℕ, ◌<◌, ◌||◌, List, length, is_some, Err, refl, sym, ap, subst, ◌∙◌}
use Rattle.std.specs.Prelude.{All}
use Rattle.std.proofs.lemmas.List.Elements.{recursion_from_All}
use Rattle.std.proofs.lemmas.Result.{err_from_is_err_and}
use Rattle.answer_lines.specs.declared.interrupt.Interrupt.{Interrupt}
use Rattle.command_words.specs.Words.{check_files, words_bytes}
use Rattle.unit_verdicts.specs.Asked.{Asks}
use Rattle.unit_verdicts.specs.VerdictCache.{CachedUnits}
use Rattle.unit_verdicts.proofs.Asking.{asks_all, asks_prefix, asks_nothing}
use Rattle.check_driver.specs.CallRead.{cache_of, files_of}
use Rattle.check_driver.proofs.CheckParts.{as_many, asked_reports, first_keeps_for, honest_as_before, honest_left, infers_keeps, keeps_for, knows_check, leaves_as_before, left_at_last, left_or_not, reported, stopped_at_cache, stopped_at_line}
use Rattle.check_driver.proofs.SeveralFiles.{begun_none}
use Rattle.check_driver.proofs.check_answer.answer_check.Goals as goal

-- ---- what each part needs

pub begin_check-requires-clause-named : goal.begin_check-requires-clause-named
begin_check-requires-clause-named g c = c.requires.cache

pub begin_check-requires-clause-none : goal.begin_check-requires-clause-none
begin_check-requires-clause-none g c = c.requires.none

pub answer_each-requires-clause-inside : goal.answer_each-requires-clause-inside
answer_each-requires-clause-inside g c =
    let below : ℕ → Type 0 = λ index. index < length c.args.given.now.words.now in
    recursion_from_All below c.args.given.now.indexes.now (subst (All below) (sym c.requires.indexes) c.requires.files)

pub answer_each-requires-clause-each : goal.answer_each-requires-clause-each
answer_each-requires-clause-each g c = c.requires.each ∙ sym (ap (λ (indexes : List ℕ). length indexes) c.requires.indexes)

pub answer_each-requires-clause-keeps : goal.answer_each-requires-clause-keeps
answer_each-requires-clause-keeps g c =
    let infers = is_some c.args.check.infer in λ so.
    infers_keeps (is_some c.args.check.cache) (is_some c.args.check.proof) infers c.in_ok-units.units.keeps
    (ap (λ (cache : CachedUnits). cache.keeps) c.in_ok-units.ensures.cache) (sym c.infers.ensures ∙ so)

pub leave_files-requires-clause-proof : goal.leave_files-requires-clause-proof
leave_files-requires-clause-proof g c = c.requires.proof

pub leave_files-requires-clause-cache : goal.leave_files-requires-clause-cache
leave_files-requires-clause-cache g c = c.requires.cache

pub leave_files-requires-clause-keeps_proof : goal.leave_files-requires-clause-keeps_proof
leave_files-requires-clause-keeps_proof g c =
    keeps_for c.args.check.proof (is_some c.args.check.cache) (is_some c.args.check.infer) c.answer_each.new.cache.keeps
    (ap (λ (cache : CachedUnits). cache.keeps) c.in_ok-status.ensures.cache ∙ ap (λ (cache : CachedUnits). cache.keeps) c.in_ok-units.ensures.cache)

pub leave_files-requires-clause-keeps_cache : goal.leave_files-requires-clause-keeps_cache
leave_files-requires-clause-keeps_cache g c =
    first_keeps_for c.args.check.cache (is_some c.args.check.proof || is_some c.args.check.infer) c.answer_each.new.cache.keeps
    (ap (λ (cache : CachedUnits). cache.keeps) c.in_ok-status.ensures.cache ∙ ap (λ (cache : CachedUnits). cache.keeps) c.in_ok-units.ensures.cache)

-- ---- its cache is not told

pub returns-in_err-units-clause-answer : goal.returns-in_err-units-clause-answer
returns-in_err-units-clause-answer g c =
    let p = err_from_is_err_and c.from_residual.result c.from_residual.ensures.1 in
    rw (p.1, p.2) (stopped_at_line c.args.check (words_bytes c.args.given.now.words.now) (cache_of c.args.given.now) (files_of c.args.given.now) c.in_err-units.field-0.0 _ _ _ _ _ c.in_err-units.ensures.written)

pub returns-in_err-units-clause-begun : goal.returns-in_err-units-clause-begun
returns-in_err-units-clause-begun g c = begun_none _ _ _ _ _ refl

pub returns-in_err-units-clause-asked : goal.returns-in_err-units-clause-asked
returns-in_err-units-clause-asked g c =
    let p = err_from_is_err_and c.from_residual.result c.from_residual.ensures.1 in
    asks_nothing _ c.from_residual.result p.0 _ _ p.1 refl

pub returns-in_err-units-clause-left : goal.returns-in_err-units-clause-left
returns-in_err-units-clause-left g c =
    let p = err_from_is_err_and c.from_residual.result c.from_residual.ensures.1 in
    rw (p.1, p.2) (leaves_as_before _ _ c.in_err-units.field-0.0 _ _ _ refl)

pub returns-in_err-units-clause-known : goal.returns-in_err-units-clause-known
returns-in_err-units-clause-known g c =
    let p = err_from_is_err_and c.from_residual.result c.from_residual.ensures.1 in
    rw p.1 tt

pub returns-in_err-units-clause-honest : goal.returns-in_err-units-clause-honest
returns-in_err-units-clause-honest g c = honest_as_before _ _ _ _ _ refl

-- ---- its reports are interrupted

pub returns-in_err-status-clause-answer : goal.returns-in_err-status-clause-answer
returns-in_err-status-clause-answer g c =
    let p = err_from_is_err_and c.from_residual-in_err-status.result c.from_residual-in_err-status.ensures.1 in
    let gives = rw (c.requires.indexes, c.in_ok-units.ensures.cache, c.infers.ensures) at c.in_err-status.ensures.answer in
    rw (p.1, p.2) (reported c.args.check (words_bytes c.args.given.now.words.now) (cache_of c.args.given.now) (files_of c.args.given.now) c.in_ok-units.units _ _ _ _ _ _ _ _ _ _ c.in_ok-units.ensures.written _ _ gives)

pub returns-in_err-status-clause-begun : goal.returns-in_err-status-clause-begun
returns-in_err-status-clause-begun g c = rw (c.in_ok-units.ensures.cache, c.infers.ensures) at c.in_err-status.ensures.begun

pub returns-in_err-status-clause-asked : goal.returns-in_err-status-clause-asked
returns-in_err-status-clause-asked g c =
    let p = err_from_is_err_and c.from_residual-in_err-status.result c.from_residual-in_err-status.ensures.1 in
    asked_reports c.args.check (words_bytes c.args.given.now.words.now) (cache_of c.args.given.now) (files_of c.args.given.now) c.in_ok-units.units c.from_residual-in_err-status.result _ _
    c.in_ok-units.ensures.cache (asks_prefix _ c.from_residual-in_err-status.result p.0 _ _ p.1 (Asks.prefix (rw c.infers.ensures at c.in_err-status.ensures.asked)))

pub returns-in_err-status-clause-left : goal.returns-in_err-status-clause-left
returns-in_err-status-clause-left g c =
    let p = err_from_is_err_and c.from_residual-in_err-status.result c.from_residual-in_err-status.ensures.1 in
    rw (p.1, p.2) (leaves_as_before _ _ c.in_err-status.field-0.0 _ _ _ refl)

pub returns-in_err-status-clause-known : goal.returns-in_err-status-clause-known
returns-in_err-status-clause-known g c =
    let p = err_from_is_err_and c.from_residual-in_err-status.result c.from_residual-in_err-status.ensures.1 in
    rw p.1 tt

pub returns-in_err-status-clause-honest : goal.returns-in_err-status-clause-honest
returns-in_err-status-clause-honest g c = honest_as_before _ _ _ _ _ refl

-- ---- its files are not left

pub returns-in_err-leave_files-clause-answer : goal.returns-in_err-leave_files-clause-answer
returns-in_err-leave_files-clause-answer g c =
    let p = err_from_is_err_and c.from_residual-in_err-leave_files.result c.from_residual-in_err-leave_files.ensures.1 in
    let gives = rw (c.requires.indexes, c.in_ok-units.ensures.cache, c.infers.ensures) at c.in_ok-status.ensures.answer in
    rw (p.1, p.2)
    (stopped_at_cache c.args.check (words_bytes c.args.given.now.words.now) (cache_of c.args.given.now) (files_of c.args.given.now) c.in_ok-units.units _ _ _ _ _ _ _ _ _ _ c.in_ok-units.ensures.written
    _ c.in_ok-status.status c.in_err-leave_files.field-0.0 gives (λ same. c.in_err-leave_files.ensures.cause (ap (λ (i : Interrupt). Err i) same)))

pub returns-in_err-leave_files-clause-begun : goal.returns-in_err-leave_files-clause-begun
returns-in_err-leave_files-clause-begun g c = rw (c.in_ok-units.ensures.cache, c.infers.ensures) at c.in_ok-status.ensures.begun

pub returns-in_err-leave_files-clause-asked : goal.returns-in_err-leave_files-clause-asked
returns-in_err-leave_files-clause-asked g c =
    asked_reports c.args.check (words_bytes c.args.given.now.words.now) (cache_of c.args.given.now) (files_of c.args.given.now) c.in_ok-units.units c.from_residual-in_err-leave_files.result _ _
    c.in_ok-units.ensures.cache (asks_all _ c.from_residual-in_err-leave_files.result _ _ (Asks.whole (rw c.infers.ensures at c.in_ok-status.ensures.asked)))

pub returns-in_err-leave_files-clause-left : goal.returns-in_err-leave_files-clause-left
returns-in_err-leave_files-clause-left g c =
    let p = err_from_is_err_and c.from_residual-in_err-leave_files.result c.from_residual-in_err-leave_files.ensures.1 in
    let gives = rw (c.requires.indexes, c.in_ok-units.ensures.cache, c.infers.ensures) at c.in_ok-status.ensures.answer in
    rw (p.1, p.2)
    (left_or_not c.args.check (words_bytes c.args.given.now.words.now) (cache_of c.args.given.now) (files_of c.args.given.now) c.in_ok-status.status c.in_ok-units.units c.answer_each.new.cache
    (as_many (words_bytes c.args.given.now.words.now) (check_files c.args.check) c.args.given.now.read.now c.requires.each) gives.status c.in_ok-units.ensures.cache (rw c.infers.ensures at c.in_ok-status.ensures.cache)
    c.in_err-leave_files.field-0.0 _ _ _ gives.out_all c.in_err-leave_files.ensures.err)

pub returns-in_err-leave_files-clause-known : goal.returns-in_err-leave_files-clause-known
returns-in_err-leave_files-clause-known g c =
    let p = err_from_is_err_and c.from_residual-in_err-leave_files.result c.from_residual-in_err-leave_files.ensures.1 in
    rw p.1 tt

pub returns-in_err-leave_files-clause-honest : goal.returns-in_err-leave_files-clause-honest
returns-in_err-leave_files-clause-honest g c =
    let gives = rw (c.requires.indexes, c.in_ok-units.ensures.cache, c.infers.ensures) at c.in_ok-status.ensures.answer in
    honest_left c.args.check (words_bytes c.args.given.now.words.now) (cache_of c.args.given.now) (files_of c.args.given.now) c.in_ok-status.status c.in_ok-units.units c.answer_each.new.cache
    (as_many (words_bytes c.args.given.now.words.now) (check_files c.args.check) c.args.given.now.read.now c.requires.each) gives.status c.in_ok-units.ensures.cache (rw c.infers.ensures at c.in_ok-status.ensures.cache) _ _ c.leave_files.ensures.honest

-- ---- all was answered

pub returns-clause-answer : goal.returns-clause-answer
returns-clause-answer g c =
    let gives = rw (c.requires.indexes, c.in_ok-units.ensures.cache, c.infers.ensures) at c.in_ok-status.ensures.answer in
    reported c.args.check (words_bytes c.args.given.now.words.now) (cache_of c.args.given.now) (files_of c.args.given.now) c.in_ok-units.units _ _ _ _ _ _ _ _ _ _ c.in_ok-units.ensures.written _ _ gives

pub returns-clause-begun : goal.returns-clause-begun
returns-clause-begun g c = rw (c.in_ok-units.ensures.cache, c.infers.ensures) at c.in_ok-status.ensures.begun

pub returns-clause-asked : goal.returns-clause-asked
returns-clause-asked g c =
    asked_reports c.args.check (words_bytes c.args.given.now.words.now) (cache_of c.args.given.now) (files_of c.args.given.now) c.in_ok-units.units _ _ _ c.in_ok-units.ensures.cache (asks_all _ _ _ _ (Asks.whole (rw c.infers.ensures at c.in_ok-status.ensures.asked)))

pub returns-clause-left : goal.returns-clause-left
returns-clause-left g c =
    let gives = rw (c.requires.indexes, c.in_ok-units.ensures.cache, c.infers.ensures) at c.in_ok-status.ensures.answer in
    left_at_last c.args.check (words_bytes c.args.given.now.words.now) (cache_of c.args.given.now) (files_of c.args.given.now) c.in_ok-status.status c.in_ok-units.units c.answer_each.new.cache
    (as_many (words_bytes c.args.given.now.words.now) (check_files c.args.check) c.args.given.now.read.now c.requires.each) gives.status c.in_ok-units.ensures.cache (rw c.infers.ensures at c.in_ok-status.ensures.cache)
    _ _ _ gives.out_all c.in_ok-leave_files.ensures.ok

pub returns-clause-known : goal.returns-clause-known
returns-clause-known g c =
    let gives = rw (c.requires.indexes, c.in_ok-units.ensures.cache, c.infers.ensures) at c.in_ok-status.ensures.answer in
    knows_check c.args.check (words_bytes c.args.given.now.words.now) (cache_of c.args.given.now) (files_of c.args.given.now) c.in_ok-status.status c.in_ok-units.units c.answer_each.new.cache
    (as_many (words_bytes c.args.given.now.words.now) (check_files c.args.check) c.args.given.now.read.now c.requires.each) gives.status c.in_ok-units.ensures.cache (rw c.infers.ensures at c.in_ok-status.ensures.cache)
    c.in_ok-status.ensures.known c.in_ok-leave_files.ensures.left

pub returns-clause-honest : goal.returns-clause-honest
returns-clause-honest g c =
    let gives = rw (c.requires.indexes, c.in_ok-units.ensures.cache, c.infers.ensures) at c.in_ok-status.ensures.answer in
    honest_left c.args.check (words_bytes c.args.given.now.words.now) (cache_of c.args.given.now) (files_of c.args.given.now) c.in_ok-status.status c.in_ok-units.units c.answer_each.new.cache
    (as_many (words_bytes c.args.given.now.words.now) (check_files c.args.check) c.args.given.now.read.now c.requires.each) gives.status c.in_ok-units.ensures.cache (rw c.infers.ensures at c.in_ok-status.ensures.cache) _ _ c.leave_files.ensures.honest
