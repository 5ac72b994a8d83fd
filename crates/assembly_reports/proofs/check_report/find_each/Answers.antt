use Rattle.std.proofs.Common.{◌+◌, ◌<◌, ◌≤◌, ◌++◌, length, map, take, ap, subst, ◌∙◌, arith}
use Rattle.std.proofs.lemmas.List.Elements.{All-push}
use Rattle.std.proofs.lemmas.Result.{err_from_is_err_and}
use Rattle.asm_image.proofs.FindLemmas.{rows_count}
use Rattle.asm_image.specs.Rows.{methods_of}
use Rattle.pe_reader.specs.Addresses.{metadata}
use Rattle.unit_builder.specs.Outcomes.{entries_in, outcome_in}
use Rattle.unit_builder.specs.FileSets.{files_in}
use Rattle.unit_builder.specs.Scopes.{scope_in}
use Rattle.unit_verdicts.specs.Asked.{Asks}
use Rattle.unit_verdicts.specs.Picks.{pick_from}
use Rattle.unit_verdicts.specs.VerdictCache.{CachedUnits, manner_of}
use Rattle.unit_verdicts.proofs.Asking.{asks_all, asks_prefix, prefix_all}
use Rattle.assembly_reports.specs.JudgedUnits.{asked_for, judged_keys, with_judged}
use Rattle.assembly_reports.specs.CheckText.{all_shown, findings, outcome_finding, outcome_shown}
use Rattle.assembly_reports.specs.Findings.{IsWithin}
use Rattle.assembly_reports.specs.InferredUnits.{entry_by}
use Rattle.assembly_reports.proofs.FewMethods.{methods_are_few}
use Rattle.assembly_reports.proofs.FindAll.{AreKnown, all_taken, found_few, found_next, known_next, shown_next, there}
use Rattle.assembly_reports.proofs.KeysAsked.{asked_next, prefix_at_next, prefix_of_whole, judged_next, keys_of}
use Rattle.assembly_reports.proofs.check_report.find_each.Goals as goal

pub find-requires : goal.find-requires
find-requires g c =
    let files = files_in c.args.units.now in
    let same = c.loop-index.invariant.same in
    let below : c.loop-index.index < length (methods_of (files.bytes c.args.file)) = rw (← c.methods-methods.ensures.methods) c.loop-index-test.true in
    record { file = rw same c.requires; there = rw same below }

pub loop-index-preserved : goal.loop-index-preserved
loop-index-preserved g c =
    let files = files_in c.args.units.now in
    let of = outcome_in (scope_in files c.args.file) in
    let rows = methods_of (files.bytes c.args.file) in
    let n = c.loop-index.index in
    let same = c.loop-index.invariant.same in
    let below : n < length rows = rw (← c.methods-methods.ensures.methods) c.loop-index-test.true in
    let method = there rows n below in
    let at = method.1 in
    let judged = (rw same at c.in_ok-find.ensures.cache) method.0 at in
    let cache = c.args.cache.now in
    let so_far = c.loop-index.invariant.judged in
    record {
      same = c.find.ensures.same ∙ same;
      end = c.loop-index.invariant.end;
      value =
          rw c.in_ok-push.ensures.items (found_next of (pick_from cache.held) rows n method.0 c.loop-index.found.items c.in_ok-find.field-0 method.2 c.loop-index.invariant.value
          ((rw same at c.in_ok-find.ensures.value) method.0 at ∙ ap (λ (units : CachedUnits). outcome_finding (pick_from units.held) (of method.0)) so_far));
      shown =
          rw c.in_ok-push.ensures.items (shown_next of (manner_of cache) rows n method.0 c.loop-index.found.items c.in_ok-find.field-0 method.2 c.loop-index.invariant.shown
          ((rw same at c.in_ok-find.ensures.shown) method.0 at ∙ ap (λ (units : CachedUnits). outcome_shown (manner_of units) (of method.0)) so_far));
      within = rw c.in_ok-push.ensures.items (All-push IsWithin c.loop-index.found.items c.in_ok-find.field-0 c.loop-index.invariant.within c.in_ok-find.ensures.within);
      known = known_next of rows n method.0 method.2 c.loop-index.invariant.known ((rw same at c.in_ok-find.ensures.runnable) method.0 at);
      judged = judged_next of rows n method.0 cache c.loop-index.cache method.2 so_far c.find.new.cache judged;
      asked = asked_next of rows n method.0 cache c.loop-index.cache method.2 so_far (g.D.Finder.asked c.args.finder.now) _ _ c.loop-index.invariant.asked (Asks.whole ((rw same at c.in_ok-find.ensures.asked) method.0 at));
    }

pub returns-clause-value : goal.returns-clause-value
returns-clause-value g c =
    let files = files_in c.args.units.now in
    let rows = methods_of (files.bytes c.args.file) in
    let long : length rows ≤ c.loop-index.index = rw (← c.methods-methods.ensures.methods) c.loop-index-test.false in
    c.loop-index.invariant.value ∙ ap (λ methods. findings (pick_from c.args.cache.now.held) (map (entry_by (outcome_in (scope_in files c.args.file))) methods)) (all_taken rows c.loop-index.index long)

pub returns-clause-shown : goal.returns-clause-shown
returns-clause-shown g c =
    let files = files_in c.args.units.now in
    let rows = methods_of (files.bytes c.args.file) in
    let long : length rows ≤ c.loop-index.index = rw (← c.methods-methods.ensures.methods) c.loop-index-test.false in
    c.loop-index.invariant.shown ∙ ap (λ methods. all_shown (manner_of c.args.cache.now) (map (entry_by (outcome_in (scope_in files c.args.file))) methods)) (all_taken rows c.loop-index.index long)

pub returns-clause-few : goal.returns-clause-few
returns-clause-few g c =
    let files = files_in c.args.units.now in
    let asm = files.bytes c.args.file in
    let few = methods_are_few asm c.methods-methods.ensures.accepted in
    let value = returns-clause-value g c in
    omega (arith, few, found_few (outcome_in (scope_in files c.args.file)) (pick_from c.args.cache.now.held) (methods_of asm) c.loop-index.found.items value, rows_count (metadata asm))

pub returns-clause-runnable : goal.returns-clause-runnable
returns-clause-runnable g c =
    let files = files_in c.args.units.now in
    let rows = methods_of (files.bytes c.args.file) in
    let long : length rows ≤ c.loop-index.index = rw (← c.methods-methods.ensures.methods) c.loop-index-test.false in
    subst (AreKnown (outcome_in (scope_in files c.args.file))) (all_taken rows c.loop-index.index long) c.loop-index.invariant.known

-- ---- what was asked

pub returns-in_err-find-clause-asked : goal.returns-in_err-find-clause-asked
returns-in_err-find-clause-asked g c =
    let files = files_in c.args.units.now in
    let of = outcome_in (scope_in files c.args.file) in
    let rows = methods_of (files.bytes c.args.file) in
    let cache = c.args.cache.now in
    let n = c.loop-index.index in
    let same = c.loop-index.invariant.same in
    let below : n < length rows = rw (← c.methods-methods.ensures.methods) c.loop-index-test.true in
    let method = there rows n below in
    let p = err_from_is_err_and c.from_residual.result c.from_residual.ensures.1 in
    let prefix = Asks.prefix ((rw same at c.in_err-find.ensures.asked) method.0 method.1) in
    asks_prefix (asked_for cache (judged_keys (entries_in files c.args.file))) c.from_residual.result p.0 _ _ p.1
    (prefix_at_next of rows n method.0 cache c.loop-index.cache method.2 c.loop-index.invariant.judged _ _ _ c.loop-index.invariant.asked prefix)

pub returns-in_err-push-clause-asked : goal.returns-in_err-push-clause-asked
returns-in_err-push-clause-asked g c =
    let files = files_in c.args.units.now in
    let of = outcome_in (scope_in files c.args.file) in
    let rows = methods_of (files.bytes c.args.file) in
    let cache = c.args.cache.now in
    let n = c.loop-index.index in
    let same = c.loop-index.invariant.same in
    let below : n < length rows = rw (← c.methods-methods.ensures.methods) c.loop-index-test.true in
    let method = there rows n below in
    let p = err_from_is_err_and c.from_residual-in_err-push.result c.from_residual-in_err-push.ensures.1 in
    let old = g.D.Finder.asked c.args.finder.now in
    let asked = asked_next of rows n method.0 cache c.loop-index.cache method.2 c.loop-index.invariant.judged old _ _ c.loop-index.invariant.asked
    (Asks.whole ((rw same at c.in_ok-find.ensures.asked) method.0 method.1)) in
    asks_prefix (asked_for cache (judged_keys (entries_in files c.args.file))) c.from_residual-in_err-push.result p.0 _ _ p.1
    (prefix_of_whole of rows (n + 1) cache old _ (prefix_all (asked_for cache (keys_of of (take (n + 1) rows))) old _ asked))

pub returns-clause-asked : goal.returns-clause-asked
returns-clause-asked g c =
    let files = files_in c.args.units.now in
    let of = outcome_in (scope_in files c.args.file) in
    let rows = methods_of (files.bytes c.args.file) in
    let cache = c.args.cache.now in
    let old = g.D.Finder.asked c.args.finder.now in
    let long : length rows ≤ c.loop-index.index = rw (← c.methods-methods.ensures.methods) c.loop-index-test.false in
    asks_all (asked_for cache (judged_keys (entries_in files c.args.file))) _ old _
    (c.loop-index.invariant.asked ∙ ap (λ methods. old ++ asked_for cache (keys_of of methods)) (all_taken rows c.loop-index.index long))

pub returns-clause-cache : goal.returns-clause-cache
returns-clause-cache g c =
    let files = files_in c.args.units.now in
    let rows = methods_of (files.bytes c.args.file) in
    let long : length rows ≤ c.loop-index.index = rw (← c.methods-methods.ensures.methods) c.loop-index-test.false in
    c.loop-index.invariant.judged ∙ ap (λ methods. with_judged c.args.cache.now (keys_of (outcome_in (scope_in files c.args.file)) methods)) (all_taken rows c.loop-index.index long)
