use Rattle.std.proofs.Common.{◌≡◌, ◌+◌, ◌<◌, ◌≤◌, ◌++◌, true, length, map, take, ap, subst, ◌∙◌}
use Rattle.std.proofs.lemmas.Result.{err_from_is_err_and}
use Rattle.asm_image.specs.Rows.{methods_of}
use Rattle.unit_builder.specs.FileSets.{files_in}
use Rattle.unit_builder.specs.Outcomes.{entries_in, entry_in, outcome_in}
use Rattle.unit_builder.specs.Scopes.{scope_in}
use Rattle.unit_verdicts.specs.Asked.{Asks}
use Rattle.unit_verdicts.specs.Picks.{pick_from}
use Rattle.unit_verdicts.specs.VerdictCache.{CachedUnits}
use Rattle.unit_verdicts.proofs.Asking.{asks_all, asks_prefix, prefix_all}
use Rattle.assembly_reports.specs.JudgedUnits.{asked_for, judged_keys, with_judged}
use Rattle.assembly_reports.specs.InferredUnits.{all_candidates, outcome_candidates}
use Rattle.assembly_reports.proofs.FindAll.{AreKnown, all_taken, candidates_next, known_next, there}
use Rattle.assembly_reports.proofs.KeysAsked.{asked_next, prefix_at_next, prefix_of_whole, judged_next, keys_of}
use Rattle.assembly_reports.proofs.inferring.infer_each.Goals as goal

pub infer_at-requires : goal.infer_at-requires
infer_at-requires g c =
    let files = files_in c.args.units.now in
    let same = c.loop-index.invariant.same in
    let below : c.loop-index.index < length (methods_of (files.bytes c.args.file)) = rw (← c.methods-methods.ensures.methods) c.loop-index-test.true in
    let keeps : c.loop-index.cache.keeps ≡ true = ap (λ (cache : CachedUnits). cache.keeps) c.loop-index.invariant.judged ∙ c.requires.keeps in
    record { file = rw same c.requires.file; there = rw same below; keeps = keeps }

pub loop-index-preserved : goal.loop-index-preserved
loop-index-preserved g c =
    let files = files_in c.args.units.now in
    let of = outcome_in (scope_in files c.args.file) in
    let rows = methods_of (files.bytes c.args.file) in
    let n = c.loop-index.index in
    let same = c.loop-index.invariant.same in
    let below : n < length rows = rw (← c.methods-methods.ensures.methods) c.loop-index-test.true in
    let method = there rows n below in
    let at = method.1 in
    let judged = (rw same at c.in_ok-infer_at.ensures.cache) method.0 at in
    let cache = c.args.cache.now in
    let so_far = c.loop-index.invariant.judged in
    record {
      same = c.infer_at.ensures.same ∙ same;
      end = c.loop-index.invariant.end;
      value =
          rw c.in_ok-push.ensures.items (candidates_next of (pick_from cache.held) rows n method.0 c.loop-index.inferred.items c.in_ok-infer_at.field-0 method.2 c.loop-index.invariant.value
          ((rw same at c.in_ok-infer_at.ensures.value) method.0 at ∙ ap (λ (units : CachedUnits). outcome_candidates (pick_from units.held) (of method.0)) so_far));
      known = known_next of rows n method.0 method.2 c.loop-index.invariant.known ((rw same at c.in_ok-infer_at.ensures.runnable) method.0 at);
      judged = judged_next of rows n method.0 cache c.loop-index.cache method.2 so_far c.infer_at.new.cache judged;
      asked = asked_next of rows n method.0 cache c.loop-index.cache method.2 so_far (g.D.Finder.asked c.args.finder.now) _ _ c.loop-index.invariant.asked (Asks.whole ((rw same at c.in_ok-infer_at.ensures.asked) method.0 at));
    }

pub returns-clause-value : goal.returns-clause-value
returns-clause-value g c =
    let files = files_in c.args.units.now in
    let rows = methods_of (files.bytes c.args.file) in
    let long : length rows ≤ c.loop-index.index = rw (← c.methods-methods.ensures.methods) c.loop-index-test.false in
    c.loop-index.invariant.value ∙ ap (λ methods. all_candidates (pick_from c.args.cache.now.held) (map (entry_in (scope_in files c.args.file)) methods)) (all_taken rows c.loop-index.index long)

pub returns-clause-runnable : goal.returns-clause-runnable
returns-clause-runnable g c =
    let files = files_in c.args.units.now in
    let rows = methods_of (files.bytes c.args.file) in
    let long : length rows ≤ c.loop-index.index = rw (← c.methods-methods.ensures.methods) c.loop-index-test.false in
    subst (AreKnown (outcome_in (scope_in files c.args.file))) (all_taken rows c.loop-index.index long) c.loop-index.invariant.known

-- ---- what was asked

pub returns-in_err-infer_at-clause-asked : goal.returns-in_err-infer_at-clause-asked
returns-in_err-infer_at-clause-asked g c =
    let files = files_in c.args.units.now in
    let of = outcome_in (scope_in files c.args.file) in
    let rows = methods_of (files.bytes c.args.file) in
    let cache = c.args.cache.now in
    let n = c.loop-index.index in
    let same = c.loop-index.invariant.same in
    let below : n < length rows = rw (← c.methods-methods.ensures.methods) c.loop-index-test.true in
    let method = there rows n below in
    let p = err_from_is_err_and c.from_residual.result c.from_residual.ensures.1 in
    let prefix = Asks.prefix ((rw same at c.in_err-infer_at.ensures.asked) method.0 method.1) in
    asks_prefix (asked_for cache (judged_keys (entries_in files c.args.file))) c.from_residual.result p.0 _ _ p.1
    (prefix_at_next of rows n method.0 cache c.loop-index.cache method.2 c.loop-index.invariant.judged _ _ _ c.loop-index.invariant.asked prefix)

pub returns-in_err-push-clause-asked : goal.returns-in_err-push-clause-asked
returns-in_err-push-clause-asked g c =
    let files = files_in c.args.units.now in
    let of = outcome_in (scope_in files c.args.file) in
    let rows = methods_of (files.bytes c.args.file) in
    let cache = c.args.cache.now in
    let n = c.loop-index.index in
    let same = c.loop-index.invariant.same in
    let below : n < length rows = rw (← c.methods-methods.ensures.methods) c.loop-index-test.true in
    let method = there rows n below in
    let p = err_from_is_err_and c.from_residual-in_err-push.result c.from_residual-in_err-push.ensures.1 in
    let old = g.D.Finder.asked c.args.finder.now in
    let asked = asked_next of rows n method.0 cache c.loop-index.cache method.2 c.loop-index.invariant.judged old _ _ c.loop-index.invariant.asked
    (Asks.whole ((rw same at c.in_ok-infer_at.ensures.asked) method.0 method.1)) in
    asks_prefix (asked_for cache (judged_keys (entries_in files c.args.file))) c.from_residual-in_err-push.result p.0 _ _ p.1
    (prefix_of_whole of rows (n + 1) cache old _ (prefix_all (asked_for cache (keys_of of (take (n + 1) rows))) old _ asked))

pub returns-clause-asked : goal.returns-clause-asked
returns-clause-asked g c =
    let files = files_in c.args.units.now in
    let of = outcome_in (scope_in files c.args.file) in
    let rows = methods_of (files.bytes c.args.file) in
    let cache = c.args.cache.now in
    let old = g.D.Finder.asked c.args.finder.now in
    let long : length rows ≤ c.loop-index.index = rw (← c.methods-methods.ensures.methods) c.loop-index-test.false in
    asks_all (asked_for cache (judged_keys (entries_in files c.args.file))) _ old _
    (c.loop-index.invariant.asked ∙ ap (λ methods. old ++ asked_for cache (keys_of of methods)) (all_taken rows c.loop-index.index long))

pub returns-clause-cache : goal.returns-clause-cache
returns-clause-cache g c =
    let files = files_in c.args.units.now in
    let rows = methods_of (files.bytes c.args.file) in
    let long : length rows ≤ c.loop-index.index = rw (← c.methods-methods.ensures.methods) c.loop-index-test.false in
    c.loop-index.invariant.judged ∙ ap (λ methods. with_judged c.args.cache.now (keys_of (outcome_in (scope_in files c.args.file)) methods)) (all_taken rows c.loop-index.index long)
