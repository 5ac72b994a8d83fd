use Rattle.std.proofs.Common.{◌≡◌, Ok, ◌+◌, ◌<◌, ◌≤◌, ◌++◌, length, map, take, ap, sym, subst, ◌∙◌, arith}
use Rattle.std.proofs.lemmas.List.Elements.{All-push}
use Rattle.std.proofs.lemmas.Result.{err_from_is_err_and}
use Rattle.asm_image.proofs.FindLemmas.{rows_count}
use Rattle.asm_image.specs.Rows.{methods_of}
use Rattle.pe_reader.specs.Addresses.{metadata}
use Rattle.unit_builder.specs.Outcomes.{entries_of}
use Rattle.unit_verdicts.specs.Asked.{Asks, AsksPrefix}
use Rattle.unit_verdicts.specs.Picks.{pick_from}
use Rattle.unit_verdicts.specs.VerdictCache.{CachedUnits, manner_of}
use Rattle.unit_verdicts.proofs.Asking.{asks_all, asks_prefix, prefix_all}
use Rattle.assembly_reports.specs.JudgedUnits.{asked_for, outcome_key, with_judged}
use Rattle.assembly_reports.specs.CheckText.{all_shown, findings, outcome_finding, outcome_shown}
use Rattle.assembly_reports.specs.Findings.{IsWithin}
use Rattle.assembly_reports.specs.InferredUnits.{all_candidates, entry_by, inferred_entries, inferred_outcome}
use Rattle.assembly_reports.proofs.FewMethods.{methods_are_few}
use Rattle.assembly_reports.proofs.FindAll.{all_taken, found_few, found_next, shown_next, there}
use Rattle.assembly_reports.proofs.KeysAsked.{asked_next, prefix_at_next, prefix_of_whole, judged_next, keys_of}
use Rattle.assembly_reports.proofs.inferring.find_each_inferred.Goals as goal

pub find_inferred-requires : goal.find_inferred-requires
find_inferred-requires g c =
    let asm = c.args.assembly.now in
    let below : c.loop-index.index < length (methods_of asm) = rw (← c.methods-methods.ensures.methods) c.loop-index-test.true in
    record {
      alone = c.loop-index.invariant.same ∙ c.requires.alone;
      there = below;
      inferred = c.requires.inferred ∙ ap (λ (units : CachedUnits). all_candidates (pick_from units.held) (entries_of asm)) (sym c.loop-index.invariant.judged);
      accepted = c.methods-methods.ensures.accepted;
      runnable = c.requires.runnable;
    }

pub loop-index-preserved : goal.loop-index-preserved
loop-index-preserved g c =
    let asm = c.args.assembly.now in
    let rows = methods_of asm in
    let cache = c.args.cache.now in
    let pick = pick_from cache.held in
    let of = inferred_outcome pick asm in
    let n = c.loop-index.index in
    let below : n < length rows = rw (← c.methods-methods.ensures.methods) c.loop-index-test.true in
    let method = there rows n below in
    let at = method.1 in
    let so_far = c.loop-index.invariant.judged in
    let now = c.loop-index.cache in
    let judged =
    subst (λ (units : CachedUnits). c.find_inferred.new.cache ≡ with_judged now (outcome_key (inferred_outcome (pick_from units.held) asm method.0))) so_far
    (c.in_ok-one.ensures.cache method.0 at) in
    record {
      same = c.find_inferred.ensures.same ∙ c.loop-index.invariant.same;
      end = c.loop-index.invariant.end;
      value =
          rw c.in_ok-push.ensures.items (found_next of pick rows n method.0 c.loop-index.found.items c.in_ok-one.one method.2 c.loop-index.invariant.value
          (c.in_ok-one.ensures.value method.0 at
          ∙ ap (λ (units : CachedUnits). outcome_finding (pick_from units.held) (inferred_outcome (pick_from units.held) asm method.0)) so_far));
      shown =
          rw c.in_ok-push.ensures.items (shown_next of (manner_of cache) rows n method.0 c.loop-index.found.items c.in_ok-one.one method.2 c.loop-index.invariant.shown
          (c.in_ok-one.ensures.shown method.0 at
          ∙ ap (λ (units : CachedUnits). outcome_shown (manner_of units) (inferred_outcome (pick_from units.held) asm method.0)) so_far));
      within = rw c.in_ok-push.ensures.items (All-push IsWithin c.loop-index.found.items c.in_ok-one.one c.loop-index.invariant.within c.in_ok-one.ensures.within);
      judged = judged_next of rows n method.0 cache now method.2 so_far c.find_inferred.new.cache judged;
      asked = asked_next of rows n method.0 cache now method.2 so_far (g.D.Finder.asked c.args.finder.now) _ _ c.loop-index.invariant.asked
          (Asks.whole (subst (λ (units : CachedUnits). Asks (asked_for now (outcome_key (inferred_outcome (pick_from units.held) asm method.0))) (Ok c.in_ok-one.one)
          (g.D.Finder.asked c.loop-index.finder) (g.D.Finder.asked c.find_inferred.new.finder)) so_far (c.in_ok-one.ensures.asked method.0 at)));
    }

pub returns-clause-value : goal.returns-clause-value
unfolding inferred_entries
returns-clause-value g c =
    let rows = methods_of c.args.assembly.now in
    let pick = pick_from c.args.cache.now.held in
    let long : length rows ≤ c.loop-index.index = rw (← c.methods-methods.ensures.methods) c.loop-index-test.false in
    c.loop-index.invariant.value ∙ ap (λ methods. findings pick (map (entry_by (inferred_outcome pick c.args.assembly.now)) methods)) (all_taken rows c.loop-index.index long)

pub returns-clause-shown : goal.returns-clause-shown
unfolding inferred_entries
returns-clause-shown g c =
    let rows = methods_of c.args.assembly.now in
    let pick = pick_from c.args.cache.now.held in
    let long : length rows ≤ c.loop-index.index = rw (← c.methods-methods.ensures.methods) c.loop-index-test.false in
    c.loop-index.invariant.shown ∙ ap (λ methods. all_shown (manner_of c.args.cache.now) (map (entry_by (inferred_outcome pick c.args.assembly.now)) methods)) (all_taken rows c.loop-index.index long)

pub returns-clause-few : goal.returns-clause-few
unfolding inferred_entries
returns-clause-few g c =
    let asm = c.args.assembly.now in
    let pick = pick_from c.args.cache.now.held in
    let few = methods_are_few asm c.methods-methods.ensures.accepted in
    omega (arith, few, found_few (inferred_outcome pick asm) pick (methods_of asm) c.loop-index.found.items (returns-clause-value g c), rows_count (metadata asm))

-- ---- what was asked

pub returns-in_err-one-clause-asked : goal.returns-in_err-one-clause-asked
unfolding inferred_entries
returns-in_err-one-clause-asked g c =
    let asm = c.args.assembly.now in
    let rows = methods_of asm in
    let cache = c.args.cache.now in
    let of = inferred_outcome (pick_from cache.held) asm in
    let n = c.loop-index.index in
    let below : n < length rows = rw (← c.methods-methods.ensures.methods) c.loop-index-test.true in
    let method = there rows n below in
    let p = err_from_is_err_and c.from_residual.result c.from_residual.ensures.1 in
    let so_far = c.loop-index.invariant.judged in
    let now = c.loop-index.cache in
    let prefix = subst (λ (units : CachedUnits). AsksPrefix (asked_for now (outcome_key (inferred_outcome (pick_from units.held) asm method.0)))
    (g.D.Finder.asked c.loop-index.finder) (g.D.Finder.asked c.find_inferred.new.finder)) so_far (Asks.prefix (c.in_err-one.ensures.asked method.0 method.1)) in
    asks_prefix (asked_for cache (keys_of of rows)) c.from_residual.result p.0 _ _ p.1
    (prefix_at_next of rows n method.0 cache now method.2 so_far _ _ _ c.loop-index.invariant.asked prefix)

pub returns-in_err-push-clause-asked : goal.returns-in_err-push-clause-asked
unfolding inferred_entries
returns-in_err-push-clause-asked g c =
    let asm = c.args.assembly.now in
    let rows = methods_of asm in
    let cache = c.args.cache.now in
    let of = inferred_outcome (pick_from cache.held) asm in
    let n = c.loop-index.index in
    let below : n < length rows = rw (← c.methods-methods.ensures.methods) c.loop-index-test.true in
    let method = there rows n below in
    let p = err_from_is_err_and c.from_residual-in_err-push.result c.from_residual-in_err-push.ensures.1 in
    let old = g.D.Finder.asked c.args.finder.now in
    let so_far = c.loop-index.invariant.judged in
    let now = c.loop-index.cache in
    let asked = asked_next of rows n method.0 cache now method.2 so_far old _ _ c.loop-index.invariant.asked
    (Asks.whole (subst (λ (units : CachedUnits). Asks (asked_for now (outcome_key (inferred_outcome (pick_from units.held) asm method.0))) (Ok c.in_ok-one.one)
    (g.D.Finder.asked c.loop-index.finder) (g.D.Finder.asked c.find_inferred.new.finder)) so_far (c.in_ok-one.ensures.asked method.0 method.1))) in
    asks_prefix (asked_for cache (keys_of of rows)) c.from_residual-in_err-push.result p.0 _ _ p.1
    (prefix_of_whole of rows (n + 1) cache old _ (prefix_all (asked_for cache (keys_of of (take (n + 1) rows))) old _ asked))

pub returns-clause-asked : goal.returns-clause-asked
unfolding inferred_entries
returns-clause-asked g c =
    let rows = methods_of c.args.assembly.now in
    let cache = c.args.cache.now in
    let of = inferred_outcome (pick_from cache.held) c.args.assembly.now in
    let old = g.D.Finder.asked c.args.finder.now in
    let long : length rows ≤ c.loop-index.index = rw (← c.methods-methods.ensures.methods) c.loop-index-test.false in
    asks_all (asked_for cache (keys_of of rows)) _ old _
    (c.loop-index.invariant.asked ∙ ap (λ methods. old ++ asked_for cache (keys_of of methods)) (all_taken rows c.loop-index.index long))

pub returns-clause-cache : goal.returns-clause-cache
unfolding inferred_entries
returns-clause-cache g c =
    let rows = methods_of c.args.assembly.now in
    let of = inferred_outcome (pick_from c.args.cache.now.held) c.args.assembly.now in
    let long : length rows ≤ c.loop-index.index = rw (← c.methods-methods.ensures.methods) c.loop-index-test.false in
    c.loop-index.invariant.judged ∙ ap (λ methods. with_judged c.args.cache.now (keys_of of methods)) (all_taken rows c.loop-index.index long)
