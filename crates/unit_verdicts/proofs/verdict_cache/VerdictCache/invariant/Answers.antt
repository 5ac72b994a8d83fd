use Rattle.std.proofs.Common.{◌≡◌, List, ap, subst, ◌∙◌}
use Rattle.std.specs.Prelude.{IfOk}
use Rattle.unit_verdicts.specs.CacheFile.{held_or_own}
use Rattle.unit_verdicts.specs.Picks.{entries_in}
use Rattle.unit_verdicts.specs.VerdictCache.{CachedUnits, IsHeldFor}
use Rattle.state_facts.specs.StateFacts.{State}
use Rattle.unit_verdicts.proofs.UsedBytes.{are_used}
use Rattle.unit_verdicts.proofs.verdict_cache.VerdictCache.invariant.Goals as goal

pub invariant_in-requires-clause-invariant : goal.invariant_in-requires-clause-invariant
invariant_in-requires-clause-invariant c =
    let key = c.args.key.now in
    let unit = c.args.unit.now in
    let held_for = subst (λ (cache : CachedUnits). IsHeldFor cache.keeps cache.held) c.self.view_is c.self.invariant.held_for in
    let bytes = c.in_ok-readable.ensures.same ∙ c.held_or_own-bytes.ensures ∙ ap (held_or_own (entries_in c.self.inside.held) key) c.deref.ensures.value
    ∙ ap (λ (cache : CachedUnits). held_or_own (entries_in cache.held) key unit.invariant.items) c.self.view_is in
    (are_used c.args.self.now key _ unit c.requires.cached c.requires.keeps held_for bytes).invariant

pub returns : goal.returns
returns c =
    let key = c.args.key.now in
    let unit = c.args.unit.now in
    let held_for = subst (λ (cache : CachedUnits). IsHeldFor cache.keeps cache.held) c.self.view_is c.self.invariant.held_for in
    let bytes = c.in_ok-readable.ensures.same ∙ c.held_or_own-bytes.ensures ∙ ap (held_or_own (entries_in c.self.inside.held) key) c.deref.ensures.value
    ∙ ap (λ (cache : CachedUnits). held_or_own (entries_in cache.held) key unit.invariant.items) c.self.view_is in
    let used = are_used c.args.self.now key _ unit c.requires.cached c.requires.keeps held_for bytes in
    subst (λ (states : List State). IfOk c.invariant_in.result (λ invariant. invariant.states.items ≡ states)) used.states c.invariant_in.ensures.value
