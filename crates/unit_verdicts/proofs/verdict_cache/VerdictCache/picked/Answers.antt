use Rattle.std.proofs.Common.{Some, None, ap, sym, subst}
use Rattle.unit_verdicts.specs.VerdictCache.{CachedUnits, IsCached}
use Rattle.unit_verdicts.proofs.CacheLemmas.{found_cached, is_there}
use Rattle.unit_verdicts.proofs.verdict_cache.VerdictCache.picked.Goals as goal

pub invariant-requires-clause-cached : goal.invariant-requires-clause-cached
invariant-requires-clause-cached c =
    let inside = c.self.inside in
    let cached = found_cached (IsCached inside.show inside.keeps inside.held) c.args.key.now inside.judged.entries c.in-Some.unit.now c.self.invariant.each
    (sym c.in-Some.ensures.value) in
    subst (λ (cache : CachedUnits). IsCached cache.show cache.keeps cache.held c.args.key.now c.in-Some.unit.now) c.self.view_is cached

pub returns-in_default-clause-there : goal.returns-in_default-clause-there
returns-in_default-clause-there c =
    is_there c.args.key.now c.self.inside.judged.entries c.args.self.now.keys None (rw c.in_default.is at c.get.ensures.value)
    (ap (λ (cache : CachedUnits). cache.keys) c.self.view_is)

pub returns-clause-there : goal.returns-clause-there
returns-clause-there c =
    is_there c.args.key.now c.self.inside.judged.entries c.args.self.now.keys (Some c.in-Some.unit) c.in-Some.ensures.value
    (ap (λ (cache : CachedUnits). cache.keys) c.self.view_is)
