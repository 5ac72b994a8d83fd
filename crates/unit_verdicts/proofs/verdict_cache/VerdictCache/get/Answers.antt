use Rattle.std.proofs.Common.{Some, None, ap, sym, subst}
use Rattle.method_unit.specs.UnitFile.{unit_of}
use Rattle.unit_verdicts.specs.Picks.{Manner}
use Rattle.unit_verdicts.specs.VerdictCache.{CachedUnits, IsCached, manner_of}
use Rattle.unit_verdicts.specs.Verdicts.{AreVerdictsOf}
use Rattle.unit_verdicts.proofs.CacheLemmas.{found_cached, is_there}
use Rattle.unit_verdicts.proofs.verdict_cache.VerdictCache.get.Goals as goal

pub returns-in-Some-clause-there : goal.returns-in-Some-clause-there
returns-in-Some-clause-there c =
    is_there c.args.key.now c.self.inside.judged.entries c.args.self.now.keys (Some c.in-Some.unit) c.in-Some.ensures.value
    (ap (λ (cache : CachedUnits). cache.keys) c.self.view_is)

pub returns-in-Some-clause-value : goal.returns-in-Some-clause-value
returns-in-Some-clause-value c =
    let inside = c.self.inside in
    let cached = found_cached (IsCached inside.show inside.keeps inside.held) c.args.key.now inside.judged.entries c.in-Some.unit.now c.self.invariant.each
    (sym c.in-Some.ensures.value) in
    subst (λ (manner : Manner). AreVerdictsOf manner (unit_of c.args.key.now) c.in-Some.unit.now.found) (ap manner_of c.self.view_is) cached.found

pub returns-in-None-clause-there : goal.returns-in-None-clause-there
returns-in-None-clause-there c =
    is_there c.args.key.now c.self.inside.judged.entries c.args.self.now.keys None c.in-None.ensures.value
    (ap (λ (cache : CachedUnits). cache.keys) c.self.view_is)
