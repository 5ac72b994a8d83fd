use Rattle.std.proofs.Common.{ap, subst}
use Rattle.std.specs.Prelude.{IfOk}
use Rattle.unit_verdicts.specs.VerdictCache.{CachedUnits, IsCached}
use Rattle.unit_verdicts.proofs.verdict_cache.VerdictCache.judge_code.Goals as goal

pub judge-requires-clause-held : goal.judge-requires-clause-held
judge-requires-clause-held g c = c.self.invariant.held_for

pub returns-clause-cached : goal.returns-clause-cached
returns-clause-cached g c =
    subst (λ (cache : CachedUnits). IfOk c.judge.result (IsCached cache.show cache.keeps cache.held c.args.key.now)) c.self.view_is c.judge.ensures.cached

pub returns-clause-asked : goal.returns-clause-asked
returns-clause-asked g c =
    let held = ap (λ (cache : CachedUnits). cache.held) c.self.view_is in
    rw held at c.judge.ensures.asked
