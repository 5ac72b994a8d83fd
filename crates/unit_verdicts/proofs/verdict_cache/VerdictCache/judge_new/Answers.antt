use Rattle.std.proofs.Common.{refl, ◌∙◌}
use Rattle.std.proofs.lemmas.Result.{err_from_is_err_and}
use Rattle.unit_verdicts.specs.VerdictCache.{IsCached, manner_of}
use Rattle.unit_verdicts.proofs.Asking.{asks_nothing}
use Rattle.unit_verdicts.proofs.FoundOf.{found_again, found_copied}
use Rattle.unit_verdicts.proofs.verdict_cache.VerdictCache.judge_new.Goals as goal

pub returns-in_err-code-clause-asked : goal.returns-in_err-code-clause-asked
returns-in_err-code-clause-asked g c =
    let p = err_from_is_err_and c.from_residual.result c.from_residual.ensures.1 in
    asks_nothing _ c.from_residual.result p.0 _ _ p.1 refl

pub returns-clause-value : goal.returns-clause-value
returns-clause-value g c =
    let manner = manner_of c.args.self.now in
    let judged = c.in_ok-judged.judged.found in
    let again = found_again manner c.args.unit c.deref.result.now judged c.requires.unit (c.deref.ensures.value ∙ c.requires.key)
    (IsCached.found c.in_ok-judged.ensures.cached) in
    found_copied manner c.args.unit judged c.in_ok-found.found c.in_ok-found.ensures.verdicts c.in_ok-found.ensures.shown again
