use Rattle.std.proofs.Common.{ℕ, List, [], ◌∷◌, refl, sym, ap, subst, ◌∙◌, arith}
use Rattle.unit_flow.specs.Flow.{IsLawful}
use Rattle.unit_verdicts.specs.Asked.{Asks}
use Rattle.unit_verdicts.proofs.Asking.{asks_none}
use Rattle.unit_verdicts.proofs.CacheLemmas.{short_held}
use Rattle.unit_verdicts.proofs.FoundOf.{cached_found, cached_held}
use Rattle.unit_verdicts.proofs.UnitSafety.{lawful_flow}
use Rattle.unit_verdicts.proofs.Unseen.{without_held, without_new}
use Rattle.unit_verdicts.proofs.analysis.judge_cached.Goals as goal

pub judge_held-requires-clause-lawful : goal.judge_held-requires-clause-lawful
judge_held-requires-clause-lawful g c =
    subst IsLawful (sym c.requires.flow) (lawful_flow c.args.code.now.unit c.requires.unit)

pub judge_found-requires : goal.judge_found-requires
judge_found-requires g c =
    record { lawful = subst IsLawful (sym c.requires.flow) (lawful_flow c.args.code.now.unit c.requires.unit) }

pub judge_held-requires-clause-short : goal.judge_held-requires-clause-short
judge_held-requires-clause-short g c =
    omega (arith, short_held c.args.cache.now c.args.key.now c.in-Some.bytes.now c.requires.short c.in-Some.ensures.value)

pub returns-in-Some-clause-cached : goal.returns-in-Some-clause-cached
returns-in-Some-clause-cached g c =
    cached_held c.judge_held.result c.args.show c.args.keeps c.args.cache.now c.args.code.now c.args.key.now c.in-Some.bytes.now c.requires.unit c.requires.flow
    c.requires.key c.in-Some.ensures.value c.in-Some.ensures.invariant c.judge_held.ensures

pub returns-in-Some-clause-asked : goal.returns-in-Some-clause-asked
returns-in-Some-clause-asked g c =
    let asked = g.D.Finder.asked c.args.finder.now in
    subst (λ (keys : List (List ℕ)). Asks keys c.judge_held.result asked asked)
    (sym (without_held c.args.cache.now c.args.key.now c.in-Some.bytes.now c.in-Some.ensures.value)) (asks_none c.judge_held.result asked asked refl)

pub returns-in-None-clause-cached : goal.returns-in-None-clause-cached
returns-in-None-clause-cached g c =
    cached_found c.judge_found.result c.args.show c.args.keeps c.args.cache.now c.args.code.now c.args.key.now c.requires.unit c.requires.flow
    c.requires.key c.in-None.ensures.value c.judge_found.ensures.value c.judge_found.ensures.invariant

pub returns-in-None-clause-asked : goal.returns-in-None-clause-asked
returns-in-None-clause-asked g c =
    subst (λ (keys : List (List ℕ)). Asks keys c.judge_found.result (g.D.Finder.asked c.args.finder.now) (g.D.Finder.asked c.judge_found.new.finder))
    (ap (λ (key : List ℕ). key ∷ []) (sym c.requires.key) ∙ sym (without_new c.args.cache.now c.args.key.now c.in-None.ensures.value)) c.judge_found.ensures.asked
