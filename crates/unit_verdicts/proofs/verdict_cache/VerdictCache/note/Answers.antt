use Rattle.std.proofs.Common.{◌≡◌, false, List, ℕ, ap, sym, subst}
use Rattle.result_cache.specs.Entries.{is_among}
use Rattle.unit_verdicts.specs.VerdictCache.{CachedUnits, IsCached}
use Rattle.unit_verdicts.proofs.CacheLemmas.{cached_noted, keys_noted, noted_last}
use Rattle.unit_verdicts.proofs.verdict_cache.VerdictCache.note.Goals as goal

pub invariant_of-self-2 : goal.invariant_of-self-2
invariant_of-self-2 c =
    let old = c.self.inside.judged.entries in
    let new = c.insert.new.self.entries in
    let keys = ap (λ (cache : CachedUnits). cache.keys) c.self.view_is in
    let last = noted_last old new c.args.key c.args.unit c.args.self.now.keys keys c.requires.new c.in_ok-insert.ensures.entries in
    let absent = subst (λ (seen : List (List ℕ)). is_among seen c.args.key.items ≡ false) (sym keys) c.requires.new in
    let its = subst (λ (cache : CachedUnits). IsCached cache.show cache.keeps cache.held c.args.key.items c.args.unit) (sym c.self.view_is) c.requires.cached in
    cached_noted c.self.inside.show c.self.inside.keeps c.self.inside.held old new c.args.key c.args.unit last c.self.invariant absent its

pub returns-clause-keys : goal.returns-clause-keys
returns-clause-keys c =
    let old = c.self.inside.judged.entries in
    let new = c.insert.new.self.entries in
    let keys = ap (λ (cache : CachedUnits). cache.keys) c.self.view_is in
    let last = noted_last old new c.args.key c.args.unit c.args.self.now.keys keys c.requires.new c.in_ok-insert.ensures.entries in
    keys_noted old new c.args.key c.args.unit c.args.self.now.keys keys last
