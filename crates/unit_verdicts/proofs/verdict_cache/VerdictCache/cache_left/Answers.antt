use Rattle.std.proofs.Common.{ℕ, Vec, Global, refl, ap, subst}
use Rattle.result_cache.specs.Entries.{AreEntries}
use Rattle.unit_verdicts.specs.VerdictCache.{AreCached, CachedUnits, entries_kept, units_in}
use Rattle.unit_verdicts.proofs.KeptEntries.{kept_are, left_file, left_honest, left_value}
use Rattle.unit_verdicts.proofs.verdict_cache.VerdictCache.cache_left.Goals as goal

pub cache_bytes-requires : goal.cache_bytes-requires
cache_bytes-requires c =
    let inside = c.self.inside in
    let cache = units_in inside.show inside.keeps inside.held inside.judged.entries in
    subst (λ (cache : CachedUnits). AreEntries (entries_kept cache)) c.self.view_is (kept_are cache inside.judged.entries c.self.invariant refl)

pub returns-clause-value : goal.returns-clause-value
returns-clause-value c = left_value (λ (bytes : Vec ℕ Global). bytes.items) c.args.self.now c.requires c.cache_bytes.result c.cache_bytes.ensures.value

pub returns-clause-file : goal.returns-clause-file
returns-clause-file c = left_file (λ (bytes : Vec ℕ Global). bytes.items) c.args.self.now c.requires c.cache_bytes.result c.cache_bytes.ensures.file

pub returns-clause-honest : goal.returns-clause-honest
returns-clause-honest c =
    let inside = c.self.inside in
    let cached = subst (λ (cache : CachedUnits). AreCached cache.show cache.keeps cache.held inside.judged.entries) c.self.view_is c.self.invariant in
    λ honest. left_honest (λ (bytes : Vec ℕ Global). bytes.items) c.args.self.now c.requires c.cache_bytes.result inside.judged.entries cached
    (ap (λ (cache : CachedUnits). cache.keys) c.self.view_is) honest c.cache_bytes.ensures.file
