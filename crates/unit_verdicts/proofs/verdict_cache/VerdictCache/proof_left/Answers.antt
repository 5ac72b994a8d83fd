use Rattle.std.proofs.Common.{ap, refl, subst}
use Rattle.result_cache.specs.Entries.{AreEntries}
use Rattle.unit_verdicts.specs.VerdictCache.{AreCached, CachedUnits, entries_kept, units_in}
use Rattle.unit_verdicts.proofs.KeptEntries.{kept_are}
use Rattle.unit_verdicts.proofs.KeptProof.{proof_is_left, proof_value}
use Rattle.unit_verdicts.proofs.verdict_cache.VerdictCache.proof_left.Goals as goal

pub proof_text-requires : goal.proof_text-requires
proof_text-requires c =
    let inside = c.self.inside in
    let cache = units_in inside.show inside.keeps inside.held inside.judged.entries in
    subst (λ (cache : CachedUnits). AreEntries (entries_kept cache)) c.self.view_is (kept_are cache inside.judged.entries c.self.invariant refl)

pub returns-clause-value : goal.returns-clause-value
returns-clause-value c =
    let inside = c.self.inside in
    let cached = subst (λ (cache : CachedUnits). AreCached cache.show cache.keeps cache.held inside.judged.entries) c.self.view_is c.self.invariant in
    proof_value c.args.self.now inside.judged.entries cached (ap (λ (cache : CachedUnits). cache.keys) c.self.view_is) c.requires
    c.into_bytes.result.items _ c.into_bytes.ensures.value c.in_ok-text.ensures.made.text

pub returns-clause-left : goal.returns-clause-left
returns-clause-left c =
    let inside = c.self.inside in
    let cached = subst (λ (cache : CachedUnits). AreCached cache.show cache.keeps cache.held inside.judged.entries) c.self.view_is c.self.invariant in
    let keys = ap (λ (cache : CachedUnits). cache.keys) c.self.view_is in
    proof_is_left c.args.self.now inside.judged.entries cached keys c.requires c.into_bytes.result.items
    (proof_value c.args.self.now inside.judged.entries cached keys c.requires c.into_bytes.result.items _ c.into_bytes.ensures.value c.in_ok-text.ensures.made.text)
    c.in_ok-text.ensures.entries (c.into_bytes.ensures.file _ c.in_ok-text.ensures.made)
