use Rattle.std.proofs.Common.{◌≡◌, ℕ, List, Some, slice_get, refl, sym, ap₂, subst, ◌∙◌}
use Rattle.unit_verdicts.specs.CacheFile.{held_or_own}
use Rattle.unit_verdicts.specs.Picks.{entries_in}
use Rattle.unit_verdicts.specs.VerdictCache.{CachedUnits, entries_kept, units_in}
use Rattle.unit_verdicts.proofs.KeptEntries.{kept_there}
use Rattle.unit_verdicts.proofs.verdict_cache.VerdictCacheEntries.entry_at.Goals as goal

pub returns : goal.returns
returns c =
    let inside = c.self.inside in
    let cache = units_in inside.show inside.keeps inside.held inside.judged.entries in
    let key = c.in-Some.key.now in
    let unit = c.in-Some.unit.now in
    let used = c.held_or_own-invariant.ensures ∙ ap₂ (held_or_own (entries_in inside.held)) c.deref.ensures.value c.deref-2.ensures.value in
    ap₂ (λ (key invariant : List ℕ). Some (key, invariant)) c.as_slice.ensures.value used
    ∙ subst (λ (cache : CachedUnits). Some (key.items, held_or_own (entries_in inside.held) key.items unit.invariant.items) ≡ slice_get (entries_kept cache) c.args.place) c.self.view_is
    (kept_there cache inside.judged.entries c.if-not-self.false refl c.args.place (key, unit) c.self.invariant (sym c.in-Some.ensures.entry))
