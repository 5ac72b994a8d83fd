-- The bytes of the invariant under which a unit was judged.
use Rattle.std.proofs.Common.{◌≡◌, ℕ, Bool, true, List, Option, Some, None, refl, sym, ap, subst, ◌∙◌}
use Rattle.std.specs.Prelude.{unwrap_or}
use Rattle.std.proofs.lemmas.Bool.{false≢true}
use Rattle.invariant_codec.specs.Invariants.{IsInvariant}
use Rattle.method_unit.specs.UnitFile.{unit_of}
use Rattle.result_cache.specs.Entries.{Entry, invariant_of}
use Rattle.unit_verdicts.specs.CacheFile.{held_or_own, invariant_used, limit_bytes}
use Rattle.unit_verdicts.specs.Picks.{entries_in, held_or_limit, limit_pick, pick_from, pick_of, states_in}
use Rattle.unit_verdicts.specs.VerdictCache.{CachedUnits, IsCached, IsHeldFor}
use Rattle.unit_verdicts.specs.declared.analysis.CachedUnit.{CachedUnit}
use Rattle.unit_verdicts.specs.declared.source.Source.{Source}
use Rattle.unit_verdicts.specs.declared.source.Source.TheVariants.{Cache as OfCache, Proof as OfProof}

-- ---- the bytes

module _ (show keeps : Bool) (held : Source) (key : List ℕ) (unit : CachedUnit) (cached : IsCached show keeps held key unit)
    (keeping : keeps ≡ true) where
  -- Where the cache file has none for the unit, what a finder answers can be read of its bytes.
  pub limit_again : invariant_of (entries_in held) key ≡ None → states_in (limit_bytes (unit_of key)) ≡ limit_pick (unit_of key)
  unfolding limit_bytes
  limit_again none = let its = cached.own keeping none in ap states_in (sym its.spelled) ∙ its.again

  -- What the cache file holds, or else what is kept of the unit, is what is used.
  pub used_is : held_or_own (entries_in held) key unit.invariant.items ≡ invariant_used (entries_in held) key
  unfolding limit_bytes
  used_is = by (invariant_of (entries_in held) key) refl
    where
      by : (found : Option (List ℕ)) → invariant_of (entries_in held) key ≡ found
          → unwrap_or found unit.invariant.items ≡ unwrap_or found (limit_bytes (unit_of key))
      by None none = (cached.own keeping none).spelled
      by (Some bytes) there = refl

-- ---- their states

-- They are the states that are picked for the unit.
pub used_states : (show keeps : Bool) (held : List Entry) (key : List ℕ) (unit : CachedUnit)
    → IsCached show keeps (OfCache held) key unit → keeps ≡ true
    → states_in (invariant_used held key) ≡ pick_of held (unit_of key)
used_states show keeps held key unit cached keeping =
    by (invariant_of held key) (limit_again show keeps (OfCache held) key unit cached keeping)
    ∙ ap (λ (found : Option (List ℕ)). held_or_limit found (unit_of key)) (ap (invariant_of held) (sym cached.is_key.spelled))
  where
    by : (found : Option (List ℕ)) → (found ≡ None → states_in (limit_bytes (unit_of key)) ≡ limit_pick (unit_of key))
        → states_in (unwrap_or found (limit_bytes (unit_of key))) ≡ held_or_limit found (unit_of key)
    by None limit = limit refl
    by (Some bytes) limit = refl

-- Whatever is held, where invariants are kept.
source_states : (show keeps : Bool) (held : Source) (key : List ℕ) (unit : CachedUnit) → IsCached show keeps held key unit
    → keeps ≡ true → IsHeldFor keeps held
    → states_in (invariant_used (entries_in held) key) ≡ pick_from held (unit_of key)
source_states show keeps (OfCache entries) key unit cached keeping held_for = used_states show keeps entries key unit cached keeping
source_states show keeps (OfProof entries) key unit cached keeping held_for = absurd (false≢true (sym held_for ∙ keeping))

-- The bytes can be read, and are those of the states that are picked for the unit of a key.
pub record AreUsed (held : Source) (key bytes : List ℕ) : Type 0 where
  pub invariant : IsInvariant bytes
  pub states : states_in bytes ≡ pick_from held (unit_of key)

pub are_used : (cache : CachedUnits) (key bytes : List ℕ) (unit : CachedUnit)
    → IsCached cache.show cache.keeps cache.held key unit → cache.keeps ≡ true → IsHeldFor cache.keeps cache.held
    → bytes ≡ held_or_own (entries_in cache.held) key unit.invariant.items → AreUsed cache.held key bytes
are_used cache key bytes unit cached keeping held_for is =
    let used = is ∙ used_is cache.show cache.keeps cache.held key unit cached keeping in
    record {
      invariant = subst IsInvariant (sym used) (cached.used keeping);
      states = ap states_in used ∙ source_states cache.show cache.keeps cache.held key unit cached keeping held_for;
    }
