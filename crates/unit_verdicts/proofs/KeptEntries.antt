-- The entries that are kept, and the file of them.
use Rattle.std.proofs.Common.{◌≡◌, ℕ, zero, suc, ◌-◌, Bool, true, false, List, [], ◌∷◌, ◌++◌, cond, slice_get, Option, Some, option_map, Result, Ok, Err, refl, sym, ap, subst, ◌∙◌}
use Rattle.std.specs.Prelude.{IfOk, nat_le}
use Rattle.std.specs.List.{AllByRecursion}
use Rattle.invariant_codec.specs.Invariants.{IsInvariant}
use Rattle.result_cache.specs.Entries.{AreEntries, AreEntriesBehind, Entry}
use Rattle.result_cache.specs.Spelling.{IsCacheFile, entry_size, file_bytes, kept, kept_within}
use Rattle.result_cache.specs.declared.cache_form.CacheForm.TheVariants.{Second}
use Rattle.unit_verdicts.specs.CacheFile.{AreHonest, IsHonest, IsHonestFile, cache_left, entries_used, held_or_own, invariant_used}
use Rattle.unit_verdicts.specs.Picks.{entries_in}
use Rattle.unit_verdicts.specs.VerdictCache.{AreCached, AreNew, CachedUnits, IsCached, JudgedEntry, entries_kept, keys_in}
use Rattle.unit_verdicts.specs.declared.source.Source.{Source}
use Rattle.unit_verdicts.proofs.CacheLemmas.{all_at, stands_at}
use Rattle.unit_verdicts.proofs.Honest.{used_honest}
use Rattle.unit_verdicts.proofs.UsedBytes.{limit_again, used_is}

-- ---- all of them

entries_are : (held : List Entry) (seen keys : List (List ℕ)) → AreNew seen keys
    → AllByRecursion (λ key. IsInvariant (invariant_used held key)) keys
    → AreEntriesBehind seen (entries_used held keys)
entries_are held seen [] new used = tt
entries_are held seen (key ∷ keys) new used = (new.0, used.0, entries_are held (seen ++ key ∷ []) keys new.1 used.1)

all_used : (show : Bool) (held : Source) (entries : List JudgedEntry)
    → AllByRecursion (λ entry. IsCached show true held entry.0.items entry.1) entries
    → AllByRecursion (λ key. IsInvariant (invariant_used (entries_in held) key)) (keys_in entries)
all_used show held [] all = tt
all_used show held (entry ∷ entries) all = (all.0.used refl, all_used show held entries all.1)

-- They are those of a cache.
pub kept_are : (cache : CachedUnits) (entries : List JudgedEntry) → AreCached cache.show cache.keeps cache.held entries
    → keys_in entries ≡ cache.keys
    → AreEntries (entries_kept cache)
kept_are cache entries cached keys = by cache.keeps cached
  where
    by : (keeps : Bool) → AreCached cache.show keeps cache.held entries
        → AreEntries (cond keeps (entries_used (entries_in cache.held) cache.keys) [])
    by true cached =
        subst (λ (keys : List (List ℕ)). AreEntries (entries_used (entries_in cache.held) keys)) keys
        (entries_are (entries_in cache.held) [] (keys_in entries) cached.keys (all_used cache.show cache.held entries cached.each))
    by false cached = tt

all_honest : (show : Bool) (held : Source) (entries : List JudgedEntry) → AreHonest (entries_in held)
    → AllByRecursion (λ entry. IsCached show true held entry.0.items entry.1) entries
    → AreHonest (entries_used (entries_in held) (keys_in entries))
all_honest show held [] honest all = tt
all_honest show held (entry ∷ entries) honest all = (
  used_honest (entries_in held) entry.0.items honest all.0.is_key (limit_again show true held entry.0.items entry.1 all.0 refl),
  all_honest show held entries honest all.1,
)

-- ---- those that have room

within_all : (P : Entry → Type 0) (left : ℕ) (entries : List Entry) → AllByRecursion P entries
    → AllByRecursion P (kept_within left entries)
within_all P left [] all = tt
within_all P left (e ∷ es) all = by (nat_le (entry_size e) left) (within_all P (left - entry_size e) es all.1)
  where
    by : (b : Bool) → AllByRecursion P (kept_within (left - entry_size e) es)
        → AllByRecursion P (cond b (e ∷ kept_within (left - entry_size e) es) [])
    by true later = (all.0, later)
    by false later = tt

kept_all : (P : Entry → Type 0) (entries : List Entry) → AllByRecursion P entries → AllByRecursion P (kept entries)
unfolding kept
kept_all P entries all = within_all P 67108856 entries all

-- ---- the file

-- What is kept, where something is.
pub entries_if : (cache : CachedUnits) → cache.keeps ≡ true → entries_kept cache ≡ entries_used (entries_in cache.held) cache.keys
entries_if cache keeps = ap (λ (b : Bool). cond b (entries_used (entries_in cache.held) cache.keys) []) keeps

module _ {X F : Type 0} (items : X → List ℕ) (cache : CachedUnits) (keeps : cache.keeps ≡ true) where
  pub left_value : (r : Result X F) → IfOk r (λ bytes. items bytes ≡ file_bytes Second (kept (entries_kept cache)))
      → IfOk r (λ bytes. items bytes ≡ cache_left (entries_in cache.held) cache.keys)
  unfolding cache_left
  left_value (Ok bytes) is = is ∙ ap (λ (es : List Entry). file_bytes Second (kept es)) (entries_if cache keeps)
  left_value (Err e) is = tt

  pub left_file : (r : Result X F) → IfOk r (λ bytes. IsCacheFile Second (kept (entries_kept cache)) (items bytes))
      → IfOk r (λ bytes. IsCacheFile Second (kept (entries_used (entries_in cache.held) cache.keys)) (items bytes))
  left_file (Ok bytes) is = subst (λ (es : List Entry). IsCacheFile Second (kept es) (items bytes)) (entries_if cache keeps) is
  left_file (Err e) is = tt

  pub left_honest : (r : Result X F) (entries : List JudgedEntry) → AreCached cache.show cache.keeps cache.held entries
      → keys_in entries ≡ cache.keys → AreHonest (entries_in cache.held)
      → IfOk r (λ bytes. IsCacheFile Second (kept (entries_kept cache)) (items bytes))
      → IfOk r (λ bytes. IsHonestFile (items bytes))
  left_honest (Ok bytes) entries cached keys honest is =
      let every = subst (λ (keeps : Bool). AllByRecursion (λ entry. IsCached cache.show keeps cache.held entry.0.items entry.1) entries) keeps cached.each in
      let all : AreHonest (entries_used (entries_in cache.held) cache.keys) =
      subst (λ (keys : List (List ℕ)). AreHonest (entries_used (entries_in cache.held) keys)) keys (all_honest cache.show cache.held entries honest every) in
      record {
        entries = kept (entries_used (entries_in cache.held) cache.keys);
        file = left_file (Ok bytes) is;
        honest = kept_all IsHonest (entries_used (entries_in cache.held) cache.keys) all;
      }
  left_honest (Err e) entries cached keys honest is = tt

-- ---- by places

-- The entry of a key.
abbrev entry_of : List Entry → List ℕ → Entry
entry_of held key = (key, invariant_used held key)

used_at : (held : List Entry) (keys : List (List ℕ)) (place : ℕ)
    → slice_get (entries_used held keys) place ≡ option_map (entry_of held) (slice_get keys place)
used_at held [] place = refl
used_at held (key ∷ keys) zero = refl
used_at held (key ∷ keys) (suc place) = used_at held keys place

-- The entry of what a map has at a place.
abbrev entry_there : List Entry → Option JudgedEntry → Option Entry
entry_there held found = option_map (entry_of held) (option_map (λ (entry : JudgedEntry). entry.0.items) found)

module _ (cache : CachedUnits) (entries : List JudgedEntry)
    (keeps : cache.keeps ≡ true) (keys : keys_in entries ≡ cache.keys) where
  -- What stands at a place, by what the map has there.
  kept_at : (place : ℕ) → slice_get (entries_kept cache) place ≡ entry_there (entries_in cache.held) (slice_get entries place)
  kept_at place =
      ap (λ (es : List Entry). slice_get es place) (entries_if cache keeps)
      ∙ ap (λ (ks : List (List ℕ)). slice_get (entries_used (entries_in cache.held) ks) place) (sym keys)
      ∙ used_at (entries_in cache.held) (keys_in entries) place
      ∙ ap (option_map (entry_of (entries_in cache.held))) (sym (stands_at entries place))

  -- What is read of that: the key, and the bytes that the cache file holds for it, or else those that are kept.
  pub kept_there : (place : ℕ) (entry : JudgedEntry) → AreCached cache.show cache.keeps cache.held entries
      → slice_get entries place ≡ Some entry
      → Some (entry.0.items, held_or_own (entries_in cache.held) entry.0.items entry.1.invariant.items) ≡ slice_get (entries_kept cache) place
  kept_there place entry cached is =
      let each = all_at (λ (e : JudgedEntry). IsCached cache.show cache.keeps cache.held e.0.items e.1) entries place entry cached.each is in
      ap (λ (bytes : List ℕ). Some (entry.0.items, bytes)) (used_is cache.show cache.keeps cache.held entry.0.items entry.1 each keeps)
      ∙ sym (kept_at place ∙ ap (entry_there (entries_in cache.held)) is)
