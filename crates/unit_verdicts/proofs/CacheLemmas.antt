-- The map that holds what is kept of units.
use Rattle.std.proofs.Common.{◌≡◌, ◌≤◌, ℕ, zero, suc, Bool, true, false, ◌||◌, List, [], ◌∷◌, ◌++◌, length, map, cond, slice_get, Option, None, Some, option_map, Bor, Vec, Global, refl, sym, ap, subst, ◌∙◌}
use Rattle.std.specs.Prelude.{is_some, option_copied}
use Rattle.std.specs.List.{AllByRecursion}
use Rattle.std.specs.Map.{lookup}
use Rattle.std.specs.Str.{bytes_eq}
use Rattle.std.proofs.lemmas.List.{map-append}
use Rattle.std.proofs.lemmas.List.Folds.{list_any-append}
use Rattle.std.proofs.lemmas.Slice.Eq.{bytes_eq-Decides}
use Rattle.indexmap.specs.IndexMap.{insert_entry}
use Rattle.result_cache.specs.Entries.{AreShort, Entry, invariant_of, is_among}
use Rattle.unit_verdicts.specs.VerdictCache.{AreCached, AreNew, IsCached, JudgedEntry, keys_in}
use Rattle.unit_verdicts.specs.declared.analysis.CachedUnit.{CachedUnit}
use Rattle.unit_verdicts.specs.declared.source.Source.{Source}

-- ---- what is found

abbrev pub found_at : List ℕ → List JudgedEntry → Option CachedUnit
found_at key entries = lookup (λ other. bytes_eq key other.items) entries

among_found : (key : List ℕ) (entries : List JudgedEntry)
    → is_some (found_at key entries) ≡ is_among (keys_in entries) key
among_found key [] = refl
among_found key (entry ∷ entries) = by_test (bytes_eq key entry.0.items) (among_found key entries)
  where
    by_test : (same : Bool) → is_some (found_at key entries) ≡ is_among (keys_in entries) key
        → is_some (cond same (Some entry.1) (found_at key entries)) ≡ (same || is_among (keys_in entries) key)
    by_test true later = refl
    by_test false later = later

-- A unit was noted exactly where its key is among these.
pub is_there : (key : List ℕ) (entries : List JudgedEntry) (seen : List (List ℕ)) (got : Option (Bor CachedUnit))
    → option_copied got ≡ found_at key entries
    → keys_in entries ≡ seen → is_some got ≡ is_among seen key
is_there key entries seen got is view =
    borrowed got ∙ ap is_some is ∙ among_found key entries
    ∙ ap (λ (s : List (List ℕ)). is_among s key) view
  where
    borrowed : (got : Option (Bor CachedUnit)) → is_some got ≡ is_some (option_copied got)
    borrowed None = refl
    borrowed (Some found) = refl

module _ (P : List ℕ → CachedUnit → Type 0) where
  abbrev All : List JudgedEntry → Type 0
  All entries = AllByRecursion (λ entry. P entry.0.items entry.1) entries

  -- What holds of each unit beside its key holds of the one that is found.
  pub found_cached : (key : List ℕ) (entries : List JudgedEntry) (found : CachedUnit) → All entries
      → found_at key entries ≡ Some found → P key found
  found_cached key [] found all is = absurd cc
  found_cached key (entry ∷ entries) found all is = by_test (bytes_eq key entry.0.items) refl (found_cached key entries found all.1) is
    where
      by_test : (same : Bool) → bytes_eq key entry.0.items ≡ same → (found_at key entries ≡ Some found → P key found)
          → cond same (Some entry.1) (found_at key entries) ≡ Some found → P key found
      by_test true same later is =
          let its : entry.1 ≡ found = cc in
          let keys : entry.0.items ≡ key = sym ((bytes_eq-Decides key entry.0.items).0 same) in
          subst (P key) its (subst (λ (k : List ℕ). P k entry.1) keys all.0)
      by_test false same later is = later is

  pub cached_push : (entries : List JudgedEntry) (key : Vec ℕ Global) (unit : CachedUnit) → All entries
      → P key.items unit → All (entries ++ (key, unit) ∷ [])
  cached_push [] key unit all its = (its, tt)
  cached_push (entry ∷ entries) key unit all its = (all.0, cached_push entries key unit all.1 its)

-- ---- what is noted

module _ {V : Type 0} where
  abbrev pub inserted : List (Vec ℕ Global × V) → Vec ℕ Global → V → List (Vec ℕ Global × V)
  inserted entries key value = insert_entry (λ a b. bytes_eq a.items b.items) entries key value

  pub inserted_last : (entries : List (Vec ℕ Global × V)) (key : Vec ℕ Global) (value : V)
      → is_among (map (λ (entry : Vec ℕ Global × V). entry.0.items) entries) key.items ≡ false
      → inserted entries key value ≡ entries ++ (key, value) ∷ []
  inserted_last [] key value new = refl
  inserted_last (entry ∷ entries) key value new = by_test (bytes_eq key.items entry.0.items) new (inserted_last entries key value)
    where
      by_test : (same : Bool) → (same || is_among (map (λ (entry : Vec ℕ Global × V). entry.0.items) entries) key.items) ≡ false
          → (is_among (map (λ (entry : Vec ℕ Global × V). entry.0.items) entries) key.items ≡ false → inserted entries key value ≡ entries ++ (key, value) ∷ [])
          → cond same ((entry.0, value) ∷ entries) (entry ∷ inserted entries key value) ≡ entry ∷ (entries ++ (key, value) ∷ [])
      by_test true new later = absurd cc
      by_test false new later = ap (λ (es : List (Vec ℕ Global × V)). entry ∷ es) (later new)

-- A new key goes last.
pub noted_last : (old new : List JudgedEntry) (key : Vec ℕ Global) (unit : CachedUnit) (seen : List (List ℕ))
    → keys_in old ≡ seen → is_among seen key.items ≡ false
    → new ≡ inserted old key unit → new ≡ old ++ (key, unit) ∷ []
noted_last old new key unit seen view absent is = is ∙ inserted_last old key unit (rw view absent)

pub keys_noted : (old new : List JudgedEntry) (key : Vec ℕ Global) (unit : CachedUnit) (seen : List (List ℕ))
    → keys_in old ≡ seen → new ≡ old ++ (key, unit) ∷ []
    → keys_in new ≡ seen ++ key.items ∷ []
keys_noted old new key unit seen view is =
    ap keys_in is ∙ map-append (λ entry. entry.0.items) old ((key, unit) ∷ [])
    ∙ ap (λ (s : List (List ℕ)). s ++ key.items ∷ []) view

-- ---- keys that differ

neither : (a b : Bool) → (a || b) ≡ false → (a ≡ false) × (b ≡ false)
neither true b is = absurd cc
neither false b is = (refl, is)

pub new_last : (seen keys : List (List ℕ)) (key : List ℕ) → AreNew seen keys → is_among seen key ≡ false
    → is_among keys key ≡ false → AreNew seen (keys ++ key ∷ [])
new_last seen [] key new unseen none = (unseen, tt)
new_last seen (first ∷ keys) key new unseen none =
    let apart = neither (bytes_eq key first) (is_among keys key) none in
    let behind : is_among (seen ++ first ∷ []) key ≡ false = list_any-append (bytes_eq key) seen (first ∷ [])
    ∙ rw (unseen, apart.0) refl in
    (new.0, new_last (seen ++ first ∷ []) keys key new.1 behind apart.1)

-- What is kept, with one more.
pub cached_noted : (show keeps : Bool) (held : Source) (old new : List JudgedEntry) (key : Vec ℕ Global) (unit : CachedUnit)
    → new ≡ old ++ (key, unit) ∷ []
    → AreCached show keeps held old → is_among (keys_in old) key.items ≡ false → IsCached show keeps held key.items unit
    → AreCached show keeps held new
cached_noted show keeps held old new key unit is cached absent its = record {
  held_for = cached.held_for;
  keys = subst (AreNew []) (sym (keys_noted old new key unit (keys_in old) refl is)) (new_last [] (keys_in old) key.items cached.keys refl absent);
  each = rw is (cached_push (IsCached show keeps held) old key unit cached.each its);
}

-- ---- what the cache file holds

-- What is held is short.
pub short_held : (entries : List Entry) (key bytes : List ℕ) → AreShort entries → Some bytes ≡ invariant_of entries key
    → length bytes ≤ 67_108_864
short_held [] key bytes short is = absurd cc
short_held (e ∷ es) key bytes short is = by (bytes_eq key e.0) is (short_held es key bytes short.1)
  where
    by : (same : Bool) → Some bytes ≡ cond same (Some e.1) (invariant_of es key)
        → (Some bytes ≡ invariant_of es key → length bytes ≤ 67_108_864)
        → length bytes ≤ 67_108_864
    by true is later =
        let its : e.1 ≡ bytes = cc in
        subst (λ (b : List ℕ). length b ≤ 67_108_864) its short.0
    by false is later = later is

-- ---- by places

-- What stands at a place.
pub stands_at : (entries : List JudgedEntry) (place : ℕ)
    → option_map (λ (entry : JudgedEntry). entry.0.items) (slice_get entries place) ≡ slice_get (keys_in entries) place
stands_at [] place = refl
stands_at (entry ∷ entries) zero = refl
stands_at (entry ∷ entries) (suc place) = stands_at entries place

pub all_at : (P : JudgedEntry → Type 0) (entries : List JudgedEntry) (place : ℕ) (entry : JudgedEntry)
    → AllByRecursion P entries → slice_get entries place ≡ Some entry → P entry
all_at P [] place entry all is = absurd cc
all_at P (first ∷ entries) zero entry all is =
    let its : first ≡ entry = cc in
    subst P its all.0
all_at P (first ∷ entries) (suc place) entry all is = all_at P entries place entry all.1 is
