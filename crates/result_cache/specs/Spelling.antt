-- How entries are spelled as a file, and which of them a file that is written has.
use Rattle.std.specs.Prelude.{◌≡◌, ℕ, ◌+◌, ◌-◌, ◌≤◌, nat_le, List, [], ◌∷◌, ◌++◌, length, if◌then◌else◌}
use Rattle.std.specs.List.{flat_map}
use Rattle.cc_base.specs.LittleEndian.{little_bytes}
use Rattle.result_cache.specs.CacheFile.{MAX_CACHE_BYTES, entries_of, entries_standing}
use Rattle.result_cache.specs.Entries.{AreEntries, Entry}
use Rattle.result_cache.specs.FirstForm.{AreFirst, entries_told}
use Rattle.result_cache.specs.Forms.{form_of, magic}
use Rattle.result_cache.specs.declared.cache_form.CacheForm.{CacheForm}
use Rattle.result_cache.specs.declared.cache_form.CacheForm.TheVariants.{First}

-- Bytes, after their length.
abbrev pub sized_bytes : List ℕ → List ℕ
sized_bytes bytes = little_bytes 4 (length bytes) ++ bytes

unfoldable pub entry_bytes : Entry → List ℕ
entry_bytes e = sized_bytes e.0 ++ sized_bytes e.1

unfoldable pub file_bytes : CacheForm → List Entry → List ℕ
file_bytes form entries = magic form ++ (little_bytes 4 (length entries) ++ flat_map entry_bytes entries)

-- The bytes are the file of these entries in this form.
pub record IsCacheFile (form : CacheForm) (entries : List Entry) (bytes : List ℕ) : Type 0 where
  pub are : AreEntries entries
  pub size : length bytes ≤ MAX_CACHE_BYTES
  pub same : file_bytes form entries ≡ bytes

-- They are such a file, of entries that stand for these.
pub record IsFileOf (cache : List Entry) (bytes : List ℕ) : Type 0 where
  pub form : CacheForm
  pub entries : List Entry
  pub file : IsCacheFile form entries bytes
  pub told : entries_told form entries ≡ cache

-- What a reader answers: the entries of the file, which the bytes spell, and of the first form what stands for keys.
pub record IsCacheOf (bytes : List ℕ) (cache : List Entry) : Type 0 where
  pub same : cache ≡ entries_of bytes
  pub firsts : form_of bytes ≡ First → AreFirst (entries_standing bytes)

-- ---- the cut

-- How many bytes an entry takes.
abbrev pub entry_size : Entry → ℕ
entry_size e = 8 + length e.0 + length e.1

-- The entries up to the first for which there is no room, where so many bytes are left.
abbrev pub kept_within : ℕ → List Entry → List Entry
kept_within left [] = []
kept_within left (e ∷ es) = if nat_le (entry_size e) left then e ∷ kept_within (left - entry_size e) es else []

-- Those with which the file does not pass its most bytes. Its head takes 8.
unfoldable pub kept : List Entry → List Entry
kept entries = kept_within (MAX_CACHE_BYTES - 8) entries
