-- The cache file that a call leaves, and which cache is honest.
use Rattle.std.specs.Prelude.{◌≡◌, ℕ, List, map, unwrap_or}
use Rattle.std.specs.List.{AllByRecursion}
use Rattle.cil_model.specs.declared.unit.Unit.{Unit as MethodUnit}
use Rattle.invariant_codec.specs.Spelling.{states_bytes}
use Rattle.method_unit.specs.UnitFile.{unit_of}
use Rattle.method_unit.specs.Units.{IsUnit}
use Rattle.result_cache.specs.Entries.{Entry, invariant_of}
use Rattle.result_cache.specs.Spelling.{IsCacheFile, file_bytes, kept}
use Rattle.unit_form.specs.Spelling.{unit_bytes}
use Rattle.result_cache.specs.declared.cache_form.CacheForm.TheVariants.{Second}
use Rattle.unit_verdicts.specs.Picks.{limit_pick, states_in}

-- The bytes of what a finder answers of a unit.
unfoldable pub limit_bytes : MethodUnit → List ℕ
limit_bytes unit = states_bytes (limit_pick unit)

-- The bytes that a cache holds for those of a unit, else the unit's own.
abbrev pub held_or_own : List Entry → List ℕ → List ℕ → List ℕ
held_or_own entries key own = unwrap_or (invariant_of entries key) own

-- The bytes of the invariant under which a unit of these bytes is judged: of the one that a cache holds for it, else of
-- what a finder answers.
abbrev pub invariant_used : List Entry → List ℕ → List ℕ
invariant_used entries key = held_or_own entries key (limit_bytes (unit_of key))

-- The entries of the units that were judged, in the order in which they came, where a cache had these entries before.
abbrev pub entries_used : List Entry → List (List ℕ) → List Entry
entries_used entries keys = map (λ key. (key, invariant_used entries key)) keys

-- The file of these, up to the first with which it would have too many bytes.
unfoldable pub cache_left : List Entry → List (List ℕ) → List ℕ
cache_left entries keys = file_bytes Second (kept (entries_used entries keys))

-- ---- honest caches

-- An entry is honest: its key spells a unit, and its invariant is what a finder answers of that.
pub record IsHonest (entry : Entry) : Type 0 where
  pub unit : MethodUnit
  pub is_unit : IsUnit unit
  pub key : entry.0 ≡ unit_bytes unit
  pub states : states_in entry.1 ≡ limit_pick unit

abbrev pub AreHonest : List Entry → Type 0
AreHonest entries = AllByRecursion IsHonest entries

-- The bytes are a cache file, and its entries are honest.
pub record IsHonestFile (bytes : List ℕ) : Type 0 where
  pub entries : List Entry
  pub file : IsCacheFile Second entries bytes
  pub honest : AreHonest entries
