-- The entries that the entries of a file stand for. A file of the first form has keys of units' first form, of which
-- each stands for the key of the same unit in the second form; all other entries of it stand for nothing.
use Rattle.std.specs.Prelude.{◌≡◌, ℕ, Bool, ◌&&◌, ◌==◌, is_none, List, filter_map, slice_index, Option, Some, None, option_map, if◌then◌else◌}
use Rattle.std.specs.List.{AllByRecursion}
use Rattle.cil_model.specs.declared.unit.Unit.{Unit as MethodUnit}
use Rattle.method_unit.specs.UnitFile.{first_unit_fault, unit_of}
use Rattle.method_unit.specs.Units.{IsUnit}
use Rattle.unit_form.specs.Spelling.{HasCounts, unit_bytes, unit_spelling}
use Rattle.unit_form.specs.declared.form.UnitForm.TheVariants.{First as UnitFirst}
use Rattle.result_cache.specs.Entries.{Entry, is_among, keys_of}
use Rattle.result_cache.specs.declared.cache_form.CacheForm.{CacheForm}
use Rattle.result_cache.specs.declared.cache_form.CacheForm.TheVariants.{First, Second}

-- Some bytes of the first form of a unit file have a fourth byte that is the digit 1.
abbrev pub has_first_number : List ℕ → Bool
has_first_number bytes = slice_index bytes 3 == 0x31

-- The key of the unit whose first form the bytes are.
unfoldable pub second_key : List ℕ → Option (List ℕ)
second_key bytes =
    if has_first_number bytes && is_none (first_unit_fault bytes) then Some (unit_bytes (unit_of bytes)) else None

abbrev pub second_entry : Entry → Option Entry
second_entry (key, invariant) = option_map (λ second. (second, invariant)) (second_key key)

abbrev pub entries_told : CacheForm → List Entry → List Entry
entries_told First entries = filter_map second_entry entries
entries_told Second entries = entries

-- The bytes are the first form of a unit that has this key.
pub record IsFirstOf (bytes key : List ℕ) : Type 0 where
  pub unit : MethodUnit
  pub is_unit : IsUnit unit
  pub counts : HasCounts UnitFirst unit
  pub spelled : unit_spelling UnitFirst unit ≡ bytes
  pub kept : unit_bytes unit ≡ key

-- What stands for a key in the second form is the first form of that key's unit.
abbrev pub AreFirst : List Entry → Type 0
AreFirst entries = AllByRecursion (λ e. (key : List ℕ) → second_key e.0 ≡ Some key → IsFirstOf e.0 key) entries

-- Of these entries are held those that they stand for, and the keys of the others, by which they are known.
pub record AreHeld (entries seconds others : List Entry) : Type 0 where
  pub told : seconds ≡ filter_map second_entry entries
  pub firsts : AreFirst entries
  pub known : (key : List ℕ) → second_key key ≡ None → is_among (keys_of others) key ≡ is_among (keys_of entries) key
