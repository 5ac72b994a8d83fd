-- Entries as stretches of one list of bytes.
use Rattle.std.specs.Prelude.{ℕ, ◌+◌, ◌-◌, ◌≤◌, List, take, drop, length, map}
use Rattle.std.specs.List.{AllByRecursion}
use Rattle.result_cache.specs.declared.link.Link.{Link}
use Rattle.result_cache.specs.declared.row.Row.{Row}
use Rattle.result_cache.specs.Entries.{Entry, keys_of}

-- The key of an entry, and its value.
abbrev pub key_in : List ℕ → Row → List ℕ
key_in bytes row = take (row.middle - row.start) (drop row.start bytes)

abbrev pub value_in : List ℕ → Row → List ℕ
value_in bytes row = take (row.end - row.middle) (drop row.middle bytes)

abbrev pub entry_in : List ℕ → Row → Entry
entry_in bytes row = (key_in bytes row, value_in bytes row)

abbrev pub entries_in : List ℕ → List Row → List Entry
entries_in bytes rows = map (entry_in bytes) rows

abbrev pub keys_in : List ℕ → List Row → List (List ℕ)
keys_in bytes rows = keys_of (entries_in bytes rows)

-- A row is one of these bytes.
pub record IsWithin (bytes : List ℕ) (row : Row) : Type 0 where
  pub key : row.start ≤ row.middle
  pub value : row.middle ≤ row.end
  pub inside : row.end ≤ length bytes

abbrev pub AreWithin : List ℕ → List Row → Type 0
AreWithin bytes rows = AllByRecursion (IsWithin bytes) rows

-- Where an entry stands that was put after these bytes.
abbrev pub row_after : List ℕ → List ℕ → List ℕ → Link → Row
row_after bytes key value next = record {
  start = length bytes;
  middle = length bytes + length key;
  end = length bytes + length key + length value;
  next = next;
}

-- A row whose entry has another one before it in its bucket.
abbrev pub with_next : Row → Link → Row
with_next row next = record { start = row.start; middle = row.middle; end = row.end; next = next }
