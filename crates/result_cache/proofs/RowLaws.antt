-- Rows of bytes.
use Rattle.std.proofs.Common.{◌≡◌, ℕ, zero, suc, ◌<◌, List, [], ◌∷◌, length, get_or, set, refl, ap, arith}
use Rattle.result_cache.specs.declared.row.Row.{Row}
use Rattle.result_cache.specs.Rows.{AreWithin, IsWithin, entries_in, key_in, keys_in}

-- A row among rows that are of bytes is so.
pub within_at : (bytes : List ℕ) (rows : List Row) (i : ℕ) (d : Row) → AreWithin bytes rows → i < length rows
    → IsWithin bytes (get_or rows i d)
within_at bytes [] i d are below = absurd (omega (arith, below))
within_at bytes (row ∷ rows) zero d are below = are.0
within_at bytes (row ∷ rows) (suc i) d are below = within_at bytes rows i d are.1 (omega (arith, below))

pub within_set : (bytes : List ℕ) (rows : List Row) (i : ℕ) (row : Row) → AreWithin bytes rows → IsWithin bytes row
    → AreWithin bytes (set rows i row)
within_set bytes [] i row are is = tt
within_set bytes (first ∷ rows) zero row are is = (is, are.1)
within_set bytes (first ∷ rows) (suc i) row are is = (are.0, within_set bytes rows i row are.1 is)

pub length_entries : (bytes : List ℕ) (rows : List Row) → length (entries_in bytes rows) ≡ length rows
length_entries bytes [] = refl
length_entries bytes (row ∷ rows) = ap suc (length_entries bytes rows)

pub length_keys : (bytes : List ℕ) (rows : List Row) → length (keys_in bytes rows) ≡ length rows
length_keys bytes [] = refl
length_keys bytes (row ∷ rows) = ap suc (length_keys bytes rows)

pub key_at : (bytes : List ℕ) (rows : List Row) (i : ℕ) (d : Row) → i < length rows
    → get_or (keys_in bytes rows) i [] ≡ key_in bytes (get_or rows i d)
key_at bytes [] i d below = absurd (omega (arith, below))
key_at bytes (row ∷ rows) zero d below = refl
key_at bytes (row ∷ rows) (suc i) d below = key_at bytes rows i d (omega (arith, below))
