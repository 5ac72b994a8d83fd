-- The entries of a cache: keys, each with the bytes of an invariant.
use Rattle.std.specs.Prelude.{◌≡◌, ◌<◌, ◌≤◌, ℕ, Bool, false, List, [], ◌∷◌, ◌++◌, length, get_or, map, Option, if◌then◌else◌}
use Rattle.std.specs.List.{AllByRecursion, list_any}
use Rattle.std.specs.Map.{lookup}
use Rattle.std.specs.Str.{bytes_eq}
use Rattle.invariant_codec.specs.Invariants.{IsInvariant}

-- The whole bytes of a unit, and the bytes of its invariant.
abbrev pub Entry : Type 0
Entry = List ℕ × List ℕ

abbrev pub keys_of : List Entry → List (List ℕ)
keys_of entries = map (λ e. e.0) entries

abbrev pub is_among : List (List ℕ) → List ℕ → Bool
is_among keys key = list_any (bytes_eq key) keys

-- The invariant that a key has.
abbrev pub invariant_of : List Entry → List ℕ → Option (List ℕ)
invariant_of entries key = lookup (bytes_eq key) entries

-- The entries once a key has this invariant: in its place where it is there, else behind all others.
abbrev pub with_entry : List Entry → List ℕ → List ℕ → List Entry
with_entry [] key invariant = (key, invariant) ∷ []
with_entry (e ∷ es) key invariant =
    if bytes_eq key e.0 then (e.0, invariant) ∷ es else e ∷ with_entry es key invariant

-- No two of these keys are the same.
abbrev pub AreDistinct : List (List ℕ) → Type 0
AreDistinct keys = (i j : ℕ) → i < length keys → j < length keys → get_or keys i [] ≡ get_or keys j [] → i ≡ j

-- The entry at an index has a key.
pub record IsKeyAt (entries : List Entry) (index : ℕ) (key : List ℕ) : Type 0 where
  pub within : index < length entries
  pub same : get_or (keys_of entries) index [] ≡ key

-- No key is one of these or of those before it, and beside each stands an invariant.
abbrev pub AreEntriesBehind : List (List ℕ) → List Entry → Type 0
AreEntriesBehind keys [] = Unit {0}
AreEntriesBehind keys (e ∷ es) =
    (is_among keys e.0 ≡ false) × IsInvariant e.1 × AreEntriesBehind (keys ++ e.0 ∷ []) es

-- The keys are distinct, and beside each stands an invariant.
abbrev pub AreEntries : List Entry → Type 0
AreEntries entries = AreEntriesBehind [] entries

-- No invariant has more bytes than a cache file may have.
abbrev pub AreShort : List Entry → Type 0
AreShort entries = AllByRecursion (λ e. length e.1 ≤ 67_108_864) entries
