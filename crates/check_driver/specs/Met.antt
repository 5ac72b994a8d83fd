-- What is met under the names of files, and what a call that reads them gives.
use Rattle.std.specs.Prelude.{◌≡◌, ◌⊎◌, ℕ, List, [], ◌∷◌, map, Option, Some, None, Result, Ok, Err, Contains, unwrap_or}
use Rattle.std.specs.Option.{ForSome}
use Rattle.std.specs.declared.alloc.Global.{Global}
use Rattle.std.specs.declared.vec.Vec.{Vec}
use Rattle.cc_base.specs.Files.{Held, IsRead}
use Rattle.command_words.specs.Words.{word_at, words_at}
use Rattle.check_driver.specs.declared.reading.Unread.{Unread}
use Rattle.check_driver.specs.declared.reading.Unread.TheVariants as unread

-- This is held under the name, where that is told.
abbrev pub IsUnder : Option Held → List ℕ → Option (List ℕ) → Type 0
IsUnder told name under = ForSome told (λ held. held name ≡ under)

-- These are held under the names, each under its own, where that is told.
abbrev pub AreUnder : Option Held → List (List ℕ) → List (Option (List ℕ)) → Type 0
AreUnder told [] [] = Unit {0}
AreUnder told (name ∷ names) (under ∷ met) = IsUnder told name under × AreUnder told names met
AreUnder told _ _ = ⊥

-- The first of the names under which nothing is met.
abbrev pub first_missing : List (List ℕ) → List (Option (List ℕ)) → Option (List ℕ)
first_missing (name ∷ names) (None ∷ met) = Some name
first_missing (name ∷ names) (Some bytes ∷ met) = first_missing names met
first_missing _ _ = None

-- The bytes that are met, where nothing is missing.
abbrev pub contents : List (Option (List ℕ)) → List (List ℕ)
contents met = map (λ under. unwrap_or under []) met

-- The bytes of what was read.
abbrev pub bytes_read : List (Vec ℕ Global) → List (List ℕ)
bytes_read read = map (λ bytes. bytes.items) read

-- These bytes are what is met, whole or as a read cuts it.
abbrev pub IsContent : Option (List ℕ) → List ℕ → Type 0
IsContent under bytes = (under ≡ Some bytes) ⊎ IsRead under bytes

-- Each of these is what is met.
abbrev pub AreContents : List (Option (List ℕ)) → List (Vec ℕ Global) → Type 0
AreContents [] [] = Unit {0}
AreContents (under ∷ met) (bytes ∷ read) = IsContent under bytes.items × AreContents met read
AreContents _ _ = ⊥

-- A read of the file that the word at this index names, which met this: `missed` says that a name was
-- missing in this call, and `failed` that a device refused a read.
abbrev pub ReadsOne : ℕ → Option (List ℕ) → Type 0 → Type 0 → Result (Vec ℕ Global) Unread → Type 0
ReadsOne index under missed failed (Ok bytes) = IsContent under bytes.items
ReadsOne index under missed failed (Err (unread.Missing at)) = missed × (at ≡ index) × (under ≡ None)
ReadsOne index under missed failed (Err (unread.Failed at)) = failed × (at ≡ index)
ReadsOne index under missed failed (Err unread.NoMemory) = Unit {0}

-- The reads of the files that the words at these indexes name, in order, which met these.
abbrev pub Reads : List (List ℕ) → List ℕ → List (Option (List ℕ)) → Type 0 → Type 0 → Result (Vec (Vec ℕ Global) Global) Unread → Type 0
Reads words indexes met missed failed (Ok read) = AreContents met read.items
Reads words indexes met missed failed (Err (unread.Missing index)) =
    missed × Contains indexes index × (first_missing (words_at words indexes) met ≡ Some (word_at words index))
Reads words indexes met missed failed (Err (unread.Failed index)) = failed × Contains indexes index
Reads words indexes met missed failed (Err unread.NoMemory) = Unit {0}

-- This is what is met under the name of a cache, whole or as a read cuts it. Both may be missing.
abbrev pub IsCacheContent : Option (List ℕ) → Option (Vec ℕ Global) → Type 0
IsCacheContent under None = under ≡ None
IsCacheContent under (Some bytes) = IsContent under bytes.items

-- A read of the cache that the word at this index names, which met this: `failed` says that a device refused a read.
abbrev pub ReadsCache : ℕ → Option (List ℕ) → Type 0 → Result (Option (Vec ℕ Global)) Unread → Type 0
ReadsCache index under failed (Ok read) = IsCacheContent under read
ReadsCache index under failed (Err (unread.Missing at)) = ⊥
ReadsCache index under failed (Err (unread.Failed at)) = failed × (at ≡ index)
ReadsCache index under failed (Err unread.NoMemory) = Unit {0}
