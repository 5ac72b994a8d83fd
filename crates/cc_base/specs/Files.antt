-- What files hold, and what a read and a replacement do to it.
use Rattle.std.specs.Prelude.{◌≡◌, ◌≢◌, ℕ, List, Option, Some, None, take, option_map}

-- The most bytes that a read gives: one more than the largest file that is accepted.
abbrev pub READ_LIMIT : ℕ
READ_LIMIT = 67_108_865

-- The bytes under each name that is held.
abbrev pub Held : Type 0
Held = List ℕ → Option (List ℕ)

-- A read that met what is held under a name: its bytes, cut to the first `READ_LIMIT`.
abbrev pub IsRead : Option (List ℕ) → List ℕ → Type 0
IsRead under bytes = option_map (take READ_LIMIT) under ≡ Some bytes

-- The new files have the bytes under the name and are otherwise the old ones.
pub record Replaces (old new : Held) (name bytes : List ℕ) : Type 0 where
  pub replaced : new name ≡ Some bytes
  pub others : (other : List ℕ) → other ≢ name → new other ≡ old other

-- What is told of the new files is what is told of the old ones with the bytes under the name.
abbrev pub ToldReplaced : Option Held → Option Held → List ℕ → List ℕ → Type 0
ToldReplaced None new name bytes = Unit {0}
ToldReplaced (Some old) None name bytes = ⊥
ToldReplaced (Some old) (Some new) name bytes = Replaces old new name bytes
