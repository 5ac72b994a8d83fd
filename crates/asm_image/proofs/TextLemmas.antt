-- Known texts of the heap `#Strings`.
use Rattle.std.proofs.Common.{◌≡◌, ℕ, ◌<◌, List, [], ◌∷◌, length, false, Option, Some, None, refl, arith}
use Rattle.std.specs.Prelude.{option_map, unwrap_or}
use Rattle.std.specs.Str.{bytes_eq}
use Rattle.metadata_tables.specs.Heaps.{string_at, string_is}
use Rattle.metadata_tables.specs.Root.{is_text}

-- Where no text is there, it is no known one that has bytes.
by : (found : Option (List ℕ)) (known : List ℕ) → 0 < length known → unwrap_or (option_map (λ text. bytes_eq text known) found) false ≡ bytes_eq (unwrap_or found []) known
by None [] some = absurd (omega arith)
by None (byte ∷ bytes) some = refl
by (Some text) known some = refl

pub known_text : (md : List ℕ) (index : ℕ) (known : List ℕ) → 0 < length known → string_is md index known ≡ bytes_eq (unwrap_or (string_at md index) []) known
unfolding string_is is_text string_at
known_text md index known some = by _ known some
