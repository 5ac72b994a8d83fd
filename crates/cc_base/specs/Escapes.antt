-- Names as text: bytes that are no graphic characters of ASCII have an escape.
use Rattle.std.specs.Prelude.{ℕ, List, [], ◌∷◌, ◌==◌, not, ◌&&◌, Bool, nat_le, if◌then◌else◌}
use Rattle.std.specs.List.{flat_map}
use Rattle.cc_base.specs.Digits.{hex}

-- A graphic character of ASCII that is no backslash.
abbrev pub is_plain : ℕ → Bool
is_plain byte = nat_le 0x21 byte && nat_le byte 0x7e && not (byte == 0x5c)

-- Any other byte is a backslash and its two digits.
abbrev pub escaped_byte : ℕ → List ℕ
escaped_byte byte = if is_plain byte then byte ∷ [] else 0x5c ∷ hex 2 byte

abbrev pub escaped : List ℕ → List ℕ
escaped name = flat_map escaped_byte name
