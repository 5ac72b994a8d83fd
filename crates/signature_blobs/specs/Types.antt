-- Types in a signature (II.23.2.12), and the places that they are.
use Rattle.std.specs.Prelude.{ℕ, zero, suc, ◌+◌, List, [], ◌∷◌, Some, None, Ok, ◌==◌, if◌then◌else◌}
use Rattle.cil_model.specs.declared.place.Place.{Place}
use Rattle.cil_model.specs.declared.place.Place.TheVariants.{Void, Bool, Int, Bools, Ints}
use Rattle.signature_blobs.specs.Reading.{Reading, known, ◌>>=◌, byte_at}

-- What the code after SZARRAY says, BOOLEAN or I4, and the offset after it.
abbrev pub element_of : ℕ → ℕ → Reading (Place × ℕ)
element_of code after =
    if code == 0x02 then Ok (Some (Bools, after))
    else if code == 0x08 then Ok (Some (Ints, after))
    else Ok None

-- BOOLEAN, I4 or SZARRAY, and the offset after it.
unfoldable pub type_at : List ℕ → ℕ → Reading (Place × ℕ)
type_at blob at = do
  code ← known (byte_at blob at)
  if code == 0x02 then Ok (Some (Bool, at + 1))
      else if code == 0x08 then Ok (Some (Int, at + 1))
      else if code == 0x1D then known (byte_at blob (at + 1)) >>= (λ element. element_of element (at + 2))
      else Ok None

-- VOID, which is a result alone, or a type.
unfoldable pub result_at : List ℕ → ℕ → Reading (Place × ℕ)
result_at blob at = do
  code ← known (byte_at blob at)
  if code == 0x01 then Ok (Some (Void, at + 1)) else type_at blob at

-- So many types, one after another.
unfoldable pub types_at : List ℕ → ℕ → ℕ → Reading (List Place)
types_at blob at zero = Ok (Some [])
types_at blob at (suc n) = do
  first ← type_at blob at
  others ← types_at blob first.1 n
  Ok (Some (first.0 ∷ others))
