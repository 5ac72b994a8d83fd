-- What a name means among the methods of an assembly.
use Rattle.std.specs.Prelude.{◌≡◌, ℕ, zero, suc, ◌+◌, ◌<◌, List, [], ◌∷◌, length, Bool, ◌||◌, Option, Some, None, unwrap_or, slice_index, filter, if◌then◌else◌}
use Rattle.std.specs.List.{range_with_len}
use Rattle.std.specs.Map.{lookup}
use Rattle.std.specs.Str.{bytes_eq}
use Rattle.cc_base.specs.declared.token.Token.{Token}
use Rattle.pe_reader.specs.Addresses.{metadata}
use Rattle.asm_image.specs.Cells.{method_count}
use Rattle.asm_image.specs.Names.{short_name, printed_name}
use Rattle.asm_image.specs.Rows.{method_token}
use Rattle.asm_image.specs.declared.found.Found.{Found}
use Rattle.asm_image.specs.declared.found.Found.TheVariants.{One, Several}

-- A name means a method where it is its printed name, or that without the types of its parameters.
abbrev pub is_meant : List ℕ → List ℕ → ℕ → Bool
is_meant md name row = bytes_eq name (printed_name md row) || bytes_eq name (short_name md row)

-- The rows that a name means, among the first so many of the table MethodDef.
unfoldable pub meant_among : List ℕ → List ℕ → ℕ → List ℕ
meant_among md name count = filter (is_meant md name) (range_with_len 1 count)

-- No method, one, or more than one.
abbrev pub found : List ℕ → Option Found
found [] = None
found (row ∷ []) = Some (One (method_token row))
found (row ∷ other ∷ others) = Some Several

-- What a name means in the assembly that a file is.
unfoldable pub find_of : List ℕ → List ℕ → Option Found
find_of bytes name = let md = metadata bytes in found (meant_among md name (method_count md))

-- Among those whose whole printed name it is, and among those whose printed name it is up to the types.
abbrev pub whole_of : List ℕ → List ℕ → Option Found
whole_of bytes name =
    let md = metadata bytes in
    found (filter (λ row. bytes_eq name (printed_name md row)) (range_with_len 1 (method_count md)))

abbrev pub short_of : List ℕ → List ℕ → Option Found
short_of bytes name =
    let md = metadata bytes in
    found (filter (λ row. bytes_eq name (short_name md row)) (range_with_len 1 (method_count md)))

-- What two sets of methods without a common one mean together.
abbrev pub either : Option Found → Option Found → Option Found
either None second = second
either (Some first) None = Some first
either (Some first) (Some second) = Some Several

-- What is meant once one method more is.
abbrev pub one_more : Option Found → Token → Found
one_more None token = One token
one_more (Some before) token = Several

-- ---- the table of names

-- The last row that stands beside a name in a table of names, 0 where the name is not there.
abbrev pub last_of : List (List ℕ × ℕ) → List ℕ → ℕ
last_of table name = unwrap_or (lookup (bytes_eq name) table) 0

-- A table after a name is noted for a row. No other name changes.
abbrev pub Notes : List (List ℕ × ℕ) → List ℕ → ℕ → List (List ℕ × ℕ) → Type 0
Notes old name row new = (other : List ℕ) → last_of new other ≡ (if bytes_eq other name then row else last_of old other)

-- The last of the first so many methods that has a name up to the types of its parameters, 0 where none has.
abbrev pub last_named : List ℕ → List ℕ → ℕ → ℕ
last_named md name zero = 0
last_named md name (suc n) = if bytes_eq name (short_name md (suc n)) then suc n else last_named md name n

-- A table of names tells the last of the first so many methods that has a name, and for each method the one
-- before it that has the same name.
pub record NamesFirst (last : List (List ℕ × ℕ)) (earlier md : List ℕ) (count : ℕ) : Type 0 where
  pub lasts : (name : List ℕ) → last_of last name ≡ last_named md name count
  pub long : length earlier ≡ count
  pub befores : (k : ℕ) → k < count → slice_index earlier k ≡ last_named md (short_name md (k + 1)) k
