-- The fields of a unit file that are no trees: numbers, names and places.
use Rattle.std.specs.Prelude.{ℕ, ◌+◌, Bool, not, ◌&&◌, ◌==◌, nat_le, is_some, List, [], ◌∷◌, ◌++◌, take, drop, slice_index, Option}
use Rattle.std.specs.Option.{option_map_or}
use Rattle.cc_base.specs.LittleEndian.{u16_at, u32_at}
use Rattle.cc_base.specs.Tests.{must}
use Rattle.cil_model.specs.Limits.{MAX_VARIABLES}
use Rattle.cil_model.specs.Places.{place_number, place_of_number}
use Rattle.cil_model.specs.declared.place.Place.{Place}
use Rattle.cil_model.specs.declared.place.Place.TheVariants as places
use Rattle.unit_form.specs.Parses.{Parse, field, many}
use Rattle.unit_form.specs.declared.unit_fault.UnitFault.{UnitFault}
use Rattle.unit_form.specs.declared.unit_fault.UnitFault.TheVariants.{Form}
use Rattle.unit_form.specs.declared.form.UnitForm.{UnitForm}
use Rattle.unit_form.specs.declared.form.UnitForm.TheVariants.{First, Second, Third}

-- ---- numbers

unfoldable pub u8_field : List ℕ → ℕ → Parse ℕ
u8_field bytes at = record { tests = field bytes at 1 ∷ []; value = slice_index bytes at; next = at + 1 }

unfoldable pub u16_field : List ℕ → ℕ → Parse ℕ
u16_field bytes at = record { tests = field bytes at 2 ∷ []; value = u16_at bytes at; next = at + 2 }

unfoldable pub u32_field : List ℕ → ℕ → Parse ℕ
u32_field bytes at = record { tests = field bytes at 4 ∷ []; value = u32_at bytes at; next = at + 4 }

-- A count, in the size that it has in a form.
unfoldable pub count_field : UnitForm → List ℕ → ℕ → Parse ℕ
count_field First bytes at = u8_field bytes at
count_field Second bytes at = u16_field bytes at
count_field Third bytes at = u16_field bytes at

-- So many bytes, as one field.
unfoldable pub bytes_field : ℕ → List ℕ → ℕ → Parse (List ℕ)
bytes_field count bytes at = record { tests = field bytes at count ∷ []; value = take count (drop at bytes); next = at + count }

-- ---- names

-- A byte that may stand in a name.
abbrev pub is_graphic : ℕ → Bool
is_graphic b = nat_le 0x21 b && nat_le b 0x7e

-- The bytes of a name, which begin at this offset.
unfoldable pub graphic_tests : ℕ → List ℕ → List (Option UnitFault)
graphic_tests at [] = []
graphic_tests at (b ∷ bs) = must (is_graphic b) (Form at) ∷ graphic_tests (at + 1) bs

-- A name, after its length in two bytes.
unfoldable pub name_field : List ℕ → ℕ → Parse (List ℕ)
name_field bytes at =
    let count = u16_field bytes at in
    let text = bytes_field count.value bytes count.next in
    record { tests = count.tests ++ (text.tests ++ graphic_tests count.next text.value); value = text.value; next = text.next }

-- ---- places

-- The place that a number stands for.
abbrev pub place_numbered : ℕ → Place
place_numbered number = option_map_or (λ place. place) (place_of_number number) places.Void

-- The place of a result.
unfoldable pub place_field : List ℕ → ℕ → Parse Place
place_field bytes at =
    let number = u8_field bytes at in
    record { tests = number.tests ++ (must (is_some (place_of_number number.value)) (Form at) ∷ []); value = place_numbered number.value; next = number.next }

-- The place of a variable, which is never void.
unfoldable pub variable_field : List ℕ → ℕ → Parse Place
variable_field bytes at =
    let place = place_field bytes at in
    record { tests = place.tests ++ (must (not (place_number place.value == 0)) (Form at) ∷ []); value = place.value; next = place.next }

-- The places of so many variables.
abbrev pub variable_fields : ℕ → List ℕ → ℕ → Parse (List Place)
variable_fields count bytes at = many (λ read. variable_field bytes) [] count at

-- The places of variables, after their count. With so many others they keep the limit on the variables of a method.
unfoldable pub variables_field : UnitForm → ℕ → List ℕ → ℕ → Parse (List Place)
variables_field form others bytes at =
    let count = count_field form bytes at in
    let variables = variable_fields count.value bytes count.next in
    record { tests = count.tests ++ (must (nat_le (others + count.value) MAX_VARIABLES) (Form at) ∷ variables.tests); value = variables.value; next = variables.next }
