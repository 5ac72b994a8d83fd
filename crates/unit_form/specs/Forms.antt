-- The forms of unit files.
use Rattle.std.specs.Prelude.{◌≡◌, ℕ, ◌<◌, ◌≤◌, ◌^◌, Bool, ◌||◌, ◌==◌, List, codes, slice_index, if◌then◌else◌}
use Rattle.byteorder.specs.Endian.{little_bytes}
use Rattle.unit_form.specs.declared.form.UnitForm.{UnitForm}
use Rattle.unit_form.specs.declared.form.UnitForm.TheVariants.{First, Second, Third}

-- ---- the magic

-- The four bytes that a file of this form begins with.
abbrev pub magic : UnitForm → List ℕ
magic First = codes "CCU1"
magic Second = codes "CCU2"
magic Third = codes "CCU3"

-- The last of them is the number of a form, as a digit.
abbrev pub is_form_number : ℕ → Bool
is_form_number number = number == 0x31 || (number == 0x32 || number == 0x33)

abbrev pub form_numbered : ℕ → UnitForm
form_numbered number = if number == 0x31 then First else if number == 0x32 then Second else Third

-- The form of a file.
unfoldable pub form_of : List ℕ → UnitForm
form_of bytes = form_numbered (slice_index bytes 3)

-- ---- counts

-- How many bytes a count of places has, the size of a stack, and the number of an argument.
abbrev pub count_size : UnitForm → ℕ
count_size First = 1
count_size Second = 2
count_size Third = 2

abbrev pub count_bytes : UnitForm → ℕ → List ℕ
count_bytes form n = little_bytes (count_size form) n

-- The number can be written so.
abbrev pub IsCount : UnitForm → ℕ → Type 0
IsCount form n = n < 256 ^ count_size form

-- ---- added clauses

-- So many clauses can be added in this form: those of a file of the third form are counted from 1.
abbrev pub MayAdd : UnitForm → ℕ → Type 0
MayAdd First n = n ≡ 0
MayAdd Second n = n ≡ 0
MayAdd Third n = 1 ≤ n
