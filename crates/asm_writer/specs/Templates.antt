-- The kinds of methods that are generated: their types and their code.
use Rattle.std.specs.Prelude.{ℕ, ◌%◌, List, [], ◌∷◌, ◌++◌, ◌==◌, if◌then◌else◌}
use Rattle.cc_base.specs.LittleEndian.{little_bytes}
use Rattle.cil_model.specs.declared.place.Place.{Place}
use Rattle.cil_model.specs.declared.place.Place.TheVariants.{Void, Int, Ints}
use Rattle.asm_writer.specs.declared.template.Template.{Template}
use Rattle.asm_writer.specs.declared.template.Template.TheVariants as templates

-- The template of the method of this index.
abbrev pub template_of : ℕ → Template
template_of index =
    if index % 6 == 0 then templates.Constant
    else if index % 6 == 1 then templates.Div
    else if index % 6 == 2 then templates.ArraySum
    else if index % 6 == 3 then templates.Fill
    else if index % 6 == 4 then templates.Sum
    else templates.Bad

abbrev pub result_of : Template → Place
result_of templates.Fill = Void
result_of _ = Int

abbrev pub args_of : Template → List Place
args_of templates.Constant = Int ∷ []
args_of templates.Div = Int ∷ Int ∷ []
args_of templates.ArraySum = Ints ∷ []
args_of templates.Fill = Ints ∷ Int ∷ []
args_of templates.Sum = Int ∷ []
args_of templates.Bad = []

abbrev pub locals_of : Template → List Place
locals_of templates.ArraySum = Int ∷ Int ∷ []
locals_of templates.Fill = Int ∷ []
locals_of _ = []

-- Asserts that a constant equals itself, and returns the argument.
unfoldable pub constant_code : ℕ → List ℕ
constant_code constant =
    0x20 ∷ little_bytes 4 constant
    ++ 0x20 ∷ little_bytes 4 constant
    ++ 0xfe ∷ 0x01 ∷ 0x28 ∷ 0x05 ∷ 0x00 ∷ 0x00 ∷ 0x0a ∷ 0x02 ∷ 0x2a ∷ []

-- Divides, and requires that the divisor is not 0.
unfoldable pub div_code : List ℕ
div_code = 0x03 ∷ 0x16 ∷ 0xfe ∷ 0x03 ∷ 0x28 ∷ 0x01 ∷ 0x00 ∷ 0x00 ∷ 0x0a ∷ 0x02 ∷ 0x03 ∷ 0x5b ∷ 0x2a ∷ []

-- Adds up an array, and requires that it is not null.
unfoldable pub array_sum_code : List ℕ
array_sum_code =
    0x02 ∷ 0x14 ∷ 0xfe ∷ 0x03 ∷ 0x28 ∷ 0x01 ∷ 0x00 ∷ 0x00 ∷ 0x0a
    ∷ 0x16 ∷ 0x0a ∷ 0x16 ∷ 0x0b ∷ 0x2b ∷ 0x0a
    ∷ 0x06 ∷ 0x02 ∷ 0x07 ∷ 0x94 ∷ 0x58 ∷ 0x0a ∷ 0x07 ∷ 0x17 ∷ 0x58 ∷ 0x0b
    ∷ 0x07 ∷ 0x02 ∷ 0x8e ∷ 0x69 ∷ 0x32 ∷ 0xf0 ∷ 0x06 ∷ 0x2a ∷ []

-- Stores 0 at each index of an array, and asserts that it stands at the given index, which is required to be one.
unfoldable pub fill_code : List ℕ
fill_code =
    0x02 ∷ 0x14 ∷ 0xfe ∷ 0x03 ∷ 0x28 ∷ 0x01 ∷ 0x00 ∷ 0x00 ∷ 0x0a
    ∷ 0x03 ∷ 0x16 ∷ 0xfe ∷ 0x04 ∷ 0x16 ∷ 0xfe ∷ 0x01 ∷ 0x28 ∷ 0x01 ∷ 0x00 ∷ 0x00 ∷ 0x0a
    ∷ 0x03 ∷ 0x02 ∷ 0x8e ∷ 0x69 ∷ 0xfe ∷ 0x04 ∷ 0x28 ∷ 0x01 ∷ 0x00 ∷ 0x00 ∷ 0x0a
    ∷ 0x16 ∷ 0x0a ∷ 0x2b ∷ 0x08 ∷ 0x02 ∷ 0x06 ∷ 0x16 ∷ 0x9e ∷ 0x06 ∷ 0x17 ∷ 0x58 ∷ 0x0a
    ∷ 0x06 ∷ 0x02 ∷ 0x8e ∷ 0x69 ∷ 0x32 ∷ 0xf2
    ∷ 0x02 ∷ 0x03 ∷ 0x94 ∷ 0x16 ∷ 0xfe ∷ 0x01 ∷ 0x28 ∷ 0x05 ∷ 0x00 ∷ 0x00 ∷ 0x0a ∷ 0x2a ∷ []

-- The number n and the sum of those below it, by a call of the method itself, where n is required not to be negative.
abbrev pub sum_prefix : List ℕ
sum_prefix =
    0x02 ∷ 0x16 ∷ 0xfe ∷ 0x04 ∷ 0x16 ∷ 0xfe ∷ 0x01 ∷ 0x28 ∷ 0x01 ∷ 0x00 ∷ 0x00 ∷ 0x0a
    ∷ 0x02 ∷ 0x2d ∷ 0x02 ∷ 0x16 ∷ 0x2a ∷ 0x02 ∷ 0x02 ∷ 0x17 ∷ 0x59 ∷ 0x28 ∷ []

unfoldable pub sum_code : ℕ → List ℕ
sum_code token = sum_prefix ++ little_bytes 4 token ++ 0x58 ∷ 0x2a ∷ []

-- Begins with an opcode that the profile lacks.
unfoldable pub bad_code : List ℕ
bad_code = 0x7e ∷ 0x01 ∷ 0x00 ∷ 0x00 ∷ 0x04 ∷ 0x2a ∷ []

-- The code of a template, with this constant, in the method of this token.
abbrev pub code_of : Template → ℕ → ℕ → List ℕ
code_of templates.Constant constant token = constant_code constant
code_of templates.Div constant token = div_code
code_of templates.ArraySum constant token = array_sum_code
code_of templates.Fill constant token = fill_code
code_of templates.Sum constant token = sum_code token
code_of templates.Bad constant token = bad_code
