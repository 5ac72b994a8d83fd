-- Fat method bodies (ECMA-335 II.25.4.3).
use Rattle.std.specs.Prelude.{ℕ, ◌+◌, List, [], ◌∷◌, ◌++◌, length, take, sum_by, Bool, false, true, if◌then◌else◌}
use Rattle.cc_base.specs.Tokens.{token_of}
use Rattle.cil_model.specs.declared.place.Place.{Place}
use Rattle.asm_writer.specs.declared.number.Number.{Number}
use Rattle.asm_writer.specs.declared.number.Number.TheVariants.{Two, Four}
use Rattle.asm_writer.specs.declared.plan.MethodPlan.{MethodPlan}
use Rattle.asm_writer.specs.declared.table.Table.TheVariants as tables
use Rattle.asm_writer.specs.Each.{each_from}
use Rattle.asm_writer.specs.Numbers.{numbers_bytes, numbers_width}
use Rattle.asm_writer.specs.Packing.{Packing, packed}
use Rattle.asm_writer.specs.Padding.{fill}
use Rattle.asm_writer.specs.Tables.{table_number}

abbrev pub has_items : List Place → Bool
has_items [] = false
has_items (place ∷ places) = true

-- The method has a local variable.
abbrev pub has_locals : MethodPlan → Bool
has_locals m = has_items m.locals.items

-- How many rows of StandAloneSig the method has.
unfoldable pub locals_rows : MethodPlan → ℕ
locals_rows m = if has_locals m then 1 else 0

-- The row of StandAloneSig of the locals of the method of this index, where it has any.
abbrev pub locals_row : List MethodPlan → ℕ → ℕ
locals_row methods index = sum_by locals_rows (take index methods) + 1

abbrev pub locals_token : ℕ → MethodPlan → ℕ
locals_token row m = if has_locals m then token_of (table_number tables.StandAloneSig) row else 0

-- The flags of a fat header of three words with InitLocals, MaxStack, CodeSize and LocalVarSigTok.
abbrev pub body_header : ℕ → MethodPlan → List Number
body_header row m = Two 0x3013 ∷ Two m.max_stack ∷ Four (length m.code.items) ∷ Four (locals_token row m) ∷ []

-- The header and the code, filled up to a multiple of four.
unfoldable pub body : ℕ → MethodPlan → List ℕ
body row m =
    numbers_bytes (body_header row m)
    ++ m.code.items
    ++ fill 4 (numbers_width (body_header row m) + length m.code.items)

abbrev pub body_item : List MethodPlan → ℕ → MethodPlan → List (List ℕ)
body_item methods index m = body (locals_row methods index) m ∷ []

unfoldable pub bodies : List MethodPlan → Packing
bodies methods = packed (each_from 0 (body_item methods) methods)
