-- The row counts that are written, by the numbers of methods, of rows of locals and of externs.
use Rattle.std.specs.Prelude.{ℕ, ◌+◌, List, [], ◌∷◌, length, map, ◌==◌, if◌then◌else◌}
use Rattle.std.specs.List.{range_with_len}
use Rattle.asm_writer.specs.declared.table.Table.{Table}
use Rattle.asm_writer.specs.declared.table.Table.TheVariants as tables
use Rattle.asm_writer.specs.Rows.{fixed_rows}
use Rattle.asm_writer.specs.Tables.{all_tables, table_number}

-- How many rows a table has.
abbrev pub count_of : ℕ → ℕ → ℕ → Table → ℕ
count_of methods locals externs tables.MethodDef = methods
count_of methods locals externs tables.StandAloneSig = locals
count_of methods locals externs tables.TypeRef = length (fixed_rows tables.TypeRef) + externs
count_of methods locals externs tables.MemberRef = length (fixed_rows tables.MemberRef) + externs
count_of methods locals externs tables.AssemblyRef = length (fixed_rows tables.AssemblyRef) + externs
count_of methods locals externs table = length (fixed_rows table)

-- The same of the table of a number, among some tables.
abbrev pub count_among : ℕ → ℕ → ℕ → ℕ → List Table → ℕ
count_among methods locals externs number [] = 0
count_among methods locals externs number (table ∷ tables) =
    if table_number table == number then count_of methods locals externs table else count_among methods locals externs number tables

-- The row counts of the tables 00 to 2c.
unfoldable pub counts_of : ℕ → ℕ → ℕ → List ℕ
counts_of methods locals externs = map (λ number. count_among methods locals externs number all_tables) (range_with_len 0 45)
