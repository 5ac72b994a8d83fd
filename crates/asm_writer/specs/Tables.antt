-- Tables, and the indexes that cite their rows (ECMA-335 II.22 and II.24.2.6).
use Rattle.std.specs.Prelude.{ℕ, ◌+◌, ◌*◌, ◌^◌, List, [], ◌∷◌, ◌==◌, position, unwrap_or}
use Rattle.asm_writer.specs.declared.table.Table.{Table}
use Rattle.asm_writer.specs.declared.table.Table.TheVariants as tables
use Rattle.asm_writer.specs.declared.table.CodedIndex.{CodedIndex}
use Rattle.asm_writer.specs.declared.table.CodedIndex.TheVariants.{TypeDefOrRef, MemberRefParent, MethodDefOrRef, ResolutionScope}

abbrev pub table_number : Table → ℕ
table_number tables.Module = 0x00
table_number tables.TypeRef = 0x01
table_number tables.TypeDef = 0x02
table_number tables.Field = 0x04
table_number tables.MethodDef = 0x06
table_number tables.Param = 0x08
table_number tables.MemberRef = 0x0a
table_number tables.StandAloneSig = 0x11
table_number tables.ModuleRef = 0x1a
table_number tables.TypeSpec = 0x1b
table_number tables.Assembly = 0x20
table_number tables.AssemblyRef = 0x23
table_number tables.MethodSpec = 0x2b

-- The tables in the order of their numbers.
abbrev pub all_tables : List Table
all_tables =
    tables.Module ∷ tables.TypeRef ∷ tables.TypeDef ∷ tables.Field ∷ tables.MethodDef ∷ tables.Param
    ∷ tables.MemberRef ∷ tables.StandAloneSig ∷ tables.ModuleRef ∷ tables.TypeSpec
    ∷ tables.Assembly ∷ tables.AssemblyRef ∷ tables.MethodSpec ∷ []

-- The tables of a coded index, by their tags.
abbrev pub coded_tables : CodedIndex → List Table
coded_tables TypeDefOrRef = tables.TypeDef ∷ tables.TypeRef ∷ tables.TypeSpec ∷ []
coded_tables MemberRefParent = tables.TypeDef ∷ tables.TypeRef ∷ tables.ModuleRef ∷ tables.MethodDef ∷ tables.TypeSpec ∷ []
coded_tables MethodDefOrRef = tables.MethodDef ∷ tables.MemberRef ∷ []
coded_tables ResolutionScope = tables.Module ∷ tables.ModuleRef ∷ tables.AssemblyRef ∷ tables.TypeRef ∷ []

-- How many low bits of a coded index are its tag.
abbrev pub tag_bits : CodedIndex → ℕ
tag_bits TypeDefOrRef = 2
tag_bits MemberRefParent = 3
tag_bits MethodDefOrRef = 1
tag_bits ResolutionScope = 2

-- Which of the tables it is.
abbrev pub tag_in : List Table → Table → ℕ
tag_in among table = unwrap_or (position (λ other. table_number other == table_number table) among) 0

-- The row, and below it the table's tag.
abbrev pub coded_value : CodedIndex → Table → ℕ → ℕ
coded_value kind table row = row * 2 ^ tag_bits kind + tag_in (coded_tables kind) table
