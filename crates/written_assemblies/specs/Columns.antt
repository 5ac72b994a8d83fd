-- The columns that fields of rows are, as they are read.
use Rattle.std.specs.Prelude.{Option, Some, None}
use Rattle.metadata_tables.specs.declared.schema.CodedIndex.{CodedIndex as ReadIndex}
use Rattle.metadata_tables.specs.declared.schema.CodedIndex.TheVariants as read
use Rattle.metadata_tables.specs.declared.schema.Column.{Column}
use Rattle.metadata_tables.specs.declared.schema.Column.TheVariants as columns
use Rattle.asm_writer.specs.declared.field.Field.{Field}
use Rattle.asm_writer.specs.declared.field.Field.TheVariants as fields
use Rattle.asm_writer.specs.declared.number.Number.TheVariants.{Zeros, Two, Four, Eight}
use Rattle.asm_writer.specs.declared.table.CodedIndex.{CodedIndex}
use Rattle.asm_writer.specs.declared.table.CodedIndex.TheVariants as kinds
use Rattle.asm_writer.specs.Tables.{table_number}

abbrev pub index_of : CodedIndex → ReadIndex
index_of kinds.TypeDefOrRef = read.TypeDefOrRef
index_of kinds.MemberRefParent = read.MemberRefParent
index_of kinds.MethodDefOrRef = read.MethodDefOrRef
index_of kinds.ResolutionScope = read.ResolutionScope

-- No column has a number of eight bytes, or of zeros alone.
abbrev pub column_of : Field → Option Column
column_of (fields.Plain (Zeros n)) = None
column_of (fields.Plain (Two n)) = Some columns.Two
column_of (fields.Plain (Four n)) = Some columns.Four
column_of (fields.Plain (Eight n)) = None
column_of (fields.Strings name) = Some columns.Strings
column_of (fields.MethodName m) = Some columns.Strings
column_of fields.OwnName = Some columns.Strings
column_of (fields.ExternName index part) = Some columns.Strings
column_of (fields.Guid n) = Some columns.Guid
column_of (fields.Blobs blob) = Some columns.Blob
column_of (fields.MethodSignature m) = Some columns.Blob
column_of (fields.MethodLocals m) = Some columns.Blob
column_of (fields.ExternSignature index) = Some columns.Blob
column_of (fields.MethodBody m) = Some columns.Four
column_of (fields.Row table row) = Some (columns.Row (table_number table))
column_of (fields.Coded kind table row) = Some (columns.Coded (index_of kind))
