-- What is kept of an assembly's file, of a walk over its methods, and of an assembly.
use Rattle.std.specs.Prelude.{◌≡◌, ◌+◌, ◌≤◌, ℕ, List, None}
use Rattle.pe_reader.specs.Addresses.{metadata, metadata_at}
use Rattle.asm_image.specs.Cells.{type_count, method_count, RunsRise, Begins}
use Rattle.asm_image.specs.Faults.{FirstBroken}
use Rattle.asm_image.specs.Find.{NamesFirst}
use Rattle.asm_image.specs.Names.{owner_text}
use Rattle.asm_image.specs.Rows.{methods_of}
use Rattle.asm_image.specs.declared.assembly.Assembly.TheInside as assembly
use Rattle.asm_image.specs.declared.assembly_file.AssemblyFile.TheInside as file

-- An assembly is read from the bytes of a file: they have no fault, and it is seen as these bytes.
pub record Reads (bytes assembly : List ℕ) : Type 0 where
  pub whole : FirstBroken bytes ≡ None
  pub same : assembly ≡ bytes

-- The file has no fault, and the metadata is that of the file.
pub record IsFile (inside : file.Inside) : Type 0 where
  pub accepted : FirstBroken inside.image ≡ None
  pub metadata_kept : inside.metadata.bytes ≡ metadata inside.image
  pub offset_kept : inside.metadata.offset ≡ metadata_at inside.image
  pub rise : RunsRise inside.metadata.bytes

-- A walk is at a method or after the last, and the type is one whose run begins at or before that method.
pub record IsWalk (md : List ℕ) (row owner : ℕ) (owner_name : List ℕ) : Type 0 where
  pub first : 1 ≤ row
  pub last : row ≤ method_count md + 1
  pub rise : RunsRise md
  pub type_there : owner ≤ type_count md
  pub begins : Begins md owner row
  pub name_kept : owner_name ≡ owner_text md owner

-- The rows are those of the methods, and the table says what their names mean.
pub record IsAssembly (inside : assembly.Inside) : Type 0 where
  pub accepted : FirstBroken inside.file ≡ None
  pub methods_kept : inside.methods.items ≡ methods_of inside.file
  pub names_kept : NamesFirst inside.names.last inside.names.earlier.items (metadata inside.file) (method_count (metadata inside.file))
