-- The tests of an assembly in the order of reading, each with the fault that it gives where it fails.
use Rattle.std.specs.Prelude.{ℕ, ◌+◌, ◌-◌, List, [], ◌∷◌, ◌++◌, length, ◌==◌, ◌&&◌, nat_le, is_some, Option, Some, None, option_map, Result, Ok, Err, if◌then◌else◌}
use Rattle.std.specs.List.{flat_map, range_with_len}
use Rattle.cc_base.specs.Tests.{first_of, must}
use Rattle.cil_model.specs.Limits.{MAX_FILE_BYTES}
use Rattle.metadata_tables.specs.Heaps.{string_at, blob_at}
use Rattle.metadata_tables.specs.Layout.{cell, cell_at}
use Rattle.metadata_tables.specs.Numbers.{type_def, type_def_name, type_def_namespace, type_def_method_list, method_def, method_def_name, method_def_signature}
use Rattle.metadata_tables.specs.TableTests.{first_table_fault}
use Rattle.metadata_tables.specs.declared.fault.TableFault.{TableFault}
use Rattle.metadata_tables.specs.declared.fault.TableFault.TheVariants as table_faults
use Rattle.metadata_tables.specs.Tests as tables
use Rattle.pe_reader.specs.Addresses.{metadata, metadata_at}
use Rattle.pe_reader.specs.Faults as pe
use Rattle.pe_reader.specs.Faults.{first_pe_fault}
use Rattle.pe_reader.specs.declared.fault.PeFault.{PeFault}
use Rattle.signature_blobs.specs.Signatures.{method_signature}
use Rattle.signature_blobs.specs.declared.fault.SigFault.{SigFault}
use Rattle.signature_blobs.specs.Faults as sigs
use Rattle.signature_blobs.specs.declared.method.MethodSig.{MethodSig}
use Rattle.asm_image.specs.Cells.{method_count, type_count, method_list, signature_blob, signature_at}
use Rattle.asm_image.specs.declared.fault.AsmFault.{AsmFault}
use Rattle.asm_image.specs.declared.fault.Cause.TheVariants as causes

unfoldable pub large_test : List ℕ → Option AsmFault
large_test bytes = must (nat_le (length bytes) MAX_FILE_BYTES) (record { at = MAX_FILE_BYTES; cause = causes.Large })

-- A fault of the PE file. For an address outside, the offset is the address.
unfoldable pub pe_fault : PeFault → AsmFault
pe_fault fault = record { at = pe.offset_of fault; cause = causes.Pe fault }

-- A fault of the tables, where the metadata begins at an offset of the file. One that names no offset has the
-- metadata's.
unfoldable pub table_fault : ℕ → TableFault → AsmFault
table_fault base fault = record { at = base + tables.offset_of fault; cause = causes.Table fault }

-- A cell names no item of its heap.
abbrev pub heap_end : List ℕ → ℕ → ℕ → ℕ → ℕ → AsmFault
heap_end md base table row column = record {
  at = base + cell_at md table row column;
  cause = causes.Table (table_faults.HeapEnd (cell_at md table row column));
}

-- A cell names a row that there is not, or that is out of order.
abbrev pub index_out : List ℕ → ℕ → ℕ → ℕ → ℕ → AsmFault
index_out md base table row column = record {
  at = base + cell_at md table row column;
  cause = causes.Table (table_faults.IndexOut table row column);
}

-- The text that a cell names is there.
abbrev pub text_test : List ℕ → ℕ → ℕ → ℕ → ℕ → Option AsmFault
text_test md base table row column = must (is_some (string_at md (cell md table row column))) (heap_end md base table row column)

-- Where the run of methods of a type begins at the least: where that of the type before begins.
abbrev pub least_list : List ℕ → ℕ → ℕ
least_list md row = if row == 1 then 1 else method_list md (row - 1)

-- A type's run of methods begins no earlier than that, and at most after the last method.
abbrev pub list_test : List ℕ → ℕ → ℕ → Option AsmFault
list_test md base row =
    must (nat_le (least_list md row) (method_list md row) && nat_le (method_list md row) (method_count md + 1)) (index_out md base type_def row type_def_method_list)

-- A type: its name, its namespace and its run of methods.
unfoldable pub type_tests : List ℕ → ℕ → ℕ → List (Option AsmFault)
type_tests md base row = text_test md base type_def row type_def_name ∷ text_test md base type_def row type_def_namespace ∷ list_test md base row ∷ []

unfoldable pub types_tests : List ℕ → ℕ → List (Option AsmFault)
types_tests md base = flat_map (type_tests md base) (range_with_len 1 (type_count md))

-- The fault of a signature that begins at a place in the file.
abbrev pub signature_fault : ℕ → Result MethodSig SigFault → Option AsmFault
signature_fault start (Ok sig) = None
signature_fault start (Err fault) = Some (record { at = start + sigs.offset_of fault; cause = causes.Sig fault })

-- The signature of a method: its blob, and what the blob says.
unfoldable pub signature_tests : List ℕ → ℕ → ℕ → List (Option AsmFault)
signature_tests md base row =
    must (is_some (blob_at md (cell md method_def row method_def_signature))) (heap_end md base method_def row method_def_signature)
    ∷ signature_fault (base + signature_at md row) (method_signature (signature_blob md row))
    ∷ []

-- A method: its name and its signature.
unfoldable pub method_tests : List ℕ → ℕ → ℕ → List (Option AsmFault)
method_tests md base row = text_test md base method_def row method_def_name ∷ signature_tests md base row

unfoldable pub methods_tests : List ℕ → ℕ → List (Option AsmFault)
methods_tests md base = flat_map (method_tests md base) (range_with_len 1 (method_count md))

-- A file and its headers.
unfoldable pub file_tests : List ℕ → List (Option AsmFault)
file_tests bytes = large_test bytes ∷ option_map pe_fault (first_pe_fault bytes) ∷ []

-- The root, streams and tables of metadata that begins at a place in the file.
unfoldable pub tables_tests : List ℕ → ℕ → List (Option AsmFault)
tables_tests md base = option_map (table_fault base) (first_table_fault md) ∷ []

-- All of that metadata.
unfoldable pub metadata_tests : List ℕ → ℕ → List (Option AsmFault)
metadata_tests md base = tables_tests md base ++ types_tests md base ++ methods_tests md base

-- All tests of a file.
unfoldable pub assembly_tests : List ℕ → List (Option AsmFault)
assembly_tests bytes = file_tests bytes ++ metadata_tests (metadata bytes) (metadata_at bytes)

-- The first fault of an assembly file, if it has one.
unfoldable pub FirstBroken : List ℕ → Option AsmFault
FirstBroken bytes = first_of (assembly_tests bytes)
