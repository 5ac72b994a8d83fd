-- An assembly without a fault has so few methods that their tokens differ.
use Rattle.std.proofs.Common.{◌≡◌, ℕ, ◌+◌, ◌-◌, ◌<◌, ◌≤◌, ◌^◌, nat_le, List, [], ◌∷◌, ◌++◌, length, drop, Option, Some, None, option_map, refl, arith}
use Rattle.std.proofs.lemmas.Bool.{leb-true}
use Rattle.std.proofs.lemmas.List.{length-drop, length-take}
use Rattle.cc_base.proofs.TestLemmas.{must_hold, none_before, none_behind, none_here}
use Rattle.cil_model.specs.Limits.{MAX_FILE_BYTES}
use Rattle.metadata_tables.specs.Numbers.{method_def}
use Rattle.metadata_tables.specs.TableTests.{first_table_fault}
use Rattle.metadata_tables.proofs.CellLemmas.{rows_few}
use Rattle.metadata_tables.proofs.ColumnLemmas.{method_def_columns}
use Rattle.pe_reader.specs.Addresses.{metadata, metadata_at, metadata_size}
use Rattle.pe_reader.specs.Faults.{first_pe_fault}
use Rattle.asm_image.specs.Cells.{method_count}
use Rattle.asm_image.specs.Faults.{FirstBroken, assembly_tests, file_tests, large_test, metadata_tests, methods_tests, pe_fault, table_fault, tables_tests, types_tests}

none_mapped : {F G : Type 0} (f : F → G) (fault : Option F) → option_map f fault ≡ None → fault ≡ None
none_mapped f None e = refl
none_mapped f (Some fault) e = absurd cc

file_is_small : (bytes : List ℕ) → FirstBroken bytes ≡ None → length bytes ≤ MAX_FILE_BYTES
unfolding FirstBroken assembly_tests file_tests large_test
file_is_small bytes none =
    leb-true (length bytes) MAX_FILE_BYTES
    ((must_hold (nat_le (length bytes) MAX_FILE_BYTES) _).0
    (none_here (large_test bytes) (option_map pe_fault (first_pe_fault bytes) ∷ []) (none_before (file_tests bytes) (metadata_tests (metadata bytes) (metadata_at bytes)) none)))

tables_are_whole : (bytes : List ℕ) → FirstBroken bytes ≡ None → first_table_fault (metadata bytes) ≡ None
unfolding FirstBroken assembly_tests metadata_tests tables_tests
tables_are_whole bytes none =
    let md = metadata bytes in
    let base = metadata_at bytes in
    let all = none_behind (file_tests bytes) (metadata_tests md base) none in
    let tables = none_here (option_map (table_fault base) (first_table_fault md)) (types_tests md base ++ methods_tests md base) all in
    none_mapped (table_fault base) (first_table_fault md) tables

metadata_is_within : (bytes : List ℕ) → length (metadata bytes) ≤ length bytes
unfolding metadata
metadata_is_within bytes =
    omega (arith, length-take (metadata_at bytes + metadata_size bytes - metadata_at bytes) (drop (metadata_at bytes) bytes), length-drop (metadata_at bytes) bytes)

pub methods_are_few : (bytes : List ℕ) → FirstBroken bytes ≡ None → method_count (metadata bytes) < 2 ^ 23
methods_are_few bytes none =
    let few = rows_few (metadata bytes) method_def (tables_are_whole bytes none) in
    omega (arith, rw method_def_columns at few, metadata_is_within bytes, file_is_small bytes none)
