-- The whole file that is written for a plan, as the assembly that is read of it.
use Rattle.std.proofs.Common.{◌≡◌, ℕ, ◌^◌, ◌<◌, ◌≤◌, List, ◌++◌, length, Bool, true, false, None, refl, ap, ◌∙◌, append_assoc, arith, ◌&&◌}
use Rattle.std.specs.Prelude.{IsTrue}
use Rattle.std.specs.List.{list_all}
use Rattle.std.proofs.lemmas.Bool.{le-leb}
use Rattle.cc_base.specs.Tests.{first_of}
use Rattle.cc_base.proofs.TestLemmas.{first_of-append_none}
use Rattle.cil_model.specs.Limits.{MAX_FILE_BYTES}
use Rattle.metadata_tables.specs.TableTests.{first_table_fault}
use Rattle.pe_reader.specs.Addresses.{metadata_at}
use Rattle.asm_image.specs.Faults.{large_test, types_tests, methods_tests, file_tests, tables_tests, metadata_tests, assembly_tests, FirstBroken}
use Rattle.asm_image.specs.Rows.{rows_of, methods_of}
use Rattle.asm_writer.specs.Linked.{Linked}
use Rattle.asm_writer.specs.Assembly.{linked_bytes}
use Rattle.asm_writer.specs.Layout.{layout_of}
use Rattle.asm_writer.specs.Limits.{is_within}
use Rattle.asm_writer.specs.Sizes.{linked_fits}
use Rattle.asm_writer.proofs.Lengths.{length_linked}
use Rattle.written_assemblies.specs.Methods.{written_methods}
use Rattle.written_assemblies.specs.Readable.{IsReadable}
use Rattle.written_assemblies.specs.Written.{linked_metadata}
use Rattle.written_assemblies.proofs.PartLemmas.{stands_reach}
use Rattle.written_assemblies.proofs.ImageLemmas.{stands_bodies}
use Rattle.written_assemblies.proofs.MetadataLemmas.{metadata_passes}
use Rattle.written_assemblies.proofs.ReadLemmas.{IsTaken, rows_pass, methods_are}
use Rattle.written_assemblies.proofs.PlanLemmas.{few_bytes, few_in_file, few_in_metadata, few_externs, metadata_laid, file_is, source_passes, source_metadata}

and_second : (a b : Bool) → (a && b) ≡ true → b ≡ true
and_second true b both = both
and_second false b both = absurd cc

all_within : (source : Linked) → IsTrue (linked_fits source) → list_all is_within source.plan.methods.items ≡ true
unfolding linked_fits
all_within source fit = and_second _ _ (and_second _ _ fit)

few_bodies : (source : Linked) → IsTrue (linked_fits source) → length (layout_of source).bodies.bytes < 2 ^ 31
few_bodies source fit =
    let few = few_in_file source fit in
    let same = ap length (file_is source) in
    let end = stands_reach _ _ _ (stands_bodies source.plan.wide (layout_of source).bodies.bytes (linked_metadata source)) in
    omega (arith, few, same, end)

pub is_taken : (source : Linked) → IsTrue (linked_fits source) → IsReadable source.plan → IsTaken source
is_taken source fit readable = record {
  sound = record { counts = record { methods = refl; locals = refl }; externs = few_externs source fit; few = few_in_metadata source fit };
  readable = readable;
  within = all_within source fit;
  few = few_bodies source fit;
}

pub tables_pass : (source : Linked) → IsTrue (linked_fits source) → first_table_fault (linked_metadata source) ≡ None
tables_pass source fit =
    ap first_table_fault (metadata_laid source)
    ∙ metadata_passes (layout_of source) source.plan.methods.items (record { counts = record { methods = refl; locals = refl }; externs = few_externs source fit; few = few_in_metadata source fit })

file_tests_pass : (source : Linked) (bytes : List ℕ) → IsTrue (linked_fits source) → bytes ≡ linked_bytes source → first_of (file_tests bytes) ≡ None
unfolding file_tests large_test first_of
file_tests_pass source bytes fit is =
    let size = ap length is ∙ length_linked source in
    let few = few_bytes source fit in
    let small : length bytes ≤ MAX_FILE_BYTES = omega (arith, size, few) in
    rw (le-leb (length bytes) MAX_FILE_BYTES small, source_passes source bytes fit is) refl

tables_tests_pass : (source : Linked) (base : ℕ) → IsTrue (linked_fits source) → first_of (tables_tests (linked_metadata source) base) ≡ None
unfolding tables_tests first_of
tables_tests_pass source base fit = rw (tables_pass source fit) refl

metadata_tests_pass : (source : Linked) (base : ℕ) → IsTrue (linked_fits source) → IsReadable source.plan → first_of (metadata_tests (linked_metadata source) base) ≡ None
unfolding metadata_tests
metadata_tests_pass source base fit readable =
    let rows : first_of (types_tests (linked_metadata source) base ++ methods_tests (linked_metadata source) base) ≡ None =
    ap (λ (md : List ℕ). first_of (types_tests md base ++ methods_tests md base)) (metadata_laid source) ∙ rows_pass source base (is_taken source fit readable) in
    let prefix = tables_tests_pass source base fit in
    ap first_of (append_assoc (tables_tests (linked_metadata source) base) (types_tests (linked_metadata source) base) (methods_tests (linked_metadata source) base))
    ∙ first_of-append_none _ _ prefix ∙ rows

-- No test fails.
pub whole_passes : (source : Linked) (bytes : List ℕ) → IsTrue (linked_fits source) → IsReadable source.plan → bytes ≡ linked_bytes source → FirstBroken bytes ≡ None
unfolding FirstBroken assembly_tests
whole_passes source bytes fit readable is =
    first_of-append_none _ _ (file_tests_pass source bytes fit is)
    ∙ ap (λ (md : List ℕ). first_of (metadata_tests md (metadata_at bytes))) (source_metadata source bytes fit is)
    ∙ metadata_tests_pass source (metadata_at bytes) fit readable

-- The methods that are read.
pub whole_methods : (source : Linked) (bytes : List ℕ) → IsTrue (linked_fits source) → IsReadable source.plan → bytes ≡ linked_bytes source → methods_of bytes ≡ written_methods source.plan
whole_methods source bytes fit readable is =
    ap rows_of (source_metadata source bytes fit is ∙ metadata_laid source) ∙ methods_are source (is_taken source fit readable)
