-- The file that is written for a plan, as it is read.
use Rattle.std.proofs.Common.{◌≡◌, ℕ, ◌^◌, ◌<◌, ◌≤◌, List, length, Bool, true, false, None, refl, ap, ◌∙◌, subst, arith, ◌+◌, ◌&&◌}
use Rattle.std.specs.Prelude.{codes, IsTrue}
use Rattle.std.proofs.lemmas.Bool.{leb-true}
use Rattle.cc_base.specs.Slices.{IsShort}
use Rattle.cc_base.specs.Tests.{first_of}
use Rattle.cil_model.specs.Limits.{MAX_FILE_BYTES}
use Rattle.metadata_tables.specs.Root.{streams_tests, heap}
use Rattle.pe_reader.specs.Addresses.{metadata}
use Rattle.pe_reader.specs.Faults.{first_pe_fault}
use Rattle.asm_writer.specs.Linked.{Linked}
use Rattle.asm_writer.specs.Assembly.{linked_bytes}
use Rattle.asm_writer.specs.Layout.{layout_of}
use Rattle.asm_writer.specs.Sizes.{linked_fits, linked_size}
use Rattle.asm_writer.specs.Stream.{tables_stream}
use Rattle.asm_writer.proofs.Lengths.{length_linked, externs_below}
use Rattle.asm_writer.proofs.MetadataLemmas as written
use Rattle.asm_writer.specs.Metadata.{root_size, root}
use Rattle.asm_writer.specs.Metadata as parts
use Rattle.written_assemblies.specs.Written.{linked_metadata, linked_strings, linked_blobs}
use Rattle.written_assemblies.proofs.PartLemmas.{stands_reach}
use Rattle.written_assemblies.proofs.ImageLemmas.{file_of, stands_metadata, metadata_is, file_passes}
use Rattle.written_assemblies.proofs.RootLemmas.{laid, length_laid, streams_pass, strings_heap_is, blob_heap_is}

and_first : (a b : Bool) → (a && b) ≡ true → a ≡ true
and_first true b both = refl
and_first false b both = both

-- A file that fits is short.
pub few_bytes : (source : Linked) → IsTrue (linked_fits source) → linked_size source ≤ MAX_FILE_BYTES
unfolding linked_fits
few_bytes source fit = leb-true (linked_size source) MAX_FILE_BYTES (and_first _ _ fit)

pub few_in_file : (source : Linked) → IsTrue (linked_fits source) → length (linked_bytes source) < 2 ^ 31
few_in_file source fit = let size = length_linked source in let few = few_bytes source fit in omega (arith, size, few)

pub source_short : (source : Linked) (bytes : List ℕ) → IsTrue (linked_fits source) → bytes ≡ linked_bytes source → IsShort bytes
source_short source bytes fit is = let few = few_in_file source fit in rw is (omega (arith, few))

-- The metadata is the root and the streams after it.
pub metadata_laid : (source : Linked) → linked_metadata source ≡ laid (tables_stream (layout_of source) source.plan.methods.items) (layout_of source)
unfolding linked_metadata parts.metadata root_size
metadata_laid source = rw (written.length_root 0 (tables_stream (layout_of source) source.plan.methods.items) (layout_of source)) refl

pub some_metadata : (source : Linked) → 0 < length (linked_metadata source)
some_metadata source =
    let size = length_laid (tables_stream (layout_of source) source.plan.methods.items) (layout_of source) in
    rw (metadata_laid source) (omega (arith, size))

pub file_is : (source : Linked) → linked_bytes source ≡ file_of source.plan.wide (layout_of source).bodies.bytes (linked_metadata source)
unfolding linked_bytes linked_metadata
file_is source = refl

pub source_passes : (source : Linked) (bytes : List ℕ) → IsTrue (linked_fits source) → bytes ≡ linked_bytes source → first_pe_fault bytes ≡ None
source_passes source bytes fit is =
    let few = few_in_file source fit in
    ap first_pe_fault (is ∙ file_is source)
    ∙ file_passes source.plan.wide (layout_of source).bodies.bytes (linked_metadata source) (subst (λ (b : List ℕ). length b < 2 ^ 31) (file_is source) few) (some_metadata source)

pub source_metadata : (source : Linked) (bytes : List ℕ) → IsTrue (linked_fits source) → bytes ≡ linked_bytes source → metadata bytes ≡ linked_metadata source
source_metadata source bytes fit is =
    let few = few_in_file source fit in
    ap metadata (is ∙ file_is source)
    ∙ metadata_is source.plan.wide (layout_of source).bodies.bytes (linked_metadata source) (subst (λ (b : List ℕ). length b < 2 ^ 31) (file_is source) few) (some_metadata source)

pub few_in_metadata : (source : Linked) → IsTrue (linked_fits source) → length (laid (tables_stream (layout_of source) source.plan.methods.items) (layout_of source)) < 2 ^ 31
few_in_metadata source fit =
    let few = few_in_file source fit in
    let end = stands_reach _ _ _ (stands_metadata source.plan.wide (layout_of source).bodies.bytes (linked_metadata source)) in
    let same = ap length (file_is source) in
    let laid_out = ap length (metadata_laid source) in
    omega (arith, few, end, same, laid_out)

pub source_streams : (source : Linked) → IsTrue (linked_fits source) → first_of (streams_tests (linked_metadata source)) ≡ None
source_streams source fit = let few = few_in_metadata source fit in rw (metadata_laid source) (streams_pass (tables_stream (layout_of source) source.plan.methods.items) (layout_of source) (omega (arith, few)))

pub source_strings : (source : Linked) → IsTrue (linked_fits source) → heap (linked_metadata source) (codes "#Strings") ≡ linked_strings source
unfolding linked_strings
source_strings source fit = let few = few_in_metadata source fit in rw (metadata_laid source) (strings_heap_is (tables_stream (layout_of source) source.plan.methods.items) (layout_of source) (omega (arith, few)))

pub source_blobs : (source : Linked) → IsTrue (linked_fits source) → heap (linked_metadata source) (codes "#Blob") ≡ linked_blobs source
unfolding linked_blobs
source_blobs source fit = let few = few_in_metadata source fit in rw (metadata_laid source) (blob_heap_is (tables_stream (layout_of source) source.plan.methods.items) (layout_of source) (omega (arith, few)))

-- A token tells the externs apart, after the contract calls.
pub few_externs : (source : Linked) → IsTrue (linked_fits source) → length source.externs + 12 < 2 ^ 24
few_externs source fit =
    let below = externs_below source in
    let few = few_bytes source fit in
    omega (arith, below, few)
