-- The file of a plan alone, and of a plan with what it is linked with, as they are read.
use Rattle.std.proofs.Common.{◌≡◌, ℕ, List, [], None, Some, ap, sym, subst, ◌∙◌}
use Rattle.std.specs.Prelude.{codes, IsTrue}
use Rattle.cc_base.specs.Slices.{IsShort}
use Rattle.cc_base.specs.Tests.{first_of}
use Rattle.metadata_tables.specs.Root.{streams_tests, heap}
use Rattle.pe_reader.specs.Addresses.{metadata}
use Rattle.pe_reader.specs.Faults.{first_pe_fault}
use Rattle.asm_image.specs.Faults.{FirstBroken}
use Rattle.asm_image.specs.Members.{assembly_name, member_of}
use Rattle.asm_writer.specs.declared.plan.AsmPlan.{AsmPlan}
use Rattle.asm_writer.specs.declared.plan.Extern.{Extern}
use Rattle.asm_writer.specs.Assembly.{linked_bytes, assembly_bytes}
use Rattle.asm_writer.specs.Linked.{Linked, linked, alone}
use Rattle.asm_writer.specs.Sizes.{fits, linked_fits}
use Rattle.written_assemblies.specs.Externs.{IsExternAt, extern_token, extern_key}
use Rattle.written_assemblies.specs.Readable.{IsReadable, IsReadableLinked}
use Rattle.written_assemblies.specs.Written.{written_metadata, written_strings, written_blobs}
use Rattle.written_assemblies.proofs.PlanLemmas.{source_short, source_passes, source_metadata, source_streams, source_strings, source_blobs, metadata_laid}
use Rattle.written_assemblies.proofs.WholeLemmas.{is_taken, whole_passes}
use Rattle.written_assemblies.proofs.ExternLemmas.{externs_are, own_name_is}

-- ---- a plan alone

pub is_short : (plan : AsmPlan) (bytes : List ℕ) → IsTrue (fits plan) → bytes ≡ assembly_bytes plan → IsShort bytes
unfolding assembly_bytes fits
is_short plan bytes fit is = source_short (alone plan) bytes fit is

pub plan_passes : (plan : AsmPlan) (bytes : List ℕ) → IsTrue (fits plan) → bytes ≡ assembly_bytes plan → first_pe_fault bytes ≡ None
unfolding assembly_bytes fits
plan_passes plan bytes fit is = source_passes (alone plan) bytes fit is

pub plan_metadata : (plan : AsmPlan) (bytes : List ℕ) → IsTrue (fits plan) → bytes ≡ assembly_bytes plan → metadata bytes ≡ written_metadata plan
unfolding assembly_bytes fits
plan_metadata plan bytes fit is = source_metadata (alone plan) bytes fit is

pub plan_streams : (plan : AsmPlan) → IsTrue (fits plan) → first_of (streams_tests (written_metadata plan)) ≡ None
unfolding fits
plan_streams plan fit = source_streams (alone plan) fit

pub plan_strings : (plan : AsmPlan) → IsTrue (fits plan) → heap (written_metadata plan) (codes "#Strings") ≡ written_strings plan
unfolding fits
plan_strings plan fit = source_strings (alone plan) fit

pub plan_blobs : (plan : AsmPlan) → IsTrue (fits plan) → heap (written_metadata plan) (codes "#Blob") ≡ written_blobs plan
unfolding fits
plan_blobs plan fit = source_blobs (alone plan) fit

pub alone_passes : (plan : AsmPlan) (bytes : List ℕ) → IsTrue (fits plan) → IsReadable plan → bytes ≡ assembly_bytes plan → FirstBroken bytes ≡ None
unfolding assembly_bytes fits
alone_passes plan bytes fit readable is = whole_passes (alone plan) bytes fit readable is

-- The same of a plan that is linked with nothing, under the name of its class.
pub alone_bytes : (plan : AsmPlan) (assembly bytes : List ℕ) → assembly ≡ plan.class.items → bytes ≡ assembly_bytes plan → bytes ≡ linked_bytes (linked plan assembly [])
unfolding assembly_bytes
alone_bytes plan assembly bytes same is = is ∙ ap (λ (name : List ℕ). linked_bytes (linked plan name [])) (sym same)

pub alone_fits : (plan : AsmPlan) (assembly : List ℕ) → assembly ≡ plan.class.items → IsTrue (fits plan) → IsTrue (linked_fits (linked plan assembly []))
unfolding fits
alone_fits plan assembly same fit = subst (λ (name : List ℕ). IsTrue (linked_fits (linked plan name []))) (sym same) fit

pub alone_readable : (plan : AsmPlan) (assembly : List ℕ) → assembly ≡ plan.class.items → IsReadable plan → IsReadableLinked (linked plan assembly [])
alone_readable plan assembly same readable =
    subst (λ (name : List ℕ). IsReadableLinked (linked plan name [])) (sym same) (record { plan = readable; assembly = readable.class; externs = tt })

-- ---- the names of a file

pub whole_name : (source : Linked) (bytes : List ℕ) → IsTrue (linked_fits source) → IsReadableLinked source → bytes ≡ linked_bytes source
    → assembly_name (metadata bytes) ≡ Some source.assembly
whole_name source bytes fit readable is =
    ap assembly_name (source_metadata source bytes fit is ∙ metadata_laid source)
    ∙ own_name_is source (is_taken source fit readable.plan).sound readable.assembly

pub whole_externs : (source : Linked) (bytes : List ℕ) (index : ℕ) (e : Extern) → IsTrue (linked_fits source) → IsReadableLinked source → bytes ≡ linked_bytes source
    → IsExternAt source.externs index e → member_of (metadata bytes) (extern_token index) ≡ Some (extern_key e)
whole_externs source bytes index e fit readable is at =
    ap (λ (md : List ℕ). member_of md (extern_token index)) (source_metadata source bytes fit is ∙ metadata_laid source)
    ∙ externs_are source index e (is_taken source fit readable.plan).sound fit readable at
