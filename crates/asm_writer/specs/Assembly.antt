-- The whole file (ECMA-335 II.25).
use Rattle.std.specs.Prelude.{ℕ, ◌+◌, List, ◌++◌, length}
use Rattle.asm_writer.specs.declared.plan.AsmPlan.{AsmPlan}
use Rattle.asm_writer.specs.Headers.{file_alignment, bodies_rva, cli_header, headers}
use Rattle.asm_writer.specs.Layout.{layout_of}
use Rattle.asm_writer.specs.Linked.{Linked, alone}
use Rattle.asm_writer.specs.Metadata.{metadata}
use Rattle.asm_writer.specs.Numbers.{numbers_bytes}
use Rattle.asm_writer.specs.Padding.{padded}

-- The section: the CLI header, the bodies of the methods, and the metadata.
unfoldable pub section : List ℕ → List ℕ → List ℕ
section bodies metadata =
    padded file_alignment
    (numbers_bytes (cli_header (bodies_rva + length bodies) (length metadata)) ++ bodies ++ metadata)

-- The section of a plan with what it is linked with.
abbrev pub section_of : Linked → List ℕ
section_of all =
    let l = layout_of all in
    section l.bodies.bytes (metadata l all.plan.methods.items)

-- The file of these: the headers, and the section after them.
unfoldable pub linked_bytes : Linked → List ℕ
linked_bytes all = headers all.plan.wide (length (section_of all)) ++ section_of all

-- The file of a plan alone.
unfoldable pub assembly_bytes : AsmPlan → List ℕ
assembly_bytes plan = linked_bytes (alone plan)
