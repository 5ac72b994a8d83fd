-- The parts of the file that is written for a plan.
use Rattle.std.specs.Prelude.{ℕ, List}
use Rattle.asm_writer.specs.declared.plan.AsmPlan.{AsmPlan}
use Rattle.asm_writer.specs.Layout.{layout_of}
use Rattle.asm_writer.specs.Linked.{Linked, alone}
use Rattle.asm_writer.specs.Metadata.{metadata}

-- Its metadata.
unfoldable pub linked_metadata : Linked → List ℕ
linked_metadata source = metadata (layout_of source) source.plan.methods.items

-- The bytes of its heaps `#Strings` and `#Blob`.
unfoldable pub linked_strings : Linked → List ℕ
linked_strings source = (layout_of source).strings.bytes

unfoldable pub linked_blobs : Linked → List ℕ
linked_blobs source = (layout_of source).blobs.bytes

-- The same of a plan alone.
abbrev pub written_metadata : AsmPlan → List ℕ
written_metadata plan = linked_metadata (alone plan)

abbrev pub written_strings : AsmPlan → List ℕ
written_strings plan = linked_strings (alone plan)

abbrev pub written_blobs : AsmPlan → List ℕ
written_blobs plan = linked_blobs (alone plan)
