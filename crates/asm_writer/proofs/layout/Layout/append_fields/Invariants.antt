use Rattle.std.proofs.Common.{◌≡◌, ◌++◌, take}
use Rattle.std.specs.List.{flat_map}
use Rattle.asm_writer.specs.Layout.{field_bytes}
use Rattle.asm_writer.proofs.layout.Layout.append_fields.Given as goal

abbrev pub invariant-loop-field : goal.invariant-loop-field
invariant-loop-field l = l.out.items ≡ l.initial.out.items ++ flat_map (field_bytes l.self) (take l.field-index l.fields)
