use Rattle.std.proofs.Common.{ap, ◌∙◌}
use Rattle.asm_image.specs.Rows.{methods_of}
use Rattle.unit_builder.proofs.linked.methods_in.Goals as goal

pub returns : goal.returns
returns c = c.methods.ensures.methods ∙ ap methods_of c.assembly.ensures
