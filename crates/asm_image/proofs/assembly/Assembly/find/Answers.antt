use Rattle.std.proofs.Common.{sym, ◌∙◌}
use Rattle.asm_image.proofs.FindLemmas.{find_parts}
use Rattle.asm_image.proofs.assembly.Assembly.find.Goals as goal

pub returns : goal.returns
returns c = c.either.ensures ∙ rw (c.find_whole.ensures, c.find_short.ensures) (sym (find_parts c.args.self.now c.args.name.now))
