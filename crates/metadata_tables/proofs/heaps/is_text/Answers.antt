use Rattle.std.proofs.Common.{refl}
use Rattle.metadata_tables.proofs.TextLemmas.{prefix_decides}
use Rattle.metadata_tables.proofs.heaps.is_text.Goals as goal

pub returns-in-Some : goal.returns-in-Some
returns-in-Some c = rw (prefix_decides c.args.bytes.now c.args.text.now c.min-prefix.result c.min-prefix.ensures, ← c.in-Some.ensures) c.eq.ensures

pub returns-in-None : goal.returns-in-None
returns-in-None c = rw (prefix_decides c.args.bytes.now c.args.text.now c.min-prefix.result c.min-prefix.ensures, ← c.in-None.ensures) refl
