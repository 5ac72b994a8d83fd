use Rattle.std.proofs.Common.{rules}
use Rattle.asm_image.proofs.NameLemmas.{prefix-taken, opens-somewhere}
use Rattle.asm_image.proofs.name_table.short_name.Goals as goal

pub returns-in-Some : goal.returns-in-Some
returns-in-Some c prefix types is =
    prefix-taken c.args.name.now prefix types c.in-Some.end is (search rules) (search rules) (search rules)

pub returns-in-None : goal.returns-in-None
returns-in-None c prefix types is = absurd (opens-somewhere c.args.name.now prefix types is (search rules))
