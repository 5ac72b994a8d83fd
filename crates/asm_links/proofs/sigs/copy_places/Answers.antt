use Rattle.std.proofs.Common.{rules}
use Rattle.asm_links.proofs.PlaceLists.{copied}
use Rattle.asm_links.proofs.sigs.copy_places.Goals as goal

pub loop-index-preserved : goal.loop-index-preserved
loop-index-preserved c =
    copied c.args.places.now c.loop-index.copy c.push.new.self c.loop-index.index c.in-Some.place c.loop-index.invariant (search rules) (search rules)
