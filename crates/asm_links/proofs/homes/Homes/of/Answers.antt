use Rattle.std.proofs.Common.{rules, arith}
use Rattle.asm_links.proofs.HomeLemmas.{last_file, next_file, none_told}
use Rattle.asm_links.proofs.homes.Homes.of.Goals as goal

pub loop-index-init : goal.loop-index-init
loop-index-init c = (search rules, rw c.none-homes.ensures none_told)

pub loop-index-preserved : goal.loop-index-preserved
loop-index-preserved c = (
  search rules,
  next_file c.args.assemblies.now c.loop-index.index c.in-Ok.file _ c.loop-index.homes c.note_all.new.self (search rules) (search rules) (search rules) c.loop-index.invariant.1 c.in_ok-note_all.ensures,
)

pub returns-clause-told : goal.returns-clause-told
returns-clause-told c = last_file c.args.assemblies.now c.loop-index.index c.loop-index.homes (search rules) c.loop-index.invariant.1
