use Rattle.std.proofs.Common.{◌≡◌, ◌≤◌, ◌^◌, take}
use Rattle.asm_links.specs.Homes.{TellsHomes}
use Rattle.asm_links.specs.Targets.{all_named}
use Rattle.asm_links.proofs.homes.Homes.of.Given as goal

abbrev pub invariant-loop-index : goal.invariant-loop-index
invariant-loop-index l = (l.index ≤ 2 ^ 32) × TellsHomes l.homes (all_named 0 (take l.index l.assemblies))
