use Rattle.std.proofs.Common.{◌≡◌, ◌++◌, List, map, take}
use Rattle.asm_image.specs.Rows.{methods_of}
use Rattle.asm_links.specs.Homes.{TellsHomes}
use Rattle.asm_links.specs.Targets.{Named, named}
use Rattle.asm_links.proofs.homes.Homes.note_all.Given as goal

abbrev pub invariant-loop-method : goal.invariant-loop-method
invariant-loop-method l =
    (before : List Named) → TellsHomes l.initial.self before → TellsHomes l.self (before ++ map (named l.file l.assembly l.name) (take l.method-index (methods_of l.assembly)))
