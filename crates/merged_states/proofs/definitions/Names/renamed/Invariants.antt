use Rattle.std.proofs.Common.{◌≡◌, ◌+◌, ◌++◌, drop}
use Rattle.merged_states.specs.Parts.{definitions_from, own_def}
use Rattle.merged_states.proofs.definitions.Names.renamed.Given as goal

abbrev pub invariant-loop-place : goal.invariant-loop-place
invariant-loop-place l =
    l.definitions.items
    ++ definitions_from (own_def l.self.symbols.now l.self.references.items l.self.definitions.now) (l.place + 1) (drop l.place l.keys)
    ≡ definitions_from (own_def l.self.symbols.now l.self.references.items l.self.definitions.now) 1 l.keys
