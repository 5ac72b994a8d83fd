-- The instruction that is found at an IL offset, and the tree from there on.
use Rattle.std.proofs.Common.{◌≡◌, ℕ, List, Some, None, sym, ap, ◌∙◌}
use Rattle.std.specs.Option.{option_and_then}
use Rattle.cil_model.specs.ClauseTrees.{Item}
use Rattle.cil_model.specs.Runs.{instr_at}
use Rattle.cil_model.specs.declared.instruction.Instr.{Instr}
use Rattle.cil_model.specs.ShortCode.{AreOfShortCode}
use Rattle.contract_extract.specs.Growth.{forward, tree_here}
use Rattle.contract_extract.proofs.TreeLemmas.Forward.{from_here}

pub found_tree : (is : List Instr) (at : ℕ) (i : Instr) (items : List Item) → AreOfShortCode is → Some i ≡ instr_at is at
    → forward is at items ≡ tree_here (forward is) i items
found_tree is at i items short found =
    from_here is short at items ∙ ap (option_and_then (λ j. tree_here (forward is) j items)) (sym found)

pub found_no_tree : (is : List Instr) (at : ℕ) (items : List Item) → AreOfShortCode is → None ≡ instr_at is at → forward is at items ≡ None
found_no_tree is at items short found =
    from_here is short at items ∙ ap (option_and_then (λ j. tree_here (forward is) j items)) (sym found)
