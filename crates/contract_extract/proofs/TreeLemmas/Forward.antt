-- The tree from an IL offset on, without the bound on the instructions: in code that lies one after another, as many
-- as it
-- has are enough.
use Rattle.std.proofs.Common.{◌≡◌, ℕ, zero, suc, ◌<◌, ◌≤◌, Bool, true, false, nat_lt, List, length, Option, Some, None, if◌then◌else◌, refl, sym, ap, ◌∙◌, arith}
use Rattle.std.specs.Option.{option_and_then}
use Rattle.std.proofs.lemmas.Bool.{ltb-true}
use Rattle.cil_model.specs.ClauseTrees.{Item, closing, tree_at, tree_from}
use Rattle.cil_model.specs.Runs.{instr_at}
use Rattle.cil_model.specs.Terms.{Term}
use Rattle.cil_model.specs.declared.instruction.Instr.{Instr}
use Rattle.cil_model.specs.ShortCode.{AreOfShortCode}
use Rattle.contract_extract.specs.Growth.{forward, onward, tree_here}
use Rattle.cil_model.proofs.KindsSettle.{found_at}
use Rattle.contract_extract.proofs.BlockLemmas.InstrOffsets.{left, left_falls, left_most, left_some, none_left}
use mathlib.Core.Path.{fun_ext}

-- Two ways to go on that agree after an offset make one tree there.
agree : (from other : ℕ → List Item → Option Term) (at : ℕ) → ((later : ℕ) (items : List Item) → at < later → from later items ≡ other later items)
    → onward from at ≡ onward other at
agree from other at same = fun_ext (λ (later : ℕ). fun_ext (λ (items : List Item). by later items (nat_lt at later) (λ e. same later items (ltb-true at later e))))
  where
    by : (later : ℕ) (items : List Item) (goes : Bool) → (goes ≡ true → from later items ≡ other later items)
        → (if goes then from later items else None) ≡ (if goes then other later items else None)
    by later items true same = same refl
    by later items false same = refl

abbrev tree_by : (ℕ → List Item → Option Term) → ℕ → List Item → Option Instr → Option Term
tree_by from at items found = option_and_then (λ i. tree_at (λ later rest. if nat_lt at later then from later rest else None) (closing i.op) i i.op items) found

by_agree : (from other : ℕ → List Item → Option Term) (at : ℕ) (items : List Item) (found : Option Instr)
    → ((i : Instr) → found ≡ Some i → (later : ℕ) (items : List Item) → at < later → from later items ≡ other later items)
    → tree_by from at items found ≡ tree_by other at items found
by_agree from other at items None same = refl
by_agree from other at items (Some i) same =
    ap (λ (g : ℕ → List Item → Option Term). tree_at g (closing i.op) i i.op items) (agree from other at (same i refl))

module _ (is : List Instr) (short : AreOfShortCode is) where
  -- More instructions than are left make no difference.
  one_more : (most at : ℕ) (items : List Item) → left is at ≤ most → tree_from most is at items ≡ tree_from (suc most) is at items
  one_more zero at items few =
      sym (ap (tree_by (tree_from zero is) at items) (none_left is at few))
  one_more (suc most) at items few =
      by_agree (tree_from most is) (tree_from (suc most) is) at items (instr_at is at)
      (λ i found later rest below. one_more most later rest (omega (arith, left_falls is at later short (left_some is at i found) below, few)))

  -- The tree from an offset on is that of its instruction, with the trees from later ones.
  pub from_here : (at : ℕ) (items : List Item) → forward is at items ≡ option_and_then (λ i. tree_here (forward is) i items) (instr_at is at)
  unfolding forward
  from_here at items =
      one_more (length is) at items (left_most is at) ∙ by_found (instr_at is at) (found_at is at)
    where
      by_found : (found : Option Instr) → ((i : Instr) → found ≡ Some i → i.at ≡ at)
          → tree_by (tree_from (length is) is) at items found ≡ option_and_then (λ i. tree_here (tree_from (length is) is) i items) found
      by_found None same = refl
      by_found (Some i) same =
          ap (λ (n : ℕ). tree_at (λ later rest. if nat_lt n later then tree_from (length is) is later rest else None) (closing i.op) i i.op items)
          (sym (same i refl))
