-- The first instruction that makes a part of the tree, and the tree from there on.
use Rattle.std.proofs.Common.{◌≡◌, ℕ, ◌≤◌, List, Some, None, slice_get, slice_index_or, refl, sym, ap, subst, ◌∙◌, arith}
use Rattle.cil_model.specs.ClauseTrees.{Item}
use Rattle.cil_model.specs.Offsets.{StandsAt}
use Rattle.cil_model.specs.Runs.{instr_at}
use Rattle.cil_model.specs.declared.instruction.Instr.{Instr}
use Rattle.cil_model.specs.ShortCode.{AreOfShortCode}
use Rattle.contract_extract.specs.Dropping.{AreAhead, Works, ahead_at, dropped_at, makes, without}
use Rattle.contract_extract.specs.Growth.{Keeps, forward, tree_here}
use Rattle.contract_extract.specs.TreeStacks.{IsFrom, StandsFor}
use Rattle.contract_extract.specs.declared.trees.ahead.Ahead.{Ahead}
use Rattle.contract_extract.specs.declared.trees.tree_stack.Slot.{Slot}
use Rattle.cil_model.specs.declared.instruction.Op.{Op}
use Rattle.cil_model.specs.declared.instruction.Op.TheVariants as ops
use Rattle.contract_extract.proofs.TreeLemmas.Found.{found_no_tree, found_tree}
use Rattle.contract_extract.proofs.TreeLemmas.Growing.{keeps_on, keeps_same}
use Rattle.cil_model.proofs.KindsSettle.{found_at}
use Rattle.contract_extract.proofs.TreeLemmas.Looking.{Settled, ahead_found, at_none, settled_at}
use Rattle.contract_extract.proofs.BlockLemmas.SliceFound.{slice_own}

pub makes_most : (op : Op) → makes op ≤ 1
makes_most ops.Nop = omega arith
makes_most (ops.Branch test target) = omega arith
makes_most _ = omega arith

pub nowhere : (is : List Instr) (at : ℕ) (items : List Item) → AreOfShortCode is → instr_at is at ≡ None → Keeps (forward is at items) None
nowhere is at items short none = keeps_same (forward is at items) None (found_no_tree is at items short (sym none))

module _ (is : List Instr) (ahead : List Ahead) (at index : ℕ) (short : AreOfShortCode is) (all : AreAhead is ahead) (found : StandsAt is at index) where
  abbrev here : Ahead
  here = slice_index_or ahead index at_none

  it_settles : Settled is (ahead_at is ahead) at here
  it_settles = settled_at is ahead at index here short all found refl

  pub no_working_tree : (items : List Item) → instr_at is here.works_at ≡ None → Keeps (forward is at items) None
  no_working_tree items none =
      let on = it_settles.leads items in
      keeps_on (forward is at items) (forward is here.works_at on.others) None on.keeps (nowhere is here.works_at on.others short none)

  module _ (other : ℕ) (i : Instr) (found_other : StandsAt is here.works_at other) (own : i ≡ slice_index_or is other i) where
    there : slice_get is other ≡ Some i
    there = slice_own is other i found_other.within own

    at_work : i.at ≡ here.works_at
    at_work = found_at is here.works_at i (found_other.found ∙ there)

    entry : ahead_at is ahead here.works_at ≡ slice_index_or ahead other at_none
    entry = ahead_found is ahead here.works_at other short all.long found_other

    pub working_tree : (stack : List Slot) (items : List Item) → StandsFor stack (without (dropped_at is ahead at) items)
        → IsFrom (forward is at items) (tree_here (forward is) i) (slice_index_or ahead other at_none).dropped stack
    working_tree stack items stands =
        let on = it_settles.leads items in
        let same : without (dropped_at is ahead at) items ≡ without (slice_index_or ahead other at_none).dropped on.others =
        ap (λ (a : Ahead). without a.dropped items) it_settles.own ∙ on.same ∙ ap (λ (a : Ahead). without a.dropped on.others) entry in
        record {
          items = on.others;
          stands = subst (StandsFor stack) same stands;
          keeps = keeps_on (forward is at items) (forward is here.works_at on.others) (tree_here (forward is) i on.others) on.keeps
              (keeps_same (forward is here.works_at on.others) (tree_here (forward is) i on.others)
              (found_tree is here.works_at i on.others short (sym there ∙ sym found_other.found)));
        }

    pub it_works : Works (ahead_at is ahead) i (slice_index_or ahead other at_none).dropped
    it_works = (all.each other i there).works (ap (λ (a : Ahead). a.works_at) (sym entry) ∙ it_settles.there ∙ sym at_work)

    pub working_later : at ≤ i.at
    working_later = (let x = it_settles.later in let y = at_work in omega (arith, x, y))
