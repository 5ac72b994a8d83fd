-- What ends a straight stretch of a clause's code: the call that closes it, or a branch that goes two ways.
use Rattle.std.proofs.Common.{◌≡◌, ℕ, ◌+◌, Bool, true, List, [], ◌∷◌, Option, Some, None, IfSome, option_map, max, refl, sym, ap, subst, ◌∙◌, arith}
use Rattle.std.specs.Option.{option_and_then}
use Rattle.std.proofs.lemmas.Bool.{false≢true}
use Rattle.std.proofs.lemmas.Option.{none-some, same_Some}
use Rattle.cil_model.specs.ClauseTrees.{Item, Tree, Message, branch_tree, closed_tree, closing, tree_at}
use Rattle.cil_model.specs.Terms.{Term, condition_depth}
use Rattle.cil_model.specs.declared.clause.ClauseKind.{ClauseKind}
use Rattle.cil_model.specs.declared.instruction.Instr.{Instr}
use Rattle.cil_model.specs.declared.instruction.Op.{Op}
use Rattle.cil_model.specs.declared.instruction.Op.TheVariants as ops
use Rattle.cil_model.specs.declared.instruction.Test.{Test}
use Rattle.cil_model.specs.declared.instruction.Test.TheVariants as tests
use Rattle.contract_extract.specs.Growth.{AreFlat, ends_stretch, forked, goes_two_ways, onward, tested, tree_here}
use Rattle.contract_extract.specs.declared.trees.conditions.Condition.{Condition}

closed_at : (from : ℕ → List Item → Option Term) (i : Instr) (op : Op) (items : List Item) (closed : Option (ClauseKind × Bool)) (message : Bool)
    → Some message ≡ option_map (λ c. c.1) closed → tree_at from closed i op items ≡ closed_tree message items
closed_at from i op items None message e = absurd (none-some message (sym e))
closed_at from i op items (Some (kind, m)) message e = ap (λ (b : Bool). closed_tree b items) (sym (same_Some message m e))

-- A call that closes the clause makes the tree that it finds.
pub closing_here : (from : ℕ → List Item → Option Term) (i : Instr) (items : List Item) (message : Bool) → Some message ≡ option_map (λ c. c.1) (closing i.op)
    → tree_here from i items ≡ closed_tree message items
closing_here from i items message e = closed_at (onward from i.at) i i.op items (closing i.op) message e

-- The tree over a condition, if there is one.
abbrev pub over : (ℕ → List Item → Option Term) → Instr → ℕ → Option (Condition × List Item) → Option Term
over from i target found = option_and_then (λ p. forked p.0 (onward from i.at target p.1) (onward from i.at (i.at + i.size) p.1)) found

two_ways : (from : ℕ → List Item → Option Term) (test : Test) (target next : ℕ) (items : List Item) → goes_two_ways (ops.Branch test target) ≡ true
    → branch_tree from test target next items ≡ option_and_then (λ p. forked p.0 (from target p.1) (from next p.1)) (tested test items)
two_ways from tests.Always target next items both = absurd (false≢true both)
two_ways from tests.True target next [] both = refl
two_ways from tests.True target next (Tree a ∷ items) both = refl
two_ways from tests.True target next (Message ∷ items) both = refl
two_ways from tests.False target next [] both = refl
two_ways from tests.False target next (Tree a ∷ items) both = refl
two_ways from tests.False target next (Message ∷ items) both = refl
two_ways from (tests.Cmp op) target next [] both = refl
two_ways from (tests.Cmp op) target next (Message ∷ items) both = refl
two_ways from (tests.Cmp op) target next (Tree b ∷ []) both = refl
two_ways from (tests.Cmp op) target next (Tree b ∷ Message ∷ items) both = refl
two_ways from (tests.Cmp op) target next (Tree b ∷ Tree a ∷ items) both = refl

-- A branch that goes two ways makes a condition of both trees.
pub branching_here : (from : ℕ → List Item → Option Term) (i : Instr) (test : Test) (target : ℕ) (items : List Item) → ends_stretch i.op ≡ true
    → i.op ≡ ops.Branch test target → tree_here from i items ≡ over from i target (tested test items)
branching_here from i test target items ends is =
    ap (λ (op : Op). tree_at (onward from i.at) (closing op) i op items) is
    ∙ two_ways (onward from i.at) test target (i.at + i.size) items (subst (λ (op : Op). ends_stretch op ≡ true) is ends)

pub flat_tested : (test : Test) (items : List Item) → AreFlat items → IfSome (tested test items) (λ p. (condition_depth p.0.tree ≡ 0) × AreFlat p.1)
flat_tested tests.Always items flat = tt
flat_tested tests.True [] flat = tt
flat_tested tests.True (Message ∷ items) flat = tt
flat_tested tests.True (Tree a ∷ items) flat = flat
flat_tested tests.False [] flat = tt
flat_tested tests.False (Message ∷ items) flat = tt
flat_tested tests.False (Tree a ∷ items) flat = flat
flat_tested (tests.Cmp op) [] flat = tt
flat_tested (tests.Cmp op) (Message ∷ items) flat = tt
flat_tested (tests.Cmp op) (Tree b ∷ []) flat = tt
flat_tested (tests.Cmp op) (Tree b ∷ Message ∷ items) flat = tt
flat_tested (tests.Cmp op) (Tree b ∷ Tree a ∷ items) flat =
    let none : max (condition_depth a) (condition_depth b) ≡ 0 = (let x : condition_depth a ≡ 0 = flat.1.0 in let y : condition_depth b ≡ 0 = flat.0 in omega (arith, x, y)) in
    (none, flat.1.1)
