-- The constants of a unit's own clauses are int32, since those of its code are.
use Rattle.std.proofs.Common.{◌≡◌, ℕ, zero, suc, ◌+◌, Bool, true, false, nat_lt, List, [], ◌∷◌, ◌++◌, length, map, Option, Some, None, if◌then◌else◌, refl, subst, sym}
use Rattle.std.specs.List.{AllByRecursion}
use Rattle.std.specs.Option.{option_and_then}
use Rattle.std.proofs.lemmas.Bool.{cond_both}
use Rattle.cil_model.specs.ClauseTrees.{Item, Message, Tree, branch_operator, branch_tree, clause_before, clauses_from, closed_tree, closing, condition, items_behind, tree_at, tree_from, with_call, with_element, with_length, with_operator, with_unary}
use Rattle.cil_model.specs.FitKinds.{OperandFits}
use Rattle.cil_model.specs.Runs.{instr_at}
use Rattle.cil_model.specs.TermCodes.{Root, preorder}
use Rattle.cil_model.specs.Terms as terms
use Rattle.cil_model.specs.Terms.{Term}
use Rattle.cil_model.specs.Blocks.{closes}
use Rattle.cil_model.specs.UnitCalls.{unit_call}
use Rattle.cil_model.specs.WellFormed.{HasInts, IsAdded, IsIntRoot, IsWellFormed, told_by_code}
use Rattle.cil_model.specs.declared.clause.Clause.{Clause}
use Rattle.cil_model.specs.declared.clause.ClauseKind.{ClauseKind}
use Rattle.cil_model.specs.declared.instruction.BinOp.{BinOp}
use Rattle.cil_model.specs.declared.instruction.Instr.{Instr}
use Rattle.cil_model.specs.declared.instruction.Op.{Op}
use Rattle.cil_model.specs.declared.instruction.Op.TheVariants as ops
use Rattle.cil_model.specs.declared.instruction.Test.{Test}
use Rattle.cil_model.specs.declared.instruction.Test.TheVariants as tests
use Rattle.cil_model.specs.declared.unit.Unit.{Unit as MethodUnit}
use Rattle.cil_model.specs.declared.unit_numbers.UnitCall.{UnitCall}
use Rattle.cil_model.specs.declared.unit_numbers.UnitCall.TheVariants as calls
use Rattle.cil_model.proofs.Lists.{all_append, of_found}
use Rattle.cil_model.proofs.Rows.{code_is_decoded}

abbrev AreInts : Term → Type 0
AreInts t = AllByRecursion IsIntRoot (preorder t)

abbrev IsIntTree : Option Term → Type 0
IsIntTree None = Unit {0}
IsIntTree (Some t) = AreInts t

abbrev IsIntItem : Item → Type 0
IsIntItem (Tree t) = AreInts t
IsIntItem Message = Unit {0}

abbrev AreIntItems : List Item → Type 0
AreIntItems items = AllByRecursion IsIntItem items

abbrev HasIntItems : Option (List Item) → Type 0
HasIntItems None = Unit {0}
HasIntItems (Some items) = AreIntItems items

both : (xs ys : List Root) → AllByRecursion IsIntRoot xs → AllByRecursion IsIntRoot ys
    → AllByRecursion IsIntRoot (xs ++ ys)
both [] ys first second = second
both (x ∷ xs) ys first second = (first.0, both xs ys first.1 second)

-- ---- one operation

length_ints : (items : List Item) → AreIntItems items → HasIntItems (with_length items)
length_ints [] all = tt
length_ints (Tree a ∷ rest) all = ((tt, all.0), all.1)
length_ints (Message ∷ rest) all = tt

element_ints : (op : Op) (items : List Item) → AreIntItems items → HasIntItems (with_element op items)
element_ints (ops.LoadElem place) (Tree index ∷ Tree array ∷ rest) all =
    ((tt, both (preorder array) (preorder index) all.1.0 all.0), all.1.1)
element_ints _ _ all = tt

operator_ints : (op : BinOp) (items : List Item) → AreIntItems items → HasIntItems (with_operator op items)
operator_ints op (Tree b ∷ Tree a ∷ rest) all = ((tt, both (preorder a) (preorder b) all.1.0 all.0), all.1.1)
operator_ints op _ all = tt

unary_ints : (op : Op) (items : List Item) → AreIntItems items → HasIntItems (with_unary op items)
unary_ints ops.Neg (Tree a ∷ rest) all = ((tt, all.0), all.1)
unary_ints ops.Not (Tree a ∷ rest) all = ((tt, all.0), all.1)
unary_ints ops.ConvI4 (Tree a ∷ rest) all = all
unary_ints _ _ all = tt

call_ints : (call : Option UnitCall) (items : List Item) → AreIntItems items → HasIntItems (with_call call items)
call_ints (Some (calls.Result place)) items all = ((tt, tt), all)
call_ints (Some (calls.OldValue place)) (Tree a ∷ rest) all = ((tt, all.0), all.1)
call_ints _ _ all = tt

behind_ints : (op : Op) (items : List Item) → OperandFits op → AreIntItems items → HasIntItems (items_behind op items)
behind_ints ops.Nop items fits all = all
behind_ints (ops.LoadArg n) items fits all = ((tt, tt), all)
behind_ints ops.Null items fits all = ((tt, tt), all)
behind_ints (ops.Const n) items fits all = ((fits, tt), all)
behind_ints (ops.Text token) items fits all = (tt, all)
behind_ints (ops.Bin operator) items fits all = operator_ints operator items all
behind_ints ops.Neg items fits all = unary_ints ops.Neg items all
behind_ints ops.Not items fits all = unary_ints ops.Not items all
behind_ints ops.ConvI4 items fits all = unary_ints ops.ConvI4 items all
behind_ints ops.Length items fits all = length_ints items all
behind_ints (ops.LoadElem place) items fits all = element_ints (ops.LoadElem place) items all
behind_ints (ops.Call number) items fits all = call_ints (unit_call number) items all
behind_ints _ items fits all = tt

-- ---- branches and whole clauses

condition_ints : (turned : Bool) (test : Term) (a b : Option Term) → AreInts test → IsIntTree a → IsIntTree b
    → IsIntTree (condition turned test a b)
condition_ints false test (Some a) (Some b) own first second =
    (tt, both (preorder test) (preorder a ++ preorder b) own (both (preorder a) (preorder b) first second))
condition_ints true test (Some a) (Some b) own first second =
    (tt, both (preorder test) (preorder b ++ preorder a) own (both (preorder b) (preorder a) second first))
condition_ints true test None b own first second = tt
condition_ints false test None b own first second = tt
condition_ints true test (Some a) None own first second = tt
condition_ints false test (Some a) None own first second = tt

-- From each later offset a stack of int32 trees gives one.
abbrev GivesInts : (ℕ → List Item → Option Term) → Type 0
GivesInts from = (at : ℕ) (items : List Item) → AreIntItems items → IsIntTree (from at items)

branch_ints : (from : ℕ → List Item → Option Term) (test : Test) (target next : ℕ) (items : List Item) → GivesInts from
    → AreIntItems items
    → IsIntTree (branch_tree from test target next items)
branch_ints from tests.Always target next items gives all = gives target items all
branch_ints from tests.True target next (Tree a ∷ rest) gives all =
    condition_ints false a (from target rest) (from next rest) all.0 (gives target rest all.1) (gives next rest all.1)
branch_ints from tests.False target next (Tree a ∷ rest) gives all =
    condition_ints true a (from target rest) (from next rest) all.0 (gives target rest all.1) (gives next rest all.1)
branch_ints from (tests.Cmp op) target next (Tree b ∷ Tree a ∷ rest) gives all =
    let rest_all = all.1.1 in
    condition_ints (branch_operator op).1 (terms.Bin (branch_operator op).0 a b) (from target rest) (from next rest)
    (tt, both (preorder a) (preorder b) all.1.0 all.0) (gives target rest rest_all) (gives next rest rest_all)
branch_ints from _ target next _ gives all = tt

closed_ints : (message : Bool) (items : List Item) → AreIntItems items → IsIntTree (closed_tree message items)
closed_ints false (Tree a ∷ []) all = all.0
closed_ints true (top ∷ Tree a ∷ []) all = all.1.0
closed_ints _ _ all = tt

then_ints : (from : ℕ → List Item → Option Term) (at : ℕ) (o : Option (List Item)) → GivesInts from → HasIntItems o
    → IsIntTree (option_and_then (from at) o)
then_ints from at None gives has = tt
then_ints from at (Some items) gives has = gives at items has

at_ints : (from : ℕ → List Item → Option Term) (closed : Option (ClauseKind × Bool)) (i : Instr) (op : Op)
    (items : List Item) → OperandFits op
    → GivesInts from → AreIntItems items → IsIntTree (tree_at from closed i op items)
at_ints from (Some (kind, message)) i op items fits gives all = closed_ints message items all
at_ints from None i (ops.Branch test target) items fits gives all =
    branch_ints from test target (i.at + i.size) items gives all
at_ints from None i op items fits gives all =
    then_ints from (i.at + i.size) (items_behind op items) gives (behind_ints op items fits all)

from_ints : (most : ℕ) (is : List Instr) → AllByRecursion (λ i. OperandFits i.op) is → GivesInts (tree_from most is)
from_ints zero is fits at items all = tt
from_ints (suc most) is fits at items all = by (instr_at is at) refl (from_ints most is fits)
  where
    by : (o : Option Instr) → instr_at is at ≡ o → GivesInts (tree_from most is)
        → IsIntTree (option_and_then
        (λ i. tree_at (λ later rest. if nat_lt at later then tree_from most is later rest else None)
        (closing i.op) i i.op items) o)
    by None found gives = tt
    by (Some i) found gives =
        at_ints (λ later rest. if nat_lt at later then tree_from most is later rest else None)
        (closing i.op) i i.op items
        (of_found (λ j. OperandFits j.op) is at i fits found)
        (λ later rest own. cond_both (nat_lt at later) _ _ IsIntTree (λ e. gives later rest own) (λ e. tt)) all

-- ---- the clauses of a unit

abbrev IsIntClause : ClauseKind × Option Term → Type 0
IsIntClause told = IsIntTree told.1

both_told : (xs ys : List (ClauseKind × Option Term)) → AllByRecursion IsIntClause xs → AllByRecursion IsIntClause ys
    → AllByRecursion IsIntClause (xs ++ ys)
both_told [] ys first second = second
both_told (x ∷ xs) ys first second = (first.0, both_told xs ys first.1 second)

before_ints : (is : List Instr) (start : ℕ) (closed : Option (ClauseKind × Bool))
    → AllByRecursion (λ i. OperandFits i.op) is
    → AllByRecursion IsIntClause (clause_before is start closed)
before_ints is start None fits = tt
before_ints is start (Some (kind, message)) fits = (from_ints (length is) is fits start [] tt, tt)

all_ints : (is : List Instr) (start : ℕ) (rest : List Instr) → AllByRecursion (λ i. OperandFits i.op) is
    → AllByRecursion IsIntClause (clauses_from is start rest)
all_ints is start [] fits = tt
all_ints is start (i ∷ rest) fits = cond_both (closes i.op) _ _ (AllByRecursion IsIntClause)
    (λ e. both_told (clause_before is start (closing i.op)) (clauses_from is (i.at + i.size) rest)
    (before_ints is start (closing i.op) fits)
    (all_ints is (i.at + i.size) rest fits))
    (λ e. all_ints is start rest fits)

of_told : (clauses : List Clause) → AllByRecursion IsIntClause (map told_by_code clauses)
    → AllByRecursion HasInts clauses
of_told [] all = tt
of_told (clause ∷ clauses) all = (all.0, of_told clauses all.1)

added_ints : (clauses : List Clause) → AllByRecursion IsAdded clauses → AllByRecursion HasInts clauses
added_ints [] all = tt
added_ints (clause ∷ clauses) all = (all.0.1, added_ints clauses all.1)

pub own_ints : (unit : MethodUnit) → IsWellFormed unit → AllByRecursion HasInts unit.clauses
own_ints unit formed =
    let clauses = formed.clauses in
    let written = of_told clauses.written
    (subst (AllByRecursion IsIntClause) clauses.told
    (all_ints unit.instrs 0 unit.instrs (code_is_decoded unit.instrs unit.code formed.code).constants)) in
    subst (AllByRecursion HasInts) (sym clauses.all)
    (all_append HasInts clauses.written clauses.added written (added_ints clauses.added clauses.ensures))
