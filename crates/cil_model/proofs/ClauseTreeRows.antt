-- Trees that were worked out by hand: of three tests with a message, of a result, of old values, and of each branch.
use Rattle.std.proofs.Common.{◌≡◌, pos, [], ◌∷◌, Option, Some, None, refl}
use Rattle.cil_model.specs.ClauseTrees.{clauses_in, tree_of}
use Rattle.cil_model.specs.Terms as terms
use Rattle.cil_model.specs.Terms.{Term}
use Rattle.cil_model.specs.UnitCalls.{unit_call}
use Rattle.cil_model.specs.declared.clause.ClauseKind.TheVariants.{Requires, Ensures}
use Rattle.cil_model.specs.declared.instruction.BinOp.{BinOp}
use Rattle.cil_model.specs.declared.instruction.BinOp.TheVariants as operators
use Rattle.cil_model.specs.declared.instruction.CmpOp.TheVariants as comparisons
use Rattle.cil_model.specs.declared.instruction.Op.TheVariants as ops
use Rattle.cil_model.specs.declared.instruction.Test.{Test}
use Rattle.cil_model.specs.declared.instruction.Test.TheVariants as tests
use Rattle.cil_model.specs.declared.instruction.UnOp.TheVariants as unary
use Rattle.cil_model.specs.declared.place.Place.TheVariants as places
use Rattle.cil_model.proofs.Laid.{laid_from}

-- Requires(a != null && i >= 0 && i < a.Length, message), as a compiler makes it.
three_tests : clauses_in (laid_from 0 ((1, ops.LoadArg 0) ∷ (2, ops.Branch tests.False 15) ∷ (1, ops.LoadArg 1) ∷ (1, ops.Const (pos 0)) ∷ (2, ops.Branch (tests.Cmp comparisons.Lt) 15)
    ∷ (1, ops.LoadArg 1) ∷ (1, ops.LoadArg 0) ∷ (1, ops.Length) ∷ (1, ops.ConvI4) ∷ (2, ops.Bin operators.Clt) ∷ (2, ops.Branch tests.Always 16) ∷ (1, ops.Const (pos 0))
    ∷ (5, ops.Text 0) ∷ (5, ops.Call 2) ∷ (1, ops.LoadArg 0) ∷ (1, ops.LoadArg 1) ∷ (1, ops.LoadElem places.Ints) ∷ (1, ops.Return) ∷ []))
    ≡ (Requires, Some (terms.Cond (terms.Arg 0) (terms.Cond (terms.Bin operators.Clt (terms.Arg 1) (terms.Const (pos 0))) (terms.Const (pos 0)) (terms.Bin operators.Clt (terms.Arg 1) (terms.Len (terms.Arg 0)))) (terms.Const (pos 0)))) ∷ []
unfolding unit_call
three_tests = refl

-- Ensures(Result >= a), and then the body.
result_clause : clauses_in (laid_from 0 ((5, ops.Call 12) ∷ (1, ops.LoadArg 0) ∷ (2, ops.Bin operators.Clt) ∷ (1, ops.Const (pos 0)) ∷ (2, ops.Bin operators.Ceq) ∷ (5, ops.Call 3)
    ∷ (1, ops.LoadArg 0) ∷ (1, ops.Return) ∷ []))
    ≡ (Ensures, Some (terms.Bin operators.Ceq (terms.Bin operators.Clt terms.Result (terms.Arg 0)) (terms.Const (pos 0)))) ∷ []
unfolding unit_call
result_clause = refl

-- Requires(a.Length > 0), Ensures(a[0] == OldValue(a[0])): two clauses, each from after the other.
old_clause : clauses_in (laid_from 0 ((1, ops.LoadArg 0) ∷ (1, ops.Length) ∷ (1, ops.ConvI4) ∷ (1, ops.Const (pos 0)) ∷ (2, ops.Bin operators.Cgt) ∷ (5, ops.Call 1)
    ∷ (1, ops.LoadArg 0) ∷ (1, ops.Const (pos 0)) ∷ (1, ops.LoadElem places.Ints) ∷ (1, ops.LoadArg 0) ∷ (1, ops.Const (pos 0)) ∷ (1, ops.LoadElem places.Ints) ∷ (5, ops.Call 22)
    ∷ (2, ops.Bin operators.Ceq) ∷ (5, ops.Call 3) ∷ (1, ops.Return) ∷ []))
    ≡ (Requires, Some (terms.Bin operators.Cgt (terms.Len (terms.Arg 0)) (terms.Const (pos 0))))
    ∷ (Ensures, Some (terms.Bin operators.Ceq (terms.Elem places.Ints (terms.Arg 0) (terms.Const (pos 0))) (terms.Old (terms.Elem places.Ints (terms.Arg 0) (terms.Const (pos 0)))))) ∷ []
unfolding unit_call
old_clause = refl

-- A debug build: nop before it, and the old form with EndContractBlock, after which another clause begins anew.
debug_clause : clauses_in (laid_from 0 ((1, ops.Nop) ∷ (1, ops.LoadArg 0) ∷ (1, ops.Null) ∷ (2, ops.Bin operators.CgtUn) ∷ (5, ops.Call 1) ∷ (1, ops.Nop) ∷ (5, ops.Call 9)
    ∷ (1, ops.Nop) ∷ (1, ops.Const (pos 1)) ∷ (1, ops.Neg) ∷ (1, ops.Not) ∷ (5, ops.Call 1) ∷ (1, ops.Return) ∷ []))
    ≡ (Requires, Some (terms.Bin operators.CgtUn (terms.Arg 0) terms.Null)) ∷ (Requires, Some (terms.Un unary.Not (terms.Un unary.Neg (terms.Const (pos 1))))) ∷ []
unfolding unit_call
debug_clause = refl

-- ---- branches

-- A clause that is 7 where the branch goes and 8 where it does not, over the arguments 0 and 1.
abbrev by_test : Test → Option Term
by_test test = tree_of (laid_from 0 ((1, ops.LoadArg 0) ∷ (1, ops.LoadArg 1) ∷ (2, ops.Branch test 7) ∷ (1, ops.Const (pos 8)) ∷ (2, ops.Branch tests.Always 8) ∷ (1, ops.Const (pos 7)) ∷ (5, ops.Call 1) ∷ [])) 0

-- The condition, with 7 and 8 as they are or exchanged.
abbrev straight : Term → Option Term
straight test = Some (terms.Cond test (terms.Const (pos 7)) (terms.Const (pos 8)))

abbrev turned : Term → Option Term
turned test = Some (terms.Cond test (terms.Const (pos 8)) (terms.Const (pos 7)))

abbrev of_both : BinOp → Term
of_both operator = terms.Bin operator (terms.Arg 0) (terms.Arg 1)

comparing_branches :
    (by_test (tests.Cmp comparisons.Eq) ≡ straight (of_both operators.Ceq))
    × ((by_test (tests.Cmp comparisons.NeUn) ≡ turned (of_both operators.Ceq))
    × ((by_test (tests.Cmp comparisons.Ge) ≡ turned (of_both operators.Clt))
    × ((by_test (tests.Cmp comparisons.GeUn) ≡ turned (of_both operators.CltUn))
    × ((by_test (tests.Cmp comparisons.Gt) ≡ straight (of_both operators.Cgt))
    × ((by_test (tests.Cmp comparisons.GtUn) ≡ straight (of_both operators.CgtUn))
    × ((by_test (tests.Cmp comparisons.Le) ≡ turned (of_both operators.Cgt))
    × ((by_test (tests.Cmp comparisons.LeUn) ≡ turned (of_both operators.CgtUn))
    × ((by_test (tests.Cmp comparisons.Lt) ≡ straight (of_both operators.Clt))
    × (by_test (tests.Cmp comparisons.LtUn) ≡ straight (of_both operators.CltUn))))))))))
unfolding unit_call
comparing_branches = (refl, (refl, (refl, (refl, (refl, (refl, (refl, (refl, (refl, refl)))))))))

-- The same over one argument.
abbrev by_one : Test → Option Term
by_one test = tree_of (laid_from 0 ((1, ops.LoadArg 0) ∷ (2, ops.Branch test 6) ∷ (1, ops.Const (pos 8)) ∷ (2, ops.Branch tests.Always 7) ∷ (1, ops.Const (pos 7)) ∷ (5, ops.Call 3) ∷ [])) 0

testing_branches : (by_one tests.True ≡ straight (terms.Arg 0)) × (by_one tests.False ≡ turned (terms.Arg 0))
unfolding unit_call
testing_branches = (refl, refl)

-- ---- clauses without a tree

-- A branch to itself, a value too many, one too few, a message that is missing, and a store.
no_trees :
    (tree_of (laid_from 0 ((2, ops.Branch tests.Always 0) ∷ (5, ops.Call 1) ∷ [])) 0 ≡ None)
    × ((tree_of (laid_from 0 ((1, ops.Const (pos 1)) ∷ (1, ops.Const (pos 1)) ∷ (5, ops.Call 1) ∷ [])) 0 ≡ None)
    × ((tree_of (laid_from 0 ((5, ops.Call 1) ∷ [])) 0 ≡ None)
    × ((tree_of (laid_from 0 ((1, ops.Const (pos 1)) ∷ (5, ops.Call 2) ∷ [])) 0 ≡ None)
    × ((tree_of (laid_from 0 ((1, ops.Const (pos 1)) ∷ (1, ops.StoreArg 0) ∷ (1, ops.Const (pos 1)) ∷ (5, ops.Call 1) ∷ [])) 0 ≡ None)
    × (tree_of (laid_from 0 ((1, ops.Const (pos 1)) ∷ [])) 0 ≡ None)))))
unfolding unit_call
no_trees = (refl, (refl, (refl, (refl, (refl, refl)))))
