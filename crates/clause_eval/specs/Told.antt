-- The value of a clause whose old values are told by a list, in the order in which they stand in its tree.
use Rattle.std.specs.Prelude.{◌≡◌, ℕ, ◌+◌, List, [], ◌∷◌, ◌++◌, drop, Option, Some, None, slice_get, if◌then◌else◌}
use Rattle.std.specs.List.{AllByRecursion}
use Rattle.std.specs.Option.{option_and_then}
use Rattle.cil_model.specs.Clauses.{Reading, binary_value, both, chosen, element_value, false_ensures, is_kind, is_number_true, length_value, unary_value, value_of}
use Rattle.cil_model.specs.Comparisons.{is_true}
use Rattle.cil_model.specs.Terms as terms
use Rattle.cil_model.specs.Terms.{Term}
use Rattle.cil_model.specs.Values.{Heap}
use Rattle.cil_model.specs.declared.clause.Clause.{Clause}
use Rattle.cil_model.specs.declared.clause.ClauseKind.{ClauseKind}
use Rattle.cil_model.specs.declared.clause.ClauseKind.TheVariants as kinds
use Rattle.cil_model.specs.declared.machine.Value.{Value}
use Rattle.cil_model.specs.declared.machine.Value.TheVariants.{Int, Null}

-- What a clause is read over: the arguments at entry, a heap and the result, where there is one; and the old values
-- that were not read yet. Where none are told, the heap is that at entry.
pub record Told : Type 0 where
  pub args : List Value
  pub heap : Heap
  pub result : Option Value
  pub olds : Option (List (Option Value))

abbrev pub first_old : List (Option Value) → Option Value
first_old [] = None
first_old (value ∷ others) = value

abbrev pub old_by : Option Value → Option (List (Option Value)) → Option Value
old_by present None = present
old_by present (Some olds) = first_old olds

abbrev pub behind_by : Told → Told → Option (List (Option Value)) → Told
behind_by present r None = present
behind_by present r (Some olds) = record r { olds = Some (drop 1 olds) }

-- What is left to be read after a tree.
abbrev pub behind : Term → Told → Told
behind (terms.Len a) r = behind a r
behind (terms.Elem place a b) r = behind b (behind a r)
behind (terms.Bin operator a b) r = behind b (behind a r)
behind (terms.Un operator a) r = behind a r
behind (terms.Old a) r = behind_by (behind a r) r r.olds
behind (terms.Cond a b c) r = behind c (behind b (behind a r))
behind _ r = r

-- The value of a tree.
abbrev pub told_value : Term → Told → Option Value
told_value (terms.Const n) r = Some (Int n)
told_value (terms.Arg n) r = slice_get r.args n
told_value terms.Null r = Some Null
told_value terms.Result r = r.result
told_value (terms.Len a) r = option_and_then (length_value r.heap) (told_value a r)
told_value (terms.Elem place a b) r = both (told_value a r) (told_value b (behind a r)) (element_value r.heap place)
told_value (terms.Bin operator a b) r = both (told_value a r) (told_value b (behind a r)) (binary_value operator)
told_value (terms.Un operator a) r = option_and_then (unary_value operator) (told_value a r)
told_value (terms.Old a) r = old_by (told_value a r) r.olds
told_value (terms.Cond a b c) r =
    chosen (option_and_then is_true (told_value a r)) (told_value b (behind a r)) (told_value c (behind b (behind a r)))

-- ---- the old values

-- What an entry's clauses are read over: there is no result yet.
abbrev pub entry_reading : List Value → Heap → Reading
entry_reading args heap = record { args = args; entry_heap = heap; heap = heap; result = None }

-- The old values of a tree, in order, taken at the entry.
abbrev pub old_values : Term → List Value → Heap → List (Option Value)
old_values (terms.Len a) args heap = old_values a args heap
old_values (terms.Elem place a b) args heap = old_values a args heap ++ old_values b args heap
old_values (terms.Bin operator a b) args heap = old_values a args heap ++ old_values b args heap
old_values (terms.Un operator a) args heap = old_values a args heap
old_values (terms.Old a) args heap = value_of a (entry_reading args heap) ∷ []
old_values (terms.Cond a b c) args heap = old_values a args heap ++ (old_values b args heap ++ old_values c args heap)
old_values _ args heap = []

-- How many there are.
abbrev pub olds_in : Term → ℕ
olds_in (terms.Len a) = olds_in a
olds_in (terms.Elem place a b) = olds_in a + olds_in b
olds_in (terms.Bin operator a b) = olds_in a + olds_in b
olds_in (terms.Un operator a) = olds_in a
olds_in (terms.Old a) = 1
olds_in (terms.Cond a b c) = olds_in a + (olds_in b + olds_in c)
olds_in _ = 0

-- The tree does not read the result.
abbrev pub LacksResult : Term → Type 0
LacksResult terms.Result = ⊥
LacksResult (terms.Len a) = LacksResult a
LacksResult (terms.Elem place a b) = LacksResult a × LacksResult b
LacksResult (terms.Bin operator a b) = LacksResult a × LacksResult b
LacksResult (terms.Un operator a) = LacksResult a
LacksResult (terms.Old a) = LacksResult a
LacksResult (terms.Cond a b c) = LacksResult a × (LacksResult b × LacksResult c)
LacksResult _ = Unit {0}

-- No old value of the tree reads the result, which there is not at the entry.
abbrev pub OldsLackResult : Term → Type 0
OldsLackResult (terms.Len a) = OldsLackResult a
OldsLackResult (terms.Elem place a b) = OldsLackResult a × OldsLackResult b
OldsLackResult (terms.Bin operator a b) = OldsLackResult a × OldsLackResult b
OldsLackResult (terms.Un operator a) = OldsLackResult a
OldsLackResult (terms.Old a) = LacksResult a
OldsLackResult (terms.Cond a b c) = OldsLackResult a × (OldsLackResult b × OldsLackResult c)
OldsLackResult _ = Unit {0}

-- ---- clauses

-- The number of the first of the clauses of a kind that does not hold, from a number on.
abbrev pub told_false : ℕ → ClauseKind → List Clause → Told → Option ℕ
told_false number kind [] r = None
told_false number kind (clause ∷ clauses) r =
    if is_kind kind clause.kind
    then (if is_number_true (told_value clause.tree r) then told_false (number + 1) kind clauses (behind clause.tree r) else Some number)
    else told_false number kind clauses r

-- The old values of clauses, in order.
abbrev pub olds_of_clauses : List Clause → List Value → Heap → List (Option Value)
olds_of_clauses [] args heap = []
olds_of_clauses (clause ∷ clauses) args heap =
    if is_kind kinds.Ensures clause.kind then old_values clause.tree args heap ++ olds_of_clauses clauses args heap else olds_of_clauses clauses args heap

-- How many there may be.
abbrev pub olds_in_clauses : List Clause → ℕ
olds_in_clauses [] = 0
olds_in_clauses (clause ∷ clauses) = olds_in clause.tree + olds_in_clauses clauses

-- Where the old values are those of an entry over this heap, and none of them reads the result, this is the first
-- Ensures that is not true.
abbrev pub TellsEnsures : List Clause → List Value → List (Option Value) → Heap → Option Value → Option ℕ → Type 0
TellsEnsures clauses args olds heap result first =
    (entry : Heap) → AllByRecursion (λ (clause : Clause). OldsLackResult clause.tree) clauses → olds ≡ olds_of_clauses clauses args entry
    → first ≡ false_ensures clauses (record { args = args; entry_heap = entry; heap = heap; result = result })
