-- The clauses of a method as they are read, one after another.
use Rattle.std.specs.Prelude.{◌≡◌, ℕ, ◌+◌, ◌-◌, ◌≤◌, Bool, false, true, List, [], ◌∷◌, ◌++◌, drop, take, slice_get, map, sum_by, Option, Some, None, Result, Ok, Err}
use Rattle.std.specs.List.{AllByRecursion}
use Rattle.cc_base.specs.declared.refusal.Refusal.{Refusal}
use Rattle.cc_base.specs.declared.refusal.Refusal.TheVariants.{Bad, NoMemory}
use Rattle.cil_model.specs.Blocks.{behind_last_closing, closes, start_of_body}
use Rattle.cil_model.specs.ClauseTrees.{clauses_from, clauses_in, tree_of}
use Rattle.cil_model.specs.ShortCode.{LieFrom}
use Rattle.cil_model.specs.Terms.{Term, old_count}
use Rattle.cil_model.specs.WellFormed.{ClausesWithinLimits, told_by_code}
use Rattle.cil_model.specs.declared.clause.Clause.{Clause}
use Rattle.cil_model.specs.declared.clause.ClauseKind.{ClauseKind}
use Rattle.cil_model.specs.declared.instruction.Instr.{Instr}
use Rattle.cil_model.specs.declared.shape.Shape.{Shape}
use Rattle.clause_faults.specs.Faults.{faults_in, first_clause_fault, first_fault}
use Rattle.clause_faults.specs.TooLarge.{passes_limit}
use Rattle.clause_faults.specs.declared.clause_fault.ClauseFault.{ClauseFault}

-- The kind of the clause that a call closes.
abbrev pub closed_kind : Option (ClauseKind × Bool) → Option ClauseKind
closed_kind (Some (kind, message)) = Some kind
closed_kind None = None

-- None of these instructions closes a clause.
abbrev pub NoneCloses : List Instr → Type 0
NoneCloses code = AllByRecursion (λ i. closes i.op ≡ false) code

-- How many old values these clauses have together.
abbrev pub olds_of : List Clause → ℕ
olds_of clauses = sum_by (λ clause. old_count clause.tree) clauses

-- These clauses were read, with so many old values. What is left begins with the instruction of this index, at this IL
-- offset.
pub record BlockLeft (is : List Instr) (shape : Shape) (clauses : List Clause) (olds first start : ℕ) : Type 0 where
  pub faults : first_clause_fault is shape ≡ first_fault (faults_in is shape start (map told_by_code clauses) (drop first is))
  pub told : clauses_in is ≡ map told_by_code clauses ++ clauses_from is start (drop first is)
  pub body : start_of_body is ≡ behind_last_closing start (drop first is)
  pub lies : LieFrom start (drop first is)
  pub counted : olds ≡ olds_of clauses
  pub within : ClausesWithinLimits clauses

-- The same after the instruction of this index.
abbrev pub LeftBehind : List Instr → Shape → List Clause → ℕ → ℕ → Type 0
LeftBehind is shape clauses olds last = (call : Instr) → slice_get is last ≡ Some call → BlockLeft is shape clauses olds (last + 1) (call.at + call.size)

-- The instruction of this index closes a clause, or the block, and no other does from that index on.
pub record IsClosing (is : List Instr) (first last : ℕ) : Type 0 where
  pub order : first ≤ last
  pub call : Instr
  pub there : slice_get is last ≡ Some call
  pub closes_it : closes call.op ≡ true
  pub none : NoneCloses (take (last - first) (drop first is))

-- The answer is a fault only where that one is the first. Else this is so, unless memory ran out.
abbrev pub Goes : {X : Type 0} → Result X (Refusal ClauseFault) → Option ClauseFault → (X → Type 0) → Type 0
Goes (Ok x) first P = P x
Goes (Err (Bad fault)) first P = first ≡ Some fault
Goes (Err NoMemory) first P = Unit {0}

-- What comes of a clause of this kind after these: it is read with its old values, where it and they keep the limits.
abbrev pub ReadWithin : List Instr → ℕ → List Clause → ClauseKind → Option (Term × ℕ) → Type 0
ReadWithin is start clauses kind None = passes_limit (map told_by_code clauses ++ (kind, tree_of is start) ∷ []) (tree_of is start) ≡ true
ReadWithin is start clauses kind (Some (tree, olds)) =
    (tree_of is start ≡ Some tree) × (olds ≡ old_count tree) × (passes_limit (map told_by_code clauses ++ (kind, tree_of is start) ∷ []) (tree_of is start) ≡ false)

-- The instructions up to the one of this index were passed: these clauses were read, and no other is closed there.
pub record ArePassed (is : List Instr) (shape : Shape) (clauses : List Clause) (olds first start index : ℕ) : Type 0 where
  pub left : BlockLeft is shape clauses olds first start
  pub order : first ≤ index
  pub none : NoneCloses (take (index - first) (drop first is))

-- What is read of a method: these clauses, and where its body starts.
pub record AreContracts (is : List Instr) (clauses : List Clause) (start : ℕ) : Type 0 where
  pub told : clauses_in is ≡ map told_by_code clauses
  pub body : start ≡ start_of_body is
