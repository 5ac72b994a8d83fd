-- The first fault of a method's clauses.
use Rattle.std.specs.Prelude.{ℕ, Bool, true, false, not, ◌&&◌, ◌||◌, nat_lt, nat_le, ◌==◌, List, [], ◌∷◌, ◌++◌, flat_map, Option, Some, None, if◌then◌else◌}
use Rattle.std.specs.List.{list_any}
use Rattle.std.specs.Option.{option_map_or}
use Rattle.cil_model.specs.Blocks.{branch_targets, closes, start_of_body}
use Rattle.cil_model.specs.ClauseTrees.{closing, tree_of}
use Rattle.cil_model.specs.Places.{place_number}
use Rattle.cil_model.specs.Terms.{Term}
use Rattle.cil_model.specs.declared.clause.ClauseKind.{ClauseKind}
use Rattle.cil_model.specs.declared.clause.ClauseKind.TheVariants as kinds
use Rattle.cil_model.specs.declared.instruction.Instr.{Instr}
use Rattle.cil_model.specs.declared.place.Place.{Place}
use Rattle.cil_model.specs.declared.shape.Shape.{Shape}
use Rattle.clause_faults.specs.ClauseCodes.{closing_of, start_behind}
use Rattle.clause_faults.specs.PureCode.{is_pure}
use Rattle.clause_faults.specs.TooLarge.{passes_limit}
use Rattle.clause_faults.specs.Ways.{asked_by, is_old_value, way_faults}
use Rattle.clause_faults.specs.declared.clause_fault.ClauseFault.{ClauseFault}
use Rattle.clause_faults.specs.declared.clause_fault.ClauseFault.TheVariants.{NotPure, Backward, StackLeft, IntoBlock, OldForm, TooLong}

-- ---- which fault is first

-- Where a fault is.
abbrev pub fault_at : ClauseFault → ℕ
fault_at (NotPure at) = at
fault_at (Backward at) = at
fault_at (StackLeft at) = at
fault_at (IntoBlock at) = at
fault_at (OldForm at) = at
fault_at (TooLong at) = at

-- The place of a fault among those of one instruction.
abbrev pub fault_rank : ClauseFault → ℕ
fault_rank (NotPure at) = 1
fault_rank (Backward at) = 2
fault_rank (StackLeft at) = 3
fault_rank (IntoBlock at) = 4
fault_rank (OldForm at) = 5
fault_rank (TooLong at) = 6

-- The one fault comes before the other: it is lower in the code, or before it at the same instruction.
abbrev pub comes_before : ClauseFault → ClauseFault → Bool
comes_before a b = nat_lt (fault_at a) (fault_at b) || (fault_at a == fault_at b && nat_lt (fault_rank a) (fault_rank b))

abbrev pub earlier : ClauseFault → Option ClauseFault → ClauseFault
earlier fault None = fault
earlier fault (Some other) = if comes_before other fault then other else fault

-- The first of some faults.
abbrev pub first_fault : List ClauseFault → Option ClauseFault
first_fault [] = None
first_fault (fault ∷ faults) = Some (earlier fault (first_fault faults))

-- ---- what is wrong with one instruction, whatever way comes to it

abbrev pub fault_if : Bool → ClauseFault → List ClauseFault
fault_if broken fault = if broken then fault ∷ [] else []

-- A branch of a clause whose code begins here goes back, or out of the code.
abbrev pub branch_faults : ℕ → Instr → Instr → List ClauseFault
branch_faults start closing i =
    fault_if (list_any (λ target. nat_le target i.at) (branch_targets i.op)) (Backward i.at)
    ++ fault_if (list_any (λ target. nat_lt target start || nat_lt closing.at target) (branch_targets i.op)) (IntoBlock i.at)

abbrev pub is_requires : Option (ClauseKind × Bool) → Bool
is_requires (Some (kinds.Requires, message)) = true
is_requires _ = false

-- A Result or an OldValue stands in a Requires, or a Result is of another place than the method's.
abbrev pub is_misplaced : Place → Option (ClauseKind × Bool) → Instr → Bool
is_misplaced result closed i =
    option_map_or (λ place. is_requires closed || (not (is_old_value i.op) && not (place_number place == place_number result))) (asked_by i.op) false

-- What is wrong with an instruction of the code of a clause, by itself.
abbrev pub faults_of : List Instr → Shape → ℕ → Instr → Instr → List ClauseFault
faults_of is shape start closing_call i =
    fault_if (not (is_pure is i)) (NotPure i.at) ++ branch_faults start closing_call i
    ++ fault_if (is_misplaced shape.result (closing closing_call.op) i) (OldForm i.at)

-- All that is wrong with the code of a clause, of these instructions up to its closing call, but for its size.
abbrev pub code_faults : List Instr → Shape → ℕ → Instr → List Instr → List ClauseFault
code_faults is shape start closing_call code = flat_map (faults_of is shape start closing_call) code ++ way_faults is shape start closing_call

-- What is wrong with an instruction of the body: it goes into the block, or asks for a result or an old value.
abbrev pub body_faults : ℕ → Instr → List ClauseFault
body_faults body i =
    fault_if (list_any (λ target. nat_lt target body) (branch_targets i.op)) (IntoBlock i.at)
    ++ fault_if (option_map_or (λ place. true) (asked_by i.op) false) (OldForm i.at)

-- ---- the whole block

-- The clauses with the one that a call closes, whose code begins at this IL offset.
abbrev pub with_clause : List Instr → ℕ → List (ClauseKind × Option Term) → Option (ClauseKind × Bool) → List (ClauseKind × Option Term)
with_clause is start clauses None = clauses
with_clause is start clauses (Some (kind, message)) = clauses ++ (kind, tree_of is start) ∷ []

-- A call that closes a clause brings it past a limit.
abbrev pub limit_faults : List Instr → ℕ → List (ClauseKind × Option Term) → Instr → List ClauseFault
limit_faults is start clauses i =
    fault_if (option_map_or (λ closed. passes_limit (with_clause is start clauses (Some closed)) (tree_of is start)) (closing i.op) false) (TooLong i.at)

-- What is wrong with a call that closes a clause, after these clauses: on the ways to it, and with its size.
abbrev pub closed_faults : List Instr → Shape → ℕ → List (ClauseKind × Option Term) → Instr → List ClauseFault
closed_faults is shape start clauses i =
    if closes i.op then way_faults is shape start i ++ limit_faults is start clauses i else []

-- All that is wrong with these instructions, where the code of a clause begins at this IL offset after these clauses.
abbrev pub faults_in : List Instr → Shape → ℕ → List (ClauseKind × Option Term) → List Instr → List ClauseFault
faults_in is shape start clauses [] = []
faults_in is shape start clauses (i ∷ rest) =
    option_map_or (λ closing_call. faults_of is shape start closing_call i) (closing_of (i ∷ rest)) (body_faults (start_of_body is) i)
    ++ closed_faults is shape start clauses i
    ++ faults_in is shape (start_behind start i) (if closes i.op then with_clause is start clauses (closing i.op) else clauses) rest

-- The first thing that is wrong with the clauses of code of this shape.
abbrev pub first_clause_fault : List Instr → Shape → Option ClauseFault
first_clause_fault is shape = first_fault (faults_in is shape 0 [] is)
