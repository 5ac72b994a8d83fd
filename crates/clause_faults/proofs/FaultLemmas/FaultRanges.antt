-- Where the faults of a clause's code and of what follows it stand.
use Rattle.std.proofs.Common.{◌≡◌, ℕ, zero, suc, ◌+◌, ◌<◌, ◌≤◌, ◌==◌, Bool, true, false, not, ◌&&◌, ◌||◌, List, [], ◌∷◌, ◌++◌, length, map, take, drop, Option, Some, None, refl, arith, if◌then◌else◌}
use Rattle.std.specs.Prelude.{nat_lt, nat_le}
use Rattle.std.specs.List.{AllByRecursion, flat_map, list_any}
use Rattle.std.proofs.lemmas.Bool.Decides.{nat_tests}
use Rattle.std.specs.Option.{option_map_or}
use Rattle.std.proofs.lemmas.Bool.{and_parts, cond_both, ltb-true, leb-true}
use Rattle.cil_model.specs.Blocks.{branch_targets, closes, start_of_body}
use Rattle.cil_model.specs.ClauseTrees.{closing, tree_of}
use Rattle.cil_model.specs.Kinds.{operand_count}
use Rattle.cil_model.specs.Runs.{instr_at}
use Rattle.cil_model.specs.ShortCode.{LieFrom}
use Rattle.cil_model.specs.Terms.{Term}
use Rattle.cil_model.specs.UnitCalls.{unit_call}
use Rattle.cil_model.specs.declared.clause.ClauseKind.{ClauseKind}
use Rattle.cil_model.specs.declared.instruction.Instr.{Instr}
use Rattle.cil_model.specs.declared.instruction.Op.{Op}
use Rattle.cil_model.specs.declared.instruction.Op.TheVariants as ops
use Rattle.cil_model.specs.declared.shape.Shape.{Shape}
use Rattle.cil_model.specs.declared.unit_numbers.UnitCall.{UnitCall}
use Rattle.cil_model.specs.declared.unit_numbers.UnitCall.TheVariants as calls
use Rattle.cil_model.proofs.KindsSettle.{found_at}
use Rattle.cil_model.proofs.Lists.{all_append, all_drop, all_take}
use Rattle.clause_faults.specs.ClauseCodes.{closing_of, goes_forward, start_behind}
use Rattle.clause_faults.specs.Faults.{body_faults, branch_faults, closed_faults, comes_before, earlier, fault_at, fault_if, fault_rank, faults_in, faults_of, first_fault, is_misplaced, limit_faults, with_clause}
use Rattle.clause_faults.specs.PureCode.{is_pure}
use Rattle.clause_faults.specs.SharedStacks.{either}
use Rattle.clause_faults.specs.TooLarge.{passes_limit}
use Rattle.clause_faults.specs.Ways.{Told, asked_by, closing_faults, faults_at, faults_from, faults_here, made, misfits, old_faults_of, stack_behind, way_faults, ways_behind}
use Rattle.clause_faults.specs.declared.clause_fault.ClauseFault.{ClauseFault}
use Rattle.clause_faults.specs.declared.clause_fault.ClauseFault.TheVariants.{NotPure, Backward, StackLeft, IntoBlock, OldForm, TooLong}

-- ---- lists of faults of which each has a property

each_all : {X Y : Type 0} (P : Y → Type 0) (f : X → List Y) (xs : List X) → ((x : X) → AllByRecursion P (f x)) → AllByRecursion P (flat_map f xs)
each_all P f [] all = tt
each_all P f (x ∷ xs) all = all_append P (f x) (flat_map f xs) (all x) (each_all P f xs all)

-- What holds of all holds of the first.
pub first_has : (P : ClauseFault → Type 0) (faults : List ClauseFault) → AllByRecursion P faults → (f : ClauseFault) → first_fault faults ≡ Some f → P f
first_has P [] all f e = absurd (cc)
first_has P (fault ∷ faults) all f e = by_rest (λ other same. first_has P faults all.1 other same) (first_fault faults) refl e
  where
    by_rest : ((other : ClauseFault) → first_fault faults ≡ Some other → P other) → (rest : Option ClauseFault) → first_fault faults ≡ rest → Some (earlier fault rest) ≡ Some f → P f
    by_rest later None same e = let here : fault ≡ f = cc in rw (← here) all.0
    by_rest later (Some other) same e =
        cond_both (comes_before other fault) other fault (λ c. Some c ≡ Some f → P f)
        (λ t. λ g. let here : other ≡ f = cc in rw (← here) (later other same)) (λ t. λ g. let here : fault ≡ f = cc in rw (← here) all.0) e

fault_if_all : (P : ClauseFault → Type 0) (broken : Bool) (fault : ClauseFault) → P fault → AllByRecursion P (fault_if broken fault)
fault_if_all P true fault h = (h, tt)
fault_if_all P false fault h = tt

-- ---- the ways

-- The IL offsets of these calls lie from one up to another.
abbrev pub Between : ℕ → ℕ → ℕ → Type 0
Between low high at = (low ≤ at) × (at ≤ high)

abbrev ToldBetween : ℕ → ℕ → Told → Type 0
ToldBetween low high told = AllByRecursion (Between low high) told.calls

abbrev CallsBetween : ℕ → ℕ → List Told → Type 0
CallsBetween low high stack = AllByRecursion (ToldBetween low high) stack

module _ (low high : ℕ) where
  abbrev FaultsBetween : List ClauseFault → Type 0
  FaultsBetween faults = AllByRecursion (λ f. Between low high (fault_at f)) faults

  all_calls : (stack : List Told) → CallsBetween low high stack → AllByRecursion (Between low high) (flat_map (λ told. told.calls) stack)
  all_calls [] all = tt
  all_calls (told ∷ stack) all = all_append (Between low high) told.calls _ all.0 (all_calls stack all.1)

  made_between : (shape : Shape) (i : Instr) (operands : List Told) → Between low high i.at → CallsBetween low high operands → AllByRecursion (Between low high) (made shape i operands).calls
  made_between shape i operands here all =
      cond_both (option_map_or (λ place. true) (asked_by i.op) false) (i.at ∷ flat_map (λ told. told.calls) operands) (flat_map (λ told. told.calls) operands) (AllByRecursion (Between low high))
      (λ t. (here, all_calls operands all)) (λ t. all_calls operands all)

  made_stack : (shape : Shape) (i : Instr) (count : ℕ) (stack : List Told) → Between low high i.at → CallsBetween low high stack → CallsBetween low high (made shape i (take count stack) ∷ drop count stack)
  made_stack shape i count stack here all = (made_between shape i (take count stack) here (all_take (ToldBetween low high) count stack all), all_drop (ToldBetween low high) count stack all)

  behind_between : (shape : Shape) (i : Instr) (op : Op) (stack : List Told) → Between low high i.at → CallsBetween low high stack → CallsBetween low high (stack_behind shape i op stack)
  behind_between shape i ops.Nop stack here all = all
  behind_between shape i (ops.LoadArg n) stack here all = made_stack shape i (operand_count shape (ops.LoadArg n)) stack here all
  behind_between shape i (ops.StoreArg n) stack here all = made_stack shape i (operand_count shape (ops.StoreArg n)) stack here all
  behind_between shape i (ops.LoadLocal n) stack here all = made_stack shape i (operand_count shape (ops.LoadLocal n)) stack here all
  behind_between shape i (ops.StoreLocal n) stack here all = made_stack shape i (operand_count shape (ops.StoreLocal n)) stack here all
  behind_between shape i ops.Null stack here all = made_stack shape i (operand_count shape ops.Null) stack here all
  behind_between shape i (ops.Const n) stack here all = made_stack shape i (operand_count shape (ops.Const n)) stack here all
  behind_between shape i ops.Dup stack here all = made_stack shape i (operand_count shape ops.Dup) stack here all
  behind_between shape i ops.Pop stack here all = made_stack shape i (operand_count shape ops.Pop) stack here all
  behind_between shape i (ops.Call number) stack here all = made_stack shape i (operand_count shape (ops.Call number)) stack here all
  behind_between shape i ops.Return stack here all = made_stack shape i (operand_count shape ops.Return) stack here all
  behind_between shape i (ops.Branch test target) stack here all = all_drop (ToldBetween low high) (operand_count shape (ops.Branch test target)) stack all
  behind_between shape i (ops.Switch targets) stack here all = made_stack shape i (operand_count shape (ops.Switch targets)) stack here all
  behind_between shape i (ops.Bin operator) stack here all = made_stack shape i (operand_count shape (ops.Bin operator)) stack here all
  behind_between shape i ops.Neg stack here all = made_stack shape i (operand_count shape ops.Neg) stack here all
  behind_between shape i ops.Not stack here all = made_stack shape i (operand_count shape ops.Not) stack here all
  behind_between shape i ops.ConvI4 stack here all = made_stack shape i (operand_count shape ops.ConvI4) stack here all
  behind_between shape i (ops.Text token) stack here all = made_stack shape i (operand_count shape (ops.Text token)) stack here all
  behind_between shape i (ops.NewArray number) stack here all = made_stack shape i (operand_count shape (ops.NewArray number)) stack here all
  behind_between shape i ops.Length stack here all = made_stack shape i (operand_count shape ops.Length) stack here all
  behind_between shape i (ops.LoadElem place) stack here all = made_stack shape i (operand_count shape (ops.LoadElem place)) stack here all
  behind_between shape i (ops.StoreElem place) stack here all = made_stack shape i (operand_count shape (ops.StoreElem place)) stack here all
  behind_between shape i (ops.LoadAddr number) stack here all = made_stack shape i (operand_count shape (ops.LoadAddr number)) stack here all
  behind_between shape i (ops.LoadInd place) stack here all = made_stack shape i (operand_count shape (ops.LoadInd place)) stack here all
  behind_between shape i (ops.StoreInd place) stack here all = made_stack shape i (operand_count shape (ops.StoreInd place)) stack here all

  old_forms : (calls : List ℕ) → AllByRecursion (Between low high) calls → FaultsBetween (map OldForm calls)
  old_forms [] all = tt
  old_forms (at ∷ calls) all = (all.0, old_forms calls all.1)

  old_between : (i : Instr) (call : Option UnitCall) (stack : List Told) → Between low high i.at → CallsBetween low high stack → FaultsBetween (old_faults_of i call stack)
  old_between i (Some (calls.OldValue place)) (told ∷ stack) here all =
      all_append _ (map OldForm told.calls) _ (old_forms told.calls all.0)
      (cond_both (misfits place told.kind) (OldForm i.at ∷ []) [] FaultsBetween (λ t. (here, tt)) (λ t. tt))
  old_between i (Some (calls.OldValue place)) [] here all = tt
  old_between i (Some (calls.Requires message)) stack here all = tt
  old_between i (Some (calls.Ensures message)) stack here all = tt
  old_between i (Some (calls.Assert message)) stack here all = tt
  old_between i (Some (calls.Assume message)) stack here all = tt
  old_between i (Some calls.EndContractBlock) stack here all = tt
  old_between i (Some (calls.Result place)) stack here all = tt
  old_between i (Some (calls.Callee number)) stack here all = tt
  old_between i None stack here all = tt

  here_between : (i : Instr) (op : Op) (stack : List Told) → Between low high i.at → CallsBetween low high stack → FaultsBetween (faults_here i op stack)
  here_between i (ops.Call number) stack here all = old_between i (unit_call number) stack here all
  here_between i _ stack here all = tt

  closing_between : (at count found : ℕ) → Between low high at → FaultsBetween (closing_faults at count found)
  closing_between at count found here = cond_both (count == found) [] (StackLeft at ∷ []) FaultsBetween (λ t. tt) (λ t. (here, tt))

  at_between : (from : ℕ → List Told → List ClauseFault) (is : List Instr) (shape : Shape) (i : Instr) (stack : List Told) → Between low high i.at → CallsBetween low high stack
      → ((later : ℕ) (rest : List Told) → CallsBetween low high rest → FaultsBetween (from later rest)) → FaultsBetween (faults_at from is shape i stack)
  at_between from is shape i stack here all later =
      cond_both (closes i.op) _ _ FaultsBetween (λ t. closing_between i.at _ _ here)
      (λ t. cond_both (not (is_pure is i)) _ _ FaultsBetween (λ u. tt)
      (λ u. cond_both (nat_lt (length stack) (operand_count shape i.op)) _ _ FaultsBetween (λ v. (here, tt))
      (λ v. all_append _ (faults_here i i.op stack) _ (here_between i i.op stack here all)
      (each_all _ (λ at. from at (stack_behind shape i i.op stack)) (ways_behind i.op (i.at + i.size)) (λ at. later at (stack_behind shape i i.op stack) (behind_between shape i i.op stack here all))))))

ways_between : (low : ℕ) (most : ℕ) (is : List Instr) (shape : Shape) (call : Instr) (at : ℕ) (stack : List Told) → low ≤ at → at ≤ call.at → CallsBetween low call.at stack
    → FaultsBetween low call.at (faults_from most is shape call at stack)
ways_between low zero is shape call at stack above below all = tt
ways_between low (suc most) is shape call at stack above below all =
    by_found (λ later rest up down calls. ways_between low most is shape call later rest up down calls) (instr_at is at) refl
  where
    Onward : Type 0
    Onward = (later : ℕ) (rest : List Told) → low ≤ later → later ≤ call.at → CallsBetween low call.at rest → FaultsBetween low call.at (faults_from most is shape call later rest)

    onward : Onward → (later : ℕ) (rest : List Told) → CallsBetween low call.at rest → FaultsBetween low call.at (if goes_forward at later call then faults_from most is shape call later rest else [])
    onward next later rest calls =
        cond_both (goes_forward at later call) (faults_from most is shape call later rest) [] (FaultsBetween low call.at)
        (λ t. let parts = and_parts (nat_lt at later) (nat_le later call.at) t in
        next later rest (omega (arith, above, ltb-true at later parts.0)) (leb-true later call.at parts.1) calls)
        (λ t. tt)

    by_found : Onward → (found : Option Instr) → instr_at is at ≡ found
        → FaultsBetween low call.at (option_map_or (λ i. faults_at (λ later rest. if goes_forward at later call then faults_from most is shape call later rest else []) is shape i stack) found [])
    by_found next None e = tt
    by_found next (Some i) e =
        let same = found_at is at i e in
        at_between low call.at _ is shape i stack (omega (arith, above, same), omega (arith, below, same)) all (onward next)

pub way_faults_between : (is : List Instr) (shape : Shape) (start : ℕ) (call : Instr) → start ≤ call.at → AllByRecursion (λ f. Between start call.at (fault_at f)) (way_faults is shape start call)
way_faults_between is shape start call inside = ways_between start (length is) is shape call start [] (omega arith) inside tt

-- ---- faults of single instructions

branch_faults_at : (start : ℕ) (call i : Instr) → AllByRecursion (λ f. fault_at f ≡ i.at) (branch_faults start call i)
branch_faults_at start call i =
    let P : ClauseFault → Type 0 = λ f. fault_at f ≡ i.at in
    let back = list_any (λ target. nat_le target i.at) (branch_targets i.op) in
    let out = list_any (λ target. nat_lt target start || nat_lt call.at target) (branch_targets i.op) in
    all_append P (fault_if back (Backward i.at)) (fault_if out (IntoBlock i.at)) (fault_if_all P back (Backward i.at) refl) (fault_if_all P out (IntoBlock i.at) refl)

pub faults_of_at : (is : List Instr) (shape : Shape) (start : ℕ) (call i : Instr) → AllByRecursion (λ f. fault_at f ≡ i.at) (faults_of is shape start call i)
faults_of_at is shape start call i =
    let P : ClauseFault → Type 0 = λ f. fault_at f ≡ i.at in
    let impure = not (is_pure is i) in
    let misplaced = is_misplaced shape.result (closing call.op) i in
    all_append P (fault_if impure (NotPure i.at) ++ branch_faults start call i) (fault_if misplaced (OldForm i.at))
    (all_append P (fault_if impure (NotPure i.at)) (branch_faults start call i) (fault_if_all P impure (NotPure i.at) refl) (branch_faults_at start call i))
    (fault_if_all P misplaced (OldForm i.at) refl)

pub body_faults_at : (body : ℕ) (i : Instr) → AllByRecursion (λ f. fault_at f ≡ i.at) (body_faults body i)
body_faults_at body i =
    let P : ClauseFault → Type 0 = λ f. fault_at f ≡ i.at in
    let into = list_any (λ target. nat_lt target body) (branch_targets i.op) in
    let asks = option_map_or (λ place. true) (asked_by i.op) false in
    all_append P (fault_if into (IntoBlock i.at)) (fault_if asks (OldForm i.at)) (fault_if_all P into (IntoBlock i.at) refl) (fault_if_all P asks (OldForm i.at) refl)

pub limit_faults_at : (is : List Instr) (start : ℕ) (clauses : List (ClauseKind × Option Term)) (i : Instr) → AllByRecursion (λ f. fault_at f ≡ i.at) (limit_faults is start clauses i)
limit_faults_at is start clauses i =
    fault_if_all (λ f. fault_at f ≡ i.at) (option_map_or (λ closed. passes_limit (with_clause is start clauses (Some closed)) (tree_of is start)) (closing i.op) false) (TooLong i.at) refl

-- ---- what follows a clause

above_at : (low at : ℕ) (faults : List ClauseFault) → low ≤ at → AllByRecursion (λ f. fault_at f ≡ at) faults → AllByRecursion (λ f. low ≤ fault_at f) faults
above_at low at [] le all = tt
above_at low at (f ∷ faults) le all = (omega (arith, le, all.0), above_at low at faults le all.1)

above_between : (low start high : ℕ) (faults : List ClauseFault) → low ≤ start → AllByRecursion (λ f. Between start high (fault_at f)) faults → AllByRecursion (λ f. low ≤ fault_at f) faults
above_between low start high [] le all = tt
above_between low start high (f ∷ faults) le all = (omega (arith, le, all.0.0), above_between low start high faults le all.1)

-- All faults of instructions from an offset on stand there or higher.
pub faults_above : (low : ℕ) (is : List Instr) (shape : Shape) (start at : ℕ) (clauses : List (ClauseKind × Option Term)) (rest : List Instr) → LieFrom at rest → low ≤ start → start ≤ at
    → AllByRecursion (λ f. low ≤ fault_at f) (faults_in is shape start clauses rest)
faults_above low is shape start at clauses [] lie le up = tt
faults_above low is shape start at clauses (i ∷ rest) lie le up =
    let P : ClauseFault → Type 0 = λ f. low ≤ fault_at f in
    let here : low ≤ i.at = omega (arith, le, up, lie.0) in
    let by_call = by_closing here (closing_of (i ∷ rest)) in
    let closed : AllByRecursion P (closed_faults is shape start clauses i) =
    cond_both (closes i.op) (way_faults is shape start i ++ limit_faults is start clauses i) [] (AllByRecursion P)
    (λ t. all_append P (way_faults is shape start i) (limit_faults is start clauses i)
    (above_between low start i.at _ le (way_faults_between is shape start i (omega (arith, up, lie.0)))) (above_at low i.at _ here (limit_faults_at is start clauses i)))
    (λ t. tt) in
    let next : (start_behind start i ≤ at + i.size) × (low ≤ start_behind start i) =
    cond_both (closes i.op) (i.at + i.size) start (λ s. (s ≤ at + i.size) × (low ≤ s)) (λ t. (omega (arith, lie.0), omega (arith, here))) (λ t. (omega (arith, up), le)) in
    let later = faults_above low is shape (start_behind start i) (at + i.size) (if closes i.op then with_clause is start clauses (closing i.op) else clauses) rest lie.1 next.1 next.0 in
    all_append P (option_map_or (λ call. faults_of is shape start call i) (closing_of (i ∷ rest)) (body_faults (start_of_body is) i) ++ closed_faults is shape start clauses i) _
    (all_append P _ (closed_faults is shape start clauses i) by_call closed) later
  where
    by_closing : low ≤ i.at → (call : Option Instr) → AllByRecursion (λ f. low ≤ fault_at f) (option_map_or (λ call. faults_of is shape start call i) call (body_faults (start_of_body is) i))
    by_closing here (Some call) = above_at low i.at _ here (faults_of_at is shape start call i)
    by_closing here None = above_at low i.at _ here (body_faults_at (start_of_body is) i)

-- ---- the first of faults of which some are lower than the others

not_before : (m n r s : ℕ) → n < m → (nat_lt m n || (m == n && nat_lt r s)) ≡ false
not_before m n r s l = grind (arith, nat_tests)

-- A fault that is lower than all of these is the first with them.
pub lower_first : (f : ClauseFault) (low : ℕ) (faults : List ClauseFault) → fault_at f < low → AllByRecursion (λ g. low ≤ fault_at g) faults → either (Some f) (first_fault faults) ≡ Some f
lower_first f low faults below all = by_rest (λ g e. first_has (λ g. low ≤ fault_at g) faults all g e) (first_fault faults) refl
  where
    by_rest : ((g : ClauseFault) → first_fault faults ≡ Some g → low ≤ fault_at g) → (rest : Option ClauseFault) → first_fault faults ≡ rest → either (Some f) rest ≡ Some f
    by_rest above None e = refl
    by_rest above (Some g) e =
        let up = above g e in
        let no : comes_before g f ≡ false = not_before (fault_at g) (fault_at f) (fault_rank g) (fault_rank f) (omega (arith, up, below)) in
        rw no refl
