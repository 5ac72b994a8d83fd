-- What is wrong from an instruction on with a joined stack is wrong with one of the two that are joined in it.
use Rattle.std.proofs.Common.{◌≡◌, ℕ, zero, suc, ◌+◌, Bool, true, false, not, List, [], ◌∷◌, ◌++◌, length, map, take, drop, Option, Some, None, refl, sym, ap, cond, ◌∙◌}
use Rattle.std.specs.Prelude.{nat_lt}
use Rattle.std.specs.List.{flat_map}
use Rattle.std.specs.Option.{option_map_or}
use Rattle.cil_model.specs.Blocks.{closes}
use Rattle.cil_model.specs.Kinds.{operand_count}
use Rattle.cil_model.specs.UnitCalls.{unit_call}
use Rattle.cil_model.specs.declared.instruction.Instr.{Instr}
use Rattle.cil_model.specs.declared.instruction.Op.{Op}
use Rattle.cil_model.specs.declared.instruction.Op.TheVariants as ops
use Rattle.cil_model.specs.declared.place.Kind.{Kind}
use Rattle.cil_model.specs.declared.place.Place.{Place}
use Rattle.cil_model.specs.declared.shape.Shape.{Shape}
use Rattle.cil_model.specs.declared.unit_numbers.UnitCall.{UnitCall}
use Rattle.cil_model.specs.declared.unit_numbers.UnitCall.TheVariants as calls
use Rattle.clause_faults.specs.Faults.{first_fault}
use Rattle.clause_faults.specs.JoinedStacks.{AreJoined, IsJoined, IsJoining, called_fault}
use Rattle.clause_faults.specs.PureCode.{is_pure}
use Rattle.clause_faults.specs.SharedStacks.{either, least}
use Rattle.clause_faults.specs.Ways.{Told, asked_by, calls_with, closing_faults, faults_at, faults_here, made, made_kind, misfits, old_faults, old_faults_of, stack_behind, ways_behind}
use Rattle.clause_faults.specs.declared.clause_fault.ClauseFault.{ClauseFault}
use Rattle.clause_faults.specs.declared.clause_fault.ClauseFault.TheVariants.{OldForm, StackLeft}
use Rattle.clause_faults.proofs.FaultLemmas.Earliest.{either-both, either-same, either-turn, first_fault-append, first_fault-flat_map, least-either, least-same}

-- ---- parts of joined stacks

pub drop_joined : (n : ℕ) (a b c : List Told) → AreJoined a b c → AreJoined (drop n a) (drop n b) (drop n c)
drop_joined zero a b c j = j
drop_joined (suc n) [] [] [] j = tt
drop_joined (suc n) (x ∷ a) (y ∷ b) (z ∷ c) j = drop_joined n a b c j.1
drop_joined (suc n) [] [] (z ∷ c) j = absurd j
drop_joined (suc n) [] (y ∷ b) c j = absurd j
drop_joined (suc n) (x ∷ a) [] c j = absurd j
drop_joined (suc n) (x ∷ a) (y ∷ b) [] j = absurd j

pub take_joined : (n : ℕ) (a b c : List Told) → AreJoined a b c → AreJoined (take n a) (take n b) (take n c)
take_joined zero a b c j = tt
take_joined (suc n) [] [] [] j = tt
take_joined (suc n) (x ∷ a) (y ∷ b) (z ∷ c) j = (j.0, take_joined n a b c j.1)
take_joined (suc n) [] [] (z ∷ c) j = absurd j
take_joined (suc n) [] (y ∷ b) c j = absurd j
take_joined (suc n) (x ∷ a) [] c j = absurd j
take_joined (suc n) (x ∷ a) (y ∷ b) [] j = absurd j

pub lengths_joined : (a b c : List Told) → AreJoined a b c → (length c ≡ length a) × (length c ≡ length b)
lengths_joined [] [] [] j = (refl, refl)
lengths_joined (x ∷ a) (y ∷ b) (z ∷ c) j = let rest = lengths_joined a b c j.1 in (ap suc rest.0, ap suc rest.1)
lengths_joined [] [] (z ∷ c) j = absurd j
lengths_joined [] (y ∷ b) c j = absurd j
lengths_joined (x ∷ a) [] c j = absurd j
lengths_joined (x ∷ a) (y ∷ b) [] j = absurd j

abbrev pub kinds_on : List Told → List (Option Kind)
kinds_on stack = map (λ told. told.kind) stack

pub kinds_joined : (a b c : List Told) → AreJoined a b c → (kinds_on c ≡ kinds_on a) × (kinds_on c ≡ kinds_on b)
kinds_joined [] [] [] j = (refl, refl)
kinds_joined (x ∷ a) (y ∷ b) (z ∷ c) j = let rest = kinds_joined a b c j.1 in let left = j.0.left in let right = j.0.right in (rw (left, rest.0) refl, rw (right, rest.1) refl)
kinds_joined [] [] (z ∷ c) j = absurd j
kinds_joined [] (y ∷ b) c j = absurd j
kinds_joined (x ∷ a) [] c j = absurd j
kinds_joined (x ∷ a) (y ∷ b) [] j = absurd j

-- The first fault by the calls of all values.
pub fault_by_calls : (stack : List Told) → first_fault (map OldForm (flat_map (λ told. told.calls) stack)) ≡ least called_fault stack
fault_by_calls [] = refl
fault_by_calls (x ∷ stack) =
    ap first_fault (maps x.calls (flat_map (λ told. told.calls) stack))
    ∙ first_fault-append (map OldForm x.calls) (map OldForm (flat_map (λ told. told.calls) stack)) ∙ ap (either (called_fault x)) (fault_by_calls stack)
  where
    maps : (xs ys : List ℕ) → map OldForm (xs ++ ys) ≡ map OldForm xs ++ map OldForm ys
    maps [] ys = refl
    maps (x ∷ xs) ys = ap (λ rest. OldForm x ∷ rest) (maps xs ys)

pub calls_joined : (a b c : List Told) → AreJoined a b c → least called_fault c ≡ either (least called_fault a) (least called_fault b)
calls_joined [] [] [] j = refl
calls_joined (x ∷ a) (y ∷ b) (z ∷ c) j =
    ap (λ v. either v (least called_fault c)) j.0.calls ∙ ap (either (either (called_fault x) (called_fault y))) (calls_joined a b c j.1)
    ∙ either-turn (called_fault x) (called_fault y) (least called_fault a) (least called_fault b)
calls_joined [] [] (z ∷ c) j = absurd j
calls_joined [] (y ∷ b) c j = absurd j
calls_joined (x ∷ a) [] c j = absurd j
calls_joined (x ∷ a) (y ∷ b) [] j = absurd j

-- A stack is joined of itself twice.
pub joined_itself : (a : List Told) → AreJoined a a a
joined_itself [] = tt
joined_itself (x ∷ a) = (record { left = refl; right = refl; calls = sym (either-same (called_fault x)) }, joined_itself a)

-- ---- one instruction

-- The first fault by a call here, and those inside.
abbrev pub own_fault : Instr → Option ClauseFault
own_fault i = option_map_or (λ place. Some (OldForm i.at)) (asked_by i.op) None

pub fault_with : (i : Instr) (inside : List ℕ) → first_fault (map OldForm (calls_with i inside)) ≡ either (own_fault i) (first_fault (map OldForm inside))
fault_with i inside = by (asked_by i.op)
  where
    by : (place : Option Place) → first_fault (map OldForm (cond (option_map_or (λ place. true) place false) (i.at ∷ inside) inside))
        ≡ either (option_map_or (λ place. Some (OldForm i.at)) place None) (first_fault (map OldForm inside))
    by None = refl
    by (Some place) = refl

pub made_calls : (shape : Shape) (i : Instr) (operands : List Told) → called_fault (made shape i operands) ≡ either (own_fault i) (least called_fault operands)
made_calls shape i operands = fault_with i (flat_map (λ told. told.calls) operands) ∙ ap (either (own_fault i)) (fault_by_calls operands)

both_sides : (x a b : Option ClauseFault) → either x (either a b) ≡ either (either x a) (either x b)
both_sides x a b = ap (λ v. either v (either a b)) (sym (either-same x)) ∙ either-turn x x a b

pub made_joined : (shape : Shape) (i : Instr) (a b c : List Told) → AreJoined a b c → IsJoined (made shape i a) (made shape i b) (made shape i c)
made_joined shape i a b c j =
    let kinds = kinds_joined a b c j in
    record {
      left = ap (made_kind shape.args i.op) kinds.0;
      right = ap (made_kind shape.args i.op) kinds.1;
      calls = made_calls shape i c ∙ ap (either (own_fault i)) (calls_joined a b c j) ∙ both_sides (own_fault i) (least called_fault a) (least called_fault b)
          ∙ sym (either-both (made_calls shape i a) (made_calls shape i b));
    }

pub behind_joined : (shape : Shape) (i : Instr) (op : Op) (a b c : List Told) → AreJoined a b c
    → AreJoined (stack_behind shape i op a) (stack_behind shape i op b) (stack_behind shape i op c)
behind_joined shape i (ops.Branch test target) a b c j = drop_joined (operand_count shape (ops.Branch test target)) a b c j
behind_joined shape i ops.Nop a b c j = j
behind_joined shape i op a b c j =
    (made_joined shape i (take (operand_count shape op) a) (take (operand_count shape op) b) (take (operand_count shape op) c) (take_joined (operand_count shape op) a b c j), drop_joined (operand_count shape op) a b c j)

old_joins_at : (at : ℕ) (place : Place) (x y z : Told) → IsJoined x y z
    → first_fault (old_faults at place z) ≡ either (first_fault (old_faults at place x)) (first_fault (old_faults at place y))
old_joins_at at place x y z j =
    let rest : Told → List ClauseFault = λ told. cond (misfits place told.kind) (OldForm at ∷ []) [] in
    let parts : (told : Told) → first_fault (old_faults at place told) ≡ either (called_fault told) (first_fault (rest told)) =
    λ told. first_fault-append (map OldForm told.calls) (rest told) in
    let f : Option Kind → Option ClauseFault = λ kind. first_fault (cond (misfits place kind) (OldForm at ∷ []) []) in
    parts z ∙ ap (λ v. either v (f z.kind)) j.calls
    ∙ ap (either (either (called_fault x) (called_fault y))) (sym (either-same (f z.kind)) ∙ ap (λ v. either v (f z.kind)) (ap f j.left) ∙ ap (either (f x.kind)) (ap f j.right))
    ∙ either-turn (called_fault x) (called_fault y) (f x.kind) (f y.kind)
    ∙ sym (either-both (parts x) (parts y))

old_joins_of : (i : Instr) (place : Place) (a b c : List Told) → AreJoined a b c
    → first_fault (old_faults_of i (Some (calls.OldValue place)) c) ≡ either (first_fault (old_faults_of i (Some (calls.OldValue place)) a)) (first_fault (old_faults_of i (Some (calls.OldValue place)) b))
old_joins_of i place [] [] [] j = refl
old_joins_of i place (x ∷ a) (y ∷ b) (z ∷ c) j = old_joins_at i.at place x y z j.0
old_joins_of i place [] [] (z ∷ c) j = absurd j
old_joins_of i place [] (y ∷ b) c j = absurd j
old_joins_of i place (x ∷ a) [] c j = absurd j
old_joins_of i place (x ∷ a) (y ∷ b) [] j = absurd j

old_joins : (i : Instr) (call : Option UnitCall) (a b c : List Told) → AreJoined a b c
    → first_fault (old_faults_of i call c) ≡ either (first_fault (old_faults_of i call a)) (first_fault (old_faults_of i call b))
old_joins i (Some (calls.OldValue place)) a b c j = old_joins_of i place a b c j
old_joins i _ a b c j = refl

here_joins : (i : Instr) (op : Op) (a b c : List Told) → AreJoined a b c
    → first_fault (faults_here i op c) ≡ either (first_fault (faults_here i op a)) (first_fault (faults_here i op b))
here_joins i (ops.Call number) a b c j = old_joins i (unit_call number) a b c j
here_joins i _ a b c j = refl

-- ---- from an instruction on

abbrev pub Joins : (ℕ → List Told → List ClauseFault) → Type 0
Joins from = (later : ℕ) → IsJoining (λ stack. first_fault (from later stack))

-- The first fault where the instruction has its operands.
abbrev pub goes_on : (ℕ → List Told → List ClauseFault) → Shape → Instr → List Told → List ClauseFault
goes_on from shape i stack =
    faults_here i i.op stack ++ flat_map (λ later. from later (stack_behind shape i i.op stack)) (ways_behind i.op (i.at + i.size))

pub first_on : (from : ℕ → List Told → List ClauseFault) (shape : Shape) (i : Instr) (stack : List Told)
    → first_fault (goes_on from shape i stack)
    ≡ either (first_fault (faults_here i i.op stack)) (least (λ later. first_fault (from later (stack_behind shape i i.op stack))) (ways_behind i.op (i.at + i.size)))
first_on from shape i stack =
    first_fault-append (faults_here i i.op stack) (flat_map (λ later. from later (stack_behind shape i i.op stack)) (ways_behind i.op (i.at + i.size)))
    ∙ ap (either (first_fault (faults_here i i.op stack))) (first_fault-flat_map (λ later. from later (stack_behind shape i i.op stack)) (ways_behind i.op (i.at + i.size)))

on_joins : (from : ℕ → List Told → List ClauseFault) (shape : Shape) (i : Instr) → Joins from → IsJoining (λ stack. first_fault (goes_on from shape i stack))
on_joins from shape i joins a b c j =
    let here : List Told → Option ClauseFault = λ stack. first_fault (faults_here i i.op stack) in
    let ways = ways_behind i.op (i.at + i.size) in
    let later_fault : List Told → ℕ → Option ClauseFault = λ stack later. first_fault (from later (stack_behind shape i i.op stack)) in
    first_on from shape i c
    ∙ ap (λ v. either v (least (later_fault c) ways)) (here_joins i i.op a b c j)
    ∙ ap (either (either (here a) (here b)))
    (least-same (later_fault c) (λ later. either (later_fault a later) (later_fault b later)) ways
    (λ later. joins later (stack_behind shape i i.op a) (stack_behind shape i i.op b) (stack_behind shape i i.op c) (behind_joined shape i i.op a b c j))
    ∙ least-either (later_fault a) (later_fault b) ways)
    ∙ either-turn (here a) (here b) (least (later_fault a) ways) (least (later_fault b) ways)
    ∙ sym (either-both (first_on from shape i a) (first_on from shape i b))

-- What is wrong at an instruction that takes so many values of so many, and after it this.
abbrev choice : ℕ → ℕ → Bool → Bool → ℕ → List ClauseFault → List ClauseFault
choice at count closing impure found rest =
    cond closing (closing_faults at count found) (cond impure [] (cond (nat_lt found count) (StackLeft at ∷ []) rest))

pub at_joins : (from : ℕ → List Told → List ClauseFault) (is : List Instr) (shape : Shape) (i : Instr) → Joins from → IsJoining (λ stack. first_fault (faults_at from is shape i stack))
at_joins from is shape i joins a b c j =
    let lengths = lengths_joined a b c j in
    by (closes i.op) (not (is_pure is i)) (length a) (length b) (length c) lengths.0 lengths.1
  where
    lacking : (count at : ℕ) (lacks : Bool) → first_fault (cond lacks (StackLeft at ∷ []) (goes_on from shape i c))
        ≡ either (first_fault (cond lacks (StackLeft at ∷ []) (goes_on from shape i a))) (first_fault (cond lacks (StackLeft at ∷ []) (goes_on from shape i b)))
    lacking count at true = sym (either-same (Some (StackLeft at)))
    lacking count at false = on_joins from shape i joins a b c j

    by : (closing impure : Bool) (l m n : ℕ) → n ≡ l → n ≡ m
        → first_fault (choice i.at (operand_count shape i.op) closing impure n (goes_on from shape i c))
        ≡ either (first_fault (choice i.at (operand_count shape i.op) closing impure l (goes_on from shape i a))) (first_fault (choice i.at (operand_count shape i.op) closing impure m (goes_on from shape i b)))
    by true impure l m n e f = rw (sym e, sym f) (sym (either-same (first_fault (closing_faults i.at (operand_count shape i.op) n))))
    by false true l m n e f = refl
    by false false l m n e f = rw (sym e, sym f) (lacking (operand_count shape i.op) i.at (nat_lt n (operand_count shape i.op)))
