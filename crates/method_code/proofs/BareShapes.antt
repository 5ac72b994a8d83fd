-- The first fault of clauses looks at no more of a shape than its result and its arguments.
use Rattle.std.proofs.Common.{◌≡◌, ℕ, zero, suc, ◌+◌, Bool, true, false, not, List, [], ◌∷◌, ◌++◌, length, flat_map, cond, Option, Some, None, refl, sym, ap, ap₂, ◌∙◌}
use mathlib.Core.Path.{fun_ext}
use Rattle.std.specs.Prelude.{nat_lt, if◌then◌else◌}
use Rattle.std.specs.Option.{option_map_or}
use Rattle.cil_model.specs.Blocks.{closes, is_closing_call, start_of_body}
use Rattle.cil_model.specs.ClauseTrees.{closing}
use Rattle.cil_model.specs.Kinds.{call_operands, operand_count}
use Rattle.cil_model.specs.Runs.{instr_at}
use Rattle.cil_model.specs.Terms.{Term}
use Rattle.cil_model.specs.UnitCalls.{unit_call}
use Rattle.cil_model.specs.declared.clause.ClauseKind.{ClauseKind}
use Rattle.cil_model.specs.declared.instruction.Instr.{Instr}
use Rattle.cil_model.specs.declared.instruction.Op.{Op}
use Rattle.cil_model.specs.declared.instruction.Op.TheVariants as ops
use Rattle.cil_model.specs.declared.place.Place.{Place}
use Rattle.cil_model.specs.declared.shape.Shape.{Shape}
use Rattle.cil_model.specs.declared.unit_numbers.UnitCall.{UnitCall}
use Rattle.cil_model.specs.declared.unit_numbers.UnitCall.TheVariants as calls
use Rattle.clause_faults.specs.ClauseCodes.{closing_of, goes_forward, start_behind}
use Rattle.clause_faults.specs.Faults.{body_faults, faults_in, faults_of, first_clause_fault, first_fault, limit_faults, with_clause}
use Rattle.clause_faults.specs.PureCode.{is_clause_call, is_pure, is_pure_before, calls_with_message}
use Rattle.clause_faults.specs.Ways.{Told, closing_faults, faults_at, faults_from, faults_here, stack_behind, stack_by, way_faults, ways_behind}
use Rattle.clause_faults.specs.declared.clause_fault.ClauseFault.{ClauseFault}
use Rattle.clause_faults.specs.declared.clause_fault.ClauseFault.TheVariants.{StackLeft}

-- The shape of this result and these arguments, and of nothing else.
abbrev bare : Place → List Place → Shape
bare result args = record { result = result; args = args; locals = []; max_stack = 0; callees = [] }

-- ---- one operation

-- The operation takes as many values in a shape as in the bare one.
abbrev TakesSame : Shape → Op → Type 0
TakesSame shape op = operand_count shape op ≡ operand_count (bare shape.result shape.args) op

call_takes : (shape : Shape) (call : Option UnitCall) → is_clause_call call ≡ true → call_operands shape call ≡ call_operands (bare shape.result shape.args) call
call_takes shape None e = refl
call_takes shape (Some (calls.Requires message)) e = refl
call_takes shape (Some (calls.Ensures message)) e = refl
call_takes shape (Some (calls.Assert message)) e = refl
call_takes shape (Some (calls.Assume message)) e = refl
call_takes shape (Some calls.EndContractBlock) e = refl
call_takes shape (Some (calls.Result place)) e = refl
call_takes shape (Some (calls.OldValue place)) e = refl
call_takes shape (Some (calls.Callee number)) e = absurd (cc)

closing_is_clause_call : (call : Option UnitCall) → is_closing_call call ≡ true → is_clause_call call ≡ true
closing_is_clause_call None e = absurd (cc)
closing_is_clause_call (Some (calls.Requires message)) e = refl
closing_is_clause_call (Some (calls.Ensures message)) e = refl
closing_is_clause_call (Some (calls.Assert message)) e = absurd (cc)
closing_is_clause_call (Some (calls.Assume message)) e = absurd (cc)
closing_is_clause_call (Some calls.EndContractBlock) e = refl
closing_is_clause_call (Some (calls.Result place)) e = refl
closing_is_clause_call (Some (calls.OldValue place)) e = refl
closing_is_clause_call (Some (calls.Callee number)) e = absurd (cc)

-- Of a call it is one of those that a clause may have.
abbrev IsKnownCall : Op → Type 0
IsKnownCall (ops.Call number) = is_clause_call (unit_call number) ≡ true
IsKnownCall _ = Unit {0}

op_takes : (shape : Shape) (op : Op) → IsKnownCall op → TakesSame shape op
op_takes shape ops.Nop e = refl
op_takes shape (ops.LoadArg n) e = refl
op_takes shape (ops.StoreArg n) e = refl
op_takes shape (ops.LoadLocal n) e = refl
op_takes shape (ops.StoreLocal n) e = refl
op_takes shape ops.Null e = refl
op_takes shape (ops.Const n) e = refl
op_takes shape ops.Dup e = refl
op_takes shape ops.Pop e = refl
op_takes shape (ops.Call number) e = call_takes shape (unit_call number) e
op_takes shape ops.Return e = refl
op_takes shape (ops.Branch test target) e = refl
op_takes shape (ops.Switch targets) e = refl
op_takes shape (ops.Bin operator) e = refl
op_takes shape ops.Neg e = refl
op_takes shape ops.Not e = refl
op_takes shape ops.ConvI4 e = refl
op_takes shape (ops.Text token) e = refl
op_takes shape (ops.NewArray token) e = refl
op_takes shape ops.Length e = refl
op_takes shape (ops.LoadElem place) e = refl
op_takes shape (ops.StoreElem place) e = refl
op_takes shape (ops.LoadAddr token) e = refl
op_takes shape (ops.LoadInd place) e = refl
op_takes shape (ops.StoreInd place) e = refl

closing_known : (op : Op) → closes op ≡ true → IsKnownCall op
closing_known (ops.Call number) e = closing_is_clause_call (unit_call number) e
closing_known _ e = tt

pure_known : (message : Bool) (op : Op) → is_pure_before message op ≡ true → IsKnownCall op
pure_known message (ops.Call number) e = e
pure_known message _ e = tt

-- Behind it stand the same values, where it takes as many.
same_behind : (shape : Shape) (i : Instr) (op : Op) (stack : List Told) → TakesSame shape op → stack_behind shape i op stack ≡ stack_behind (bare shape.result shape.args) i op stack
same_behind shape i (ops.Branch test target) stack e = refl
same_behind shape i op stack e = ap (λ (count : ℕ). stack_by shape i op count stack) e

-- ---- ways

module _ (is : List Instr) (shape : Shape) where
  abbrev bared : Shape
  bared = bare shape.result shape.args

  -- What is wrong from an instruction on that a clause may have.
  abbrev taken : (ℕ → List Told → List ClauseFault) → Instr → List Told → ℕ → List Told → List ClauseFault
  taken from i stack count behind =
      if nat_lt (length stack) count then StackLeft i.at ∷ [] else faults_here i i.op stack ++ flat_map (λ later. from later behind) (ways_behind i.op (i.at + i.size))

  abbrev passed : Shape → (ℕ → List Told → List ClauseFault) → Instr → List Told → Bool → List ClauseFault
  passed s from i stack pure = if not pure then [] else taken from i stack (operand_count s i.op) (stack_behind s i i.op stack)

  pure_same : (from : ℕ → List Told → List ClauseFault) (i : Instr) (stack : List Told) (pure : Bool) → is_pure is i ≡ pure
      → passed shape from i stack pure ≡ passed bared from i stack pure
  pure_same from i stack false e = refl
  pure_same from i stack true e =
      let takes : TakesSame shape i.op = op_takes shape i.op (pure_known (option_map_or (λ next. calls_with_message next.op) (instr_at is (i.at + i.size)) false) i.op e) in
      ap₂ (taken from i stack) takes (same_behind shape i i.op stack takes)

  here_same : (from : ℕ → List Told → List ClauseFault) (i : Instr) (stack : List Told) (closed : Bool) → closes i.op ≡ closed
      → cond closed (closing_faults i.at (operand_count shape i.op) (length stack)) (passed shape from i stack (is_pure is i))
      ≡ cond closed (closing_faults i.at (operand_count bared i.op) (length stack)) (passed bared from i stack (is_pure is i))
  here_same from i stack true e = ap (λ (count : ℕ). closing_faults i.at count (length stack)) (op_takes shape i.op (closing_known i.op e))
  here_same from i stack false e = pure_same from i stack (is_pure is i) refl

  at_same : (from : ℕ → List Told → List ClauseFault) (i : Instr) (stack : List Told) → faults_at from is shape i stack ≡ faults_at from is bared i stack
  at_same from i stack = here_same from i stack (closes i.op) refl

  found_same : (from other : ℕ → List Told → List ClauseFault) (stack : List Told) (found : Option Instr) → from ≡ other
      → option_map_or (λ i. faults_at from is shape i stack) found [] ≡ option_map_or (λ i. faults_at other is bared i stack) found []
  found_same from other stack None e = refl
  found_same from other stack (Some i) e = at_same from i stack ∙ ap (λ (f : ℕ → List Told → List ClauseFault). faults_at f is bared i stack) e

  from_same : (most : ℕ) (call : Instr) (at : ℕ) (stack : List Told) → faults_from most is shape call at stack ≡ faults_from most is bared call at stack
  from_same zero call at stack = refl
  from_same (suc most) call at stack =
      found_same
      (λ later rest. if goes_forward at later call then faults_from most is shape call later rest else [])
      (λ later rest. if goes_forward at later call then faults_from most is bared call later rest else [])
      stack (instr_at is at)
      (fun_ext (λ later. fun_ext (λ rest. ap (λ (faults : List ClauseFault). if goes_forward at later call then faults else []) (from_same most call later rest))))

  ways_same : (start : ℕ) (call : Instr) → way_faults is shape start call ≡ way_faults is bared start call
  ways_same start call = from_same (length is) call start []

  -- ---- all instructions

  in_same : (start : ℕ) (clauses : List (ClauseKind × Option Term)) (rest : List Instr) → faults_in is shape start clauses rest ≡ faults_in is bared start clauses rest
  in_same start clauses [] = refl
  in_same start clauses (i ∷ rest) =
      ap₂ (λ (closed later : List ClauseFault). option_map_or (λ call. faults_of is shape start call i) (closing_of (i ∷ rest)) (body_faults (start_of_body is) i) ++ closed ++ later)
      (ap (λ (ways : List ClauseFault). if closes i.op then ways ++ limit_faults is start clauses i else []) (ways_same start i))
      (in_same (start_behind start i) (if closes i.op then with_clause is start clauses (closing i.op) else clauses) rest)

  first_same : first_clause_fault is shape ≡ first_clause_fault is bared
  first_same = ap first_fault (in_same 0 [] is)

-- Shapes of one result and of the same arguments have one first fault.
pub bare_faults : (is : List Instr) (a b : Shape) → a.result ≡ b.result → a.args ≡ b.args → first_clause_fault is a ≡ first_clause_fault is b
bare_faults is a b result args =
    first_same is a ∙ ap₂ (λ (r : Place) (xs : List Place). first_clause_fault is (bare r xs)) result args ∙ sym (first_same is b)
