-- What one instruction of a clause's code does to the arrivals.
use Rattle.std.specs.Prelude.{◌≡◌, ℕ, suc, ◌+◌, ◌≤◌, nat_lt, Bool, true, false, not, ◌&&◌, List, [], ◌∷◌, ◌++◌, length, flat_map, Option, Some, None, if◌then◌else◌}
use Rattle.std.specs.List.{list_any}
use Rattle.cil_model.specs.Blocks.{closes}
use Rattle.cil_model.specs.Kinds.{operand_count}
use Rattle.cil_model.specs.Offsets.{begins_with}
use Rattle.cil_model.specs.UnitCalls.{unit_call}
use Rattle.cil_model.specs.declared.instruction.Instr.{Instr}
use Rattle.cil_model.specs.declared.instruction.Op.{Op}
use Rattle.cil_model.specs.declared.instruction.Op.TheVariants as ops
use Rattle.cil_model.specs.declared.instruction.Test.TheVariants as tests
use Rattle.cil_model.specs.declared.place.Place.{Place}
use Rattle.cil_model.specs.declared.shape.Shape.{Shape}
use Rattle.cil_model.specs.declared.unit_numbers.UnitCall.{UnitCall}
use Rattle.cil_model.specs.declared.unit_numbers.UnitCall.TheVariants as calls
use Rattle.clause_faults.specs.Faults.{fault_if, faults_of, first_fault}
use Rattle.clause_faults.specs.GatheredStacks.{StandForSame}
use Rattle.clause_faults.specs.JoinedStacks.{IsJoining}
use Rattle.clause_faults.specs.PureCode.{is_pure}
use Rattle.clause_faults.specs.SharedStacks.{AreGrounded, AreOrdered, Stacks, arrivals_at, differs, either, lacks, least, least_over, made_seen, old_fault, rest_of, with_one, with_two}
use Rattle.clause_faults.specs.Ways.{Told, ways_behind}
use Rattle.clause_faults.specs.declared.ways.arrivals.Arrival.{Arrival}
use Rattle.clause_faults.specs.declared.ways.arrivals.Arrival.TheVariants.{Over}
use Rattle.clause_faults.specs.declared.clause_fault.ClauseFault.{ClauseFault}
use Rattle.clause_faults.specs.declared.clause_fault.ClauseFault.TheVariants.{StackLeft}

-- ---- the stacks after it

-- A new value on all stacks that come to the instruction of this index, where some do.
abbrev pub pushed : List Place → Instr → ℕ → List Arrival → List Arrival
pushed args i index [] = []
pushed args i index (top ∷ tops) = Over (made_seen args i []) index ∷ []

abbrev pub behind_call : List Place → Instr → Option UnitCall → ℕ → List Arrival → List Arrival
behind_call args i (Some (calls.OldValue place)) index tops = flat_map (with_one args i) tops
behind_call args i _ index tops = pushed args i index tops

-- What comes after an operation that is no comparing branch, of what comes to it.
abbrev pub other_arrivals : List Place → Instr → Op → Stacks → ℕ → List Arrival → List Arrival
other_arrivals args i ops.Nop stacks index tops = tops
other_arrivals args i (ops.Branch tests.Always target) stacks index tops = tops
other_arrivals args i (ops.Branch test target) stacks index tops = flat_map (rest_of stacks) tops
other_arrivals args i (ops.Bin operator) stacks index tops = flat_map (with_two args i stacks) tops
other_arrivals args i (ops.LoadElem place) stacks index tops = flat_map (with_two args i stacks) tops
other_arrivals args i ops.Neg stacks index tops = flat_map (with_one args i) tops
other_arrivals args i ops.Not stacks index tops = flat_map (with_one args i) tops
other_arrivals args i ops.ConvI4 stacks index tops = flat_map (with_one args i) tops
other_arrivals args i ops.Length stacks index tops = flat_map (with_one args i) tops
other_arrivals args i (ops.Call number) stacks index tops = behind_call args i (unit_call number) index tops
other_arrivals args i _ stacks index tops = pushed args i index tops

-- The operation is a comparing branch.
abbrev pub is_comparing : Op → Bool
is_comparing (ops.Branch (tests.Cmp op) target) = true
is_comparing _ = false

-- What comes after an operation that a clause may have.
abbrev pub behind_arrivals : List Place → Instr → Op → Stacks → ℕ → List Arrival → List Arrival
behind_arrivals args i op stacks index tops =
    if is_comparing op then flat_map (rest_of stacks) (flat_map (rest_of stacks) tops) else other_arrivals args i op stacks index tops

-- ---- what is wrong there

abbrev pub old_call_fault : ℕ → Option UnitCall → List Arrival → Option ClauseFault
old_call_fault at (Some (calls.OldValue place)) tops = least (old_fault at place) tops
old_call_fault at _ tops = None

-- The first fault of an operation that is an OldValue.
abbrev pub old_op_fault : ℕ → Op → List Arrival → Option ClauseFault
old_op_fault at (ops.Call number) tops = old_call_fault at (unit_call number) tops
old_op_fault at _ tops = None

-- The first fault at a closing call: it wants exactly its own arguments.
abbrev pub closing_fault : Shape → Instr → Stacks → List Arrival → Option ClauseFault
closing_fault shape i stacks tops = first_fault (fault_if (list_any (λ top. differs (operand_count shape i.op) stacks top) tops) (StackLeft i.at))

-- The first fault at an instruction that lacks an operand.
abbrev pub lacking_fault : Shape → Instr → Stacks → List Arrival → Option ClauseFault
lacking_fault shape i stacks tops = first_fault (fault_if (list_any (λ top. lacks (operand_count shape i.op) stacks top) tops) (StackLeft i.at))

-- The first fault at another instruction that a clause may have.
abbrev pub taking_fault : Shape → Instr → Stacks → List Arrival → Option ClauseFault
taking_fault shape i stacks tops = either (lacking_fault shape i stacks tops) (old_op_fault i.at i.op tops)

-- The first fault on the ways at an instruction.
abbrev pub arrived_fault : List Instr → Shape → Instr → Stacks → List Arrival → Option ClauseFault
arrived_fault is shape i stacks tops =
    if closes i.op then closing_fault shape i stacks tops else if not (is_pure is i) then None else taking_fault shape i stacks tops

-- What comes after an instruction: nothing where ways end.
abbrev pub passed_arrivals : List Instr → Shape → Instr → Stacks → ℕ → List Arrival → List Arrival
passed_arrivals is shape i stacks index tops =
    if closes i.op then [] else if not (is_pure is i) then [] else behind_arrivals shape.args i i.op stacks index tops

-- What lies below two operands, where the second ones are gathered.
pub record IsRestOfGathered (stacks : Stacks) (tops out : List Arrival) : Type 0 where
  pub seconds : List Arrival
  pub gathered : StandForSame (flat_map (rest_of stacks) tops) seconds
  pub rest : out ≡ flat_map (rest_of stacks) seconds

-- What stands for the same stacks as what is expected after the instruction of an index.
pub record StandFor (stacks : Stacks) (index : ℕ) (expected out : List Arrival) : Type 0 where
  pub same : (n : ℕ) → index ≤ suc n → AreOrdered stacks → (fault : List Told → Option ClauseFault) → IsJoining fault
      → least_over (suc (suc n)) stacks fault out ≡ least_over (suc (suc n)) stacks fault expected
  pub grounded : AreOrdered stacks → AreGrounded stacks (suc index) out

-- The same stacks come to the instruction of an index and to one up to it.
pub record IsHome (stacks : Stacks) (index home : ℕ) : Type 0 where
  pub most : home ≤ index
  pub same : arrivals_at stacks home ≡ arrivals_at stacks index

-- What stands for the stacks after an instruction, which may be gathered.
abbrev pub StandBehind : List Instr → Shape → Instr → Stacks → ℕ → List Arrival → Type 0
StandBehind is shape i stacks index out = StandFor stacks index (passed_arrivals is shape i stacks index (arrivals_at stacks index)) out

-- ---- where they come

-- A way that comes from the instruction of an index to an IL offset comes to the one of another index.
abbrev pub is_sent_to : List Instr → ℕ → ℕ → ℕ → Bool
is_sent_to code index later other = nat_lt index other && begins_with code later other

-- Arrivals come to what stands at an IL offset, after the instruction of an index.
pub record AreSentTo (code : List Instr) (index later : ℕ) (out : List Arrival) (old new : Stacks) : Type 0 where
  pub lengths : length new ≡ length old
  pub come : (other : ℕ) → arrivals_at new other ≡ (if is_sent_to code index later other then arrivals_at old other ++ out else arrivals_at old other)

-- Arrivals come to what stands at each of these IL offsets.
abbrev pub AreSent : List Instr → ℕ → List ℕ → List Arrival → Stacks → Stacks → Type 0
AreSent code index [] out old new = new ≡ old
AreSent code index (later ∷ ways) out old new = (mid : Stacks) × AreSentTo code index later out old mid × AreSent code index ways out mid new

-- The arrivals at an instruction are gathered.
pub record AreGatheredAt (index : ℕ) (old new : Stacks) : Type 0 where
  pub lengths : length new ≡ length old
  pub others : (other : ℕ) → (other ≡ index → ⊥) → arrivals_at new other ≡ arrivals_at old other
  pub here : StandForSame (arrivals_at old index) (arrivals_at new index)

-- An instruction of a clause's code is passed, and what is wrong there is found.
pub record IsPassed (is : List Instr) (shape : Shape) (start : ℕ) (closing : Instr) (code : List Instr) (index : ℕ) (i : Instr) (old new : Stacks) (found : Option ClauseFault) : Type 0 where
  pub mid : Stacks
  pub out : List Arrival
  pub gathered : AreGatheredAt index old mid
  pub behind : StandBehind is shape i mid index out
  pub sent : AreSent code index (ways_behind i.op (i.at + i.size)) out mid new
  pub faults : found ≡ either (first_fault (faults_of is shape start closing i)) (arrived_fault is shape i mid (arrivals_at mid index))
