-- Stacks with shared parts: for each instruction of a clause's code a list of arrivals, which stand for the stacks that
-- ways bring there. A stack is empty, or it is a value on a stack that comes to an earlier instruction.
use Rattle.std.specs.Prelude.{ℕ, zero, suc, ◌<◌, Bool, true, false, min, List, [], ◌∷◌, length, map, flat_map, Option, Some, None, slice_index_or}
use Rattle.std.specs.List.{AllByRecursion, list_any}
use Rattle.std.specs.Option.{option_map_or, option_to_list}
use Rattle.cil_model.specs.declared.instruction.Instr.{Instr}
use Rattle.cil_model.specs.declared.place.Place.{Place}
use Rattle.clause_faults.specs.Faults.{earlier, first_fault}
use Rattle.clause_faults.specs.Ways.{Told, asked_by, made_kind, old_faults}
use Rattle.clause_faults.specs.declared.ways.arrivals.Arrival.{Arrival}
use Rattle.clause_faults.specs.declared.ways.arrivals.Arrival.TheVariants.{Empty, Over}
use Rattle.clause_faults.specs.declared.ways.arrivals.Seen.{Seen}
use Rattle.clause_faults.specs.declared.clause_fault.ClauseFault.{ClauseFault}

-- ---- the first of faults

-- The earlier of two faults, where there are any.
abbrev pub either : Option ClauseFault → Option ClauseFault → Option ClauseFault
either None b = b
either (Some a) b = Some (earlier a b)

-- The first of the faults that some things have.
abbrev pub least : {X : Type 0} → (X → Option ClauseFault) → List X → Option ClauseFault
least f [] = None
least f (x ∷ xs) = either (f x) (least f xs)

-- ---- values

-- The lower of two IL offsets, where there are any.
abbrev pub lower : Option ℕ → Option ℕ → Option ℕ
lower None b = b
lower (Some a) None = Some a
lower (Some a) (Some b) = Some (min a b)

-- What is told of a value of which only the first call is known.
abbrev pub told_of : Seen → Told
told_of value = record { kind = value.kind; calls = option_to_list value.call }

abbrev pub lowest_call : List Seen → Option ℕ
lowest_call [] = None
lowest_call (value ∷ values) = lower value.call (lowest_call values)

-- The value that an instruction makes of these, the top first.
abbrev pub made_seen : List Place → Instr → List Seen → Seen
made_seen args i operands = record {
  kind = made_kind args i.op (map (λ value. value.kind) operands);
  call = lower (option_map_or (λ place. Some i.at) (asked_by i.op) None) (lowest_call operands);
}

-- ---- what arrivals stand for

abbrev pub Stacks : Type 0
Stacks = List (List Arrival)

-- The arrivals at the instruction of an index.
abbrev pub arrivals_at : Stacks → ℕ → List Arrival
arrivals_at stacks index = slice_index_or stacks index []

-- The first of the faults that the stacks have for which an arrival stands, down to so many values.
abbrev pub least_of : ℕ → Stacks → (List Told → Option ClauseFault) → Arrival → Option ClauseFault
least_of most stacks fault Empty = fault []
least_of zero stacks fault (Over value below) = None
least_of (suc most) stacks fault (Over value below) =
    least (λ arrival. least_of most stacks (λ stack. fault (told_of value ∷ stack)) arrival) (arrivals_at stacks below)

-- The same of all of these arrivals.
abbrev pub least_over : ℕ → Stacks → (List Told → Option ClauseFault) → List Arrival → Option ClauseFault
least_over most stacks fault arrivals = least (λ arrival. least_of most stacks fault arrival) arrivals

-- An arrival is over stacks that come to an instruction below this index.
abbrev pub IsGrounded : Stacks → ℕ → Arrival → Type 0
IsGrounded stacks index Empty = Unit {0}
IsGrounded stacks index (Over value below) = (below < index) × (0 < length (arrivals_at stacks below))

abbrev pub AreGrounded : Stacks → ℕ → List Arrival → Type 0
AreGrounded stacks index arrivals = AllByRecursion (IsGrounded stacks index) arrivals

-- What comes to each instruction is over stacks that come to an instruction before it.
abbrev pub AreOrdered : Stacks → Type 0
AreOrdered stacks = (index : ℕ) → AreGrounded stacks index (arrivals_at stacks index)

-- ---- an instruction of which each arrival is taken apart

-- One operand.
abbrev pub with_one : List Place → Instr → Arrival → List Arrival
with_one args i Empty = []
with_one args i (Over a below) = Over (made_seen args i (a ∷ [])) below ∷ []

-- The second operand, below this top.
abbrev pub with_second : List Place → Instr → Seen → Arrival → List Arrival
with_second args i top Empty = []
with_second args i top (Over a below) = Over (made_seen args i (top ∷ a ∷ [])) below ∷ []

-- Two operands.
abbrev pub with_two : List Place → Instr → Stacks → Arrival → List Arrival
with_two args i stacks Empty = []
with_two args i stacks (Over top below) = flat_map (with_second args i top) (arrivals_at stacks below)

-- What lies below the top.
abbrev pub rest_of : Stacks → Arrival → List Arrival
rest_of stacks Empty = []
rest_of stacks (Over value below) = arrivals_at stacks below

-- Some stack has fewer values.
abbrev pub lacks : ℕ → Stacks → Arrival → Bool
lacks zero stacks arrival = false
lacks (suc count) stacks Empty = true
lacks (suc count) stacks (Over value below) = list_any (λ arrival. lacks count stacks arrival) (arrivals_at stacks below)

-- Some stack has fewer values or more.
abbrev pub differs : ℕ → Stacks → Arrival → Bool
differs zero stacks Empty = false
differs zero stacks (Over value below) = true
differs (suc count) stacks Empty = true
differs (suc count) stacks (Over value below) = list_any (λ arrival. differs count stacks arrival) (arrivals_at stacks below)

-- The first fault of an OldValue of the place over the top.
abbrev pub old_fault : ℕ → Place → Arrival → Option ClauseFault
old_fault at place Empty = None
old_fault at place (Over value below) = first_fault (old_faults at place (told_of value))
