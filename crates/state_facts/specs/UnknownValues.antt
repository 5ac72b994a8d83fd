-- What is known where a value comes of which little is known. None: nothing is reached then.
use Rattle.std.specs.Prelude.{ℕ, ◌+◌, ℤ, pos, List, [], ◌∷◌, ◌++◌, length, Option, Some, None, FitsSigned, if◌then◌else◌}
use Rattle.std.specs.Int.{w32}
use Rattle.std.specs.Option.{option_and_then, option_map}
use Rattle.cil_model.specs.Arithmetic.{LEAST, GREATEST}
use Rattle.cil_model.specs.Values.{FitsPlace, HasItemOf, Heap, IsHeap}
use Rattle.cil_model.specs.declared.machine.Value.{Value}
use Rattle.cil_model.specs.declared.machine.Value.TheVariants as values
use Rattle.cil_model.specs.declared.place.Place.{Place}
use Rattle.cil_model.specs.declared.place.Place.TheVariants as places
use Rattle.frame_names.specs.declared.var.Var.TheVariants as vars
use Rattle.number_facts.specs.Fresh.{Made, fresh, is_long}
use Rattle.number_spans.specs.Spans.{Has}
use Rattle.number_spans.specs.declared.span.Span.{Span}
use Rattle.state_facts.specs.Calls.{with_returned}
use Rattle.state_facts.specs.Holds.{HoldsIn}
use Rattle.state_facts.specs.Keeps.{HoldsOn}
use Rattle.state_facts.specs.Moves.{on_top, with_number}
use Rattle.state_facts.specs.StateFacts.{StateFacts, State}

-- A hole of 64 bits. Another one lies in no range of int32.
abbrev pub long_hole : Option ℤ → Option ℤ
long_hole None = None
long_hole (Some hole) = if is_long hole then Some hole else None

-- A number of a span is on top.
unfoldable pub with_within : Span → StateFacts → Option StateFacts
with_within r known = option_map (on_top known) (fresh known.facts r.lo r.hi r.hole [])

-- A value of a type is on top, unless it is that of no value. An array may be null, may be any other one, and has a
-- length of its own.
unfoldable pub with_unknown : Place → StateFacts → Option StateFacts
with_unknown places.Void known = Some known
with_unknown places.Bool known = with_number (pos 0) (pos 255) known
with_unknown places.Int known = with_number LEAST GREATEST known
with_unknown place known = with_returned known.apart place known

-- An array came, and on top is not its reference, but the address of an item of it, with an index that was made.
abbrev pub addressed : StateFacts → StateFacts → Made → StateFacts
addressed known later index = record later {
  variables = known.variables ++ vars.Address (length known.references + 1) index.expr ∷ [];
  facts = index.facts;
}

-- Nothing is known of the index but that it is a number such as lengths are.
abbrev pub with_index : StateFacts → StateFacts → Option StateFacts
with_index known later =
    option_map (addressed known later) (fresh later.facts (pos 0) (pos 2147483647) None [])

-- The address of an item of an array of this type is on top. The array is one of which no more is known, as above.
unfoldable pub with_unknown_address : Place → StateFacts → Option StateFacts
with_unknown_address place known = option_and_then (with_index known) (with_returned known.apart place known)

abbrev pub push_within : Span → State → State
push_within r state = option_and_then (with_within r) state

abbrev pub push_unknown : Place → State → State
push_unknown place state = option_and_then (with_unknown place) state

abbrev pub push_unknown_address : Place → State → State
push_unknown_address place state = option_and_then (with_unknown_address place) state

-- ---- what that keeps

-- Each int32 of the span may be what is pushed.
abbrev pub KeepsWithin : Span → State → State → Type 0
KeepsWithin r before after =
    (vs : List Value) (heap : Heap) (number : ℕ → ℤ) (array : ℕ → Option ℕ) (n : ℤ)
    → HoldsIn before vs heap number array → FitsSigned w32 n → Has r n
    → HoldsOn before after (vs ++ values.Int n ∷ []) heap number array

-- Each value that a place of the type may hold may be.
abbrev pub KeepsUnknown : Place → State → State → Type 0
KeepsUnknown place before after =
    (vs : List Value) (heap : Heap) (number : ℕ → ℤ) (array : ℕ → Option ℕ) (value : Value)
    → HoldsIn before vs heap number array → IsHeap heap → FitsPlace heap place value
    → HoldsOn before after (vs ++ value ∷ []) heap number array

-- Each address of an item of an array of the type may be.
abbrev pub KeepsUnknownAddress : Place → State → State → Type 0
KeepsUnknownAddress place before after =
    (vs : List Value) (heap : Heap) (number : ℕ → ℤ) (array : ℕ → Option ℕ) (a n : ℕ)
    → HoldsIn before vs heap number array → IsHeap heap → HasItemOf heap place a n
    → HoldsOn before after (vs ++ values.Addr a n ∷ []) heap number array
