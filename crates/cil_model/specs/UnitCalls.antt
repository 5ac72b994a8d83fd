-- What the numbers in a unit's code name: those of its calls, of its new arrays and of the arrays of its addresses.
use Rattle.std.specs.Prelude.{ℕ, ◌-◌, ◌==◌, nat_le, Bool, true, false, Option, Some, None, if◌then◌else◌}
use Rattle.cil_model.specs.declared.place.Place.{Place}
use Rattle.cil_model.specs.declared.place.Place.TheVariants as places
use Rattle.cil_model.specs.declared.unit_numbers.UnitCall.{UnitCall}
use Rattle.cil_model.specs.declared.unit_numbers.UnitCall.TheVariants.{Requires, Ensures, Assert, Assume, EndContractBlock, Result, OldValue, Callee}

-- The calls with a condition: an odd number takes the condition alone, an even one a message too.
abbrev pub condition_call : ℕ → Option UnitCall
condition_call number =
    if number == 1 then Some (Requires false)
    else if number == 2 then Some (Requires true)
    else if number == 3 then Some (Ensures false)
    else if number == 4 then Some (Ensures true)
    else if number == 5 then Some (Assert false)
    else if number == 6 then Some (Assert true)
    else if number == 7 then Some (Assume false)
    else if number == 8 then Some (Assume true)
    else None

-- Result is 10 and OldValue 20, each with the number of its type added.
abbrev pub place_call : ℕ → Option UnitCall
place_call number =
    if number == 11 then Some (Result places.Bool)
    else if number == 12 then Some (Result places.Int)
    else if number == 13 then Some (Result places.Bools)
    else if number == 14 then Some (Result places.Ints)
    else if number == 21 then Some (OldValue places.Bool)
    else if number == 22 then Some (OldValue places.Int)
    else if number == 23 then Some (OldValue places.Bools)
    else if number == 24 then Some (OldValue places.Ints)
    else None

-- What a call names. From 100 on it is a callee.
unfoldable pub unit_call : ℕ → Option UnitCall
unit_call number =
    if nat_le 100 number then Some (Callee (number - 100))
    else if number == 9 then Some EndContractBlock
    else if nat_le number 8 then condition_call number
    else place_call number

-- The callee that a call names.
abbrev pub callee_of : Option UnitCall → Option ℕ
callee_of (Some (Callee number)) = Some number
callee_of (Some (Requires message)) = None
callee_of (Some (Ensures message)) = None
callee_of (Some (Assert message)) = None
callee_of (Some (Assume message)) = None
callee_of (Some EndContractBlock) = None
callee_of (Some (Result place)) = None
callee_of (Some (OldValue place)) = None
callee_of None = None

-- The call is an Assert without a message.
abbrev pub is_assert : Option UnitCall → Bool
is_assert (Some (Assert false)) = true
is_assert _ = false

-- The type of the arrays that newarr makes, and of whose items ldelema takes addresses.
abbrev pub array_place : ℕ → Option Place
array_place number = if number == 1 then Some places.Bools else if number == 2 then Some places.Ints else None
