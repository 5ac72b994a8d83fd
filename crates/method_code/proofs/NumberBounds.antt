-- The numbers of calls and of arrays are numbers of 32 bits.
use Rattle.std.proofs.Common.{◌≡◌, ℕ, ◌+◌, ◌<◌, ◌^◌, List, length, Option, Some, None, refl, arith}
use Rattle.std.specs.Prelude.{position, ◌==◌}
use Rattle.std.specs.Option.{option_map_or}
use Rattle.std.proofs.lemmas.List.Quantifiers.{position-Some}
use Rattle.cil_model.specs.declared.place.Place.{Place}
use Rattle.cil_model.specs.declared.place.Place.TheVariants as places
use Rattle.method_code.specs.Meanings.{IsSmall}
use Rattle.method_code.specs.Numbering.{array_number, call_number}
use Rattle.method_code.specs.declared.call.Call.{Call}
use Rattle.method_code.specs.declared.call.Call.TheVariants.{Callee, Contract, Unknown}

index_small : (callees : List ℕ) (key : ℕ) (found : Option ℕ) → position (λ callee. callee == key) callees ≡ found → length callees + 100 < 2 ^ 32
    → option_map_or (λ index. 100 + index) found 0 < 2 ^ 32
index_small callees key None e few = omega arith
index_small callees key (Some index) e few =
    let within : index < length callees = (position-Some (λ callee. callee == key) callees index 0 e).0 in
    omega (arith, within, few)

pub call_small : (callees : List ℕ) (call : Call) → IsSmall call → length callees + 100 < 2 ^ 32 → call_number callees call < 2 ^ 32
call_small callees (Contract number) small few = omega (arith, small)
call_small callees (Callee key) small few = index_small callees key (position (λ callee. callee == key) callees) refl few
call_small callees Unknown small few = omega arith

pub array_small : (element : Option Place) → array_number element < 2 ^ 32
array_small None = omega arith
array_small (Some places.Void) = omega arith
array_small (Some places.Bool) = omega arith
array_small (Some places.Int) = omega arith
array_small (Some places.Bools) = omega arith
array_small (Some places.Ints) = omega arith
