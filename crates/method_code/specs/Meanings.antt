-- What the tokens in the code of a method mean.
use Rattle.std.specs.Prelude.{ℕ, ◌<◌, Option}
use Rattle.cil_model.specs.declared.place.Place.{Place}
use Rattle.method_code.specs.declared.call.Call.{Call}
use Rattle.method_code.specs.declared.call.Call.TheVariants.{Callee, Contract, Unknown}

-- What a call of each token calls, and the type of the elements of arrays of each, where it is known.
pub record Meaning : Type 0 where
  pub call : ℕ → Call
  pub element : ℕ → Option Place

-- Of a contract call the number lies below those of callees.
abbrev pub IsSmall : Call → Type 0
IsSmall (Contract number) = number < 100
IsSmall (Callee key) = Unit {0}
IsSmall Unknown = Unit {0}

abbrev pub HasSmallNumbers : Meaning → Type 0
HasSmallNumbers meaning = (token : ℕ) → IsSmall (meaning.call token)
