-- Callees that are called in their order, up to some instruction.
use Rattle.std.specs.Prelude.{◌≡◌, ℕ, suc, ◌==◌, nat_lt, List, drop, Option, Some, None, if◌then◌else◌}
use Rattle.std.specs.List.{filter_map, list_any}
use Rattle.cc_base.specs.Tests.{first_of}
use Rattle.cil_model.specs.WellFormed.{called_by}
use Rattle.cil_model.specs.declared.instruction.Instr.{Instr}
use Rattle.method_unit.specs.UnitFile.{first_uses, order_tests, order_tests_from}

-- The callees that instructions call.
abbrev pub calls_in : List Instr → List ℕ
calls_in is = filter_map (λ i. called_by i.op) is

-- How many callees are called in order after a call, if it is one, where so many are before it.
abbrev pub next_behind : ℕ → Option ℕ → Option ℕ
next_behind next None = Some next
next_behind next (Some n) = if nat_lt n next then Some next else if n == next then Some (suc next) else None

-- These are the numbers below this one.
abbrev pub AreBelow : ℕ → List ℕ → Type 0
AreBelow next met = (n : ℕ) → list_any (λ m. m == n) met ≡ nat_lt n next

-- So many callees were called in order. These calls are left, and what they say of the callees after is what the code
-- says of all.
pub record AreCalled (is : List Instr) (next : ℕ) (left : List ℕ) : Type 0 where
  pub met : List ℕ
  pub below : AreBelow next met
  pub same : (offsets : List ℕ) → first_of (order_tests is offsets) ≡ first_of (order_tests_from next (first_uses met left) (drop next offsets))
