-- Rounding up.
use Rattle.std.proofs.Common.{ℕ, zero, ◌+◌, ◌-◌, ◌*◌, ◌<◌, ◌≤◌, ◌/◌, arith}
use Rattle.std.proofs.Math.Nat.{div-mul-le_self, lt-div-mul-add}
use Rattle.asm_writer.specs.Padding.{round_up}

-- What is rounded up lies between the number and the next multiple.
pub rounded_above : (n unit : ℕ) → 1 ≤ unit → n ≤ (n + (unit - 1)) / unit * unit
rounded_above n unit some =
    let positive : zero < unit = omega arith in
    let lt = lt-div-mul-add {a = n + (unit - 1)} {b = unit} positive in
    omega arith

pub rounded_below : (n unit : ℕ) → (n + (unit - 1)) / unit * unit ≤ n + (unit - 1)
rounded_below n unit = div-mul-le_self (n + (unit - 1)) unit

pub round_up_above : (unit n : ℕ) → 1 ≤ unit → n ≤ round_up unit n
unfolding round_up
round_up_above unit n some = rounded_above n unit some
