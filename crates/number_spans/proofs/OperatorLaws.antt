-- What the operators of the machine give, where they do not fault.
use Rattle.std.proofs.Common.{◌≡◌, ◌≢◌, ℕ, ◌/◌, ◌%◌, ◌<◌, ℤ, pos, negsuc, ◌≤ℤ◌, Bool, true, false, ◌&&◌, cond, int_le, int_lt, int_eq, int_div, int_rem, unsigned_abs, Result, Ok, Err, FitsSigned, w32, refl, arith}
use Rattle.std.proofs.lemmas.Bool.Decides.{Decides-int_eq}
use Rattle.std.proofs.lemmas.Int.{ints, to_z_pos}
use Rattle.std.proofs.Math.Nat.{div-le_self, mod-le}
use Rattle.cil_model.specs.Arithmetic.{LEAST, GREATEST, exact, divided, divided_unsigned, shifted, signed, unsigned}
use Rattle.cil_model.specs.declared.machine.FaultKind.{FaultKind}
use Rattle.cil_model.specs.declared.machine.FaultKind.TheVariants.{DivZero, DivOverflow, Overflow, Shift}
use Rattle.number_spans.proofs.Wrapping.{bits_of}

pub ok_same : (r : Result ℤ FaultKind) (x y : ℤ) → r ≡ Ok x → r ≡ Ok y → x ≡ y
ok_same r x y is other = grind (arith, is, other)

not_ok : (r : Result ℤ FaultKind) (e : FaultKind) (y : ℤ) → r ≡ Err e → r ≡ Ok y → ⊥
not_ok r e y is other = grind (arith, is, other)

-- a division that gives something is not by 0, and gives its outcome
divided_by : (zero over : Bool) (outcome c : ℤ) → cond zero (Err DivZero) (cond over (Err DivOverflow) (Ok outcome)) ≡ Ok c → (zero ≡ false) × (outcome ≡ c)
divided_by true over outcome c is = elim (not_ok (Err DivZero) DivZero c refl is) [ ]
divided_by false true outcome c is = elim (not_ok (Err DivOverflow) DivOverflow c refl is) [ ]
divided_by false false outcome c is = (refl, ok_same (Ok outcome) outcome c refl is)

pub not_zero : (b : ℤ) → int_eq b (pos 0) ≡ false → b ≢ pos 0
not_zero b e = λ is. grind (arith, (Decides-int_eq b (pos 0)).1 is, e)

pub divided_gives : (a b outcome c : ℤ) → divided a b outcome ≡ Ok c → (b ≢ pos 0) × (outcome ≡ c)
divided_gives a b outcome c is =
    let parts = divided_by (int_eq b (pos 0)) (int_eq a LEAST && int_eq b (negsuc 0)) outcome c is in (not_zero b parts.0, parts.1)

unsigned_by : (zero : Bool) (outcome c : ℤ) → cond zero (Err DivZero) (Ok outcome) ≡ Ok c → (zero ≡ false) × (outcome ≡ c)
unsigned_by true outcome c is = elim (not_ok (Err DivZero) DivZero c refl is) [ ]
unsigned_by false outcome c is = (refl, ok_same (Ok outcome) outcome c refl is)

pub divided_unsigned_gives : (b c : ℤ) (outcome : ℕ) → divided_unsigned b outcome ≡ Ok c → (b ≢ pos 0) × (signed outcome ≡ c)
divided_unsigned_gives b c outcome is = let parts = unsigned_by (int_eq b (pos 0)) (signed outcome) c is in (not_zero b parts.0, parts.1)

-- a shift or an operator that may overflow gives its outcome
outcome_by : (test : Bool) (outcome c : ℤ) (e : FaultKind) → cond test (Ok outcome) (Err e) ≡ Ok c → outcome ≡ c
outcome_by true outcome c e is = ok_same (Ok outcome) outcome c refl is
outcome_by false outcome c e is = elim (not_ok (Err e) e c refl is) [ ]

pub shifted_gives : (n c : ℤ) (by : ℕ → ℤ) → shifted n by ≡ Ok c → by (unsigned_abs n) ≡ c
shifted_gives n c by is = outcome_by (int_le (pos 0) n && int_lt n (pos 32)) (by (unsigned_abs n)) c Shift is

pub exact_gives : (n c : ℤ) → exact n ≡ Ok c → n ≡ c
exact_gives n c is = outcome_by (int_le LEAST n && int_le n GREATEST) n c Overflow is

-- ---- unsigned numbers

pub plain_quotient : (m n : ℤ) → FitsSigned w32 m → pos 0 ≤ℤ m → pos 0 ≤ℤ n → FitsSigned w32 n → signed (unsigned m / unsigned n) ≡ int_div m n
plain_quotient (negsuc a) n fits p q other = omega (arith, ints, p)
plain_quotient (pos a) (negsuc b) fits p q other = omega (arith, ints, q)
plain_quotient (pos a) (pos b) fits p q other = to_z_pos w32 (a / b) (omega (arith, ints, fits, div-le_self a b))

pub plain_remainder : (m n : ℤ) → FitsSigned w32 m → pos 0 ≤ℤ m → pos 0 ≤ℤ n → FitsSigned w32 n → signed (unsigned m % unsigned n) ≡ int_rem m n
plain_remainder (negsuc a) n fits p q other = omega (arith, ints, p)
plain_remainder (pos a) (negsuc b) fits p q other = omega (arith, ints, q)
plain_remainder (pos a) (pos b) fits p q other = to_z_pos w32 (a % b) (omega (arith, ints, fits, mod-le a b))

pub quotient_fits : (m : ℤ) (k : ℕ) → FitsSigned w32 m → FitsSigned w32 (signed (unsigned m / k))
quotient_fits m k fits =
    let all : unsigned m < 4294967296 = omega (arith, ints, fits) in bits_of (unsigned m / k) (omega (arith, all, div-le_self (unsigned m) k))

pub remainder_fits : (m : ℤ) (k : ℕ) → FitsSigned w32 m → FitsSigned w32 (signed (unsigned m % k))
remainder_fits m k fits =
    let all : unsigned m < 4294967296 = omega (arith, ints, fits) in bits_of (unsigned m % k) (omega (arith, all, mod-le (unsigned m) k))
