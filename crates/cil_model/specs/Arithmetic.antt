-- What the operators give of int32 numbers, and when they fault (ECMA-335 III.3).
use Rattle.std.specs.Prelude.{ℕ, ◌^◌, ◌/◌, ◌%◌, ◌&&◌, ℤ, pos, negsuc, ◌+ℤ◌, ◌-ℤ◌, ◌*ℤ◌, neg_ℤ, Bool, not, nat_lt, int_lt, int_le, int_div, int_rem, unsigned_abs, Result, Ok, Err, if◌then◌else◌}
use Rattle.std.specs.Ordering.{int_eq}
use Rattle.std.specs.Int.{w32, cast_unsigned, cast_signed, int_bit_and, int_bit_or, int_bit_xor, int_shr}
use Rattle.cc_base.specs.Wrap.{wrap32}
use Rattle.cil_model.specs.declared.instruction.UnOp.{UnOp}
use Rattle.cil_model.specs.declared.instruction.UnOp.TheVariants as unary
use Rattle.cil_model.specs.declared.instruction.BinOp.{BinOp}
use Rattle.cil_model.specs.declared.instruction.BinOp.TheVariants as operators
use Rattle.cil_model.specs.declared.instruction.CmpOp.{CmpOp}
use Rattle.cil_model.specs.declared.instruction.CmpOp.TheVariants as comparisons
use Rattle.cil_model.specs.declared.machine.FaultKind.{FaultKind}
use Rattle.cil_model.specs.declared.machine.FaultKind.TheVariants.{DivZero, DivOverflow, Overflow, Shift}

abbrev pub LEAST : ℤ
LEAST = negsuc 2147483647

abbrev pub GREATEST : ℤ
GREATEST = pos 2147483647

-- A number of 32 bits without its sign, and back.
abbrev pub unsigned : ℤ → ℕ
unsigned n = cast_unsigned w32 n

abbrev pub signed : ℕ → ℤ
signed n = cast_signed w32 n

-- A result, or the overflow where it is no int32.
abbrev pub exact : ℤ → Result ℤ FaultKind
exact n = if int_le LEAST n && int_le n GREATEST then Ok n else Err Overflow

-- A division of a by b with this outcome: it faults for 0, and for the one quotient of 2^31.
abbrev pub divided : ℤ → ℤ → ℤ → Result ℤ FaultKind
divided a b outcome =
    if int_eq b (pos 0) then Err DivZero
    else if int_eq a LEAST && int_eq b (negsuc 0) then Err DivOverflow
    else Ok outcome

-- A division of unsigned numbers.
abbrev pub divided_unsigned : ℤ → ℕ → Result ℤ FaultKind
divided_unsigned b outcome = if int_eq b (pos 0) then Err DivZero else Ok (signed outcome)

-- A shift, whose amount has to be one of 0 to 31.
abbrev pub shifted : ℤ → (ℕ → ℤ) → Result ℤ FaultKind
shifted amount by = if int_le (pos 0) amount && int_lt amount (pos 32) then Ok (by (unsigned_abs amount)) else Err Shift

-- The comparisons of numbers (III.1.5 and III.4). Those without a sign take both numbers as unsigned.
abbrev pub compares : CmpOp → ℤ → ℤ → Bool
compares comparisons.Eq a b = int_eq a b
compares comparisons.Ge a b = int_le b a
compares comparisons.Gt a b = int_lt b a
compares comparisons.Le a b = int_le a b
compares comparisons.Lt a b = int_lt a b
compares comparisons.NeUn a b = not (int_eq a b)
compares comparisons.GeUn a b = not (nat_lt (unsigned a) (unsigned b))
compares comparisons.GtUn a b = nat_lt (unsigned b) (unsigned a)
compares comparisons.LeUn a b = not (nat_lt (unsigned b) (unsigned a))
compares comparisons.LtUn a b = nat_lt (unsigned a) (unsigned b)

-- What a comparison pushes.
abbrev pub truth : Bool → ℤ
truth holds = if holds then pos 1 else pos 0

-- What an operator gives of two int32.
abbrev pub operated : BinOp → ℤ → ℤ → Result ℤ FaultKind
operated operators.Add a b = Ok (wrap32 (a +ℤ b))
operated operators.Sub a b = Ok (wrap32 (a -ℤ b))
operated operators.Mul a b = Ok (wrap32 (a *ℤ b))
operated operators.Div a b = divided a b (int_div a b)
operated operators.DivUn a b = divided_unsigned b (unsigned a / unsigned b)
operated operators.Rem a b = divided a b (int_rem a b)
operated operators.RemUn a b = divided_unsigned b (unsigned a % unsigned b)
operated operators.And a b = Ok (int_bit_and w32 a b)
operated operators.Or a b = Ok (int_bit_or w32 a b)
operated operators.Xor a b = Ok (int_bit_xor w32 a b)
operated operators.Shl a b = shifted b (λ n. wrap32 (a *ℤ pos (2 ^ n)))
operated operators.Shr a b = shifted b (λ n. int_shr a n)
operated operators.ShrUn a b = shifted b (λ n. signed (unsigned a / 2 ^ n))
operated operators.AddOvf a b = exact (a +ℤ b)
operated operators.MulOvf a b = exact (a *ℤ b)
operated operators.SubOvf a b = exact (a -ℤ b)
operated operators.Ceq a b = Ok (truth (compares comparisons.Eq a b))
operated operators.Cgt a b = Ok (truth (compares comparisons.Gt a b))
operated operators.CgtUn a b = Ok (truth (compares comparisons.GtUn a b))
operated operators.Clt a b = Ok (truth (compares comparisons.Lt a b))
operated operators.CltUn a b = Ok (truth (compares comparisons.LtUn a b))

-- What an operator gives of one int32.
abbrev pub operated_one : UnOp → ℤ → ℤ
operated_one unary.Neg a = wrap32 (neg_ℤ a)
operated_one unary.Not a = negsuc 0 -ℤ a
