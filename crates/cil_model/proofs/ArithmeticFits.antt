-- What operators give of int32 are int32.
use Rattle.std.proofs.Common.{◌≡◌, ℕ, zero, suc, ◌/◌, ◌^◌, ◌<◌, ◌≤◌, ◌&&◌, ℤ, pos, negsuc, neg_ℤ, ◌+ℤ◌, ◌-ℤ◌, ◌*ℤ◌, int_lt, int_le, int_eq, int_div, int_rem, Fits, FitsSigned, Bool, true, false, Ok, Err, IfOk, ap, true≢false, w32, arith}
use Rattle.std.specs.Int.{int_rem_euclid, int_shr}
use Rattle.std.specs.Int.Bits.{bit_or, bit_xor}
use Rattle.std.specs.Int.Signed.{mag_rem, mag_shr}
use Rattle.std.proofs.Math.Facts.{Fits-of_z, Fits-and, sfits_to_z}
use Rattle.std.proofs.Math.Nat.{div-le_self, div-lt_self, mod-le}
use Rattle.std.proofs.lemmas.Bool.{cond_both, and_parts}
use Rattle.std.proofs.lemmas.Bool.Decides.{Decides-int_eq}
use Rattle.std.proofs.lemmas.Int.{ints, SFits-int_wrap}
use Rattle.std.proofs.lemmas.Nat.{or_lt, xor_lt}
use Rattle.cil_model.specs.Arithmetic.{LEAST, GREATEST, unsigned, signed, exact, divided, divided_unsigned, shifted, truth, operated, operated_one}
use Rattle.cil_model.specs.Values.{IsByte}
use Rattle.cil_model.specs.declared.instruction.BinOp.{BinOp}
use Rattle.cil_model.specs.declared.instruction.BinOp.TheVariants as operators
use Rattle.cil_model.specs.declared.instruction.UnOp.{UnOp}
use Rattle.cil_model.specs.declared.instruction.UnOp.TheVariants as unary
use Rattle.cil_model.specs.declared.machine.FaultKind.TheVariants.{Overflow}

neg_fits : (n : ℕ) → n ≤ 2147483648 → FitsSigned w32 (neg_ℤ (pos n))
neg_fits zero h = omega (arith, ints)
neg_fits (suc n) h = omega (arith, ints)

-- The greatest size of a number has one quotient that is none: by -1.
by_minus_one : (a : ℕ) → (int_eq (negsuc a) LEAST && true) ≡ false → a < 2147483648 → suc a < 2147483648
by_minus_one a other below =
    let differs : a ≡ 2147483647 → ⊥ = λ e. let yes = (Decides-int_eq (negsuc a) LEAST).1 (ap negsuc e) in true≢false (rw yes at other) in
    omega (arith, differs)

div_fits : (a b : ℤ) → FitsSigned w32 a → (int_eq a LEAST && int_eq b (negsuc 0)) ≡ false → FitsSigned w32 (int_div a b)
div_fits (pos a) (pos b) h other = let le = div-le_self a b in omega (arith, ints)
div_fits (pos a) (negsuc b) h other = let le = div-le_self a (suc b) in neg_fits (a / suc b) (omega (arith, ints))
div_fits (negsuc a) (pos b) h other = let le = div-le_self (suc a) b in neg_fits (suc a / b) (omega (arith, ints))
div_fits (negsuc a) (negsuc zero) h other =
    let le = div-le_self (suc a) 1 in let less = by_minus_one a other (omega (arith, ints)) in omega (arith, ints)
div_fits (negsuc a) (negsuc (suc b)) h other =
    let less : suc a / suc (suc b) < suc a = div-lt_self {n = suc a} {k = suc (suc b)} (omega arith) (omega arith) in omega (arith, ints)

rem_fits : (a b : ℤ) → FitsSigned w32 a → FitsSigned w32 (int_rem a b)
rem_fits a b h = let le = mag_rem a b in record { sfits = omega (arith, h.sfits) }

shr_fits : (a : ℤ) (n : ℕ) → FitsSigned w32 a → FitsSigned w32 (int_shr a n)
shr_fits a n h = let le = mag_shr a (2 ^ n) in record { sfits = omega (arith, h.sfits) }

exact_fits : (n : ℤ) → IfOk (exact n) (FitsSigned w32)
exact_fits n =
    cond_both (int_le LEAST n && int_le n GREATEST) (Ok n) (Err Overflow) (λ r. IfOk r (FitsSigned w32))
    (λ e. let both = and_parts (int_le LEAST n) (int_le n GREATEST) e in omega (arith, ints, both.0, both.1)) (λ e. tt)

divided_fits : (a b outcome : ℤ) → ((int_eq a LEAST && int_eq b (negsuc 0)) ≡ false → FitsSigned w32 outcome) → IfOk (divided a b outcome) (FitsSigned w32)
divided_fits a b outcome fits =
    cond_both (int_eq b (pos 0)) _ _ (λ r. IfOk r (FitsSigned w32)) (λ e. tt)
    (λ e. cond_both (int_eq a LEAST && int_eq b (negsuc 0)) _ _ (λ r. IfOk r (FitsSigned w32)) (λ f. tt) fits)

unsigned_below : (a : ℤ) → FitsSigned w32 a → unsigned a < 2 ^ 32
unsigned_below a h = let fits : Fits w32 (unsigned a) = Fits-of_z h in omega arith

signed_fits : (n : ℕ) → n < 2 ^ 32 → FitsSigned w32 (signed n)
signed_fits n below = let fits : Fits w32 n = omega arith in sfits_to_z fits

divided_unsigned_fits : (b : ℤ) (outcome : ℕ) → outcome < 2 ^ 32 → IfOk (divided_unsigned b outcome) (FitsSigned w32)
divided_unsigned_fits b outcome below = cond_both (int_eq b (pos 0)) _ _ (λ r. IfOk r (FitsSigned w32)) (λ e. tt) (λ e. signed_fits outcome below)

shifted_fits : (amount : ℤ) (by : ℕ → ℤ) → ((n : ℕ) → FitsSigned w32 (by n)) → IfOk (shifted amount by) (FitsSigned w32)
shifted_fits amount by fits =
    cond_both (int_le (pos 0) amount && int_lt amount (pos 32)) _ _ (λ r. IfOk r (FitsSigned w32)) (λ e. fits _) (λ e. tt)

pub truth_fits : (holds : Bool) → FitsSigned w32 (truth holds)
truth_fits true = omega (arith, ints)
truth_fits false = omega (arith, ints)

pub operated_fits : (operator : BinOp) (a b : ℤ) → FitsSigned w32 a → FitsSigned w32 b → IfOk (operated operator a b) (FitsSigned w32)
operated_fits operators.Add a b fa fb = SFits-int_wrap w32 _
operated_fits operators.Sub a b fa fb = SFits-int_wrap w32 _
operated_fits operators.Mul a b fa fb = SFits-int_wrap w32 _
operated_fits operators.Div a b fa fb = divided_fits a b _ (div_fits a b fa)
operated_fits operators.DivUn a b fa fb =
    let le = div-le_self (unsigned a) (unsigned b) in let below = unsigned_below a fa in divided_unsigned_fits b _ (omega arith)
operated_fits operators.Rem a b fa fb = divided_fits a b _ (λ e. rem_fits a b fa)
operated_fits operators.RemUn a b fa fb =
    let le = mod-le (unsigned a) (unsigned b) in let below = unsigned_below a fa in divided_unsigned_fits b _ (omega arith)
operated_fits operators.And a b fa fb = sfits_to_z (Fits-and (unsigned b) (Fits-of_z fa))
operated_fits operators.Or a b fa fb = signed_fits (bit_or (unsigned a) (unsigned b)) (or_lt 32 (unsigned a) (unsigned b) (unsigned_below a fa) (unsigned_below b fb))
operated_fits operators.Xor a b fa fb = signed_fits (bit_xor (unsigned a) (unsigned b)) (xor_lt 32 (unsigned a) (unsigned b) (unsigned_below a fa) (unsigned_below b fb))
operated_fits operators.Shl a b fa fb = shifted_fits b _ (λ n. SFits-int_wrap w32 (a *ℤ pos (2 ^ n)))
operated_fits operators.Shr a b fa fb = shifted_fits b _ (λ n. shr_fits a n fa)
operated_fits operators.ShrUn a b fa fb =
    let below = unsigned_below a fa in shifted_fits b _ (λ n. let le = div-le_self (unsigned a) (2 ^ n) in signed_fits (unsigned a / 2 ^ n) (omega arith))
operated_fits operators.AddOvf a b fa fb = exact_fits (a +ℤ b)
operated_fits operators.MulOvf a b fa fb = exact_fits (a *ℤ b)
operated_fits operators.SubOvf a b fa fb = exact_fits (a -ℤ b)
operated_fits _ a b fa fb = truth_fits _

pub operated_one_fits : (operator : UnOp) (a : ℤ) → FitsSigned w32 a → FitsSigned w32 (operated_one operator a)
operated_one_fits unary.Neg a fa = SFits-int_wrap w32 _
operated_one_fits unary.Not a fa = omega (arith, ints)

-- The low eight bits of a number are one of bool.
pub low_bits_are_byte : (n : ℤ) → IsByte (int_rem_euclid n (pos 256))
low_bits_are_byte (pos n) = (omega (arith, ints), omega (arith, ints))
low_bits_are_byte (negsuc n) = (omega (arith, ints), omega (arith, ints))
