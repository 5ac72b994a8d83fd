-- What operators give of constants is what the machine gives, where both are int32.
use Rattle.std.proofs.Common.{◌≡◌, ℤ, int_div, int_rem, unsigned_abs, Result, Ok, FitsSigned, w32, refl}
use Rattle.std.specs.Int.{int_shr}
use Rattle.std.proofs.lemmas.Int.{int_wrap_fits}
use Rattle.cc_base.specs.Wrap.{wrap32}
use Rattle.cil_model.specs.Arithmetic.{operated}
use Rattle.cil_model.specs.declared.instruction.BinOp.{BinOp}
use Rattle.cil_model.specs.declared.instruction.BinOp.TheVariants as operators
use Rattle.number_spans.specs.Constants.{exact_of}
use Rattle.number_spans.proofs.OperatorLaws.{divided_gives, shifted_gives}

same : (n : ℤ) → FitsSigned w32 n → wrap32 n ≡ n
same n fits = int_wrap_fits w32 n fits

-- An int32 that the machine gives of two int32 is what constants give.
pub exact_gives_it : (op : BinOp) (a b n : ℤ) → FitsSigned w32 a → FitsSigned w32 b → FitsSigned w32 n → operated op a b ≡ Ok n
    → exact_of op a b ≡ Ok n
exact_gives_it operators.Add a b n p q r is = is
exact_gives_it operators.Sub a b n p q r is = is
exact_gives_it operators.Mul a b n p q r is = is
exact_gives_it operators.Div a b n p q r is =
    let outcome : int_div a b ≡ n = (divided_gives a b (int_div a b) n is).1 in
    let fits : FitsSigned w32 (int_div a b) = rw outcome r in rw (same (int_div a b) fits) is
exact_gives_it operators.DivUn a b n p q r is = rw (same a p, same b q) is
exact_gives_it operators.Rem a b n p q r is =
    let outcome : int_rem a b ≡ n = (divided_gives a b (int_rem a b) n is).1 in
    let fits : FitsSigned w32 (int_rem a b) = rw outcome r in rw (same (int_rem a b) fits) is
exact_gives_it operators.RemUn a b n p q r is = rw (same a p, same b q) is
exact_gives_it operators.And a b n p q r is = rw (same a p, same b q) is
exact_gives_it operators.Or a b n p q r is = rw (same a p, same b q) is
exact_gives_it operators.Xor a b n p q r is = rw (same a p, same b q) is
exact_gives_it operators.Shl a b n p q r is = is
exact_gives_it operators.Shr a b n p q r is =
    let outcome = shifted_gives b n (λ k. int_shr a k) is in
    let fits : FitsSigned w32 (int_shr a (unsigned_abs b)) = rw outcome r in rw (same (int_shr a (unsigned_abs b)) fits) is
exact_gives_it operators.ShrUn a b n p q r is = rw (same a p) is
exact_gives_it operators.AddOvf a b n p q r is = is
exact_gives_it operators.MulOvf a b n p q r is = is
exact_gives_it operators.SubOvf a b n p q r is = is
exact_gives_it operators.Ceq a b n p q r is = is
exact_gives_it operators.Cgt a b n p q r is = is
exact_gives_it operators.CgtUn a b n p q r is = rw (same a p, same b q) is
exact_gives_it operators.Clt a b n p q r is = is
exact_gives_it operators.CltUn a b n p q r is = rw (same a p, same b q) is
