-- Numbers by which all variables and lengths of a state are int32.
use Rattle.std.specs.Prelude.{◌≡◌, ℕ, ℤ, pos, negsuc, ◌≤ℤ◌, List}
use Rattle.std.specs.List.{AllByRecursion}
use Rattle.symbolic_values.specs.Worth.{worth}
use Rattle.frame_names.specs.Frames.{length_at, numbers_of}
use Rattle.frame_names.specs.declared.reference.Reference.{Reference}
use Rattle.frame_names.specs.declared.var.Var.{Var}

pub record IsInt32 (n : ℤ) : Type 0 where
  pub least : negsuc 2147483647 ≤ℤ n
  pub greatest : n ≤ℤ pos 2147483647

-- Symbol 0 is worth 0, and the numbers of variables and the lengths of references are int32.
pub record AreInt32s (number : ℕ → ℤ) (vs : List Var) (known : List Reference) : Type 0 where
  pub zero_is : number 0 ≡ pos 0
  pub numbers : AllByRecursion (λ e. IsInt32 (worth number e)) (numbers_of vs)
  pub lengths : (r : ℕ) → IsInt32 (worth number (length_at known r))
