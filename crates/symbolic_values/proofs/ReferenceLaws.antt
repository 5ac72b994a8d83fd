-- References as symbols.
use Rattle.std.proofs.Common.{◌≡◌, ℕ, List, [], ◌∷◌, length, map, ◌≤ℤ◌, sym, ◌∙◌, pos, negsuc, arith}
use Rattle.std.proofs.lemmas.Int.{ints}
use Rattle.std.proofs.lemmas.List.{length-map}
use Rattle.symbolic_values.specs.Pairing.{AreNear, IsNear}
use Rattle.symbolic_values.specs.Names.{as_expr}

least_below : negsuc 4294967295 ≤ℤ pos 0
least_below = omega (arith, ints)

greatest_above : pos 0 ≤ℤ pos 4294967296
greatest_above = omega (arith, ints)

pub are_near : (references : List ℕ) → AreNear (map as_expr references)
are_near [] = tt
are_near (r ∷ references) = (record { least = least_below; greatest = greatest_above }, are_near references)

pub same_length : (a b : List ℕ) → length a ≡ length b → length (map as_expr a) ≡ length (map as_expr b)
same_length a b same = length-map a as_expr ∙ same ∙ sym (length-map b as_expr)
