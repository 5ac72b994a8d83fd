-- What is numbered by first uses has no more numbers than uses.
use Rattle.std.proofs.Common.{ℕ, ◌+◌, ◌≤◌, Bool, true, false, List, [], ◌∷◌, ◌++◌, length, map, arith, length-append}
use Rattle.std.specs.Prelude.{if◌then◌else◌}
use Rattle.std.specs.List.{list_any}
use Rattle.std.proofs.lemmas.List.{length-map}
use Rattle.domain_api.specs.declared.expr.Expr.{Expr}
use Rattle.symbolic_values.specs.FirstUses.{first_uses, noted}
use Rattle.symbolic_values.specs.Names.{as_expr, paired_references}
use Rattle.symbolic_values.specs.Pairing.{behind_first, origin, paired, same_key, uses_of}
use Rattle.symbolic_values.specs.declared.pairs.Key.{Key}

module _ {X : Type 0} (same : X → X → Bool) where
  noted_count : (known : List X) (x : X) → length (noted same known x) ≤ length known + 1
  noted_count known x = by (list_any (same x) known)
    where
      by : (there : Bool) → length (if there then known else known ++ x ∷ []) ≤ length known + 1
      by true = omega arith
      by false = omega (arith, length-append known (x ∷ []))

  pub first_uses_count : (known xs : List X) → length (first_uses same known xs) ≤ length known + length xs
  first_uses_count known [] = omega arith
  first_uses_count known (x ∷ xs) =
      omega (arith, first_uses_count (noted same known x) xs, noted_count known x)

-- ---- two lists that are named together

uses_count : (a b : List Expr) → length (uses_of a b) ≤ length a
uses_count [] b = omega arith
uses_count (e ∷ a) [] = omega arith
uses_count (e ∷ a) (f ∷ b) = omega (arith, uses_count a b)

behind_count : (us : List Key) (count : ℕ) → length us ≤ count + 1 → length (behind_first us) ≤ count
behind_count [] count few = omega arith
behind_count (u ∷ us) count few = omega (arith, few)

pub keys_count : (a b : List Expr) → length (paired a b).keys ≤ length a
keys_count a b =
    behind_count (first_uses same_key (origin ∷ []) (uses_of a b)) (length a)
    (omega (arith, first_uses_count same_key (origin ∷ []) (uses_of a b), uses_count a b))

pub reference_keys_count : (a b : List ℕ) → length (paired_references a b).keys ≤ length a
reference_keys_count a b =
    omega (arith, keys_count (map as_expr a) (map as_expr b), length-map a as_expr)
