-- Variables of the same kinds, and constants that are near.
use Rattle.std.proofs.Common.{◌≡◌, ℕ, zero, suc, ◌-◌, ◌==◌, Bool, if◌then◌else◌, pos, negsuc, ◌≤ℤ◌, true, true≢false, List, [], ◌∷◌, ◌++◌, length, map, None, refl, sym, ap, arith, length-append, false}
use Rattle.std.proofs.lemmas.Int.{ints}
use Rattle.std.proofs.lemmas.List.{length-map}
use Rattle.std.specs.Prelude.{slice_get}
use Rattle.std.specs.List.{AllByRecursion}
use Rattle.domain_api.specs.declared.expr.Expr.{Expr}
use Rattle.symbolic_values.specs.Pairing.{AreNear, IsNear}
use Rattle.symbolic_values.specs.declared.pairs.Key.{Key}
use Rattle.frame_names.specs.declared.reference.Reference.{Reference}
use Rattle.frame_names.specs.declared.var.Var.{Var}
use Rattle.frame_names.specs.declared.var.Var.TheVariants as vars
use Rattle.frame_names.specs.Frames.{AreAlike, IsNearFrame, length_at, length_in, numbers_of, references_of}
use Rattle.frame_names.specs.PairedFrames.{exprs_of, old_of}

pub same_references : (a b : List Var) → AreAlike a b → length (references_of a) ≡ length (references_of b)
same_references [] [] alike = refl
same_references [] (y ∷ b) alike = absurd alike
same_references (x ∷ a) [] alike = absurd alike
same_references (vars.Number e ∷ a) (vars.Number f ∷ b) alike = same_references a b alike.1
same_references (vars.Reference r ∷ a) (vars.Reference q ∷ b) alike = ap suc (same_references a b alike.1)
same_references (vars.Text ∷ a) (vars.Text ∷ b) alike = same_references a b alike.1
same_references (vars.Address r e ∷ a) (vars.Address q f ∷ b) alike = ap suc (same_references a b alike.1)
same_references (x ∷ a) (y ∷ b) alike = absurd (true≢false (sym alike.0))

pub same_numbers : (a b : List Var) → AreAlike a b → length (numbers_of a) ≡ length (numbers_of b)
same_numbers [] [] alike = refl
same_numbers [] (y ∷ b) alike = absurd alike
same_numbers (x ∷ a) [] alike = absurd alike
same_numbers (vars.Number e ∷ a) (vars.Number f ∷ b) alike = ap suc (same_numbers a b alike.1)
same_numbers (vars.Reference r ∷ a) (vars.Reference q ∷ b) alike = same_numbers a b alike.1
same_numbers (vars.Text ∷ a) (vars.Text ∷ b) alike = same_numbers a b alike.1
same_numbers (vars.Address r e ∷ a) (vars.Address q f ∷ b) alike = ap suc (same_numbers a b alike.1)
same_numbers (x ∷ a) (y ∷ b) alike = absurd (true≢false (sym alike.0))

pub same_length : (a b : List Var) → AreAlike a b → length a ≡ length b
same_length [] [] alike = refl
same_length [] (y ∷ b) alike = absurd alike
same_length (x ∷ a) [] alike = absurd alike
same_length (x ∷ a) (y ∷ b) alike = ap suc (same_length a b alike.1)

pub alike_itself : (a : List Var) → AreAlike a a
alike_itself [] = tt
alike_itself (vars.Number e ∷ a) = (refl, alike_itself a)
alike_itself (vars.Reference r ∷ a) = (refl, alike_itself a)
alike_itself (vars.Text ∷ a) = (refl, alike_itself a)
alike_itself (vars.Address r e ∷ a) = (refl, alike_itself a)

-- ---- near constants

least_below : negsuc 4294967295 ≤ℤ pos 0
least_below = omega (arith, ints)

greatest_above : pos 0 ≤ℤ pos 4294967296
greatest_above = omega (arith, ints)

zero_is_near : IsNear (record { sym = 0; k = pos 0 })
zero_is_near = record { least = least_below; greatest = greatest_above }

near_append : (es fs : List Expr) → AreNear es → AreNear fs → AreNear (es ++ fs)
near_append [] fs first second = second
near_append (e ∷ es) fs first second = (first.0, near_append es fs first.1 second)

near_slot : (references : List Reference) (place : ℕ) → AllByRecursion (λ known. IsNear known.length) references
    → IsNear (length_in (slice_get references place))
near_slot [] place all = zero_is_near
near_slot (known ∷ references) zero all = all.0
near_slot (known ∷ references) (suc place) all = near_slot references place all.1

near_length : (references : List Reference) (r : ℕ) → AllByRecursion (λ known. IsNear known.length) references → IsNear (length_at references r)
near_length references r all = by (r == 0)
  where
    by : (none : Bool) → IsNear (length_in (if none then None else slice_get references (r - 1)))
    by true = zero_is_near
    by false = near_slot references (r - 1) all

near_lengths : (references : List Reference) (is_first : Bool) (keys : List Key) → AllByRecursion (λ known. IsNear known.length) references
    → AreNear (map (λ key. length_at references (old_of is_first key)) keys)
near_lengths references is_first [] all = tt
near_lengths references is_first (key ∷ keys) all = (near_length references (old_of is_first key) all, near_lengths references is_first keys all)

-- What is paired of a frame whose constants are near is near.
pub near_exprs : (vs : List Var) (references : List Reference) (is_first : Bool) (keys : List Key) → IsNearFrame vs references
    → AreNear (exprs_of vs references is_first keys)
near_exprs vs references is_first keys near = near_append (numbers_of vs) _ near.numbers (near_lengths references is_first keys near.lengths)

-- As many expressions are paired on either side.
pub same_exprs : (a b : List Var) (known other : List Reference) (first second : Bool) (keys : List Key) → AreAlike a b
    → length (exprs_of a known first keys) ≡ length (exprs_of b other second keys)
same_exprs a b known other first second keys alike =
    omega (
      arith,
      same_numbers a b alike,
      length-append (numbers_of a) (map (λ key. length_at known (old_of first key)) keys),
      length-append (numbers_of b) (map (λ key. length_at other (old_of second key)) keys),
      length-map keys (λ key. length_at known (old_of first key)),
      length-map keys (λ key. length_at other (old_of second key)),
    )
