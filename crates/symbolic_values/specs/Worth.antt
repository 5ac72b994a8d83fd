-- What expressions are worth, where each symbol is worth a number.
use Rattle.std.specs.Prelude.{◌≡◌, ℕ, ℤ, ◌+ℤ◌, Bool, List, ◌∷◌, get_or, map, Option, Some, None, if◌then◌else◌}
use Rattle.domain_api.specs.declared.expr.Expr.{Expr}
use Rattle.symbolic_values.specs.declared.pairs.Key.{Key}
use Rattle.symbolic_values.specs.Pairing.{Pairing, origin}

abbrev pub worth : (ℕ → ℤ) → Expr → ℤ
worth number e = number e.sym +ℤ e.k

-- What the two expressions of a use are worth: that of the first state, or that of the second.
abbrev pub worth_of_use : Bool → (ℕ → ℤ) → Key → ℤ
worth_of_use is_first number u = if is_first then number u.s +ℤ u.first else number u.t +ℤ (u.first +ℤ u.shift)

-- The choice behind the first uses: each number is worth what its first use is on that side. What is not there is worth
-- what symbol 0 is.
abbrev pub behind_uses : Bool → (ℕ → ℤ) → List Key → ℕ → ℤ
behind_uses is_first number known n = worth_of_use is_first number (get_or known n origin)

-- The number of each symbol is what its name is worth.
abbrev pub NamesAgree : List (Option Expr) → (ℕ → ℤ) → (ℕ → ℤ) → Type 0
NamesAgree names number later = (s : ℕ) (name : Expr) → get_or names s None ≡ Some name → number s ≡ worth later name

-- Under the choice behind the keys each new expression is worth what the two that it stands for are worth, each on its
-- side.
abbrev pub AreWorthBoth : List Expr → List Expr → Pairing → Type 0
AreWorthBoth a b pairs =
    (is_first : Bool) (number : ℕ → ℤ)
    → map (worth (behind_uses is_first number (origin ∷ pairs.keys))) pairs.exprs ≡ map (worth number) (if is_first then a else b)
