-- What some keys reach, where `next` tells the keys that stand after each.
use Rattle.std.specs.Prelude.{ℕ, zero, suc, Bool, ◌||◌, true, ◌≡◌, List, Contains}
use Rattle.std.specs.List.{list_any}

-- The least set with `from` that is closed under `next`.
pub data Reaches {K : Type 0} (next : K → List K) (from : K) : K → Type 0 where
  itself : Reaches next from from
  onward : {n to : K} → Reaches next from n → Contains (next n) to → Reaches next from to

-- At most so many steps lead from one key to another, where a test tells which keys are the same.
abbrev pub reaches_in : {K : Type 0} → (K → K → Bool) → (K → List K) → ℕ → K → K → Bool
reaches_in same next zero from to = same from to
reaches_in same next (suc steps) from to = same from to || list_any (λ key. reaches_in same next steps key to) (next from)

-- The test tells equal keys, and no others.
pub record IsEquality {K : Type 0} (same : K → K → Bool) : Type 0 where
  pub of_equal : (a b : K) → a ≡ b → same a b ≡ true
  pub equal : (a b : K) → same a b ≡ true → a ≡ b
