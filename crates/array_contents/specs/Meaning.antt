-- What stores and calls do to the items of references.
use Rattle.std.specs.Prelude.{◌≡◌, ◌⊎◌, ℕ, ◌<◌, ℤ, pos, Bool, true, false, List, length, set, Option, Some, None}
use Rattle.array_segments.specs.Meaning.{IsIndex, item, worth}
use Rattle.domain_api.specs.declared.expr.Expr.{Expr}
use Rattle.interval_domain.specs.Interval.{Contains, Interval}
use Rattle.array_contents.specs.declared.forgetting.Unknown.{Unknown}

-- The items of an array in which one became a number.
abbrev pub IsWritten : (ℕ → ℤ) → Expr → ℤ → List ℤ → List ℤ → Type 0
IsWritten number at n before after = (index : ℕ) × IsIndex number at before index × (after ≡ set before index n)

-- What a store did to the items of another reference: where it may be the same array, the one or nothing.
abbrev pub IsBehindStore : (ℕ → ℤ) → Expr → ℤ → Bool → List ℤ → List ℤ → Type 0
IsBehindStore number at n true before after = (after ≡ before) ⊎ IsWritten number at n before after
IsBehindStore number at n false before after = after ≡ before

-- All items are in the range.
abbrev pub AreIn : Interval → List ℤ → Type 0
AreIn range items = (index : ℕ) → index < length items → Contains range (item items index)

-- What a call did to the items of a reference: what is known of it still is so, or they are as they were.
abbrev pub IsBehindCall : (ℕ → ℤ) → Option Unknown → List ℤ → List ℤ → Type 0
IsBehindCall number None before after = after ≡ before
IsBehindCall number (Some array) before after =
    (worth number array.length ≡ pos (length after)) × AreIn array.items after
