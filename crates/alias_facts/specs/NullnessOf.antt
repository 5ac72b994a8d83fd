-- Knowledge of references that may be null.
use Rattle.std.specs.Prelude.{◌≡◌, Bool, true, false, not, ◌||◌}
use Rattle.alias_facts.specs.declared.nullness.Nullness.{Nullness}
use Rattle.alias_facts.specs.declared.nullness.Nullness.TheVariants.{May, NotNull, Null}

-- Where the one or the other holds nothing is known, unless both tell the same.
abbrev pub joined : Nullness → Nullness → Nullness
joined May _ = May
joined NotNull NotNull = NotNull
joined NotNull _ = May
joined Null Null = Null
joined Null _ = May

-- The first tells at least as much as the second.
abbrev pub entailed : Nullness → Nullness → Bool
entailed _ May = true
entailed May _ = false
entailed NotNull NotNull = true
entailed NotNull Null = false
entailed Null Null = true
entailed Null NotNull = false

-- A reference that is null, or is not, as this tells.
abbrev pub Agrees : Nullness → Bool → Type 0
Agrees May _ = Unit {0}
Agrees NotNull is_null = is_null ≡ false
Agrees Null is_null = is_null ≡ true

-- ---- two references

abbrev pub is_null : Nullness → Bool
is_null May = false
is_null NotNull = false
is_null Null = true

-- The places of two references differ, or one of the two is null.
abbrev pub are_told_apart : (same_place : Bool) (a b : Nullness) → Bool
are_told_apart same_place a b = not same_place || (is_null a || is_null b)

-- Two references cannot be the same array: they are kept apart, their places differ, or one is null.
abbrev pub must_differ : (kept same_place : Bool) (a b : Nullness) → Bool
must_differ kept same_place a b = kept || are_told_apart same_place a b
