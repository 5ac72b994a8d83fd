-- How much the stacks of a method's code may still change.
use Rattle.std.specs.Prelude.{◌≡◌, ℕ, suc, ◌<◌, Bool, true, false, List, Option, Some, None, count_by, sum_by}
use Rattle.cil_model.specs.Passes.{Stacks}
use Rattle.cil_model.specs.declared.place.Kind.{Kind}
use Rattle.cil_model.specs.declared.place.Kind.TheVariants.{Ints, Bools, NullRef}

abbrev pub is_null : Kind → Bool
is_null NullRef = true
is_null _ = false

-- The kind that one becomes by merging with another, where they merge and it changes: null becomes an array.
abbrev pub changed_kind : Kind → Kind → Option Kind
changed_kind NullRef Ints = Some Ints
changed_kind NullRef Bools = Some Bools
changed_kind _ _ = None

-- The null references, which may merge to arrays.
abbrev pub nulls : List Kind → ℕ
nulls stack = count_by is_null stack

-- How often the stack before an instruction may change, where none has more kinds than this.
abbrev pub changes_left : ℕ → Option (List Kind) → ℕ
changes_left most None = suc most
changes_left most (Some stack) = nulls stack

abbrev pub all_changes_left : ℕ → Stacks → ℕ
all_changes_left most stacks = sum_by (changes_left most) stacks

-- The answer tells whether the stacks changed: where it is false they are the same, and where it is true they may
-- change less often from then on.
pub record Tells (most : ℕ) (before after : Stacks) (changed : Bool) : Type 0 where
  pub same : changed ≡ false → after ≡ before
  pub fewer : changed ≡ true → all_changes_left most after < all_changes_left most before
