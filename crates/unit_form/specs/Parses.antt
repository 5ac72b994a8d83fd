-- What is read from an offset of a file on.
use Rattle.std.specs.Prelude.{ℕ, zero, suc, ◌+◌, ◌≡◌, ◌≤◌, List, [], ◌∷◌, ◌++◌, length, nat_le, Option}
use Rattle.cc_base.specs.Tests.{must}
use Rattle.unit_form.specs.declared.unit_fault.UnitFault.{UnitFault}
use Rattle.unit_form.specs.declared.unit_fault.UnitFault.TheVariants.{Short}

-- The tests that are made, in order, and, where each is passed, what was read and the offset after it.
pub record Parse (X : Type 0) : Type 0 where
  pub tests : List (Option UnitFault)
  pub value : X
  pub next : ℕ

-- This is what is read, and the offset after it, in these bytes.
abbrev pub IsRead : {X : Type 0} → List ℕ → Parse X → X → ℕ → Type 0
IsRead bytes parse value next = (value ≡ parse.value) × (next ≡ parse.next) × (next ≤ length bytes)

-- A field of this size does not pass the end.
unfoldable pub field : List ℕ → ℕ → ℕ → Option UnitFault
field bytes at size = must (nat_le (at + size) (length bytes)) (Short at)

-- So many fields, one after another, where those that were read before tell the form of the next.
unfoldable pub many : {X : Type 0} → (List X → ℕ → Parse X) → List X → ℕ → ℕ → Parse (List X)
many one read zero at = record { tests = []; value = []; next = at }
many one read (suc count) at =
    let first = one read at in
    let others = many one (read ++ first.value ∷ []) count first.next in
    record { tests = first.tests ++ others.tests; value = first.value ∷ others.value; next = others.next }
