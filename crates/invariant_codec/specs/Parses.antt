-- What is read from an offset of a file on.
use Rattle.std.specs.Prelude.{ℕ, zero, suc, ◌+◌, ◌≡◌, ◌≤◌, List, [], ◌∷◌, ◌++◌, length, nat_le, Option}
use Rattle.cc_base.specs.Tests.{must}
use Rattle.invariant_codec.specs.declared.fault.InvFault.{InvFault}
use Rattle.invariant_codec.specs.declared.fault.InvFault.TheVariants.{Short}

-- The tests that are made, in order, with their faults, and, where each is passed, what was read and the offset after
-- it.
pub record ParseBy (F X : Type 0) : Type 0 where
  pub tests : List (Option F)
  pub value : X
  pub next : ℕ

-- The same with the faults of invariants.
abbrev pub Parse : Type 0 → Type 0
Parse X = ParseBy InvFault X

-- This is what is read, and the offset after it, in these bytes.
abbrev pub IsRead : {F X : Type 0} → List ℕ → ParseBy F X → X → ℕ → Type 0
IsRead bytes parse value next = (value ≡ parse.value) × (next ≡ parse.next) × (next ≤ length bytes)

-- This is the offset after what is read, in these bytes.
abbrev pub IsPassed : {F X : Type 0} → List ℕ → ParseBy F X → ℕ → Type 0
IsPassed bytes parse next = (next ≡ parse.next) × (next ≤ length bytes)

-- A field of this size does not pass the end.
unfoldable pub field : List ℕ → ℕ → ℕ → Option InvFault
field bytes at size = must (nat_le (at + size) (length bytes)) (Short at)

-- So many fields, one after another, where those that were read before tell the form of the next.
unfoldable pub many : {F X : Type 0} → (List X → ℕ → ParseBy F X) → List X → ℕ → ℕ → ParseBy F (List X)
many one read zero at = record { tests = []; value = []; next = at }
many one read (suc count) at =
    let first = one read at in
    let others = many one (read ++ first.value ∷ []) count first.next in
    record { tests = first.tests ++ others.tests; value = first.value ∷ others.value; next = others.next }
