-- Values that the tree of a clause does not have, on the stacks of its code.
use Rattle.std.specs.Prelude.{◌≡◌, ◌⊎◌, ℕ, zero, suc, ◌+◌, ◌-◌, ◌<◌, ◌≤◌, ◌==◌, Bool, true, List, [], ◌∷◌, drop, length, Option, Some, None, is_some, if◌then◌else◌, slice_get, slice_index_or}
use Rattle.cil_model.specs.ClauseTrees.{Item, closing}
use Rattle.cil_model.specs.Offsets.{StandsAt}
use Rattle.cil_model.specs.UnitCalls.{unit_call}
use Rattle.cil_model.specs.declared.clause.ClauseKind.{ClauseKind}
use Rattle.cil_model.specs.declared.instruction.Instr.{Instr}
use Rattle.cil_model.specs.declared.instruction.Op.{Op}
use Rattle.cil_model.specs.declared.instruction.Op.TheVariants as ops
use Rattle.cil_model.specs.declared.instruction.Test.TheVariants as tests
use Rattle.cil_model.specs.declared.unit_numbers.UnitCall.{UnitCall}
use Rattle.cil_model.specs.declared.unit_numbers.UnitCall.TheVariants as calls
use Rattle.contract_extract.specs.Growth.{Keeps, forward, jump_of}
use Rattle.contract_extract.specs.declared.trees.ahead.Ahead.{Ahead}
use Rattle.contract_extract.specs.declared.trees.dropped.Dropped.{Dropped}

-- ---- stacks without what is dropped

-- A list without so many items below the first ones.
abbrev pub cut : {X : Type 0} → ℕ → ℕ → List X → List X
cut zero count xs = drop count xs
cut (suc above) count [] = []
cut (suc above) count (x ∷ xs) = x ∷ cut above count xs

-- A stack without what is dropped.
unfoldable pub without : Dropped → List Item → List Item
without dropped items = cut dropped.above dropped.count items

abbrev pub nothing : Dropped
nothing = record { above = 0; count = 0 }

-- What is dropped, where so many values are pushed on it.
abbrev pub IsBelow : ℕ → Dropped → Dropped → Type 0
IsBelow more dropped result = (result.count ≡ 0) ⊎ ((result.above ≡ dropped.above + more) × (result.count ≡ dropped.count))

-- What the first drops is dropped by the second.
abbrev pub IsWithin : Dropped → Dropped → Type 0
IsWithin less more = (less.count ≡ 0) ⊎ ((more.above ≤ less.above) × (less.above + less.count ≤ more.above + more.count))

-- ---- operations

abbrev pub call_takes : Option UnitCall → ℕ
call_takes (Some (calls.OldValue place)) = 1
call_takes _ = 0

-- How many values an operation takes that a clause may have inside.
abbrev pub takes : Op → ℕ
takes (ops.Bin operator) = 2
takes (ops.LoadElem place) = 2
takes (ops.Branch (tests.Cmp op) target) = 2
takes (ops.Branch tests.True target) = 1
takes (ops.Branch tests.False target) = 1
takes ops.Neg = 1
takes ops.Not = 1
takes ops.ConvI4 = 1
takes ops.Length = 1
takes (ops.Call number) = call_takes (unit_call number)
takes _ = 0

-- How many it makes.
abbrev pub makes : Op → ℕ
makes ops.Nop = 0
makes (ops.Branch test target) = 0
makes _ = 1

-- What is dropped after an operation that takes nothing of it.
abbrev pub behind : Op → Dropped → Dropped
behind op dropped = record { above = dropped.above - takes op + makes op; count = dropped.count }

-- The operation takes nothing of what is dropped.
abbrev pub Spares : Op → Dropped → Type 0
Spares op dropped = (dropped.count ≡ 0) ⊎ (takes op ≤ dropped.above)

-- ---- what lies ahead of an instruction

-- What is known ahead of an IL offset.
abbrev pub ahead_at : List Instr → List Ahead → ℕ → Ahead
ahead_at [] ahead at = record { works_at = at; dropped = nothing }
ahead_at (i ∷ is) [] at = record { works_at = at; dropped = nothing }
ahead_at (i ∷ is) (a ∷ ahead) at = if i.at == at then a else ahead_at is ahead at

-- What is dropped of the stacks that come to an IL offset.
abbrev pub dropped_at : List Instr → List Ahead → ℕ → Dropped
dropped_at is ahead at = (ahead_at is ahead at).dropped

-- From an IL offset on a clause has the tree that it has from another one on. There the stack has other items, but the
-- same ones without what is dropped.
pub record Leads (is : List Instr) (at : ℕ) (items : List Item) (dropped : Dropped) (to : ℕ) (other : Dropped) : Type 0 where
  pub others : List Item
  pub same : without dropped items ≡ without other others
  pub keeps : Keeps (forward is at items) (forward is to others)

-- A call that closes the clause drops the message, if it takes one.
abbrev pub message_dropped : Option (ClauseKind × Bool) → Dropped
message_dropped (Some (kind, true)) = record { above = 0; count = 1 }
message_dropped _ = nothing

-- What is known of an instruction by itself.
abbrev pub own_ahead : Instr → Ahead
own_ahead i = record { works_at = i.at; dropped = message_dropped (closing i.op) }

-- A way goes on from the instruction to this IL offset.
abbrev pub GoesTo : Instr → ℕ → Type 0
GoesTo i later = (i.at < later) × ((jump_of i.op ≡ Some later) ⊎ (later ≡ i.at + i.size))

-- An instruction makes a part of the tree, or ends a way: what it takes is not dropped, and what is dropped then stays
-- so.
pub record Works (ahead : ℕ → Ahead) (i : Instr) (dropped : Dropped) : Type 0 where
  pub spares : Spares i.op dropped
  pub closes : is_some (closing i.op) ≡ true → dropped ≡ message_dropped (closing i.op)
  pub goes : closing i.op ≡ None → (later : ℕ) → GoesTo i later → IsWithin (behind i.op dropped) (ahead later).dropped

-- This is known ahead of an instruction, where that is known ahead of the later ones.
pub record LiesAhead (is : List Instr) (ahead : ℕ → Ahead) (i : Instr) (here : Ahead) : Type 0 where
  pub later : i.at ≤ here.works_at
  pub works : here.works_at ≡ i.at → Works ahead i here.dropped
  pub there : i.at < here.works_at → (ahead here.works_at).works_at ≡ here.works_at
  pub leads : i.at < here.works_at → (items : List Item) → Leads is i.at items here.dropped here.works_at (ahead here.works_at).dropped

-- This is known ahead of the instructions.
pub record AreAhead (is : List Instr) (ahead : List Ahead) : Type 0 where
  pub long : length ahead ≡ length is
  pub each : (index : ℕ) (i : Instr) → slice_get is index ≡ Some i
      → LiesAhead is (ahead_at is ahead) i (slice_index_or ahead index (record { works_at = 0; dropped = nothing }))

-- Of the first ones only that is known which each has by itself.
abbrev pub AreFirstOwn : List Instr → List Ahead → ℕ → Type 0
AreFirstOwn is ahead count = (index : ℕ) (i : Instr) → index < count → slice_get is index ≡ Some i
    → slice_index_or ahead index (record { works_at = 0; dropped = nothing }) ≡ own_ahead i

-- This is known ahead of the instruction at an IL offset.
pub record IsAheadOf (is : List Instr) (ahead : List Ahead) (at : ℕ) (here : Ahead) : Type 0 where
  pub index : ℕ
  pub found : StandsAt is at index
  pub entry : slice_index_or ahead index (record { works_at = 0; dropped = nothing }) ≡ here
