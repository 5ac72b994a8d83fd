-- Bytes as an invariant: the states of its blocks.
use Rattle.std.specs.Prelude.{◌≡◌, ℕ, List, Option, None}
use Rattle.cc_base.specs.Tests.{first_of}
use Rattle.invariant_codec.specs.States.{states_file}
use Rattle.invariant_codec.specs.declared.fault.InvFault.{InvFault}
use Rattle.invariant_codec.specs.declared.fault.InvFault.TheVariants.{Form, Short}

-- The first fault of the bytes, or none where they spell states.
unfoldable pub first_states_fault : List ℕ → Option InvFault
first_states_fault bytes = first_of (states_file bytes).tests

-- The bytes spell the states of an invariant.
abbrev pub IsInvariant : List ℕ → Type 0
IsInvariant bytes = first_states_fault bytes ≡ None

-- The offset among the bytes that a fault names.
abbrev pub fault_at : InvFault → ℕ
fault_at (Short at) = at
fault_at (Form at) = at
