-- Reading a blob from left to right, up to the first fault or the first thing that the profile lacks.
use Rattle.std.specs.Prelude.{ℕ, List, length, slice_index, Option, Some, None, Result, Ok, Err, nat_lt, if◌then◌else◌}
use Rattle.signature_blobs.specs.declared.fault.SigFault.{SigFault}
use Rattle.signature_blobs.specs.declared.fault.SigFault.TheVariants.{Short}

-- What reading gives: a value, nothing where the blob leaves the profile, or a fault.
abbrev pub Reading : Type 0 → Type 0
Reading A = Result (Option A) SigFault

-- A value, whatever it is, is in the profile.
abbrev pub known : {A : Type 0} → Result A SigFault → Reading A
known (Ok x) = Ok (Some x)
known (Err fault) = Err fault

-- The next step, where a value was read. Anything else ends the reading.
infixl 10 ◌>>=◌
abbrev pub ◌>>=◌ : {A B : Type 0} → Reading A → (A → Reading B) → Reading B
(Ok (Some x)) >>= f = f x
(Ok None) >>= f = Ok None
(Err fault) >>= f = Err fault

-- The byte at an offset. The first byte that is not there is the one after the blob.
abbrev pub byte_at : List ℕ → ℕ → Result ℕ SigFault
byte_at blob at = if nat_lt at (length blob) then Ok (slice_index blob at) else Err (Short (length blob))

-- What is made of the value that was read, where there was no fault.
abbrev pub made : {A B : Type 0} → (A → B) → Result A SigFault → Result B SigFault
made f (Ok x) = Ok (f x)
made f (Err fault) = Err fault
