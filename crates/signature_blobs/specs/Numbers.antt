-- Compressed numbers at an offset in a blob (II.23.2).
use Rattle.std.specs.Prelude.{ℕ, ◌+◌, List, length, drop, Some, None, Result, Ok, Err, nat_lt, if◌then◌else◌}
use Rattle.cc_base.specs.Compressed.{compressed}
use Rattle.cc_base.specs.declared.compressed.Compressed.{Compressed}
use Rattle.cc_base.specs.declared.compressed.CompressedFault.{CompressedFault}
use Rattle.cc_base.specs.declared.compressed.CompressedFault.TheVariants.{Cut, Form}
use Rattle.cil_model.specs.Limits.{MAX_VARIABLES}
use Rattle.signature_blobs.specs.Reading.{Reading, known, ◌>>=◌}
use Rattle.signature_blobs.specs.declared.fault.SigFault.{SigFault}
use Rattle.signature_blobs.specs.declared.fault.SigFault.TheVariants as faults

-- A number that was read at an offset, and the offset after it. A fault has its offset in the blob.
abbrev pub placed : List ℕ → ℕ → Result Compressed CompressedFault → Result (ℕ × ℕ) SigFault
placed blob at (Ok found) = Ok (found.number, at + found.width)
placed blob at (Err Cut) = Err (faults.Short (length blob))
placed blob at (Err Form) = Err (faults.Form at)

-- The number at an offset, and the offset after it.
unfoldable pub compressed_at : List ℕ → ℕ → Result (ℕ × ℕ) SigFault
compressed_at blob at = placed blob at (compressed (drop at blob))

-- A number of parameters or locals, and the offset after it. There are at most as many as a method has variables.
unfoldable pub count_at : List ℕ → ℕ → Reading (ℕ × ℕ)
count_at blob at = do
  count ← known (compressed_at blob at)
  if nat_lt MAX_VARIABLES count.0 then Ok None else Ok (Some count)
