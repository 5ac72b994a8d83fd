-- What a call reads of the proof file by which it verifies an assembly.
use Rattle.std.specs.Prelude.{◌≡◌, ℕ, List, [], ◌∷◌, Option, Some, None}
use Rattle.proof_files.specs.Reading.{IsProofRead, ProofRead}

-- This was read of the bytes of a proof file, or nothing, where the call did not come to it.
abbrev pub IsReadOf : List ℕ → Option ProofRead → Type 0
IsReadOf bytes None = Unit {0}
IsReadOf bytes (Some read) = IsProofRead bytes read

-- This was read of the second of the files with these bytes. Where there is none, nothing was read.
abbrev pub IsProofMet : List (List ℕ) → Option ProofRead → Type 0
IsProofMet (file ∷ bytes ∷ others) read = IsReadOf bytes read
IsProofMet (file ∷ []) read = read ≡ None
IsProofMet [] read = read ≡ None
