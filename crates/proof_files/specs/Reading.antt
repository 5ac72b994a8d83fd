-- What is read of the bytes of a proof file: its entries, or the first fault.
use Rattle.std.specs.Prelude.{◌≡◌, ◌≢◌, ◌⊎◌, ℕ, ◌<◌, ◌≤◌, List, [], ◌++◌, length}
use Rattle.cc_base.specs.declared.refusal.Refusal.{Refusal}
use Rattle.cc_base.specs.declared.refusal.Refusal.TheVariants.{Bad, NoMemory}
use Rattle.proof_files.specs.Lines.{END_LINE, IsCut, IsUncut}
use Rattle.proof_files.specs.Proofs.{AreEntries, Entry, FIRST_LINE, IsNewEntry, IsProofOf, MAX_PROOF_BYTES, entry_text}
use Rattle.proof_files.specs.Proofs.{keys_of, proof_text}
use Rattle.proof_files.specs.declared.proof_fault.ProofFault.{ProofFault}
use Rattle.proof_files.specs.declared.proof_fault.ProofFault.TheVariants.{Form, Large, Version}

-- The text up to its first line `end`, with it, is that of no entry of a unit whose bytes are none of these.
pub record IsBadEntry (keys : List (List ℕ)) (text : List ℕ) : Type 0 where
  pub prefix : List ℕ
  pub rest : List ℕ
  pub cut : IsCut text prefix rest
  pub none : (e : Entry) → IsNewEntry keys e → entry_text e ≡ prefix ++ END_LINE → ⊥

-- There is text, and it has no line `end`.
pub record IsUnended (text : List ℕ) : Type 0 where
  pub some : text ≢ []
  pub uncut : IsUncut text

-- The bytes begin as a proof file of entries. What comes behind these begins with a bad entry, whose first byte is at
-- the offset, or has no line `end`, and the offset is that of the end.
pub record BreaksAt (bytes : List ℕ) (at : ℕ) : Type 0 where
  pub entries : List Entry
  pub are : AreEntries entries
  pub rest : List ℕ
  pub same : proof_text entries ++ rest ≡ bytes
  pub fault :
      (IsBadEntry (keys_of entries) rest × (at ≡ length (proof_text entries))) ⊎ (IsUnended rest × (at ≡ length bytes))

-- The first fault of the bytes: too many come first, and then another first line.
abbrev pub IsFaultOf : List ℕ → ProofFault → Type 0
IsFaultOf bytes Large = MAX_PROOF_BYTES < length bytes
IsFaultOf bytes Version = (length bytes ≤ MAX_PROOF_BYTES) × ((rest : List ℕ) → FIRST_LINE ++ rest ≡ bytes → ⊥)
IsFaultOf bytes (Form at) = (length bytes ≤ MAX_PROOF_BYTES) × BreaksAt bytes at

-- What is read of bytes.
pub data ProofRead : Type 0 where
  Whole : List Entry → ProofRead
  Refused : ProofFault → ProofRead

abbrev pub IsProofRead : List ℕ → ProofRead → Type 0
IsProofRead bytes (Whole entries) = IsProofOf entries bytes
IsProofRead bytes (Refused fault) = IsFaultOf bytes fault

-- The fault is that of the bytes, unless memory ran out.
abbrev pub IsRefusalOf : List ℕ → Refusal ProofFault → Type 0
IsRefusalOf bytes (Bad fault) = IsFaultOf bytes fault
IsRefusalOf bytes NoMemory = Unit {0}
