-- What an answer of the reader says of all proof files.
use Rattle.std.proofs.Common.{◌≡◌, ℕ, List, Result, Ok, Err}
use Rattle.std.specs.Prelude.{IfErr, IfOk}
use Rattle.cc_base.specs.Tests.{GivesOnly}
use Rattle.cc_base.specs.declared.refusal.Refusal.{Refusal}
use Rattle.cc_base.specs.declared.refusal.Refusal.TheVariants.{Bad, NoMemory}
use Rattle.proof_files.specs.Proofs.{Entry, IsProofOf}
use Rattle.proof_files.specs.Reading.{IsRefusalOf, Refused, Whole}
use Rattle.proof_files.specs.declared.proof_fault.ProofFault.{ProofFault}
use Rattle.proof_files.proofs.ReadOnce.{one_read, whole_once}

-- The text of entries is read as these.
pub read_only : {X : Type 0} (told : X → List Entry) (bytes : List ℕ) (answer : Result X (Refusal ProofFault))
    (entries : List Entry)
    → IfOk answer (λ read. IsProofOf (told read) bytes) → IfErr answer (IsRefusalOf bytes) → IsProofOf entries bytes
    → GivesOnly answer (λ read. told read ≡ entries)
read_only told bytes (Ok read) entries ok err is = whole_once (told read) entries bytes ok is
read_only told bytes (Err (Bad fault)) entries ok err is =
    let clash : Whole entries ≡ Refused fault = one_read bytes (Whole entries) (Refused fault) is err in
    absurd cc
read_only told bytes (Err NoMemory) entries ok err is = tt
