-- What was read of a proof file that a read cut off is what is read of the whole.
use Rattle.std.proofs.Common.{◌≡◌, ℕ, ◌<◌, List, [], ◌∷◌, length, take, Vec, Global, Option, Some, None, refl, sym, ap, subst, ◌∙◌, arith, inl, inr, length-take, unwrap_or}
use Rattle.std.proofs.lemmas.Bool.{cases_lt}
use Rattle.std.proofs.lemmas.List.{take_all}
use Rattle.std.proofs.lemmas.Option.{same_Some}
use Rattle.cc_base.specs.Files.{READ_LIMIT}
use Rattle.proof_files.specs.Proofs.{MAX_PROOF_BYTES}
use Rattle.proof_files.specs.Reading.{IsProofRead, ProofRead, Refused, Whole}
use Rattle.proof_files.specs.declared.proof_fault.ProofFault.TheVariants as faults
use Rattle.check_driver.specs.Met.{AreContents, IsContent, bytes_read, contents}
use Rattle.check_driver.specs.ProofMet.{IsProofMet, IsReadOf}

-- Of bytes past the limit only that is read: there are too many.
long_read : (whole bytes : List ℕ) (limit : ℕ) (read : ProofRead) → limit ≡ MAX_PROOF_BYTES → limit < length bytes → limit < length whole → IsProofRead bytes read → IsProofRead whole read
long_read whole bytes limit (Whole entries) is past long reads = absurd (omega (arith, is, past, reads.size))
long_read whole bytes limit (Refused faults.Large) is past long reads = omega (arith, is, long)
long_read whole bytes limit (Refused faults.Version) is past long reads = absurd (omega (arith, is, past, reads.0))
long_read whole bytes limit (Refused (faults.Form at)) is past long reads = absurd (omega (arith, is, past, reads.0))

cut_read : (whole bytes : List ℕ) (limit : ℕ) (read : ProofRead) → limit ≡ READ_LIMIT → take limit whole ≡ bytes → IsProofRead bytes read → IsProofRead whole read
cut_read whole bytes limit read is cut reads =
    elim (cases_lt (length whole) limit) [
      | inl lt ↦ subst (λ (b : List ℕ). IsProofRead b read) (sym cut ∙ take_all limit whole (omega arith)) reads
      | inr ge ↦
          let long : length bytes ≡ limit = ap length (sym cut) ∙ omega (arith, length-take limit whole, ge) in
          long_read whole bytes MAX_PROOF_BYTES read refl (omega (arith, long, is)) (omega (arith, is, ge)) reads
    ]

one_read : (whole bytes : List ℕ) (read : Option ProofRead) → IsContent (Some whole) bytes → IsReadOf bytes read → IsReadOf whole read
one_read whole bytes None content reads = tt
one_read whole bytes (Some read) (inl is) reads = subst (λ (b : List ℕ). IsProofRead b read) (sym (same_Some whole bytes is)) reads
one_read whole bytes (Some read) (inr cut) reads = cut_read whole bytes READ_LIMIT read refl (same_Some (take READ_LIMIT whole) bytes cut) reads

under_read : (under : Option (List ℕ)) (bytes : List ℕ) (read : Option ProofRead) → IsContent under bytes → IsReadOf bytes read → IsReadOf (unwrap_or under []) read
under_read (Some whole) bytes read content reads = one_read whole bytes read content reads
under_read None bytes read (inl is) reads = absurd cc
under_read None bytes read (inr is) reads = absurd cc

-- What was read of the second of the files that were read is read of the second that is met.
pub proof_met : (met : List (Option (List ℕ))) (read : List (Vec ℕ Global)) (by : Option ProofRead) → AreContents met read → IsProofMet (bytes_read read) by → IsProofMet (contents met) by
proof_met [] [] by h is = is
proof_met (file ∷ []) (bytes ∷ []) by h is = is
proof_met (file ∷ under ∷ met) (bytes ∷ proof ∷ read) by (first, (content, others)) is = under_read under proof.items by content is
proof_met [] (bytes ∷ read) by h is = absurd h
proof_met (file ∷ met) [] by h is = absurd h
proof_met (file ∷ []) (bytes ∷ proof ∷ read) by h is = absurd h.1
proof_met (file ∷ under ∷ met) (bytes ∷ []) by h is = absurd h.1

-- Nothing was read of a proof file.
pub none_met : (files : List (List ℕ)) → IsProofMet files None
none_met [] = refl
none_met (file ∷ []) = refl
none_met (file ∷ bytes ∷ others) = tt
