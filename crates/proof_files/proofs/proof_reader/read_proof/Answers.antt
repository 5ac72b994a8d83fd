use Rattle.std.proofs.Common.{Global, Vec}
use Rattle.proof_files.specs.Held.{entries_told}
use Rattle.proof_files.specs.declared.proof_entry.ProofEntry.{ProofEntry}
use Rattle.proof_files.proofs.ProofAnswers.{read_only}
use Rattle.proof_files.proofs.ReadOnce.{fault_within, one_read}
use Rattle.proof_files.proofs.proof_reader.read_proof.Goals as goal

pub returns-clause-one : goal.returns-clause-one
returns-clause-one c a b = one_read c.args.bytes.now a b

pub returns-clause-only : goal.returns-clause-only
returns-clause-only c entries is =
    read_only (λ (read : Vec ProofEntry Global). entries_told read.items) c.args.bytes.now c.read_all.result entries
    c.read_all.ensures.ok
    c.read_all.ensures.err is

pub returns-clause-within : goal.returns-clause-within
returns-clause-within c at is = fault_within c.args.bytes.now at is
