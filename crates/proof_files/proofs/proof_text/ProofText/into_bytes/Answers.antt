use Rattle.std.proofs.Common.{ap, ◌∙◌}
use Rattle.proof_files.specs.Held.{WrittenProof}
use Rattle.proof_files.proofs.KeptLemmas.{made_file}
use Rattle.proof_files.proofs.proof_text.ProofText.into_bytes.Goals as goal

pub returns-clause-file : goal.returns-clause-file
returns-clause-file c entries made are =
    made_file entries c.self.inside.text.items (ap (λ (w : WrittenProof). w.text) c.self.view_is ∙ made.text) are
