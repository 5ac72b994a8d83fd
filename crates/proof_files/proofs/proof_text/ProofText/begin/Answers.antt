use Rattle.std.proofs.Common.{ℕ, List, ◌++◌, ap, ◌∙◌}
use Rattle.proof_files.specs.Proofs.{FIRST_LINE}
use Rattle.proof_files.proofs.KeptLemmas.{made_begun}
use Rattle.proof_files.proofs.proof_text.ProofText.begin.Goals as goal

pub returns : goal.returns
returns c =
    made_begun c.extend_from_slice.new.self.items
    (c.in_ok-extend_from_slice.ensures.items ∙ ap (λ (t : List ℕ). t ++ FIRST_LINE) c.new-text.ensures.items)
