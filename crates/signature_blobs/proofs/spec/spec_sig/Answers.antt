use Rattle.std.proofs.Common.{◌∙◌}
use Rattle.signature_blobs.proofs.SignatureLaws.{spec_read}
use Rattle.signature_blobs.proofs.spec.spec_sig.Goals as goal

pub returns-clause-only : goal.returns-clause-only
returns-clause-only c = λ place begins. c.spec_of.ensures.exact ∙ spec_read c.args.blob.now place begins
