use Rattle.std.proofs.Common.{◌∙◌}
use Rattle.signature_blobs.proofs.SignatureLaws.{local_read}
use Rattle.signature_blobs.proofs.local.local_sig.Goals as goal

pub returns-clause-only : goal.returns-clause-only
returns-clause-only c = λ places begins. c.locals_of.ensures.exact ∙ local_read c.args.blob.now places begins
