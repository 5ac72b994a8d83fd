use Rattle.std.proofs.Common.{◌∙◌}
use Rattle.signature_blobs.proofs.SignatureLaws.{method_read}
use Rattle.signature_blobs.proofs.method.method_sig.Goals as goal

pub returns-clause-only : goal.returns-clause-only
returns-clause-only c = λ this generic signature begins. c.method_of.ensures.exact ∙ method_read c.args.blob.now this generic signature begins
