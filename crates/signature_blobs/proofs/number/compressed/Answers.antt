use Rattle.std.proofs.Common.{◌∙◌}
use Rattle.cc_base.proofs.ByteLemmas.{IsBytes-from_fits}
use Rattle.signature_blobs.proofs.NumberLaws.{number_found, number_read}
use Rattle.signature_blobs.proofs.number.compressed.Goals as goal

pub returns-clause-found : goal.returns-clause-found
returns-clause-found c =
    number_found c.args.blob.now c.args.at c.number_at.result (IsBytes-from_fits c.args.blob.now c.type_inv.blob) c.number_at.ensures.exact

pub returns-clause-only : goal.returns-clause-only
returns-clause-only c = λ n after bytes spells stands. c.number_at.ensures.exact ∙ number_read c.args.blob.now bytes c.args.at n after spells stands
