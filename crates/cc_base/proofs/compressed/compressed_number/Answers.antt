use Rattle.std.proofs.Common.{◌∙◌, ap}
use Rattle.cc_base.specs.Compressed.{compressed}
use Rattle.cc_base.proofs.ByteLemmas.{IsBytes-from_fits}
use Rattle.cc_base.proofs.CompressedLemmas.{compressed_found, compressed_only}
use Rattle.cc_base.proofs.compressed.compressed_number.Goals as goal

pub returns-clause-found : goal.returns-clause-found
returns-clause-found c =
    compressed_found c.args.bytes.now c.prefix_number.result (IsBytes-from_fits c.args.bytes.now c.type_inv.bytes) c.prefix_number.ensures.exact

pub returns-clause-only : goal.returns-clause-only
returns-clause-only c = λ n spelling rest spells stands.
    c.prefix_number.ensures.exact ∙ ap compressed stands ∙ compressed_only n spelling rest spells
