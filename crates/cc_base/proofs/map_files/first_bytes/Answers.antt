use Rattle.std.proofs.lemmas.Result.{IfOk-weaker}
use Rattle.cc_base.specs.Files.{READ_LIMIT}
use Rattle.cc_base.proofs.HeldLemmas.{take_cut}
use Rattle.cc_base.proofs.map_files.first_bytes.Goals as goal

pub returns : goal.returns
returns c =
    IfOk-weaker c.from_slice.result _ _
    (λ copy is. take_cut c.args.bytes.now copy.items READ_LIMIT c.min.result c.min.ensures is)
    c.from_slice.ensures.items
