use Rattle.std.proofs.Common.{ap, ◌∙◌}
use Rattle.obligation_prover.specs.Operations.{item_of}
use Rattle.obligation_prover.proofs.Reading.{load_through_read, store_through_read}
use Rattle.obligation_prover.proofs.operations.found_assumption.Goals as goal

pub returns-in-LoadInd : goal.returns-in-LoadInd
returns-in-LoadInd c =
    c.item_of.ensures ∙ ap item_of c.from_top.ensures.value ∙ load_through_read c.args.op.now c.in-LoadInd.field-0 c.args.state.now c.in-LoadInd.is

pub returns-in-StoreInd : goal.returns-in-StoreInd
returns-in-StoreInd c =
    c.item_of-in-StoreInd.ensures ∙ ap item_of c.from_top-in-StoreInd.ensures.value
    ∙ store_through_read c.args.op.now c.in-StoreInd.field-0 c.args.state.now c.in-StoreInd.is
