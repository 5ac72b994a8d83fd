use Rattle.std.proofs.Common.{sym}
use Rattle.std.proofs.lemmas.Option.{slice_get-get_or}
use Rattle.contract_extract.proofs.BlockLemmas.Passed.{is_closing, passes_on}
use Rattle.contract_extract.proofs.block.Block.pass.Goals as goal

pub returns-then-not-closes : goal.returns-then-not-closes
returns-then-not-closes c =
    let instr = c.index-instrs-index.result in
    passes_on c.args.instrs.now c.args.shape.now c.args.self.now.clauses.items c.args.self.now.old_values c.args.self.now.first c.args.self.now.start c.args.index _ c.requires.passed
    (slice_get-get_or c.args.instrs.now c.args.index instr c.requires.within) (sym c.if-not-closes.ensures)

pub close-requires-clause-closing : goal.close-requires-clause-closing
close-requires-clause-closing c =
    let instr = c.index-instrs-index.result in
    is_closing c.args.instrs.now c.args.shape.now c.args.self.now.clauses.items c.args.self.now.old_values c.args.self.now.first c.args.self.now.start c.args.index _ c.requires.passed
    (slice_get-get_or c.args.instrs.now c.args.index instr c.requires.within) (sym c.if-not-closes.ensures)
