use Rattle.unit_builder.proofs.Parts.{made_judged}
use Rattle.unit_builder.proofs.RowFacts.{indexed_row}
use Rattle.unit_builder.specs.Laws.SmallNumbers.{small_in}
use Rattle.unit_builder.specs.Sources.{scope_at}
use Rattle.unit_builder.proofs.units.unit_at.Goals as goal

pub returns-clause-judged : goal.returns-clause-judged
returns-clause-judged c =
    let scope = scope_at c.args.sources.now c.args.file in
    made_judged scope c.args.method.now c.parts_at.result (small_in c.args.sources.now c.args.file) (indexed_row scope.asm c.args.index c.args.method.now c.requires.there) c.parts_at.ensures.judged
