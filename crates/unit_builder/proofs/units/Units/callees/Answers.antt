use Rattle.std.proofs.Common.{rules}
use Rattle.unit_builder.proofs.CallFacts.{row_read, tokens_told}
use Rattle.unit_builder.proofs.units.Units.callees.Goals as goal

pub returns-clause-value : goal.returns-clause-value
returns-clause-value c = λ method unit at is.
    let asm = c.self.inside.assembly.now in
    let row = row_read asm c.methods.result.now c.args.index c.index-methods-index.result (search rules) (search rules) c.index-methods-index.is in
    tokens_told c.tokens_of.result asm c.args.self.now c.args.index c.index-methods-index.result method unit c.in_ok-keys.keys.items c.self.view_is row at is
    c.in_ok-keys.ensures.value (search rules)
