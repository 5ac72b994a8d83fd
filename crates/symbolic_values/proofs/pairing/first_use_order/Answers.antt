use Rattle.std.proofs.Common.{◌∙◌}
use Rattle.std.proofs.lemmas.Result.{IfOk-weaker}
use Rattle.symbolic_values.proofs.SymbolUses.{symbols_of_keys}
use Rattle.symbolic_values.proofs.pairing.first_use_order.Goals as goal

pub returns-clause-own : goal.returns-clause-own
returns-clause-own c = IfOk-weaker c.symbols_of.result _ _ (λ symbols is. is ∙ symbols_of_keys c.args.env.now) c.symbols_of.ensures
