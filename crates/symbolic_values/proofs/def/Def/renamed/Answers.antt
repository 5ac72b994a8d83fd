use Rattle.std.proofs.Common.{sym, ◌∙◌}
use Rattle.symbolic_values.specs.Meaning.{SaysSame}
use Rattle.symbolic_values.proofs.MeaningLaws.{each_some, renamed_told}
use Rattle.symbolic_values.proofs.def.Def.renamed.Goals as goal

pub returns-clause-says : goal.returns-clause-says
returns-clause-says c =
    each_some (SaysSame c.args.symbols.now c.args.references.now c.args.self) c.in_names.result
    (λ new is. λ below number later is_null later_null agree nulls.
    renamed_told below number later is_null later_null c.args.symbols.now c.args.references.now c.args.self new agree nulls (sym c.in_names.ensures ∙ is))
