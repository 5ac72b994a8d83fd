use Rattle.std.proofs.Common.{sym, ◌∙◌}
use Rattle.symbolic_values.specs.Meaning.{SaysBoth}
use Rattle.symbolic_values.proofs.MeaningLaws.{each_some}
use Rattle.symbolic_values.proofs.PairedMeaning.{paired_told}
use Rattle.symbolic_values.proofs.pairs.Pairs.named_def.Goals as goal

pub returns-clause-says : goal.returns-clause-says
returns-clause-says c =
    each_some (SaysBoth c.args.self.now c.args.references.now.pairs c.args.a c.args.b) c.found_def.result
    (λ new is. λ below number is_null is_first.
    paired_told below number is_null is_first c.args.self.now c.args.references.now.pairs c.args.a c.args.b new (sym c.found_def.ensures ∙ is))
