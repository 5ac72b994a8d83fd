use Rattle.std.proofs.Common.{w64, sym, ap, ◌∙◌}
use Rattle.std.proofs.lemmas.Int.{to_z-of_z}
use Rattle.symbolic_values.specs.Meaning.{SaysMore}
use Rattle.symbolic_values.specs.Names.{renamed_above}
use Rattle.symbolic_values.proofs.MeaningLaws.{each_some, renamed_above_told}
use Rattle.symbolic_values.proofs.def.Def.renamed_above.Goals as goal

pub returns-clause-says : goal.returns-clause-says
returns-clause-says c =
    let symbols = c.args.symbols.now in
    let references = c.args.references.now in
    each_some (SaysMore c.args.more symbols references c.args.self) c.in_names_above.result
    (λ new is. λ below number later is_null later_null agree nulls.
    renamed_above_told below number later is_null later_null c.args.more symbols references c.args.self new agree nulls
    (sym (c.in_names_above.ensures ∙ ap (λ more. renamed_above more symbols references c.args.self) (to_z-of_z w64 c.args.more c.ranges.more)) ∙ is))
