use Rattle.std.proofs.Common.{◌∙◌}
use Rattle.unit_builder.proofs.NameFacts.{name_cut}
use Rattle.unit_builder.proofs.names.unit_name.Goals as goal

pub returns : goal.returns
returns c = name_cut c.args.method.now c.up_to_types.result.now c.requires.row (λ prefix types named. c.up_to_types.ensures prefix types (c.as_slice.ensures ∙ named))
