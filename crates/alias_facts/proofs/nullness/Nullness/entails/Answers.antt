use Rattle.std.proofs.Common.{sym, ◌∙◌}
use Rattle.alias_facts.proofs.NullnessLaws.{entailed_agrees}
use Rattle.alias_facts.proofs.nullness.Nullness.entails.Goals as goal

pub returns-clause-holds : goal.returns-clause-holds
returns-clause-holds c = λ is is_null agrees. entailed_agrees c.args.self c.args.other is_null (sym c.is_entailed.ensures ∙ is) agrees
