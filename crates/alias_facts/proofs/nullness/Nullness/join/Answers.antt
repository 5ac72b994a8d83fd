use Rattle.std.proofs.Common.{sym, subst}
use Rattle.alias_facts.specs.declared.nullness.Nullness.{Nullness}
use Rattle.alias_facts.specs.NullnessOf.{Agrees}
use Rattle.alias_facts.proofs.NullnessLaws.{joined_left, joined_right}
use Rattle.alias_facts.proofs.nullness.Nullness.join.Goals as goal

pub returns-clause-left : goal.returns-clause-left
returns-clause-left c = λ is_null agrees.
    subst (λ (known : Nullness). Agrees known is_null) (sym c.joined.ensures) (joined_left c.args.self c.args.other is_null agrees)

pub returns-clause-right : goal.returns-clause-right
returns-clause-right c = λ is_null agrees.
    subst (λ (known : Nullness). Agrees known is_null) (sym c.joined.ensures) (joined_right c.args.self c.args.other is_null agrees)
