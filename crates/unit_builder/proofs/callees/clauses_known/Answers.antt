use Rattle.std.proofs.Common.{◌≡◌, rules, sym, subst, IfOk, ◌∙◌}
use Rattle.unit_builder.specs.Sources.{scope_at}
use Rattle.unit_builder.proofs.ClauseFacts.{known_result}
use Rattle.unit_builder.proofs.SlotFacts.{bodiless_clauses}
use Rattle.unit_builder.proofs.callees.clauses_known.Goals as goal

pub returns-then-not-has_il_body-clause-value : goal.returns-then-not-has_il_body-clause-value
returns-then-not-has_il_body-clause-value c =
    c.new.ensures.items ∙ sym (bodiless_clauses (scope_at c.args.sources.now c.args.file) c.args.method.now (search rules))

pub returns-clause-value : goal.returns-clause-value
returns-clause-value c =
    subst (λ cs. IfOk c.copy_clauses.result (λ clauses. clauses.items ≡ cs))
    (c.clauses.ensures (scope_at c.args.sources.now c.args.file) c.args.method.now c.in_ok-read.ensures.told) c.copy_clauses.ensures.value

pub returns-clause-known : goal.returns-clause-known
returns-clause-known c =
    known_result c.copy_clauses.result (scope_at c.args.sources.now c.args.file) c.args.method.now c.read.new.self c.in_ok-read.ensures.told (returns-clause-value c)
    c.copy_clauses.ensures.ints
