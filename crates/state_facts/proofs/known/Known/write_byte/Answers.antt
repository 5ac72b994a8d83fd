use Rattle.std.proofs.Common.{rules, ◌≡◌, Some, is_some, [], None, ap, sym, subst, ◌∙◌}
use Rattle.std.specs.Prelude.{pos}
use Rattle.number_facts.specs.Facts.{Facts, IsNamed}
use Rattle.number_facts.specs.Fresh.{expr_made, facts_made, fresh}
use Rattle.state_facts.specs.StateFacts.{StateFacts}
use Rattle.state_facts.proofs.MadeNumbers.{fresh_made}
use Rattle.state_facts.proofs.Writing.{made_named, written_after}
use Rattle.state_facts.proofs.known.Known.write_byte.Goals as goal

pub write-requires-clause-value : goal.write-requires-clause-value
write-requires-clause-value c =
    let facts : Facts = c.args.self.now.facts in
    let made : expr_made (fresh facts (pos 0) (pos 255) None []) ≡ Some c.in-Some.value = search rules in
    let known : c.make_byte.new.self ≡ record c.args.self.now { facts = facts_made facts (fresh facts (pos 0) (pos 255) None []) } = search rules in
    subst (λ (k : StateFacts). IsNamed k.facts c.in-Some.value) (sym known)
    (made_named facts (fresh facts (pos 0) (pos 255) None []) c.in-Some.value (fresh_made facts (pos 0) (pos 255)) made)

pub returns-in-Ok-clause-reached : goal.returns-in-Ok-clause-reached
returns-in-Ok-clause-reached c =
    let facts : Facts = c.args.self.now.facts in
    let made : expr_made (fresh facts (pos 0) (pos 255) None []) ≡ Some c.in-Some.value = search rules in
    let known : c.make_byte.new.self ≡ record c.args.self.now { facts = facts_made facts (fresh facts (pos 0) (pos 255) None []) } = search rules in
    c.in-Ok.ensures.reached ∙ ap is_some (written_after c.args.self.now c.make_byte.new.self c.args.r c.args.at c.in-Some.value (fresh facts (pos 0) (pos 255) None []) made known)

pub returns-in-Ok-clause-ok : goal.returns-in-Ok-clause-ok
returns-in-Ok-clause-ok c = λ reached.
    let facts : Facts = c.args.self.now.facts in
    let made : expr_made (fresh facts (pos 0) (pos 255) None []) ≡ Some c.in-Some.value = search rules in
    let known : c.make_byte.new.self ≡ record c.args.self.now { facts = facts_made facts (fresh facts (pos 0) (pos 255) None []) } = search rules in
    sym (written_after c.args.self.now c.make_byte.new.self c.args.r c.args.at c.in-Some.value (fresh facts (pos 0) (pos 255) None []) made known)
    ∙ c.in-Ok.ensures.ok reached
