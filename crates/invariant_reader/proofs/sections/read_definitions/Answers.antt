use Rattle.std.proofs.Common.{ℕ, refl, sym, subst, List}
use Rattle.symbolic_values.specs.declared.def.Def.{Def}
use Rattle.invariant_text.specs.SymbolLines.{definition_line}
use Rattle.invariant_reader.specs.CodeNumbers.{IsCodeDefinition}
use Rattle.invariant_reader.proofs.Repeats.{AreUnderWay, goes_on, item_missed, item_stuck, starts, whole_read}
use Rattle.invariant_reader.proofs.SectionLoops.{definition_next, definitions_loop, definitions_readable, lines_headed}
use Rattle.invariant_reader.proofs.sections.read_definitions.Goals as goal

pub loop-definition-init : goal.loop-definition-init
loop-definition-init c = starts definitions_loop c.new-definitions.result.items 0 c.args.text.now

pub returns-in_default : goal.returns-in_default
returns-in_default c =
    item_missed definitions_readable (lines_headed (λ n d. definition_line d) (λ n d. IsCodeDefinition d) 5 0 c.args.text.now) (record { head_is = refl; start_is = c.new-definitions.ensures.items })
    c.loop-definition.invariant c.loop-definition-test.ensures
    (definition_next c.loop-definition.rest.now) c.in_default.ensures

pub returns-then-left-rest : goal.returns-then-left-rest
returns-then-left-rest c =
    item_stuck definitions_readable (lines_headed (λ n d. definition_line d) (λ n d. IsCodeDefinition d) 5 0 c.args.text.now) (record { head_is = refl; start_is = c.new-definitions.ensures.items })
    c.loop-definition.invariant c.loop-definition-test.ensures
    (definition_next c.loop-definition.rest.now) c.in-Some.definition c.in-Some.left.now c.in-Some.ensures c.if-left-rest.true

pub loop-definition-preserved : goal.loop-definition-preserved
loop-definition-preserved c =
    let one = goes_on definitions_readable c.loop-definition.invariant c.loop-definition-test.ensures (definition_next c.loop-definition.rest.now)
    c.in-Some.definition c.in-Some.left.now c.in-Some.ensures in
    subst (λ (items : List (ℕ × Def)). AreUnderWay definitions_loop c.new-definitions.result.items 0 c.args.text.now items
    c.in-Some.left.now) (sym c.in_ok-push.ensures.items) one

pub returns : goal.returns
returns c =
    whole_read definitions_readable (lines_headed (λ n d. definition_line d) (λ n d. IsCodeDefinition d) 5 0 c.args.text.now) (record { head_is = refl; start_is = c.new-definitions.ensures.items })
    c.loop-definition.invariant c.loop-definition-test.ensures
