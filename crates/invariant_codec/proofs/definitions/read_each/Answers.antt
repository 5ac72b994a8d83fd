use Rattle.std.proofs.Common.{◌≡◌, None, Some, ap, rules, subst, sym, ◌∙◌}
use Rattle.cc_base.proofs.TestLemmas.{fault-carried}
use Rattle.cc_base.specs.Tests.{first_of}
use Rattle.invariant_codec.specs.Formats.{last_of}
use Rattle.invariant_codec.specs.Symbols.{next_definition}
use Rattle.invariant_codec.proofs.Counted.{read_next, read_fault}
use Rattle.invariant_codec.proofs.GoodStates.{last_is}
use Rattle.invariant_codec.proofs.definitions.read_each.Goals as goal

pub loop-definition-preserved : goal.loop-definition-preserved
loop-definition-preserved c =
    let read = c.in_ok-definition.ensures in
    let same = c.loop-definition.invariant.2 in (
      rw c.in_ok-push.ensures.items (read_next
          (λ before. (next_definition c.args.symbols c.args.references (last_of before)).read c.args.bytes.now) c.args.count c.args.start
          c.loop-definition._definition c.loop-definition.at c.in_ok-definition.next c.loop-definition.definitions.items _ (search rules)
          c.loop-definition.invariant.0
          (subst (λ last. first_of ((next_definition c.args.symbols c.args.references last).read c.args.bytes.now c.loop-definition.at).tests ≡ None) same
          read.0)
          (subst (λ last. c.in_ok-definition.definition ≡ ((next_definition c.args.symbols c.args.references last).read c.args.bytes.now c.loop-definition.at).value) same read.1.0)
          (subst (λ last. c.in_ok-definition.next ≡ ((next_definition c.args.symbols c.args.references last).read c.args.bytes.now c.loop-definition.at).next) same
          read.1.1)),
      read.1.2,
      sym (ap last_of c.in_ok-push.ensures.items ∙ last_is c.loop-definition.definitions.items c.in_ok-definition.definition),
    )

pub returns-in_err-definition : goal.returns-in_err-definition
returns-in_err-definition c =
    fault-carried _ _ _ _ c.from_residual.ensures.1
    (read_fault (λ before. (next_definition c.args.symbols c.args.references (last_of before)).read c.args.bytes.now) c.args.count c.args.start
    c.loop-definition._definition c.loop-definition.at c.loop-definition.definitions.items _ (search rules) c.loop-definition.invariant.0
    (subst (λ last. first_of ((next_definition c.args.symbols c.args.references last).read c.args.bytes.now c.loop-definition.at).tests ≡ Some
    c.in_err-definition.field-0.0) c.loop-definition.invariant.2 c.in_err-definition.ensures))
