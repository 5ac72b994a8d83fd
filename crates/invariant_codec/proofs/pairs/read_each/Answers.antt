use Rattle.std.proofs.Common.{◌≡◌, ◌+◌, None, Some, ap, rules, subst, sym, ◌∙◌}
use Rattle.cc_base.proofs.TestLemmas.{fault-carried}
use Rattle.cc_base.specs.Tests.{first_of}
use Rattle.invariant_codec.specs.Formats.{last_of}
use Rattle.invariant_codec.specs.Symbols.{next_pair}
use Rattle.invariant_codec.proofs.Counted.{read_next, read_fault}
use Rattle.invariant_codec.proofs.GoodStates.{last_is}
use Rattle.invariant_codec.proofs.pairs.read_each.Goals as goal

pub loop-pair-preserved : goal.loop-pair-preserved
loop-pair-preserved c =
    let read = c.in_ok-pair.ensures in
    let same = c.loop-pair.invariant.2 in (
      rw c.in_ok-push.ensures.items (read_next
          (λ before. (next_pair c.args.references (last_of before)).read c.args.bytes.now) c.args.count c.args.start
          c.loop-pair._pair c.loop-pair.at (c.loop-pair.at + 4) c.loop-pair.pairs.items _ (search rules)
          c.loop-pair.invariant.0
          (subst (λ last. first_of ((next_pair c.args.references last).read c.args.bytes.now c.loop-pair.at).tests ≡ None) same
          read.0)
          (subst (λ last. c.in_ok-pair.pair ≡ ((next_pair c.args.references last).read c.args.bytes.now c.loop-pair.at).value) same read.1.0)
          (subst (λ last. (c.loop-pair.at + 4) ≡ ((next_pair c.args.references last).read c.args.bytes.now c.loop-pair.at).next) same
          read.1.1)),
      read.1.2,
      sym (ap last_of c.in_ok-push.ensures.items ∙ last_is c.loop-pair.pairs.items c.in_ok-pair.pair),
    )

pub returns-in_err-pair : goal.returns-in_err-pair
returns-in_err-pair c =
    fault-carried _ _ _ _ c.from_residual.ensures.1
    (read_fault (λ before. (next_pair c.args.references (last_of before)).read c.args.bytes.now) c.args.count c.args.start
    c.loop-pair._pair c.loop-pair.at c.loop-pair.pairs.items _ (search rules) c.loop-pair.invariant.0
    (subst (λ last. first_of ((next_pair c.args.references last).read c.args.bytes.now c.loop-pair.at).tests ≡ Some
    c.in_err-pair.field-0.0) c.loop-pair.invariant.2 c.in_err-pair.ensures))
