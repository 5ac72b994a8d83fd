use Rattle.std.proofs.Common.{◌≡◌, ◌+◌, None, Some, ap, rules, subst, sym, ◌∙◌}
use Rattle.cc_base.proofs.TestLemmas.{fault-carried}
use Rattle.cc_base.specs.Tests.{first_of}
use Rattle.invariant_codec.specs.Formats.{last_of}
use Rattle.invariant_codec.specs.Symbols.{next_row}
use Rattle.invariant_codec.proofs.Counted.{read_next, read_fault}
use Rattle.invariant_codec.proofs.GoodStates.{last_is}
use Rattle.invariant_codec.proofs.rows.read_each.Goals as goal

pub loop-row-preserved : goal.loop-row-preserved
loop-row-preserved c =
    let read = c.in_ok-row.ensures in
    let same = c.loop-row.invariant.2 in (
      rw c.in_ok-push.ensures.items (read_next
          (λ before. (next_row c.args.symbols (last_of before)).read c.args.bytes.now) c.args.count c.args.start
          c.loop-row._row c.loop-row.at (c.loop-row.at + 12) c.loop-row.rows.items _ (search rules)
          c.loop-row.invariant.0
          (subst (λ last. first_of ((next_row c.args.symbols last).read c.args.bytes.now c.loop-row.at).tests ≡ None) same
          read.0)
          (subst (λ last. c.in_ok-row.row ≡ ((next_row c.args.symbols last).read c.args.bytes.now c.loop-row.at).value) same read.1.0)
          (subst (λ last. (c.loop-row.at + 12) ≡ ((next_row c.args.symbols last).read c.args.bytes.now c.loop-row.at).next) same
          read.1.1)),
      read.1.2,
      sym (ap last_of c.in_ok-push.ensures.items ∙ last_is c.loop-row.rows.items c.in_ok-row.row),
    )

pub returns-in_err-row : goal.returns-in_err-row
returns-in_err-row c =
    fault-carried _ _ _ _ c.from_residual.ensures.1
    (read_fault (λ before. (next_row c.args.symbols (last_of before)).read c.args.bytes.now) c.args.count c.args.start
    c.loop-row._row c.loop-row.at c.loop-row.rows.items _ (search rules) c.loop-row.invariant.0
    (subst (λ last. first_of ((next_row c.args.symbols last).read c.args.bytes.now c.loop-row.at).tests ≡ Some
    c.in_err-row.field-0.0) c.loop-row.invariant.2 c.in_err-row.ensures))
