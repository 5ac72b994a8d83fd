use Rattle.std.proofs.Common.{rules, ◌+◌}
use Rattle.cc_base.proofs.TestLemmas.{fault-carried}
use Rattle.invariant_codec.specs.Numbers.{expr}
use Rattle.invariant_codec.proofs.Counted.{read_next, read_fault}
use Rattle.invariant_codec.proofs.bounds.read_each.Goals as goal

pub loop-expr-preserved : goal.loop-expr-preserved
loop-expr-preserved c =
    let read = c.in_ok-expr.ensures in (
      rw c.in_ok-push.ensures.items (read_next
          (λ before. (expr c.args.symbols).read c.args.bytes.now) c.args.count c.args.start c.loop-expr._expr
          c.loop-expr.at (c.loop-expr.at + 10) c.loop-expr.exprs.items _
          (search rules) c.loop-expr.invariant.0 read.0 read.1.0 read.1.1),
      read.1.2,
    )

pub returns-in_err-expr : goal.returns-in_err-expr
returns-in_err-expr c =
    fault-carried _ _ _ _ c.from_residual.ensures.1
    (read_fault (λ before. (expr c.args.symbols).read c.args.bytes.now) c.args.count c.args.start c.loop-expr._expr
    c.loop-expr.at c.loop-expr.exprs.items _ (search rules) c.loop-expr.invariant.0 c.in_err-expr.ensures)
