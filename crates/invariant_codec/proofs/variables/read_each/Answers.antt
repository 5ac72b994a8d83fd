use Rattle.std.proofs.Common.{rules}
use Rattle.cc_base.proofs.TestLemmas.{fault-carried}
use Rattle.invariant_codec.specs.Symbols.{var}
use Rattle.invariant_codec.proofs.Counted.{read_next, read_fault}
use Rattle.invariant_codec.proofs.variables.read_each.Goals as goal

pub loop-variable-preserved : goal.loop-variable-preserved
loop-variable-preserved c =
    let read = c.in_ok-variable.ensures in (
      rw c.in_ok-push.ensures.items (read_next
          (λ before. (var c.args.symbols c.args.references).read c.args.bytes.now) c.args.count c.args.start
          c.loop-variable._variable c.loop-variable.at c.in_ok-variable.next c.loop-variable.variables.items _
          (search rules) c.loop-variable.invariant.0 read.0 read.1.0 read.1.1),
      read.1.2,
    )

pub returns-in_err-variable : goal.returns-in_err-variable
returns-in_err-variable c =
    fault-carried _ _ _ _ c.from_residual.ensures.1
    (read_fault (λ before. (var c.args.symbols c.args.references).read c.args.bytes.now) c.args.count c.args.start
    c.loop-variable._variable c.loop-variable.at c.loop-variable.variables.items _
    (search rules) c.loop-variable.invariant.0 c.in_err-variable.ensures)
