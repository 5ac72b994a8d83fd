use Rattle.std.proofs.Common.{rules}
use Rattle.cc_base.proofs.TestLemmas.{refusal-carried}
use Rattle.unit_form.specs.Callees.{next_callee}
use Rattle.unit_form.proofs.CalleesRead.{offsets_next}
use Rattle.unit_form.proofs.Counted.{read_next, read_fault}
use Rattle.unit_form.proofs.callees.read_callees.Goals as goal

pub loop-callee-preserved : goal.loop-callee-preserved
loop-callee-preserved c =
    let read = c.in_ok-callee.ensures in (
      rw c.in_ok-push.ensures.items (read_next (next_callee c.args.form c.args.bytes.now) c.args.count c.args.start c.loop-callee._callee c.loop-callee.at c.in_ok-callee.next c.loop-callee.callees.items _ (search rules) c.loop-callee.invariant.0 read.0 read.1.0 read.1.1),
      read.1.2,
      rw c.in_ok-push-2.ensures.items (offsets_next c.args.form c.args.bytes.now c.args.count c.args.start c.loop-callee._callee c.loop-callee.at c.in_ok-callee.next c.loop-callee.offsets.items (search rules) c.loop-callee.invariant.2 read.1.1),
    )

pub returns-in_err-callee : goal.returns-in_err-callee
returns-in_err-callee c =
    refusal-carried _ _ _ _ _ _ c.from_residual.ensures.1 c.in_err-callee.ensures
    (λ fault failed. read_fault (next_callee c.args.form c.args.bytes.now) c.args.count c.args.start c.loop-callee._callee c.loop-callee.at c.loop-callee.callees.items fault (search rules) c.loop-callee.invariant.0 failed)
