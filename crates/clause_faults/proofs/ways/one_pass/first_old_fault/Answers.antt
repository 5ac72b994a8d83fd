use Rattle.std.proofs.Common.{sym, ◌∙◌}
use Rattle.clause_faults.specs.SharedStacks.{old_fault}
use Rattle.clause_faults.proofs.FaultLemmas.Earliest.{either-both, least-next}
use Rattle.clause_faults.proofs.ways.one_pass.first_old_fault.Goals as goal

pub loop-top-preserved : goal.loop-top-preserved
loop-top-preserved c =
    c.either-first.ensures ∙ either-both c.loop-top.invariant c.old_fault.ensures
    ∙ sym (least-next (old_fault c.args.at c.args.place) c.args.tops.now c.loop-top.top-index _ c.loop-top-test.true)
