use Rattle.std.proofs.lemmas.Result.{IfOk-weaker}
use Rattle.clause_faults.specs.PassedInstr.{behind_arrivals}
use Rattle.clause_faults.specs.SharedStacks.{arrivals_at}
use Rattle.clause_faults.proofs.WayLemmas.BehindLemmas.{gathered_stands}
use Rattle.clause_faults.proofs.ways.behind.behind_gathered.Goals as goal

pub returns : goal.returns
returns c =
    IfOk-weaker c.gathered.result _ _
    (λ out same. gathered_stands c.args.stacks.now c.args.index
    (behind_arrivals c.args.shape.now.args c.args.instr.now c.args.instr.now.op c.args.stacks.now c.args.index (arrivals_at c.args.stacks.now c.args.index)) c.in_ok-out.out c.as_slice.result.now out c.as_slice.ensures c.in_ok-out.ensures same)
    c.gathered.ensures
