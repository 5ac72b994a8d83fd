use Rattle.std.proofs.Common.{List, ap, ◌+◌, ◌∙◌}
use Rattle.clause_faults.specs.PassedInstr.{arrived_fault}
use Rattle.clause_faults.specs.declared.ways.arrivals.Arrival.{Arrival}
use Rattle.clause_faults.proofs.WayLemmas.BehindLemmas.{behind_read}
use Rattle.clause_faults.proofs.FaultLemmas.Earliest.{either-both}
use Rattle.clause_faults.proofs.WayLemmas.Lying.{ends_short}
use Rattle.clause_faults.proofs.ways.one_pass.pass_instr.Goals as goal

pub send_on-requires-clause-fits : goal.send_on-requires-clause-fits
send_on-requires-clause-fits c = ends_short c.args.clause.now.instrs.now (c.args.clause.now.first + c.args.index) c.args.instr.now c.requires.lies.lie c.requires.there

pub returns : goal.returns
returns c =
    let is = c.args.clause.now.instrs.now in
    let shape = c.args.clause.now.shape.now in
    let i = c.args.instr.now in
    let mid = c.gather_at.new.stacks in
    record {
      mid = mid;
      out = c.as_slice.result.now;
      gathered = c.in_ok-gather_at.ensures;
      behind = behind_read is shape i mid c.args.index c.goes_on-goes_on.result c.in_ok-out.out c.as_slice.result.now c.goes_on-goes_on.ensures c.as_slice.ensures c.in_ok-out.ensures;
      sent = c.in_ok-send_on.ensures;
      faults = c.either.ensures
          ∙ either-both c.own_fault-own.ensures
          (c.arrived_fault-arrived.ensures ∙ ap (λ (tops : List Arrival). arrived_fault is shape i mid tops) c.arrivals_at-tops.ensures);
    }
