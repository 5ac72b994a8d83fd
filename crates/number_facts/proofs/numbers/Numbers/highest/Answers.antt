use Rattle.std.proofs.Common.{◌≡◌, to_z, of_z, rules}
use Rattle.std.specs.Int.{w128}
use Rattle.number_facts.specs.Ends.{lowered_by}
use Rattle.number_facts.proofs.Cutting.{cut_more}
use Rattle.number_facts.proofs.numbers.Numbers.highest.Goals as goal

pub loop-row-preserved : goal.loop-row-preserved
loop-row-preserved c =
    let out : to_z w128 (of_z w128 c.lowered_by-hi.result) ≡ c.lowered_by-hi.result = search rules in
    record {
      left = rw out (cut_more (lowered_by c.args.self.now) c.rows_from-rows.result.now c.loop-row.row-index (to_z w128 c.loop-row.hi-bits)
          c.lowered_by-hi.result _ _ c.loop-row-test.true c.lowered_by-hi.ensures.value c.loop-row.invariant.left);
      bound = search rules;
      small = λ narrow. rw out (c.lowered_by-hi.ensures.small narrow (c.loop-row.invariant.small narrow));
    }
