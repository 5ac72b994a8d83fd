use Rattle.std.proofs.Common.{◌≡◌, to_z, of_z, rules}
use Rattle.std.specs.Int.{w128}
use Rattle.number_facts.specs.Ends.{raised_by}
use Rattle.number_facts.proofs.Cutting.{cut_more}
use Rattle.number_facts.proofs.numbers.Numbers.lowest.Goals as goal

pub loop-row-preserved : goal.loop-row-preserved
loop-row-preserved c =
    let out : to_z w128 (of_z w128 c.raised_by-lo.result) ≡ c.raised_by-lo.result = search rules in
    record {
      left = rw out (cut_more (raised_by c.args.self.now) c.rows_to-rows.result.now c.loop-row.row-index (to_z w128 c.loop-row.lo-bits)
          c.raised_by-lo.result _ _ c.loop-row-test.true c.raised_by-lo.ensures.value c.loop-row.invariant.left);
      bound = search rules;
      small = λ narrow. rw out (c.raised_by-lo.ensures.small narrow (c.loop-row.invariant.small narrow));
    }
