use Rattle.std.proofs.Common.{◌<◌, length, get_or, None, pos, arith}
use Rattle.pentagon_domain.specs.declared.bound_row.BoundRow.{BoundRow}
use Rattle.pentagon_domain.proofs.IdleSums.{still_low}
use Rattle.pentagon_domain.proofs.Reaches.{beyond_step, behind_all}
use Rattle.pentagon_domain.proofs.bounds.Bounds.raise_behind.Goals as goal

pub loop-first-preserved : goal.loop-first-preserved
loop-first-preserved c = record {
  so_far = λ t inside apart.
      let before : t < length c.loop-first.gaps = omega arith in
      let none : BoundRow = record { s = 0; t = 0; k = pos 0 } in
      beyond_step c.args.self.now c.args.firsts.now c.loop-first.first-index t (get_or c.loop-first.gaps t None) (get_or c.raise_beyond.new.gaps t None) _ none
      c.loop-first-test.true (c.raise_beyond.ensures t inside (c.loop-first.invariant.low t before apart)) (c.loop-first.invariant.so_far t before apart);
  low = λ t inside apart reached.
      let before : t < length c.loop-first.gaps = omega arith in
      let low = c.loop-first.invariant.low t before apart in
      let is = c.raise_beyond.ensures t inside low in
      rw is (still_low _ (get_or c.loop-first.gaps t None) _ (low reached));
}

pub returns : goal.returns
returns c = λ t inside apart.
    behind_all c.args.self.now c.args.firsts.now c.loop-first.first-index t _ _ c.loop-first-test.false (c.loop-first.invariant.so_far t inside apart)
