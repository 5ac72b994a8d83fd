use Rattle.std.proofs.Common.{refl, arith}
use Rattle.method_unit.proofs.SameLists.{all_same, one_more_same}
use Rattle.method_unit.proofs.equality.same_callees.Goals as goal

pub loop-i-preserved : goal.loop-i-preserved
loop-i-preserved c =
    one_more_same c.args.a.now c.args.b.now c.loop-i.i c.index-a-i.result c.index-b-i.result (omega arith) (omega arith) c.index-a-i.is c.index-b-i.is
    (c.same_callee.ensures.same.0 c.if-not-same_callee.false) c.loop-i.invariant

pub returns : goal.returns
returns c = record {
  same = (λ _. all_same c.args.a.now c.args.b.now c.loop-i.i c.if-a-b.false c.loop-i-test.false c.loop-i.invariant, λ _. refl);
}
