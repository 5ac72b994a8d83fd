use Rattle.std.proofs.Common.{◌<◌, length, arith, rules}
use Rattle.array_contents.proofs.SameLists.{unlike}
use Rattle.array_contents.proofs.equality.are_same_bounds.Goals as goal

pub returns-then-not-are_same_exprs : goal.returns-then-not-are_same_exprs
returns-then-not-are_same_exprs c =
    let below : c.loop-index.index < length c.args.a.now = omega arith in
    let under : c.loop-index.index < length c.args.b.now = omega arith in
    unlike (λ bound. bound.items) c.args.a.now c.args.b.now c.loop-index.index c.index-a-index.result c.index-b-index.result
    c.deref.result.now c.deref-in-loop-index.result.now c.are_same_exprs.result below under
    c.index-a-index.is c.index-b-index.is c.deref.ensures.value c.deref-in-loop-index.ensures.value c.are_same_exprs.ensures (search rules)
