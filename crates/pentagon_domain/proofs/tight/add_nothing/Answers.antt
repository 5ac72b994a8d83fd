use Rattle.std.proofs.Common.{None, get_or, pos}
use Rattle.std.specs.Prelude.{IsTrue}
use Rattle.pentagon_domain.specs.declared.bound_row.BoundRow.{BoundRow}
use Rattle.pentagon_domain.specs.Tight.{adds_nothing}
use Rattle.pentagon_domain.proofs.TightTests.{rest_more, rest_none}
use Rattle.pentagon_domain.proofs.tight.add_nothing.Goals as goal

pub loop-next-preserved : goal.loop-next-preserved
loop-next-preserved c = λ ends row told.
    let none : BoundRow = record { s = 0; t = 0; k = pos 0 } in
    rest_more (λ next. IsTrue (adds_nothing ends (λ t. get_or row t None) c.args.s c.args.first.now.k next)) c.args.nexts.now
    c.loop-next.next-index none c.loop-next-test.true (c.adds_nothing.ensures ends row told c.if-not-adds_nothing.false) (c.loop-next.invariant ends row told)

pub returns : goal.returns
returns c = λ ends row told _.
    rest_none (λ next. IsTrue (adds_nothing ends (λ t. get_or row t None) c.args.s c.args.first.now.k next)) c.args.nexts.now
    c.loop-next.next-index c.loop-next-test.false (c.loop-next.invariant ends row told)
