use Rattle.std.proofs.Common.{rules}
use Rattle.std.proofs.lemmas.Result.{err_from_is_err_and}
use Rattle.unit_builder.proofs.OrderLemmas.{among_here, missing_later, none_missing, order_more, order_whole, refused-judged}
use Rattle.unit_builder.proofs.StepLemmas.{among_count}
use Rattle.unit_builder.proofs.world.order_of.Goals as goal

pub meet-requires : goal.meet-requires
meet-requires c = record { among = among_count c.args.assembly.now c.args.first _ (search rules) c.requires.there }

pub loop-method-init : goal.loop-method-init
loop-method-init c = (search rules, search rules, search rules)

pub put_next-requires-clause-among : goal.put_next-requires-clause-among
put_next-requires-clause-among c =
    among_here c.args.assembly.now c.args.first.0 c.loop-method.method-index (search rules) c.method-item.result (search rules) _ c.loop-method.invariant.0

pub returns-in_err-put_next : goal.returns-in_err-put_next
returns-in_err-put_next c =
    let p = err_from_is_err_and c.from_residual-in_err-put_next.result c.from_residual-in_err-put_next.ensures.1 in
    let put = c.in_err-put_next.ensures.put c.args.assembly.now c.args.first.0 c.requires.whole in
    record { judged = rw (p.1, p.2) (refused-judged c.args.assembly.now c.args.first.0 c.loop-method.method-index (search rules) c.method-item.result (search rules) _ _ c.loop-method.order.tokens c.put_next.new.order.tokens c.loop-method.invariant.2 put) }

pub loop-method-preserved : goal.loop-method-preserved
loop-method-preserved c =
    let put = c.in_ok-put_next.ensures.put c.args.assembly.now c.args.first.0 c.requires.whole in (
      search rules,
      order_more c.args.assembly.now c.args.first.0 c.loop-method.method-index (search rules) c.method-item.result (search rules) _ _ c.loop-method.invariant.1 put.1,
      missing_later c.args.assembly.now c.args.first.0 c.loop-method.method-index (search rules) c.method-item.result (search rules) c.loop-method.invariant.2 put.0,
    )

pub returns : goal.returns
returns c = record {
  judged = (
    none_missing c.args.assembly.now c.args.first.0 c.loop-method.method-index (search rules) (search rules),
    order_whole c.args.assembly.now c.args.first.0 c.loop-method.method-index _ (search rules) (search rules),
  );
}
