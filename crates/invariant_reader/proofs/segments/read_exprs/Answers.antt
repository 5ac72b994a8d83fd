use Rattle.std.proofs.Common.{◌∙◌, ap, sym, subst, arith, List, ◌++◌, ◌∷◌, []}
use Rattle.domain_api.specs.declared.expr.Expr.{Expr}
use Rattle.invariant_reader.proofs.Repeats.{AreUnderWay, goes_on, head_missed, item_missed, item_stuck, starts, whole_read}
use Rattle.invariant_reader.proofs.SegmentLoops.{exprs_headed, exprs_loop, exprs_readable, next_read}
use Rattle.invariant_reader.proofs.segments.read_exprs.Goals as goal

pub returns-in_default : goal.returns-in_default
returns-in_default c = head_missed (exprs_headed c.args.text.now) c.in_default.ensures

pub loop-expr-init : goal.loop-expr-init
loop-expr-init c = starts exprs_loop c.push.new.self.items 0 c.in-Some.rest.now

pub returns-in_default-read_next_expr : goal.returns-in_default-read_next_expr
returns-in_default-read_next_expr c =
    item_missed exprs_readable (exprs_headed c.args.text.now)
    (record {
      head_is = c.in-Some.ensures;
      start_is = c.in_ok-push.ensures.items ∙ ap (λ (es : List Expr). es ++ c.in-Some.first ∷ []) c.new-exprs.ensures.items;
    })
    c.loop-expr.invariant c.loop-expr-test.ensures (next_read c.loop-expr.rest.now) c.in_default-read_next_expr.ensures

pub returns-then-left-rest : goal.returns-then-left-rest
returns-then-left-rest c =
    item_stuck exprs_readable (exprs_headed c.args.text.now)
    (record {
      head_is = c.in-Some.ensures;
      start_is = c.in_ok-push.ensures.items ∙ ap (λ (es : List Expr). es ++ c.in-Some.first ∷ []) c.new-exprs.ensures.items;
    })
    c.loop-expr.invariant c.loop-expr-test.ensures (next_read c.loop-expr.rest.now)
    c.in-Some-read_next_expr.expr c.in-Some-read_next_expr.left.now c.in-Some-read_next_expr.ensures c.if-left-rest.true

pub loop-expr-preserved : goal.loop-expr-preserved
loop-expr-preserved c =
    let one = goes_on exprs_readable c.loop-expr.invariant c.loop-expr-test.ensures (next_read c.loop-expr.rest.now)
    c.in-Some-read_next_expr.expr c.in-Some-read_next_expr.left.now c.in-Some-read_next_expr.ensures in
    subst (λ (es : List Expr). AreUnderWay exprs_loop c.push.new.self.items 0 c.in-Some.rest.now es
    c.in-Some-read_next_expr.left.now) (sym c.in_ok-push-2.ensures.items) one

pub returns : goal.returns
returns c =
    whole_read exprs_readable (exprs_headed c.args.text.now)
    (record {
      head_is = c.in-Some.ensures;
      start_is = c.in_ok-push.ensures.items ∙ ap (λ (es : List Expr). es ++ c.in-Some.first ∷ []) c.new-exprs.ensures.items;
    })
    c.loop-expr.invariant c.loop-expr-test.ensures
