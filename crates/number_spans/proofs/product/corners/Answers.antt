use Rattle.std.proofs.Common.{◌≡◌, ◌∙◌, FitsSigned, rules}
use Rattle.std.specs.Int.{w128}
use Rattle.number_spans.proofs.Products.{corners_of, passed_product, low_bounded, high_bounded}
use Rattle.number_spans.specs.Product.{corners}
use Rattle.number_spans.proofs.product.corners.Goals as goal

value : (c : goal.After-spanned) → c.spanned.result ≡ corners c.args.r c.args.q
value c =
    let r = c.args.r in
    let q = c.args.q in
    let a : FitsSigned w128 r.lo = search rules in
    let b : FitsSigned w128 r.hi = search rules in
    let d : FitsSigned w128 q.lo = search rules in
    let e : FitsSigned w128 q.hi = search rules in
    let w : FitsSigned w128 c.times.result = search rules in
    let x : FitsSigned w128 c.times-2.result = search rules in
    let y : FitsSigned w128 c.times-3.result = search rules in
    let z : FitsSigned w128 c.times-4.result = search rules in
    c.spanned.ensures
    ∙ corners_of r q _ _ _ _ (passed_product r.lo q.lo c.times.result a d w c.times.ensures.value) (passed_product r.lo q.hi c.times-2.result a e x c.times-2.ensures.value)
    (passed_product r.hi q.lo c.times-3.result b d y c.times-3.ensures.value) (passed_product r.hi q.hi c.times-4.result b e z c.times-4.ensures.value)

pub returns-clause-value : goal.returns-clause-value
returns-clause-value c = value c

pub returns-clause-low : goal.returns-clause-low
returns-clause-low c = low_bounded c.spanned.result c.args.r c.args.q (value c) c.requires.first c.requires.second

pub returns-clause-high : goal.returns-clause-high
returns-clause-high c = high_bounded c.spanned.result c.args.r c.args.q (value c) c.requires.first c.requires.second
