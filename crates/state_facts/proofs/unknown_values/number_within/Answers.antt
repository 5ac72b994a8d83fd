use Rattle.std.proofs.Common.{rules, ◌≡◌, Option, [], w64, to_z, of_z, subst}
use Rattle.std.specs.Prelude.{IfOk, OnOk}
use Rattle.interval_domain.specs.Arithmetic.{near}
use Rattle.number_facts.specs.Fresh.{Made, expr_made, facts_made, fresh}
use Rattle.state_facts.specs.UnknownValues.{long_hole}
use Rattle.state_facts.proofs.UnknownSpans.{fresh_of_near}
use Rattle.state_facts.proofs.unknown_values.number_within.Goals as goal

pub returns-clause-value : goal.returns-clause-value
returns-clause-value c =
    let low : to_z w64 (of_z w64 c.nearest.result) ≡ near c.args.span.lo = search rules in
    let high : to_z w64 (of_z w64 c.nearest-2.result) ≡ near c.args.span.hi = search rules in
    let hole : c.long_hole.result ≡ long_hole c.args.span.hole = search rules in
    let is : fresh c.args.numbers.now (to_z w64 (of_z w64 c.nearest.result)) (to_z w64 (of_z w64 c.nearest-2.result)) c.long_hole.result []
    ≡ fresh c.args.numbers.now c.args.span.lo c.args.span.hi c.args.span.hole [] =
    rw (low, high, hole) (fresh_of_near c.args.numbers.now c.args.span) in
    subst (λ (m : Option Made). IfOk c.fresh.result (λ e. e ≡ expr_made m)) is c.fresh.ensures.value

pub returns-clause-facts : goal.returns-clause-facts
returns-clause-facts c =
    let low : to_z w64 (of_z w64 c.nearest.result) ≡ near c.args.span.lo = search rules in
    let high : to_z w64 (of_z w64 c.nearest-2.result) ≡ near c.args.span.hi = search rules in
    let hole : c.long_hole.result ≡ long_hole c.args.span.hole = search rules in
    let is : fresh c.args.numbers.now (to_z w64 (of_z w64 c.nearest.result)) (to_z w64 (of_z w64 c.nearest-2.result)) c.long_hole.result []
    ≡ fresh c.args.numbers.now c.args.span.lo c.args.span.hi c.args.span.hole [] =
    rw (low, high, hole) (fresh_of_near c.args.numbers.now c.args.span) in
    subst (λ (m : Option Made). OnOk c.fresh.result (c.fresh.new.self ≡ facts_made c.args.numbers.now m)) is c.fresh.ensures.facts
