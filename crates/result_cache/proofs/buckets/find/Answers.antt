use Rattle.std.proofs.Common.{arith, length, ◌-◌, ◌∙◌, sym}
use Rattle.result_cache.proofs.BucketLaws.{found_here, marked_here, none_sought, numbers_fall, sought_first, sought_next}
use Rattle.result_cache.proofs.buckets.find.Goals as goal

pub loop-link-init : goal.loop-link-init
loop-link-init c =
    sought_first c.args.bytes.now c.args.rows.now c.args.heads.now c.args.key.now c.args.hash c.head-link.result c.requires.rows
    c.requires.hash c.head-link.ensures

pub has_key-requires-clause-marked : goal.has_key-requires-clause-marked
has_key-requires-clause-marked c =
    marked_here c.args.bytes.now c.args.rows.now (length c.args.heads.now) c.args.key.now c.loop-link.link
    (c.number-in-loop-link.result - 1) c.loop-link.invariant (sym c.number-in-loop-link.ensures ∙ omega arith)

pub returns-then-has_key-clause-found : goal.returns-then-has_key-clause-found
returns-then-has_key-clause-found c =
    found_here c.args.bytes.now c.args.rows.now (length c.args.heads.now) c.args.key.now c.loop-link.link
    (c.number-in-loop-link.result - 1) c.has_key.result c.loop-link.invariant (sym c.number-in-loop-link.ensures ∙ omega arith)
    c.has_key.ensures c.if-has_key.true

pub loop-link-preserved : goal.loop-link-preserved
loop-link-preserved c =
    sought_next c.args.bytes.now c.args.rows.now c.args.heads.now c.args.key.now c.loop-link.link c.before-link.result
    (c.number-in-loop-link.result - 1) c.has_key.result c.requires.rows c.loop-link.invariant
    (sym c.number-in-loop-link.ensures ∙ omega arith) c.has_key.ensures c.if-has_key.false c.before-link.ensures

pub loop-link-smaller : goal.loop-link-smaller
loop-link-smaller c =
    numbers_fall c.args.bytes.now c.args.rows.now c.args.heads.now c.args.key.now c.loop-link.link c.before-link.result
    (c.number-in-loop-link.result - 1) c.requires.rows c.loop-link.invariant
    (sym c.number-in-loop-link.ensures ∙ omega arith) c.before-link.ensures

pub returns-clause-absent : goal.returns-clause-absent
returns-clause-absent c =
    none_sought c.args.bytes.now c.args.rows.now (length c.args.heads.now) c.args.key.now c.loop-link.link
    c.loop-link.invariant (sym c.number.ensures ∙ c.loop-link-test.false)
