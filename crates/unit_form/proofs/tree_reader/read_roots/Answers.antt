use Rattle.std.proofs.Common.{◌≡◌, ◌-◌, ap, ◌∙◌, rules, arith, map, length}
use Rattle.cc_base.proofs.TestLemmas.{fault-carried}
use Rattle.unit_form.specs.Roots.{told}
use Rattle.unit_form.proofs.RootsRead.{none_kept, root_next, root_fault, roots_end, roots_cut, kept_told}
use Rattle.unit_form.proofs.tree_reader.read_roots.Goals as goal

pub loop-root-init : goal.loop-root-init
loop-root-init c =
    let whole : length c.args.bytes.now - 0 ≡ length c.args.bytes.now = omega arith in
    (rw (whole, c.new-roots.ensures.items) (none_kept c.args.form c.args.bytes.now c.args.start), search rules, search rules)

pub returns-then-trees-eq0 : goal.returns-then-trees-eq0
returns-then-trees-eq0 c =
    let all = roots_end c.args.form c.args.bytes.now c.args.start (map told c.loop-root.roots.items) _ c.loop-root.trees c.loop-root.at (search rules) c.loop-root.invariant.0 in
    (all.tests, (all.value, all.next, c.loop-root.invariant.1))

pub returns-in_err-root : goal.returns-in_err-root
returns-in_err-root c =
    fault-carried _ _ _ _ c.from_residual.ensures.1
    (root_fault c.args.form c.args.bytes.now c.args.start (map told c.loop-root.roots.items) (length c.args.bytes.now) c.loop-root._root c.loop-root.trees c.loop-root.at _ (search rules) (search rules) c.loop-root.invariant.0 c.in_err-root.ensures)

pub loop-root-preserved : goal.loop-root-preserved
loop-root-preserved c =
    let read = c.in_ok-root.ensures in
    let kept = ap (map told) c.in_ok-keep.ensures ∙ kept_told c.loop-root.roots.items c.in_ok-root.root in (
      rw c.arity.ensures.arity
          (root_next c.args.form c.args.bytes.now c.args.start (map told c.loop-root.roots.items) _ (length c.args.bytes.now) c.loop-root._root c.loop-root.trees c.loop-root.at c.in_ok-root.next (told c.in_ok-root.root)
          (search rules) (search rules) c.loop-root.invariant.0 read.0 read.1.0 read.1.1 kept),
      read.1.2,
      omega (arith, c.arity.ensures.few, c.loop-root.invariant.2),
    )

pub returns-then-trees-eq0-2 : goal.returns-then-trees-eq0-2
returns-then-trees-eq0-2 c =
    let all = roots_end c.args.form c.args.bytes.now c.args.start (map told c.loop-root.roots.items) _ c.loop-root.trees c.loop-root.at (search rules) c.loop-root.invariant.0 in
    (all.tests, (all.value, all.next, c.loop-root.invariant.1))

pub returns : goal.returns
returns c =
    rw c.into.ensures
    (roots_cut c.args.form c.args.bytes.now c.args.start (map told c.loop-root.roots.items) (length c.args.bytes.now) c.loop-root._root c.loop-root.trees c.loop-root.at c.loop-root-test.false (search rules) c.loop-root.invariant.0)
