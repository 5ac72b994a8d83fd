use Rattle.std.proofs.Common.{◌≡◌, rules, subst, map, take, reverse}
use Rattle.cil_model.specs.TermCodes.{terms_of}
use Rattle.unit_form.specs.Roots.{told}
use Rattle.unit_form.proofs.Taking.{terms_onto, onto_step, onto_end}
use Rattle.unit_form.proofs.tree_builder.tree_of_roots.Goals as goal

pub loop-left-preserved : goal.loop-left-preserved
loop-left-preserved c =
    (onto_step c.args.roots.now c.loop-left.left _ c.loop-left.trees.items c.put_root.new.trees.items (search rules) c.loop-left.invariant.1 c.in_ok-put_root.ensures c.loop-left.invariant.0, search rules)

pub returns-in-Some : goal.returns-in-Some
returns-in-Some c =
    let none : c.loop-left.left ≡ 0 = search rules in
    onto_end c.args.roots.now c.loop-left.trees.items _ c.in-Some.tree c.in-Some.ensures.items
    (subst (λ n. terms_onto (map told (take n c.args.roots.now)) (reverse c.loop-left.trees.items) ≡ terms_of (map told c.args.roots.now)) none c.loop-left.invariant.0)
