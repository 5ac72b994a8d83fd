use Rattle.std.proofs.Common.{◌≡◌, ◌-◌, ◌||◌, ap, ◌∙◌, arith}
use Rattle.alias_facts.specs.PairsOf.{contains, pairs_up_to}
use Rattle.alias_facts.proofs.SortingLaws.{pushed_more}
use Rattle.alias_facts.proofs.sorting.push_row.Goals as goal

pub loop-lower-preserved : goal.loop-lower-preserved
loop-lower-preserved c = record {
  so_far = pushed_more c.loop-lower.lower c.args.reference c.args.pairs.now.items c.loop-lower.pairs.items c.push.new.self.items
      (omega (arith, c.loop-lower.invariant.positive)) c.in_ok-push.ensures.items c.loop-lower.invariant.so_far;
  positive = omega arith;
  within = omega (arith, c.loop-lower-test.true);
}

pub returns : goal.returns
returns c = λ q.
    let end : c.loop-lower.lower - 1 ≡ c.args.reference - 1 = omega arith in
    c.loop-lower.invariant.so_far q ∙ ap (λ n. contains (pairs_up_to n c.args.reference) q || contains c.args.pairs.now.items q) end
