use Rattle.std.proofs.Common.{rules, ◌≡◌, ◌≤◌, ◌++◌, ◌∷◌, [], ◌∙◌}
use Rattle.state_facts.specs.Calls as rule
use Rattle.state_facts.proofs.Searching.{reference_more}
use Rattle.state_facts.proofs.known.Known.changed.Goals as goal

pub loop-q-preserved : goal.loop-q-preserved
loop-q-preserved c =
    let more : c.push.new.self.items ≡ c.loop-q.changed.items ++ rule.changed_at c.args.self.now c.args.passed.now c.loop-q.q ∷ [] = search rules in
    let least : 1 ≤ c.loop-q.q = search rules in
    more ∙ reference_more (rule.changed_at c.args.self.now c.args.passed.now) c.loop-q.q c.loop-q.changed.items least c.loop-q.invariant
