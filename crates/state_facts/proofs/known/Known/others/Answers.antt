use Rattle.std.proofs.Common.{rules, ◌≡◌, ◌≤◌, ◌++◌, ◌∷◌, [], ◌∙◌}
use Rattle.state_facts.specs.Moves as rule
use Rattle.state_facts.proofs.Searching.{reference_more}
use Rattle.state_facts.proofs.known.Known.others.Goals as goal

pub loop-q-preserved : goal.loop-q-preserved
loop-q-preserved c =
    let more : c.push.new.self.items ≡ c.loop-q.others.items ++ rule.may_be c.args.self.now c.args.r c.loop-q.q ∷ [] = search rules in
    let least : 1 ≤ c.loop-q.q = search rules in
    more ∙ reference_more (rule.may_be c.args.self.now c.args.r) c.loop-q.q c.loop-q.others.items least c.loop-q.invariant
