use Rattle.std.proofs.Common.{rules}
use Rattle.number_facts.proofs.ResultLaws.{exact_within}
use Rattle.number_facts.proofs.numbers.Numbers.exact_ends.Goals as goal

pub returns-clause-sound : goal.returns-clause-sound
returns-clause-sound c =
    exact_within c.args.op c.args.self.now c.args.a c.args.b _ _ c.requires.first.there c.requires.second.there (search rules) (search rules)
