use Rattle.std.proofs.Common.{ap, subst}
use Rattle.number_facts.specs.Facts.{Facts}
use Rattle.number_facts.specs.Results.{AreExactEnds}
use Rattle.state_facts.specs.StateFacts.{StateFacts}
use Rattle.state_facts.proofs.ResultsHold.{exact_ends_hold}
use Rattle.abs_state.proofs.state.AbsState.exact_ends.Goals as goal

pub returns-clause-sound : goal.returns-clause-sound
returns-clause-sound c =
    let ends = c.exact_ends.result in
    exact_ends_hold c.args.op c.args.a c.args.b c.args.self.now c.known.result.now ends.0 ends.1 c.known.ensures.value c.known.ensures.form
    (subst (λ (f : Facts). AreExactEnds c.args.op c.args.a c.args.b f ends.0 ends.1)
    (ap (λ (known : StateFacts). known.facts) (c.behind-self.view_is)) c.exact_ends.ensures.sound)
