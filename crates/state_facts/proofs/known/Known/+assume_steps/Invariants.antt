use Rattle.state_facts.proofs.known.Known.+assume_steps.Given as goal

abbrev pub decreases-assume_steps : goal.decreases-assume_steps
decreases-assume_steps l = l.steps
