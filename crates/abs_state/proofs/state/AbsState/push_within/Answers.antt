use Rattle.state_facts.specs.StateFacts.{State}
use Rattle.state_facts.specs.UnknownValues as calls
use Rattle.state_facts.specs.UnknownValues.{KeepsWithin}
use Rattle.state_facts.proofs.UnknownValues.{within_is_kept}
use Rattle.abs_state.proofs.KeptWhereOk.{kept_where_ok}
use Rattle.abs_state.proofs.state.AbsState.push_within.Goals as goal

pub returns-clause-keeps : goal.returns-clause-keeps
returns-clause-keeps c =
    kept_where_ok c.push_number_within.result (λ (s : State). KeepsWithin c.args.span c.args.self.now s) (calls.push_within c.args.span c.args.self.now)
    c.push_number_within.new.self (within_is_kept c.args.span c.args.self.now c.push_number_within.ensures.form) c.push_number_within.ensures.ok
