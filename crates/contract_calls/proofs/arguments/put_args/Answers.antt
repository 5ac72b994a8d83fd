use Rattle.std.specs.Option.{ForSome}
use Rattle.clause_trees.specs.VariableKinds.{HasSameFormsIn}
use Rattle.state_facts.specs.StateFacts.{State}
use Rattle.contract_calls.specs.Arguments.{put_args}
use Rattle.contract_calls.specs.Meaning.{KeepsArgs}
use Rattle.contract_calls.proofs.PassedArguments.{args_all_same, args_keep}
use Rattle.contract_calls.proofs.Public.{so_of_made}
use Rattle.contract_calls.proofs.arguments.put_args.Goals as goal

pub returns-clause-keeps : goal.returns-clause-keeps
returns-clause-keeps c =
    so_of_made c.put_each.result (put_args c.args.places.now c.args.state) (KeepsArgs c.args.places.now c.args.state)
    (args_keep c.args.places.now c.args.state c.put_each.ensures.form) c.put_each.ensures.ok

pub returns-clause-forms : goal.returns-clause-forms
returns-clause-forms c =
    so_of_made c.put_each.result (put_args c.args.places.now c.args.state)
    (λ (s : State). ForSome c.args.state (λ known. HasSameFormsIn known s))
    (args_all_same c.args.places.now c.args.state c.put_each.ensures.form) c.put_each.ensures.ok
