use Rattle.std.specs.Option.{ForSome}
use Rattle.clause_trees.specs.VariableKinds.{HasSameFormsIn}
use Rattle.state_facts.specs.StateFacts.{State}
use Rattle.contract_calls.specs.Arguments.{put_result}
use Rattle.contract_calls.specs.Meaning.{KeepsResult}
use Rattle.contract_calls.proofs.AtReturns.{result_all_same, result_keeps}
use Rattle.contract_calls.proofs.Public.{so_of_made}
use Rattle.contract_calls.proofs.arguments.put_result.Goals as goal

pub returns-clause-keeps : goal.returns-clause-keeps
returns-clause-keeps c =
    so_of_made c.put_one.result (put_result c.args.place c.args.state) (KeepsResult c.args.place c.args.state)
    (result_keeps c.args.place c.args.state c.put_one.ensures.form) c.put_one.ensures.ok

pub returns-clause-forms : goal.returns-clause-forms
returns-clause-forms c =
    so_of_made c.put_one.result (put_result c.args.place c.args.state)
    (λ (s : State). ForSome c.args.state (λ known. HasSameFormsIn known s))
    (result_all_same c.args.place c.args.state c.put_one.ensures.form) c.put_one.ensures.ok
