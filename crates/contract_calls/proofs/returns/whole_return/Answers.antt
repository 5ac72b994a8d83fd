use Rattle.std.proofs.Common.{subst, sym}
use Rattle.contract_calls.specs.CallForms.{CanReturn}
use Rattle.contract_calls.proofs.AtReturns.{result_ready}
use Rattle.contract_calls.proofs.returns.whole_return.Goals as goal

pub assume_all_ensures-requires-clause-ready : goal.assume_all_ensures-requires-clause-ready
assume_all_ensures-requires-clause-ready c =
    subst (CanReturn c.args.unit.now) (sym c.in_ok-put.ensures.value)
    (result_ready c.args.unit.now c.args.state c.requires.ready)
