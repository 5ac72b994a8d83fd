use Rattle.std.proofs.Common.{rules, ◌≡◌, subst, sym}
use Rattle.contract_calls.specs.Arguments.{put_args}
use Rattle.contract_calls.specs.CallForms.{CanCall}
use Rattle.contract_calls.proofs.AtCalls.{put_ready}
use Rattle.contract_calls.proofs.calls.whole.Goals as goal

pub assume_all_requires-requires-clause-ready : goal.assume_all_requires-requires-clause-ready
assume_all_requires-requires-clause-ready c =
    let put : c.in_ok-put.put ≡ put_args c.args.callee.now.args c.args.state = search rules in
    subst (CanCall c.args.callee.now) (sym put) (put_ready c.args.callee.now c.args.state c.requires.ready)
