use Rattle.std.proofs.Common.{rules}
use Rattle.std.specs.Option.{ForSome}
use Rattle.tree_cases.proofs.Types.{can_be_read}
use Rattle.tree_cases.specs.Types.{AreOfTypes, IsResultOf}
use Rattle.tree_cases.proofs.reading.readable.Goals as goal

pub returns-then-is_result_of : goal.returns-then-is_result_of
returns-then-is_result_of c =
    let all : ForSome c.args.state.now (λ known. AreOfTypes known c.args.env.now.args c.args.args.now) = search rules in
    let of : ForSome c.args.state.now (λ known. IsResultOf known c.args.env.now.result c.args.of) = search rules in
    can_be_read c.args.state.now c.args.env.now c.args.args.now c.args.of c.reached.ensures.form all of
