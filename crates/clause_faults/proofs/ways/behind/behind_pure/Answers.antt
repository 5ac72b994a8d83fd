use Rattle.std.proofs.Common.{sym, ◌∙◌}
use Rattle.std.proofs.lemmas.Result.{IfOk-weaker}
use Rattle.clause_faults.proofs.WayLemmas.BehindLemmas.{compared_read, other_read}
use Rattle.clause_faults.proofs.ways.behind.behind_pure.Goals as goal

pub returns-then-is_comparing : goal.returns-then-is_comparing
returns-then-is_comparing c =
    IfOk-weaker c.rests_of_two.result _ _
    (λ out made. compared_read c.args.shape.now c.args.instr.now c.args.stacks.now c.args.index c.as_slice-args.result.now c.arrivals_at-tops.result.now
    c.as_slice-args.ensures c.arrivals_at-tops.ensures out (sym c.is_comparing.ensures ∙ c.if-is_comparing.true) made)
    c.rests_of_two.ensures

pub returns : goal.returns
returns c =
    IfOk-weaker c.behind_other.result _ _
    (λ out made. other_read c.args.shape.now c.args.instr.now c.args.stacks.now c.args.index c.as_slice-args.result.now c.arrivals_at-tops.result.now
    c.as_slice-args.ensures c.arrivals_at-tops.ensures c.home-home.result out c.home-home.ensures (sym c.is_comparing.ensures ∙ c.if-is_comparing.false) made)
    c.behind_other.ensures
