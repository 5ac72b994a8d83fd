use Rattle.transfer_rules.proofs.Inducing.{inductive_where}
use Rattle.transfer_rules.proofs.induction.is_inductive.Goals as goal

pub returns : goal.returns
returns c = record {
  exact = inductive_where c.all_carried.result c.args.code.now c.args.states.now
      (c.in_ok-are_begun.ensures.0 c.if-not-branch.false) c.all_carried.ensures;
}
