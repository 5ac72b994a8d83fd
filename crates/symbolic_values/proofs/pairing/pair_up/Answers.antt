use Rattle.std.proofs.Common.{◌≤◌, length, sym, subst}
use Rattle.std.specs.List.{AllByRecursion}
use Rattle.std.proofs.lemmas.Result.{IfOk-weaker}
use Rattle.domain_api.specs.declared.expr.Expr.{Expr}
use Rattle.symbolic_values.specs.Pairing.{Pairing}
use Rattle.symbolic_values.specs.Worth.{AreWorthBoth}
use Rattle.symbolic_values.proofs.WorthLaws.{paired_there, paired_worth}
use Rattle.symbolic_values.proofs.pairing.pair_up.Goals as goal

pub returns-clause-worth : goal.returns-clause-worth
returns-clause-worth c =
    IfOk-weaker c.pair_envs.result _ _
    (λ pairs is. subst (AreWorthBoth c.args.a.now c.args.b.now) (sym is) (λ is_first number. paired_worth is_first number c.args.a.now c.args.b.now c.requires.same_length))
    c.pair_envs.ensures

pub returns-clause-named : goal.returns-clause-named
returns-clause-named c =
    IfOk-weaker c.pair_envs.result _ _
    (λ pairs is. subst (λ (p : Pairing). AllByRecursion (λ (e : Expr). e.sym ≤ length p.keys) p.exprs) (sym is) (paired_there c.args.a.now c.args.b.now)) c.pair_envs.ensures
