use Rattle.std.proofs.Common.{sym, subst}
use Rattle.std.proofs.lemmas.Result.{err_from_is_err_and}
use Rattle.cil_model.specs.Worlds.{Agree}
use Rattle.unit_builder.proofs.WorldLemmas.{agrees, all_are_units, each_analysed, refused_least, world_is}
use Rattle.unit_builder.proofs.world.world_of.Goals as goal

pub walk-requires : goal.walk-requires
walk-requires c = record { there = c.requires.there }

pub returns-in_err-order-clause-refused : goal.returns-in_err-order-clause-refused
returns-in_err-order-clause-refused c =
    let p = err_from_is_err_and c.from_residual-in_err-order.result c.from_residual-in_err-order.ensures.1 in
    rw (p.1, p.2) (refused_least c.args.units c.args.method.0 _ _ c.in_ok-reached.ensures.whole _ c.in_err-order.field-0.0 (rw c.assembly-assembly.ensures at c.in_err-order.ensures.judged))

pub returns-clause-judged : goal.returns-clause-judged
returns-clause-judged c =
    let judged = rw c.assembly-assembly.ensures at c.in_ok-order.ensures.judged in (
      judged.0,
      world_is c.args.units c.args.method.0 _ _ c.in_ok-reached.ensures.whole _ _ _ judged.0 judged.1 c.in_ok-world_in.ensures.units c.in_ok-world_in.ensures.callee,
    )

pub returns-clause-analysed : goal.returns-clause-analysed
returns-clause-analysed c = each_analysed c.args.units c.args.method.0 _ _ c.in_ok-reached.ensures.whole (returns-clause-judged c).0

pub returns-clause-units : goal.returns-clause-units
returns-clause-units c =
    let judged = rw c.assembly-assembly.ensures at c.in_ok-order.ensures.judged in
    all_are_units c.args.units c.args.method.0 _ _ c.in_ok-reached.ensures.whole _ _ judged.1 c.in_ok-world_in.ensures.units

pub returns-clause-agree : goal.returns-clause-agree
returns-clause-agree c = subst Agree (sym (returns-clause-judged c).1) (agrees c.args.units c.args.method.0 _ _ c.in_ok-reached.ensures.whole (returns-clause-judged c).0)
