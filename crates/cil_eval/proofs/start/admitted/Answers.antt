use Rattle.std.proofs.Common.{◌≡◌, ◌≤◌, List, true, length, ap, sym, ◌∙◌, arith}
use Rattle.cil_model.specs.Calls.{clauses_in_force}
use Rattle.cil_model.specs.Limits.{MAX_VARIABLES}
use Rattle.cil_model.specs.declared.place.Place.{Place}
use Rattle.cil_eval.specs.Given.{args_fit}
use Rattle.cil_eval.proofs.StartLemmas.{fit_long}
use Rattle.cil_eval.proofs.TurnLemmas.{runnable}
use Rattle.cil_eval.proofs.start.admitted.Goals as goal

pub put_values_of-requires-clause-few : goal.put_values_of-requires-clause-few
put_values_of-requires-clause-few c =
    let runs = runnable c.args.world.now c.args.index c.in-Some.unit.now c.requires.runnable c.in-Some.ensures in
    let fit : args_fit c.in-Some.unit.now.args c.args.args.now ≡ true = ap (λ (types : List Place). args_fit types c.args.args.now) (sym c.as_slice.ensures) ∙ sym c.if-not-args_fit.ensures in
    let long = fit_long c.in-Some.unit.now.args c.args.args.now fit in
    omega (arith, long, runs.args)

pub put_values_of-requires-clause-room : goal.put_values_of-requires-clause-room
put_values_of-requires-clause-room c =
    let few : length c.args.args.now ≤ MAX_VARIABLES = put_values_of-requires-clause-few c in
    rw c.clear.ensures (omega (arith, few, c.requires.room))

pub false_requires-requires-clause-clauses : goal.false_requires-requires-clause-clauses
false_requires-requires-clause-clauses c =
    let runs = runnable c.args.world.now c.args.index c.in-Some.unit.now c.requires.runnable c.in-Some.ensures in
    let many : length c.clauses_in_force.result.now ≡ length (clauses_in_force c.in-Some.unit.now) = ap length c.clauses_in_force.ensures in
    omega (arith, many, runs.clauses)
