use Rattle.std.proofs.lemmas.Result.{on_ok_weaker}
use Rattle.widening_engine.specs.Limits.{unit_flow}
use Rattle.widening_engine.proofs.EveryEdge.{every_most, every_ticked}
use Rattle.widening_engine.proofs.plain.PlainFinder.find.Goals as goal

pub returns-clause-most : goal.returns-clause-most
returns-clause-most c = every_most (unit_flow c.args.code.now) _ _ c.find_invariant.ensures.work

pub returns-clause-ticked : goal.returns-clause-ticked
returns-clause-ticked c = on_ok_weaker c.find_invariant.result (λ ticked. every_ticked (unit_flow c.args.code.now) _ _ ticked) c.find_invariant.ensures.ticked
