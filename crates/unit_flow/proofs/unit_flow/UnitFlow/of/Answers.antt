use Rattle.machine_points.proofs.PointsKeep.{runs_have_values}
use Rattle.unit_flow.proofs.KindsAlong.{makes}
use Rattle.unit_flow.proofs.OnTheWay.{runs_go_along}
use Rattle.unit_flow.proofs.unit_flow.UnitFlow.of.Goals as goal

pub returns-clause-values : goal.returns-clause-values
returns-clause-values c = runs_have_values c.in_ok-code.code.unit (makes c.in_ok-code.code c.in_ok-code.ensures.lawful)

pub returns-clause-runs : goal.returns-clause-runs
returns-clause-runs c = runs_go_along c.in_ok-code.code c.in_ok-code.ensures.lawful
