use Rattle.invariant_codec.proofs.FaultsInside.{fault_inside}
use Rattle.invariant_codec.proofs.checking.check_invariant.Goals as goal

pub returns-clause-inside : goal.returns-clause-inside
returns-clause-inside c = fault_inside c.args.bytes.now
