use Rattle.merged_numbers.specs.Known.{known}
use Rattle.merged_numbers.proofs.InclusionLaws.{included_so}
use Rattle.merged_numbers.proofs.inclusion.includes.Goals as goal

pub returns-clause-holds : goal.returns-clause-holds
returns-clause-holds c =
    included_so (known c.args.a.now) c.args.binding.now c.args.ranges.now c.args.bounds.now c.is_included.result c.is_included.ensures
