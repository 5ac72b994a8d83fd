-- The two ways to make one range of two, as the code names them.
use Rattle.interval_domain.specs.Joins.{hull, widened}
use Rattle.array_contents.specs.Merging as merging
use Rattle.array_contents.specs.declared.merging.Making.{Making}
use Rattle.array_contents.specs.declared.merging.Making.TheVariants.{Hull, Widening}

abbrev pub making : Making → merging.Making
making Hull = hull
making Widening = widened
