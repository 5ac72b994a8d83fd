-- The two ways to merge two states, as the code names them.
use Rattle.merged_states.specs.Merging.{Rule, joining, widening}
use Rattle.merged_states.specs.declared.merging.Merging.{Merging}
use Rattle.merged_states.specs.declared.merging.Merging.TheVariants.{Join, Widening}

abbrev pub rule_of : Merging → Rule
rule_of Join = joining
rule_of Widening = widening
