-- The laws of join and of widening by name, for crates that cannot name the rule.
use Rattle.std.proofs.Common.{true, false, List}
use Rattle.symbolic_values.specs.declared.pairs.Key.{Key}
use Rattle.merged_numbers.specs.declared.rule.Rule.TheVariants.{Join, Widening}
use Rattle.merged_numbers.specs.Known.{Known}
use Rattle.merged_numbers.specs.Meaning.{HaveForm, Keeps}
use Rattle.merged_numbers.specs.Merging.{joined, widened}
use Rattle.merged_numbers.proofs.FormLaws.{merged_formed}
use Rattle.merged_numbers.proofs.Laws.{merged_first, merged_second}

pub joined_first : (keys : List Key) (a b : Known) → Keeps true keys a (joined keys a b)
joined_first keys a b = merged_first Join keys a b

pub joined_second : (keys : List Key) (a b : Known) → Keeps false keys b (joined keys a b)
joined_second keys a b = merged_second Join keys a b

pub widened_first : (keys : List Key) (a b : Known) → Keeps true keys a (widened keys a b)
widened_first keys a b = merged_first Widening keys a b

pub widened_second : (keys : List Key) (a b : Known) → Keeps false keys b (widened keys a b)
widened_second keys a b = merged_second Widening keys a b

pub joined_formed : (keys : List Key) (a b : Known) → HaveForm keys (joined keys a b)
joined_formed keys a b = merged_formed Join keys a b

pub widened_formed : (keys : List Key) (a b : Known) → HaveForm keys (widened keys a b)
widened_formed keys a b = merged_formed Widening keys a b
