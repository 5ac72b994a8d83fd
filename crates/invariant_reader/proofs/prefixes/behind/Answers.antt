use Rattle.std.proofs.Common.{refl}
use Rattle.invariant_reader.proofs.PrefixLemmas.{stripped}
use Rattle.invariant_reader.proofs.prefixes.behind.Goals as goal

pub returns : goal.returns
returns c =
    stripped _ (λ a b. refl) c.args.prefix.now c.args.text.now c.strip_prefix.result c.strip_prefix.ensures.cases
