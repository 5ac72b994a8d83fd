use Rattle.std.proofs.Common.{nat_le, ◌∙◌}
use Rattle.std.proofs.lemmas.List.Kept.{IsNonDecreasingBy-filter}
use Rattle.pentagon_domain.proofs.Searches.{from_and_up_to}
use Rattle.number_facts.proofs.differences.subtracting.Goals as goal

pub subtracting_up_to-requires : goal.subtracting_up_to-requires
subtracting_up_to-requires c =
    rw c.subtracting_from.ensures
    (IsNonDecreasingBy-filter (λ d. d.subtrahend.sym) (λ d. nat_le c.args.y d.subtrahend.sym) c.args.differences.now c.requires)

pub returns : goal.returns
returns c = c.subtracting_up_to.ensures ∙ (rw c.subtracting_from.ensures (from_and_up_to (λ d. d.subtrahend.sym) c.args.differences.now c.args.y))
