use Rattle.std.proofs.Common.{ap, Some}
use Rattle.std.specs.Fmt.{decimal}
use Rattle.run_arguments.proofs.NumberLemmas.{parsed_number, unparsed_number, unshown}
use Rattle.run_arguments.proofs.number.parse_number.Goals as goal

pub returns-in_default-clause-every : goal.returns-in_default-clause-every
returns-in_default-clause-every c = λ n h e.
    absurd (unparsed_number _ c.parse.result _ n c.parse.ensures.value.0 c.in_default.is h e)

pub returns-then-eq-clause-every : goal.returns-then-eq-clause-every
returns-then-eq-clause-every c = λ n h e. ap Some (parsed_number _ c.parse.result _ n c.parse.ensures.value.0 c.in-Ok.is h e)

pub returns-clause-every : goal.returns-clause-every
returns-clause-every c = λ n h e.
    let same = parsed_number _ c.parse.result _ n c.parse.ensures.value.0 c.in-Ok.is h e in
    absurd (unshown decimal _ _ _ n _ same e c.format.ensures.text c.eq.ensures c.if-eq.false)
