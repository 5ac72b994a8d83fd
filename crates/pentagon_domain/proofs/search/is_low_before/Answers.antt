use Rattle.std.proofs.Common.{◌≡◌, ◌+◌, ◌-◌, ◌<◌, length, arith}
use Rattle.pentagon_domain.proofs.Searches.{low_before}
use Rattle.pentagon_domain.proofs.search.is_low_before.Goals as goal

pub returns-else-place-eq0-clause-low : goal.returns-else-place-eq0-clause-low
returns-else-place-eq0-clause-low c = λ yes.
    let rows = c.args.rows.now in
    let last : (c.args.place - 1) + 1 ≡ c.args.place = omega (arith, c.if-place-eq0.false) in
    let inside : (c.args.place - 1) < length rows = omega (arith, last, c.if-rows-place.false) in
    low_before rows c.args.n (c.args.place - 1) c.args.place _ c.requires last inside (rw c.from.ensures at yes)
