use Rattle.std.proofs.Common.{◌≡◌, ◌≤ℤ◌, ◌∙◌, sym, rules, w64, to_z, of_z}
use Rattle.pentagon_domain.proofs.IdleSums.{lesser_low, some_same}
use Rattle.pentagon_domain.proofs.idle.lesser.Goals as goal

pub returns-in-Some-clause-low : goal.returns-in-Some-clause-low
returns-in-Some-clause-low c = λ known low l is.
    let same : to_z w64 (of_z w64 c.min.result) ≡ c.min.result = search rules in
    let fits : to_z w64 (of_z w64 c.in-Some.low) ≡ c.in-Some.low = search rules in
    let result_is : c.min.result ≡ l = sym same ∙ some_same _ _ is in
    let bound : c.min.result ≤ℤ c.in-Some.low = rw fits at c.min.ensures.self_bound in
    lesser_low c.in-Some.low l known (rw c.in-Some.is at low) (rw result_is at bound)
