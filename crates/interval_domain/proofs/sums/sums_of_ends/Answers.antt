use Rattle.std.proofs.Common.{◌≤ℤ◌, arith}
use Rattle.std.proofs.lemmas.Int.{ints}
use Rattle.interval_domain.proofs.Nearest.{near_sums_rise, passed}
use Rattle.interval_domain.proofs.sums.sums_of_ends.Goals as goal

pub between-requires : goal.between-requires
between-requires c =
    let a : passed c.args.a_lo ≤ℤ passed c.args.a_hi = omega (arith, ints) in
    let b : passed c.args.b_lo ≤ℤ passed c.args.b_hi = omega (arith, ints) in
    let h = near_sums_rise (passed c.args.a_lo) (passed c.args.b_lo) (passed c.args.a_hi) (passed c.args.b_hi) a b in
    let k : c.near_sum.result ≤ℤ c.near_sum-2.result = rw (c.near_sum.ensures, c.near_sum-2.ensures) h in
    omega (arith, ints)
