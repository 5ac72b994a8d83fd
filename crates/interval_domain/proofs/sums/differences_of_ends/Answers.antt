use Rattle.std.proofs.Common.{◌≤ℤ◌, arith}
use Rattle.std.proofs.lemmas.Int.{ints}
use Rattle.interval_domain.proofs.Nearest.{near_differences_rise, passed}
use Rattle.interval_domain.proofs.sums.differences_of_ends.Goals as goal

pub between-requires : goal.between-requires
between-requires c =
    let a : passed c.args.a_lo ≤ℤ passed c.args.a_hi = omega (arith, ints) in
    let b : passed c.args.b_lo ≤ℤ passed c.args.b_hi = omega (arith, ints) in
    let h = near_differences_rise (passed c.args.a_lo) (passed c.args.b_hi) (passed c.args.a_hi) (passed c.args.b_lo) a b in
    let k : c.near_difference.result ≤ℤ c.near_difference-2.result = rw (c.near_difference.ensures, c.near_difference-2.ensures) h in
    omega (arith, ints)
