use Rattle.std.proofs.Common.{◌∙◌, sym, arith}
use Rattle.clause_faults.proofs.ways.homes.is_home.Goals as goal

pub returns-then-there-index : goal.returns-then-there-index
returns-then-there-index c = λ equal. record {
  most = (let x = c.if-there-index.true in omega (arith, x));
  same = sym c.arrivals_at.ensures ∙ c.are_same.ensures equal ∙ c.arrivals_at-then-there-index.ensures;
}
