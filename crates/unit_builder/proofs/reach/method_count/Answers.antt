use Rattle.std.proofs.Common.{sym, arith}
use Rattle.unit_builder.proofs.TokenLemmas.{last_token}
use Rattle.unit_builder.proofs.reach.method_count.Goals as goal

pub index_of-requires : goal.index_of-requires
index_of-requires c = record { from = (last_token c.args.assembly.now c.in-Some.last.now (rw c.methods.ensures.methods at (sym c.in-Some.ensures.value))).0 }

pub returns-in-Some : goal.returns-in-Some
returns-in-Some c =
    let last = last_token c.args.assembly.now c.in-Some.last.now (rw c.methods.ensures.methods at (sym c.in-Some.ensures.value)) in
    record { value = omega arith; short = omega arith }
