use Rattle.std.proofs.Common.{◌≡◌, drop, nat_eq}
use Rattle.std.specs.Prelude.{fold}
use Rattle.indexmap.specs.IndexSet.{insert_key}
use Rattle.method_code.specs.Called.{callees_of, calls_in}
use Rattle.method_code.proofs.callees.CalleeSet.of.Given as goal

abbrev pub invariant-loop-instr : goal.invariant-loop-instr
invariant-loop-instr g l =
    let meaning = g.T.Tokens.meaning l.tokens in
    fold (insert_key nat_eq) l.set.keys (calls_in meaning (drop l.instr-index l.instrs)) ≡ callees_of meaning l.instrs
