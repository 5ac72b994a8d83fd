use Rattle.std.proofs.Common.{◌≡◌, arith, length, subst}
use Rattle.contract_extract.specs.Extracting.{ArePassed}
use Rattle.contract_extract.proofs.BlockLemmas.Passed.{none_passed}
use Rattle.contract_extract.proofs.block.read_clauses.Goals as goal

pub loop-index-init : goal.loop-index-init
loop-index-init c = rw c.new.ensures.items (none_passed c.args.instrs.now c.args.shape.now c.requires.lie)

pub returns : goal.returns
returns c =
    let last : c.loop-index.index ≡ length c.args.instrs.now = omega (arith, c.loop-index-test.false, c.loop-index.auto.index-end) in
    let block = c.loop-index.block in
    subst (λ n. ArePassed c.args.instrs.now c.args.shape.now block.clauses.items block.old_values block.first block.start n) last c.loop-index.invariant
