use Rattle.std.proofs.Common.{length}
use Rattle.clause_faults.specs.Faults.{code_faults, first_fault}
use Rattle.clause_faults.proofs.WayLemmas.Beginning.{all_passed, begun, next_found, there_too}
use Rattle.clause_faults.proofs.clause_code.pass_code.Goals as goal

pub loop-index-init : goal.loop-index-init
loop-index-init c =
    let clause = c.args.clause.now in
    begun (length clause.code.now) clause.instrs.now clause.shape.now clause.first clause.start clause.closing.now clause.code.now c.args.stacks.now c.requires.clause c.requires.stacks

pub pass_instr-requires-clause-there : goal.pass_instr-requires-clause-there
pass_instr-requires-clause-there c =
    let clause = c.args.clause.now in
    there_too clause.instrs.now clause.first clause.code.now c.loop-index.index _ c.requires.clause.lies c.loop-index-test.true

pub loop-index-preserved : goal.loop-index-preserved
loop-index-preserved c =
    let clause = c.args.clause.now in
    next_found clause.instrs.now clause.shape.now clause.first clause.start clause.closing.now clause.code.now c.requires.clause c.loop-index.index _ c.loop-index-test.true
    (first_fault (code_faults clause.instrs.now clause.shape.now clause.start clause.closing.now clause.code.now))
    c.loop-index.first c.in_ok-found.found c.either-first.result c.loop-index.stacks c.pass_instr.new.stacks c.in_ok-found.ensures c.either-first.ensures c.loop-index.invariant

pub returns : goal.returns
returns c =
    let clause = c.args.clause.now in
    all_passed clause.instrs.now clause.shape.now clause.start clause.closing.now clause.code.now c.loop-index.index
    (first_fault (code_faults clause.instrs.now clause.shape.now clause.start clause.closing.now clause.code.now)) c.loop-index.first c.loop-index.stacks
    c.loop-index-test.false c.loop-index.invariant
