use Rattle.std.proofs.Common.{rules, arith}
use Rattle.asm_writer.specs.Linked.{linked}
use Rattle.asm_writer.proofs.Lengths.{too_many, too_many_externs, past_method, past_extern}
use Rattle.asm_writer.proofs.writer.write_linked.Goals as goal
use Rattle.asm_writer.proofs.writer.write_linked.Goals.{then-len-ge-TOO_MANY_ROWS-via-then-len-ge-TOO_MANY_ROWS, then-len-ge-TOO_MANY_ROWS-via-else-len-ge-TOO_MANY_ROWS+then-not-all_within, then-externs-ge-TOO_MANY_ROWS-via-then-externs-ge-TOO_MANY_ROWS, then-externs-ge-TOO_MANY_ROWS-via-else-externs-ge-TOO_MANY_ROWS+then-not-all_short}

pub returns-then-len-ge-TOO_MANY_ROWS-clause-too_large : goal.returns-then-len-ge-TOO_MANY_ROWS-clause-too_large
returns-then-len-ge-TOO_MANY_ROWS-clause-too_large c = λ refused.
    elim c.then-len-ge-TOO_MANY_ROWS.branch [
      | then-len-ge-TOO_MANY_ROWS-via-then-len-ge-TOO_MANY_ROWS w ↦ too_many (linked c.args.plan.now c.args.assembly.now c.args.externs.now) (omega arith)
      | then-len-ge-TOO_MANY_ROWS-via-else-len-ge-TOO_MANY_ROWS+then-not-all_within w ↦ past_method (linked c.args.plan.now c.args.assembly.now c.args.externs.now) (search rules)
    ]

pub returns-then-externs-ge-TOO_MANY_ROWS-clause-too_large : goal.returns-then-externs-ge-TOO_MANY_ROWS-clause-too_large
returns-then-externs-ge-TOO_MANY_ROWS-clause-too_large c = λ refused.
    elim c.then-externs-ge-TOO_MANY_ROWS.branch [
      | then-externs-ge-TOO_MANY_ROWS-via-then-externs-ge-TOO_MANY_ROWS w ↦ too_many_externs (linked c.args.plan.now c.args.assembly.now c.args.externs.now) (omega arith)
      | then-externs-ge-TOO_MANY_ROWS-via-else-externs-ge-TOO_MANY_ROWS+then-not-all_short w ↦ past_extern (linked c.args.plan.now c.args.assembly.now c.args.externs.now) (search rules)
    ]
