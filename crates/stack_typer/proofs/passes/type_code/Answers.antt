use Rattle.stack_typer.proofs.Answered.{answer_fault, answer_judged, answer_only}
use Rattle.stack_typer.proofs.passes.type_code.Goals as goal

pub returns-clause-only : goal.returns-clause-only
returns-clause-only c = answer_only c.args.shape.now c.args.instrs.now c.settled_kinds.result c.settled_kinds.ensures.ok c.settled_kinds.ensures.err

pub returns-clause-only_fault : goal.returns-clause-only_fault
returns-clause-only_fault c = answer_fault c.args.shape.now c.args.instrs.now c.settled_kinds.result c.settled_kinds.ensures.ok c.settled_kinds.ensures.err

pub returns-clause-judged : goal.returns-clause-judged
returns-clause-judged c = answer_judged c.args.shape.now c.args.instrs.now c.settled_kinds.result c.settled_kinds.ensures.ok c.settled_kinds.ensures.err
