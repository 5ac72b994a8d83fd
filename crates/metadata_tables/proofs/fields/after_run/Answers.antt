use Rattle.std.proofs.Common.{arith}
use Rattle.metadata_tables.proofs.FieldLemmas.{run-fits, run-room}
use Rattle.metadata_tables.proofs.fields.after_run.Goals as goal

pub returns-then-needed-room-clause-judged : goal.returns-then-needed-room-clause-judged
returns-then-needed-room-clause-judged c = run-room c.args.count c.args.end _ c.args.start c.args.width c.requires.start (omega arith)

pub returns-clause-judged : goal.returns-clause-judged
returns-clause-judged c = (run-fits c.args.count c.args.end _ c.args.start c.args.width (omega arith), tt)
