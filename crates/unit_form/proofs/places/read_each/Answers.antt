use Rattle.std.proofs.Common.{rules, ◌+◌}
use Rattle.unit_form.specs.Fields.{variable_field}
use Rattle.cc_base.proofs.TestLemmas.{fault-carried}
use Rattle.unit_form.proofs.Counted.{read_next, read_fault}
use Rattle.unit_form.proofs.places.read_each.Goals as goal

pub loop-variable-preserved : goal.loop-variable-preserved
loop-variable-preserved c =
    let read = c.in_ok-read_variable.ensures in
    (rw c.in_ok-push.ensures.items (read_next (λ before. variable_field c.args.bytes.now) c.args.count c.args.start c.loop-variable._variable c.loop-variable.at (c.loop-variable.at + 1) c.loop-variable.places.items _ (search rules) c.loop-variable.invariant.0 read.0 read.1.0 read.1.1), read.1.2, search rules)

pub returns-in_err-read_variable : goal.returns-in_err-read_variable
returns-in_err-read_variable c =
    fault-carried _ _ _ _ c.from_residual-in_err-read_variable.ensures.1
    (read_fault (λ before. variable_field c.args.bytes.now) c.args.count c.args.start c.loop-variable._variable c.loop-variable.at c.loop-variable.places.items _ (search rules) c.loop-variable.invariant.0 c.in_err-read_variable.ensures)
