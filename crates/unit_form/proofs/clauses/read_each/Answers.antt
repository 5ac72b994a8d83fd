use Rattle.std.proofs.Common.{◌≡◌, arith, rules, None}
use Rattle.cc_base.specs.Tests.{first_of}
use Rattle.cc_base.proofs.TestLemmas.{refusal-carried}
use Rattle.unit_form.specs.Callees.{next_clause}
use Rattle.unit_form.proofs.ClausesRead.{one_more_old}
use Rattle.unit_form.proofs.Counted.{read_next, read_fault}
use Rattle.unit_form.proofs.clauses.read_each.Goals as goal

pub loop-clause-preserved : goal.loop-clause-preserved
loop-clause-preserved c =
    let e = c.loop-clause.invariant.2 in
    let passed : first_of (next_clause c.args.list c.args.form c.args.args.now c.args.result_place c.args.bytes.now c.loop-clause.clauses.items c.loop-clause.at).tests ≡ None = rw (← e) c.in_ok-clause.ensures.0 in
    let value : c.in_ok-clause.clause ≡ (next_clause c.args.list c.args.form c.args.args.now c.args.result_place c.args.bytes.now c.loop-clause.clauses.items c.loop-clause.at).value = rw (← e) c.in_ok-clause.ensures.1.0.0 in
    let next : c.in_ok-clause.next ≡ (next_clause c.args.list c.args.form c.args.args.now c.args.result_place c.args.bytes.now c.loop-clause.clauses.items c.loop-clause.at).next = rw (← e) c.in_ok-clause.ensures.1.0.1 in (
      rw c.in_ok-push.ensures.items (read_next (next_clause c.args.list c.args.form c.args.args.now c.args.result_place c.args.bytes.now) c.args.count c.args.start c.loop-clause._clause c.loop-clause.at c.in_ok-clause.next c.loop-clause.clauses.items _ (search rules) c.loop-clause.invariant.0 passed value next),
      c.in_ok-clause.ensures.1.0.2,
      rw (c.in_ok-push.ensures.items, one_more_old c.loop-clause.clauses.items c.in_ok-clause.clause, c.old_count-olds.ensures.count, e) search,
      omega (arith, c.in_ok-clause.ensures.1.1, c.old_count-olds.ensures.count),
    )

pub returns-in_err-clause : goal.returns-in_err-clause
returns-in_err-clause c =
    let e = c.loop-clause.invariant.2 in
    refusal-carried _ _ _ _ _ _ c.from_residual-in_err-clause.ensures.1 c.in_err-clause.ensures
    (λ fault failed. read_fault (next_clause c.args.list c.args.form c.args.args.now c.args.result_place c.args.bytes.now) c.args.count c.args.start c.loop-clause._clause c.loop-clause.at c.loop-clause.clauses.items fault (search rules) c.loop-clause.invariant.0 (rw (← e) failed))
