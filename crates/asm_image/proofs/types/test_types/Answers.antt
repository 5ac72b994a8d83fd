use Rattle.std.proofs.Common.{◌+◌, refl, sym, ◌∙◌, arith}
use Rattle.std.proofs.lemmas.Result.{err_from_is_err_and}
use Rattle.cc_base.proofs.TestLemmas.{from_on-start, from_on-next, from_on-stop, from_on-done}
use Rattle.asm_image.specs.Cells.{type_count}
use Rattle.asm_image.specs.Faults.{type_tests, types_tests}
use Rattle.asm_image.proofs.RunLemmas.{least_next, runs_rise}
use Rattle.asm_image.proofs.types.test_types.Goals as goal

pub loop-i-init : goal.loop-i-init
unfolding types_tests
loop-i-init c = record { least = refl; rest = from_on-start (type_tests c.args.metadata.now.bytes c.args.metadata.now.offset) 1 (type_count c.args.metadata.now.bytes) }

pub returns-in_err-least-clause-judged : goal.returns-in_err-least-clause-judged
returns-in_err-least-clause-judged c =
    let p = err_from_is_err_and c.from_residual.result c.from_residual.ensures.1 in
    rw (p.1, p.2) (from_on-stop (type_tests c.args.metadata.now.bytes c.args.metadata.now.offset) (c.loop-i.i + 1) (type_count c.args.metadata.now.bytes + 1) _ _ (omega arith) c.in_err-least.ensures c.loop-i.invariant.rest)

pub loop-i-preserved : goal.loop-i-preserved
loop-i-preserved c = record {
  least = c.in_ok-least.ensures.1 ∙ sym (least_next c.args.metadata.now.bytes c.loop-i.i);
  rest = from_on-next (type_tests c.args.metadata.now.bytes c.args.metadata.now.offset) (c.loop-i.i + 1) (type_count c.args.metadata.now.bytes + 1) _ (omega arith) c.in_ok-least.ensures.0 c.loop-i.invariant.rest;
}

pub returns-clause-judged : goal.returns-clause-judged
returns-clause-judged c = (from_on-done (type_tests c.args.metadata.now.bytes c.args.metadata.now.offset) (c.loop-i.i + 1) (type_count c.args.metadata.now.bytes + 1) _ (omega arith) c.loop-i.invariant.rest, tt)

pub returns-clause-rise : goal.returns-clause-rise
returns-clause-rise c =
    runs_rise c.args.metadata.now.bytes c.args.metadata.now.offset
    (from_on-done (type_tests c.args.metadata.now.bytes c.args.metadata.now.offset) (c.loop-i.i + 1) (type_count c.args.metadata.now.bytes + 1) _ (omega arith) c.loop-i.invariant.rest)
