use Rattle.std.proofs.Common.{◌+◌, arith}
use Rattle.std.proofs.lemmas.Result.{err_from_is_err_and}
use Rattle.cc_base.proofs.TestLemmas.{from_on-start, from_on-next, from_on-stop, from_on-done}
use Rattle.asm_image.specs.Cells.{method_count}
use Rattle.asm_image.specs.Faults.{method_tests, methods_tests}
use Rattle.asm_image.proofs.methods.test_methods.Goals as goal

pub loop-i-init : goal.loop-i-init
unfolding methods_tests
loop-i-init c = from_on-start (method_tests c.args.metadata.now.bytes c.args.metadata.now.offset) 1 (method_count c.args.metadata.now.bytes)

pub returns-in_err-test_method : goal.returns-in_err-test_method
returns-in_err-test_method c =
    let p = err_from_is_err_and c.from_residual.result c.from_residual.ensures.1 in
    rw (p.1, p.2) (from_on-stop (method_tests c.args.metadata.now.bytes c.args.metadata.now.offset) (c.loop-i.i + 1) (method_count c.args.metadata.now.bytes + 1) _ _ (omega arith) c.in_err-test_method.ensures c.loop-i.invariant)

pub loop-i-preserved : goal.loop-i-preserved
loop-i-preserved c =
    from_on-next (method_tests c.args.metadata.now.bytes c.args.metadata.now.offset) (c.loop-i.i + 1) (method_count c.args.metadata.now.bytes + 1) _ (omega arith) c.in_ok-test_method.ensures.0 c.loop-i.invariant

pub returns : goal.returns
returns c = (from_on-done (method_tests c.args.metadata.now.bytes c.args.metadata.now.offset) (c.loop-i.i + 1) (method_count c.args.metadata.now.bytes + 1) _ (omega arith) c.loop-i.invariant, tt)
