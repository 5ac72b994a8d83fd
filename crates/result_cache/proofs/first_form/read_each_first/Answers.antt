use Rattle.std.proofs.Common.{arith}
use Rattle.cc_base.proofs.TestLemmas.{refusal-carried}
use Rattle.result_cache.proofs.FirstWalk.{all_walked, walked_fault, walked_next}
use Rattle.result_cache.proofs.first_form.read_each_first.Goals as goal

pub loop-entry-preserved : goal.loop-entry-preserved
loop-entry-preserved c =
    let walked = c.loop-entry.invariant in
    let read = c.in_ok-next.ensures walked.before walked.held in
    walked_next c.args.bytes.now c.args.count c.loop-entry._entry c.loop-entry.at c.in_ok-next.next
    c.loop-entry.held.seconds c.loop-entry.held.others c.read_first_entry.new.held.seconds c.read_first_entry.new.held.others
    c.loop-entry-test.true walked read.0 read.1.0 read.1.1

pub returns-in_err-next : goal.returns-in_err-next
returns-in_err-next c =
    let walked = c.loop-entry.invariant in
    refusal-carried _ _ _ _ _ _ c.from_residual-in_err-next.ensures.1 (c.in_err-next.ensures walked.before walked.held)
    (λ fault failed. walked_fault c.args.bytes.now c.args.count c.loop-entry._entry c.loop-entry.at c.loop-entry.held.seconds
    c.loop-entry.held.others fault c.loop-entry-test.true walked failed)

pub returns : goal.returns
returns c =
    let all = all_walked c.args.bytes.now c.args.count c.loop-entry._entry c.loop-entry.at c.loop-entry.held.seconds
    c.loop-entry.held.others (omega (arith, c.loop-entry-test.false)) c.loop-entry.invariant in
    (all.tests, (all.same, all.next, all.firsts))
