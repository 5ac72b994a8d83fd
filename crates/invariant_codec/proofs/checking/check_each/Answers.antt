use Rattle.std.proofs.Common.{None, Some, refl, rules}
use Rattle.cc_base.proofs.TestLemmas.{refusal-carried}
use Rattle.invariant_codec.specs.States.{state}
use Rattle.invariant_codec.proofs.Passed.{all_left, all_passed, passed_fault, passed_next}
use Rattle.invariant_codec.proofs.checking.check_each.Goals as goal

pub loop-state-init : goal.loop-state-init
loop-state-init c =
    ((None, all_left (λ last. state.read c.args.bytes.now) c.args.count c.args.start), c.requires.inside)

pub loop-state-preserved : goal.loop-state-preserved
loop-state-preserved c =
    let read = c.in_ok-next.ensures in
    let before = c.loop-state.invariant.0 in (
      (
        Some (state.read c.args.bytes.now c.loop-state.at).value,
        passed_next (λ last. state.read c.args.bytes.now) c.args.count c.args.start c.loop-state._state
            c.loop-state.at c.in_ok-next.next before.0 _ (search rules) before.1 read.0 refl read.1.0,
      ),
      read.1.1,
    )

pub returns-in_err-next : goal.returns-in_err-next
returns-in_err-next c =
    let before = c.loop-state.invariant.0 in
    refusal-carried _ _ _ _ _ _ c.from_residual.ensures.1 c.in_err-next.ensures
    (λ fault failed. passed_fault (λ last. state.read c.args.bytes.now) c.args.count c.args.start c.loop-state._state
    c.loop-state.at before.0 fault (search rules) before.1 failed)

pub returns : goal.returns
returns c =
    let before = c.loop-state.invariant.0 in
    let all = all_passed (λ last. state.read c.args.bytes.now) c.args.count c.args.start c.loop-state._state
    c.loop-state.at before.0 (search rules) before.1 in
    (all.tests, (all.next, c.loop-state.invariant.1))
