use Rattle.std.proofs.Common.{rules, map, ◌∷◌, [], ap, ◌∙◌}
use Rattle.std.proofs.lemmas.List.{map-append}
use Rattle.abs_state.specs.StateParts.{parts_of}
use Rattle.cc_base.proofs.TestLemmas.{refusal-carried}
use Rattle.invariant_codec.specs.States.{state}
use Rattle.invariant_codec.proofs.Counted.{read_next, read_fault}
use Rattle.invariant_codec.proofs.states.read_each.Goals as goal

pub loop-state-preserved : goal.loop-state-preserved
loop-state-preserved c =
    let read = c.in_ok-state.ensures in
    let one_more = ap (map parts_of) c.in_ok-push.ensures.items
    ∙ map-append parts_of c.loop-state.states.items (c.in_ok-state.state ∷ []) in (
      rw one_more (read_next (λ before. state.read c.args.bytes.now) c.args.count c.args.start c.loop-state._state
          c.loop-state.at c.in_ok-state.next (map parts_of c.loop-state.states.items) _
          (search rules) c.loop-state.invariant.0 read.0 read.1.0 read.1.1),
      read.1.2,
    )

pub returns-in_err-state : goal.returns-in_err-state
returns-in_err-state c =
    refusal-carried _ _ _ _ _ _ c.from_residual.ensures.1 c.in_err-state.ensures
    (λ fault failed. read_fault (λ before. state.read c.args.bytes.now) c.args.count c.args.start c.loop-state._state
    c.loop-state.at (map parts_of c.loop-state.states.items) fault (search rules) c.loop-state.invariant.0 failed)
