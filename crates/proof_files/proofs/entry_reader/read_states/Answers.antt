use Rattle.std.proofs.Common.{ℕ, Global, List, Option, Vec, option_map, subst}
use Rattle.invariant_reader.specs.Reading.{IsReadAs, IsTextOf}
use Rattle.state_facts.specs.StateFacts.{State}
use Rattle.proof_files.proofs.EntryReading.{shape_none}
use Rattle.proof_files.proofs.entry_reader.read_states.Goals as goal

pub returns-else-has_shape : goal.returns-else-has_shape
returns-else-has_shape c =
    let is = subst (λ (read : Option (Vec State Global)). IsReadAs c.args.code.now.unit c.as_slice-blocks.result.now
    c.args.lines.now (option_map (λ states. states.items) read)) c.in-Some.is c.in_ok-states.ensures.exact in
    shape_none c.args.code.now c.args.lines.now c.in-Some.states.items c.deref.result.now c.has_shape.result
    (subst (λ (blocks : List ℕ). IsTextOf c.args.code.now.unit blocks c.in-Some.states.items c.args.lines.now)
    c.as_slice-blocks.ensures is)
    c.deref.ensures.value c.has_shape.ensures.exact c.if-has_shape.false
