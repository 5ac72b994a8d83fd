use Rattle.std.proofs.Common.{Global, Option, Vec, option_map, subst}
use Rattle.cil_model.specs.declared.unit.Unit.{Unit as MethodUnit}
use Rattle.state_facts.specs.StateFacts.{State}
use Rattle.proof_files.specs.Steps.{AreStatesOf, IsUnitOf}
use Rattle.proof_files.proofs.EntryReading.{states_none}
use Rattle.proof_files.proofs.entry_reader.read_entry.Goals as goal

pub returns-in_default-2 : goal.returns-in_default-2
returns-in_default-2 c =
    let is = subst (λ (read : Option MethodUnit). IsUnitOf c.args.key.now read) c.in-Some.is c.in_ok-unit.ensures in
    states_none c.args.key.now c.args.lines.now c.in-Some.unit c.in_ok-code.code is.0 is.1 c.in_ok-code.ensures.value
    (subst (λ (read : Option (Vec State Global)). AreStatesOf c.in_ok-code.code c.args.lines.now
    (option_map (λ states. states.items) read))
    c.in_default-2.is c.in_ok-states.ensures)
