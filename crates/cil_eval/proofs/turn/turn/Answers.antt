use Rattle.std.proofs.Common.{◌≡◌, Some, refl}
use Rattle.cil_model.specs.Runs.{instr_at}
use Rattle.cil_eval.proofs.TurnLemmas.{goes_behind, runnable, turned_back, turned_into, turned_stays}
use Rattle.cil_eval.proofs.turn.turn.Goals as goal

pub call_number-requires-clause-behind : goal.call_number-requires-clause-behind
call_number-requires-clause-behind c =
    let unit = c.in-Some-unit_at.unit.now in
    let instr : instr_at unit.instrs c.in-Some.from.at ≡ Some c.in-Some-find.instr.now = rw c.as_slice.ensures at c.in-Some-find.ensures in
    goes_behind unit c.in-Some.from.at c.in-Some-find.instr.now instr (runnable c.args.world.now c.in-Some.from.unit unit c.requires.runnable c.in-Some-unit_at.ensures)

pub effect-requires-clause-behind : goal.effect-requires-clause-behind
effect-requires-clause-behind c =
    let unit = c.in-Some-unit_at.unit.now in
    let instr : instr_at unit.instrs c.in-Some.from.at ≡ Some c.in-Some-find.instr.now = rw c.as_slice.ensures at c.in-Some-find.ensures in
    goes_behind unit c.in-Some.from.at c.in-Some-find.instr.now instr (runnable c.args.world.now c.in-Some.from.unit unit c.requires.runnable c.in-Some-unit_at.ensures)

pub returns-in-Back-clause-turns : goal.returns-in-Back-clause-turns
returns-in-Back-clause-turns c =
    let unit = c.in-Some-unit_at.unit.now in
    let instr : instr_at unit.instrs c.in-Some.from.at ≡ Some c.in-Some-find.instr.now = rw c.as_slice.ensures at c.in-Some-find.ensures in
    λ limits s h lengths cells depth.
    turned_back c.args.world.now limits s unit c.in-Some-find.instr.now c.in-Some.from c.args.frames.now c.give_back.new.frames c.args.memory.now.heap _ c.give_back.result
    h c.in-Some.ensures c.in-Some-unit_at.ensures instr c.flow_of.result c.flow_of.ensures c.in-Back.is c.requires.runnable refl c.give_back.ensures.returns

pub returns-in-Into-clause-turns : goal.returns-in-Into-clause-turns
returns-in-Into-clause-turns c =
    let unit = c.in-Some-unit_at.unit.now in
    let instr : instr_at unit.instrs c.in-Some.from.at ≡ Some c.in-Some-find.instr.now = rw c.as_slice.ensures at c.in-Some-find.ensures in
    λ limits s h lengths cells depth.
    turned_into c.args.world.now limits s unit c.in-Some-find.instr.now c.in-Some.from c.args.frames.now c.call_number.new.frames c.args.memory.now.heap _ c.call_number.result
    h c.in-Some.ensures c.in-Some-unit_at.ensures instr c.flow_of.result c.flow_of.ensures c.in-Into.number c.args.deeper c.in-Into.is refl depth c.call_number.ensures.calls

pub returns-in-Stays-clause-turns : goal.returns-in-Stays-clause-turns
returns-in-Stays-clause-turns c =
    let unit = c.in-Some-unit_at.unit.now in
    let instr : instr_at unit.instrs c.in-Some.from.at ≡ Some c.in-Some-find.instr.now = rw c.as_slice.ensures at c.in-Some-find.ensures in
    λ limits s h lengths cells depth.
    turned_stays c.args.world.now limits s unit c.in-Some-find.instr.now c.in-Some.from c.args.frames.now c.effect.new.frames c.args.memory.now.heap _ c.effect.result
    h c.in-Some.ensures c.in-Some-unit_at.ensures instr c.flow_of.result c.flow_of.ensures c.args.memory.now.limit c.in-Stays.is cells lengths c.effect.ensures.effects
