use Rattle.std.proofs.Common.{ℕ, ◌≤◌, subst, sym}
use Rattle.stack_typer.proofs.FaultPlaces.{type_fault_place}
use Rattle.method_unit.proofs.Places.{place_fits}
use Rattle.method_unit.proofs.unit_kinds.find_kinds.Goals as goal

pub overflow_add-result : goal.overflow_add-result
overflow_add-result c =
    let place = type_fault_place 65536 c.args.shape.now c.args.instrs.now c.in-Err-Bad.fault c.requires.inside (rw c.in-Err-Bad.field-0-is at c.in-Err-Bad.ensures.err) in
    place_fits c.args.base 65536 c.type_fault_at.result (subst (λ (n : ℕ). n ≤ 65536) (sym c.type_fault_at.ensures) place) c.requires.small
