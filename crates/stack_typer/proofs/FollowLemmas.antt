-- How the stack after an instruction goes on, by the two parts of its successors.
use Rattle.std.proofs.Common.{◌≡◌, ℕ, ◌+◌, Bool, true, false, List, ◌++◌, Some, None, Ok, Err, if◌then◌else◌, refl, ap, ◌∙◌}
use Rattle.cil_model.specs.Blocks.{branch_targets}
use Rattle.cil_model.specs.Passes.{Stacks, successors, lowest_conflict, come_to_all, going_on, follow}
use Rattle.cil_model.specs.declared.instruction.Instr.{Instr}
use Rattle.cil_model.specs.declared.instruction.Op.{Op}
use Rattle.cil_model.specs.declared.instruction.Op.TheVariants as ops
use Rattle.cil_model.specs.declared.instruction.Test.TheVariants as tests
use Rattle.cil_model.specs.declared.place.Kind.{Kind}
use Rattle.cil_model.specs.declared.type_fault.TypeFault.TheVariants.{Conflict, FallsOff}
use Rattle.stack_typer.specs.Successors.{offset_behind, falls_off, next_offset, lower}
use Rattle.stack_typer.proofs.ArrivalLemmas.{come_to_all-append}
use Rattle.stack_typer.proofs.ConflictLemmas.{lowest_conflict-append}

two_parts : (op : Op) (next : ℕ) → successors op next ≡ branch_targets op ++ offset_behind op next
two_parts ops.Return next = refl
two_parts (ops.Branch tests.Always target) next = refl
two_parts (ops.Branch tests.True target) next = refl
two_parts (ops.Branch tests.False target) next = refl
two_parts (ops.Branch (tests.Cmp op) target) next = refl
two_parts (ops.Switch offsets) next = refl
two_parts _ next = refl

-- Where the code does not end there.
goes_on : (falls : Bool) (offsets next : List ℕ) → (if falls then None else Some offsets) ≡ Some next → (falls ≡ false) × (offsets ≡ next)
goes_on true offsets next e = absurd (cc)
goes_on false offsets next e = (refl, cc)

pub follow_none : (is : List Instr) (stacks : Stacks) (i : Instr) (stack : List Kind) → next_offset is i ≡ None → follow is stacks i (Ok stack) ≡ Err (FallsOff i.at)
follow_none is stacks i stack none = by_test (falls_off is i) none
  where
    by_test : (falls : Bool) → (if falls then None else Some (offset_behind i.op (i.at + i.size))) ≡ None
        → (if falls then Err (FallsOff i.at) else going_on is stacks (lowest_conflict is stacks stack (successors i.op (i.at + i.size))) stack (successors i.op (i.at + i.size))) ≡ Err (FallsOff i.at)
    by_test true e = refl
    by_test false e = absurd (cc)

-- What it comes to where the code does not end there.
follow_some : (is : List Instr) (stacks : Stacks) (i : Instr) (stack : List Kind) (next : List ℕ) → next_offset is i ≡ Some next
    → follow is stacks i (Ok stack)
    ≡ going_on is stacks (lower (lowest_conflict is stacks stack (branch_targets i.op)) (lowest_conflict is stacks stack next)) stack (branch_targets i.op ++ next)
follow_some is stacks i stack next some =
    let g = goes_on (falls_off is i) (offset_behind i.op (i.at + i.size)) next some in
    rw (g.0, two_parts i.op (i.at + i.size), g.1, lowest_conflict-append is stacks stack (branch_targets i.op) next) refl

pub follow_conflict : (is : List Instr) (stacks : Stacks) (i : Instr) (stack : List Kind) (next : List ℕ) (at : ℕ) → next_offset is i ≡ Some next
    → lower (lowest_conflict is stacks stack (branch_targets i.op)) (lowest_conflict is stacks stack next) ≡ Some at → follow is stacks i (Ok stack) ≡ Err (Conflict at)
follow_conflict is stacks i stack next at some clash =
    follow_some is stacks i stack next some ∙ ap (λ lowest. going_on is stacks lowest stack (branch_targets i.op ++ next)) clash

pub follow_on : (is : List Instr) (stacks : Stacks) (i : Instr) (stack : List Kind) (next : List ℕ) → next_offset is i ≡ Some next
    → lower (lowest_conflict is stacks stack (branch_targets i.op)) (lowest_conflict is stacks stack next) ≡ None
    → follow is stacks i (Ok stack) ≡ Ok (come_to_all is (come_to_all is stacks stack (branch_targets i.op)) stack next)
follow_on is stacks i stack next some none =
    follow_some is stacks i stack next some
    ∙ ap (λ lowest. going_on is stacks lowest stack (branch_targets i.op ++ next)) none
    ∙ ap Ok (come_to_all-append is stacks stack (branch_targets i.op) next)

pub ruleset follow_rules = (follow_none, follow_conflict, follow_on)
