-- Passes over the code.
use Rattle.std.proofs.Common.{◌≡◌, ℕ, suc, ◌+◌, ◌<◌, List, [], ◌∷◌, length, drop, get_or, Ok, Err, refl, sym, ap, ◌∙◌}
use Rattle.std.proofs.lemmas.List.{drop_more}
use Rattle.cil_model.specs.Passes.{Stacks, stack_at, visited, pass_over, pass, first_stacks, after_pass, KindsOf, HasTypeFault}
use Rattle.cil_model.specs.declared.instruction.Instr.{Instr}
use Rattle.cil_model.specs.declared.shape.Shape.{Shape}
use Rattle.cil_model.specs.declared.type_fault.TypeFault.{TypeFault}
use Rattle.stack_typer.specs.Brought.{AreBrought}

-- ---- one pass

-- One more instruction.
pub one_more_visited : (shape : Shape) (is : List Instr) (stacks : Stacks) (k : ℕ) (i : Instr) → k < length is → i ≡ get_or is k i
    → pass_over shape is (drop k is) (Ok stacks) ≡ pass_over shape is (drop (k + 1) is) (visited shape is stacks i (stack_at is stacks i.at))
one_more_visited shape is stacks k i within read =
    ap (λ rest. pass_over shape is rest (Ok stacks)) (drop_more is k i within ∙ ap (λ j. j ∷ drop (k + 1) is) (sym read))

-- A fault ends the pass.
pub fault_passes : (shape : Shape) (is rest : List Instr) (fault : TypeFault) → pass_over shape is rest (Err fault) ≡ Err fault
fault_passes shape is [] fault = refl
fault_passes shape is (i ∷ rest) fault = refl

pub fault_met : (shape : Shape) (is : List Instr) (first stacks : Stacks) (k : ℕ) (i : Instr) (fault : TypeFault) → k < length is → i ≡ get_or is k i
    → pass_over shape is (drop k is) (Ok stacks) ≡ pass shape is first → visited shape is stacks i (stack_at is stacks i.at) ≡ Err fault → pass shape is first ≡ Err fault
fault_met shape is first stacks k i fault within read so_far met =
    sym so_far ∙ one_more_visited shape is stacks k i within read ∙ ap (pass_over shape is (drop (k + 1) is)) met ∙ fault_passes shape is (drop (k + 1) is) fault

pub stacks_met : (shape : Shape) (is : List Instr) (first stacks now : Stacks) (k : ℕ) (i : Instr) → k < length is → i ≡ get_or is k i
    → pass_over shape is (drop k is) (Ok stacks) ≡ pass shape is first → visited shape is stacks i (stack_at is stacks i.at) ≡ Ok now
    → pass_over shape is (drop (k + 1) is) (Ok now) ≡ pass shape is first
stacks_met shape is first stacks now k i within read so_far met =
    ap (pass_over shape is (drop (k + 1) is)) (sym met) ∙ sym (one_more_visited shape is stacks k i within read) ∙ so_far

-- ---- all passes

pub first_brought : (shape : Shape) (is : List Instr) (stacks : Stacks) → first_stacks is ≡ Ok stacks → AreBrought shape is stacks
first_brought shape is stacks first = record { passes = 0; brought = first }

pub first_at_fault : (shape : Shape) (is : List Instr) (fault : TypeFault) → first_stacks is ≡ Err fault → HasTypeFault shape is fault
first_at_fault shape is fault first = record { passes = 0; met = first }

pub next_brought : (shape : Shape) (is : List Instr) (before stacks : Stacks) → AreBrought shape is before → pass shape is before ≡ Ok stacks → AreBrought shape is stacks
next_brought shape is before stacks b next = record { passes = suc b.passes; brought = ap (after_pass shape is) b.brought ∙ next }

pub next_at_fault : (shape : Shape) (is : List Instr) (before : Stacks) (fault : TypeFault) → AreBrought shape is before → pass shape is before ≡ Err fault
    → HasTypeFault shape is fault
next_at_fault shape is before fault b next = record { passes = suc b.passes; met = ap (after_pass shape is) b.brought ∙ next }

pub settled : (shape : Shape) (is : List Instr) (before stacks : Stacks) → AreBrought shape is before → pass shape is before ≡ Ok stacks → stacks ≡ before → KindsOf shape is stacks
settled shape is before stacks b next same = record {
  passes = suc b.passes;
  brought = ap (after_pass shape is) b.brought ∙ next;
  settled = ap (pass shape is) same ∙ next;
}
