-- The parts of a step without a fault.
use Rattle.std.proofs.Common.{◌≡◌, ℕ, ◌+◌, Bool, true, false, List, ◌∷◌, Option, Some, None, Result, Ok, Err, if◌then◌else◌, refl}
use Rattle.cil_model.specs.Kinds.{typed}
use Rattle.cil_model.specs.Passes.{Stacks, successors, stack_at, lowest_conflict, come_to_all, going_on, follow, visited, pass_over}
use Rattle.cil_model.specs.declared.instruction.Instr.{Instr}
use Rattle.cil_model.specs.declared.place.Kind.{Kind}
use Rattle.cil_model.specs.declared.shape.Shape.{Shape}
use Rattle.cil_model.specs.declared.type_fault.TypeFault.{TypeFault}
use Rattle.cil_model.specs.declared.type_fault.TypeFault.TheVariants.{FallsOff}
use Rattle.stack_typer.specs.Successors.{falls_off}
use Rattle.stack_typer.proofs.PassLemmas.{fault_passes}

pub record Follows (is : List Instr) (stacks : Stacks) (i : Instr) (after : List Kind) (now : Stacks) : Type 0 where
  pub inside : falls_off is i ≡ false
  pub free : lowest_conflict is stacks after (successors i.op (i.at + i.size)) ≡ None
  pub come : come_to_all is stacks after (successors i.op (i.at + i.size)) ≡ now

follow_parts : (is : List Instr) (stacks : Stacks) (i : Instr) (after : List Kind) (now : Stacks) → follow is stacks i (Ok after) ≡ Ok now → Follows is stacks i after now
follow_parts is stacks i after now e = by_end (falls_off is i) refl e
  where
    by_conflict : (lowest : Option ℕ) → falls_off is i ≡ false → lowest_conflict is stacks after (successors i.op (i.at + i.size)) ≡ lowest
        → going_on is stacks lowest after (successors i.op (i.at + i.size)) ≡ Ok now → Follows is stacks i after now
    by_conflict (Some at) inside same e = absurd (cc)
    by_conflict None inside same e = record { inside = inside; free = same; come = cc }

    by_end : (falls : Bool) → falls_off is i ≡ falls
        → (if falls then Err (FallsOff i.at) else going_on is stacks (lowest_conflict is stacks after (successors i.op (i.at + i.size))) after (successors i.op (i.at + i.size))) ≡ Ok now
        → Follows is stacks i after now
    by_end true same e = absurd (cc)
    by_end false same e = by_conflict (lowest_conflict is stacks after (successors i.op (i.at + i.size))) same refl e

-- A step that goes on from a stack.
pub record Steps (shape : Shape) (is : List Instr) (stacks : Stacks) (i : Instr) (before : List Kind) (now : Stacks) : Type 0 where
  pub after : List Kind
  pub typed_so : typed shape i before ≡ Ok after
  pub follows : Follows is stacks i after now

pub step_parts : (shape : Shape) (is : List Instr) (stacks : Stacks) (i : Instr) (before : List Kind) (now : Stacks) → visited shape is stacks i (Some before) ≡ Ok now
    → Steps shape is stacks i before now
step_parts shape is stacks i before now e = by_typing (typed shape i before) refl e
  where
    by_typing : (answer : Result (List Kind) TypeFault) → typed shape i before ≡ answer → follow is stacks i answer ≡ Ok now → Steps shape is stacks i before now
    by_typing (Err fault) same e = absurd (cc)
    by_typing (Ok after) same e = record { after = after; typed_so = same; follows = follow_parts is stacks i after now e }

pub record PassesOn (shape : Shape) (is rest : List Instr) (stacks now : Stacks) (i : Instr) : Type 0 where
  pub mid : Stacks
  pub first : visited shape is stacks i (stack_at is stacks i.at) ≡ Ok mid
  pub others : pass_over shape is rest (Ok mid) ≡ Ok now

pub pass_parts : (shape : Shape) (is rest : List Instr) (stacks now : Stacks) (i : Instr) → pass_over shape is (i ∷ rest) (Ok stacks) ≡ Ok now → PassesOn shape is rest stacks now i
pass_parts shape is rest stacks now i e = by_visit (visited shape is stacks i (stack_at is stacks i.at)) refl e
  where
    by_visit : (answer : Result Stacks TypeFault) → visited shape is stacks i (stack_at is stacks i.at) ≡ answer → pass_over shape is rest answer ≡ Ok now → PassesOn shape is rest stacks now i
    by_visit (Err fault) same e = absurd (let f = fault_passes shape is rest fault in cc)
    by_visit (Ok mid) same e = record { mid = mid; first = same; others = e }
