-- What stands next behind an instruction, and where a stack that comes to an IL offset does not merge.
use Rattle.std.specs.Prelude.{ℕ, ◌+◌, Bool, not, ◌&&◌, List, [], ◌∷◌, Option, Some, None, min, if◌then◌else◌}
use Rattle.cil_model.specs.Code.{begins_at}
use Rattle.cil_model.specs.Passes.{Stacks, goes_behind, conflicts}
use Rattle.cil_model.specs.declared.instruction.Instr.{Instr}
use Rattle.cil_model.specs.declared.instruction.Op.{Op}
use Rattle.cil_model.specs.declared.place.Kind.{Kind}

-- The IL offset after the operation, where it may go on there.
abbrev pub offset_behind : Op → ℕ → List ℕ
offset_behind op next = if goes_behind op then next ∷ [] else []

-- The code ends after the instruction, which may go on there.
abbrev pub falls_off : List Instr → Instr → Bool
falls_off is i = goes_behind i.op && not (begins_at is (i.at + i.size))

-- The offset after the instruction, where it may go on there, unless the code ends there.
abbrev pub next_offset : List Instr → Instr → Option (List ℕ)
next_offset is i = if falls_off is i then None else Some (offset_behind i.op (i.at + i.size))

-- The offset, where the stack does not merge with the one there.
abbrev pub conflict_at : List Instr → Stacks → List Kind → ℕ → Option ℕ
conflict_at is stacks stack at = if conflicts is stacks stack at then Some at else None

-- The lower of two offsets, where both are there, or the one that is.
abbrev pub lower : Option ℕ → Option ℕ → Option ℕ
lower None b = b
lower (Some a) None = Some a
lower (Some a) (Some b) = Some (min a b)
