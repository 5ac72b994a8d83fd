-- What is kept of the code of methods.
use Rattle.std.specs.Prelude.{◌≡◌, ◌<◌, ℕ, List, length, slice_get, get_or, Some, None}
use Rattle.std.specs.declared.alloc.Global.{Global}
use Rattle.std.specs.declared.vec.Vec.{Vec}
use Rattle.asm_image.specs.Rows.{methods_of}
use Rattle.asm_image.specs.declared.method_row.MethodRow.{MethodRow}
use Rattle.cil_model.specs.declared.instruction.Instr.{Instr}
use Rattle.method_code.specs.Reading.{IsCodeOf, with_instrs}
use Rattle.method_code.specs.declared.code_reader.MethodCode.{MethodCode}
use Rattle.unit_builder.specs.Bodies.{il_fault}
use Rattle.unit_builder.specs.Scopes.{Files, Scope, scope_in}
use Rattle.unit_builder.specs.declared.slots.Slot.{Slot}
use Rattle.unit_builder.specs.declared.slots.Slot.TheVariants.{Unread, Faulty, Whole, Spent}

-- This is the code of the method.
pub record IsWhole (scope : Scope) (method : MethodRow) (code : MethodCode) : Type 0 where
  pub faultless : il_fault scope.asm method ≡ None
  pub code_is : IsCodeOf scope.meaning scope.asm method code

-- This is what is left of the code of the method when its instructions are taken.
pub record IsSpent (scope : Scope) (method : MethodRow) (code : MethodCode) : Type 0 where
  pub taken : List Instr
  pub whole : IsWhole scope method (with_instrs taken code)

-- A slot of the method keeps what is so.
abbrev pub IsSlotOf : Scope → MethodRow → Slot → Type 0
IsSlotOf scope method Unread = Unit {0}
IsSlotOf scope method (Faulty fault) = il_fault scope.asm method ≡ Some fault
IsSlotOf scope method (Whole code) = IsWhole scope method code
IsSlotOf scope method (Spent code) = IsSpent scope method code

-- The method's code was asked for, and this is kept of it.
abbrev pub TellsClauses : Scope → MethodRow → Slot → Type 0
TellsClauses scope method Unread = ⊥
TellsClauses scope method slot = IsSlotOf scope method slot

-- There is a slot for each method of the file, in the order of the rows.
pub record AreSlots (scope : Scope) (slots : List Slot) : Type 0 where
  pub count : length slots ≡ length (methods_of scope.asm)
  pub each : (index : ℕ) (method : MethodRow) (other : Slot) → slice_get (methods_of scope.asm) index ≡ Some method → IsSlotOf scope method (get_or slots index other)

-- There are such slots for each file.
pub record AreAllSlots (files : Files) (slots : List (Vec Slot Global)) : Type 0 where
  pub count : length slots ≡ files.count
  pub each : (file : ℕ) (other : Vec Slot Global) → file < files.count → AreSlots (scope_in files file) (get_or slots file other).items
