-- Where branches and switches go: to a target of theirs, or after themselves.
use Rattle.std.proofs.Common.{◌≡◌, ℕ, pos, negsuc, List, [], ◌∷◌, codes, refl}
use Rattle.cil_model.specs.Effects.{GoesOn, effects}
use Rattle.cil_model.specs.declared.instruction.CmpOp.TheVariants as comparisons
use Rattle.cil_model.specs.declared.instruction.Instr.{Instr}
use Rattle.cil_model.specs.declared.instruction.Op.{Op}
use Rattle.cil_model.specs.declared.instruction.Op.TheVariants.{Branch, Switch}
use Rattle.cil_model.specs.declared.instruction.Test.TheVariants.{Always, True, False, Cmp}
use Rattle.cil_model.specs.declared.machine.Frame.{Frame}
use Rattle.cil_model.specs.declared.machine.Value.{Value}
use Rattle.cil_model.specs.declared.machine.Value.TheVariants.{Int, Native, Null, Array}
use Rattle.cil_model.specs.declared.place.Place.TheVariants as places
use Rattle.cil_model.specs.declared.unit.Unit.{Unit as MethodUnit}
use Rattle.cil_model.proofs.Laid.{method}

abbrev unit : MethodUnit
unit = method (codes "Demo.Calc::M") places.Void [] [] [] 0 [] []

abbrev frame : ℕ → List Value → Frame
frame at stack = record { unit = 0; at = at; stack = stack; locals = []; args = []; entry_args = []; entry_heap = [] }

-- The operation at offset 4, of 2 bytes, with the first stack goes on at the offset with the second stack, and
-- does nothing else.
abbrev Goes : Op → List Value → ℕ → List Value → Type 0
Goes op before at after =
    let i : Instr = record { at = 4; size = 2; op = op } in
    effects unit i (frame 4 before) [] ≡ GoesOn (frame at after) [] ∷ []

-- ---- br, brfalse and brtrue: the test is taken from the stack

br_goes : Goes (Branch Always 20) (Int (pos 5) ∷ []) 20 (Int (pos 5) ∷ [])
br_goes = refl

brfalse_of_0 : Goes (Branch False 20) (Int (pos 0) ∷ Int (pos 5) ∷ []) 20 (Int (pos 5) ∷ [])
brfalse_of_0 = refl

brfalse_of_1 : Goes (Branch False 20) (Int (pos 1) ∷ Int (pos 5) ∷ []) 6 (Int (pos 5) ∷ [])
brfalse_of_1 = refl

brfalse_of_null : Goes (Branch False 20) (Null ∷ []) 20 []
brfalse_of_null = refl

brfalse_of_an_array : Goes (Branch False 20) (Array 0 ∷ []) 6 []
brfalse_of_an_array = refl

brtrue_of_0 : Goes (Branch True 20) (Int (pos 0) ∷ Int (pos 5) ∷ []) 6 (Int (pos 5) ∷ [])
brtrue_of_0 = refl

brtrue_of_2 : Goes (Branch True 20) (Int (pos 2) ∷ Int (pos 5) ∷ []) 20 (Int (pos 5) ∷ [])
brtrue_of_2 = refl

brtrue_of_a_length : Goes (Branch True 20) (Native 3 ∷ []) 20 []
brtrue_of_a_length = refl

-- ---- comparing branches: the first operand lies below the second

blt_of_less : Goes (Branch (Cmp comparisons.Lt) 20) (Int (pos 2) ∷ Int (pos 1) ∷ []) 20 []
blt_of_less = refl

blt_of_equal : Goes (Branch (Cmp comparisons.Lt) 20) (Int (pos 2) ∷ Int (pos 2) ∷ []) 6 []
blt_of_equal = refl

bgt_of_less : Goes (Branch (Cmp comparisons.Gt) 20) (Int (pos 2) ∷ Int (pos 1) ∷ []) 6 []
bgt_of_less = refl

ble_of_less : Goes (Branch (Cmp comparisons.Le) 20) (Int (pos 2) ∷ Int (pos 1) ∷ Int (pos 5) ∷ []) 20 (Int (pos 5) ∷ [])
ble_of_less = refl

bge_of_less : Goes (Branch (Cmp comparisons.Ge) 20) (Int (pos 2) ∷ Int (pos 1) ∷ []) 6 []
bge_of_less = refl

beq_of_equal : Goes (Branch (Cmp comparisons.Eq) 20) (Int (pos 2) ∷ Int (pos 2) ∷ []) 20 []
beq_of_equal = refl

beq_of_others : Goes (Branch (Cmp comparisons.Eq) 20) (Int (pos 2) ∷ Int (pos 3) ∷ []) 6 []
beq_of_others = refl

beq_of_an_array_and_null : Goes (Branch (Cmp comparisons.Eq) 20) (Null ∷ Array 0 ∷ []) 6 []
beq_of_an_array_and_null = refl

bne_of_others : Goes (Branch (Cmp comparisons.NeUn) 20) (Int (pos 2) ∷ Int (pos 3) ∷ []) 20 []
bne_of_others = refl

-- -1 is 2^32 - 1 without sign.
bge_un_of_minus_one : Goes (Branch (Cmp comparisons.GeUn) 20) (Int (pos 0) ∷ Int (negsuc 0) ∷ []) 20 []
bge_un_of_minus_one = refl

blt_un_of_minus_one : Goes (Branch (Cmp comparisons.LtUn) 20) (Int (pos 0) ∷ Int (negsuc 0) ∷ []) 6 []
blt_un_of_minus_one = refl

-- ---- switch

abbrev switch : Op
switch = Switch (10 ∷ 20 ∷ [])

switch_of_0 : Goes switch (Int (pos 0) ∷ Int (pos 5) ∷ []) 10 (Int (pos 5) ∷ [])
switch_of_0 = refl

switch_of_1 : Goes switch (Int (pos 1) ∷ []) 20 []
switch_of_1 = refl

switch_of_2 : Goes switch (Int (pos 2) ∷ []) 6 []
switch_of_2 = refl

-- A number is taken without sign, so that -1 is beyond all targets.
switch_of_minus_one : Goes switch (Int (negsuc 0) ∷ []) 6 []
switch_of_minus_one = refl
