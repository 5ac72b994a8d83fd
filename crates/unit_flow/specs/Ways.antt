-- The way that the machine takes on from an instruction (ECMA-335 III.3.5 to III.3.18 and III.3.66). Of a branch, the
-- way to the target has the number 0 and the one after the branch the number 1. The ways of a switch are numbered as
-- its targets, and the one after the switch comes last. Any other instruction has the way 0 alone.
use Rattle.std.specs.Prelude.{ℕ, ◌≤◌, Bool, true, not, min, List, ◌∷◌, length, Option, Some, option_map}
use Rattle.cil_model.specs.Arithmetic.{unsigned}
use Rattle.cil_model.specs.Comparisons.{is_true, compares_values}
use Rattle.cil_model.specs.declared.instruction.Op.{Op}
use Rattle.cil_model.specs.declared.instruction.Op.TheVariants as ops
use Rattle.cil_model.specs.declared.instruction.Test.{Test}
use Rattle.cil_model.specs.declared.instruction.Test.TheVariants as tests
use Rattle.cil_model.specs.declared.machine.Value.{Value}
use Rattle.cil_model.specs.declared.machine.Value.TheVariants as values

abbrev pub side : Option Bool → ℕ
side (Some true) = 0
side _ = 1

-- The values may be numbers, lengths, null or arrays: null is not true, and two arrays are equal where they are one.
abbrev pub way_of_test : Test → List Value → ℕ
way_of_test tests.Always stack = 0
way_of_test tests.True (value ∷ rest) = side (is_true value)
way_of_test tests.False (value ∷ rest) = side (option_map not (is_true value))
way_of_test (tests.Cmp op) (b ∷ a ∷ rest) = side (compares_values op a b)
way_of_test _ _ = 0

abbrev pub way_of_switch : ℕ → List Value → ℕ
way_of_switch count (values.Int n ∷ rest) = min (unsigned n) count
way_of_switch count _ = 0

-- With these values on the stack.
abbrev pub way_of : Op → List Value → ℕ
way_of (ops.Branch test target) stack = way_of_test test stack
way_of (ops.Switch targets) stack = way_of_switch (length targets) stack
way_of ops.Nop stack = 0
way_of (ops.LoadArg n) stack = 0
way_of (ops.StoreArg n) stack = 0
way_of (ops.LoadLocal n) stack = 0
way_of (ops.StoreLocal n) stack = 0
way_of ops.Null stack = 0
way_of (ops.Const n) stack = 0
way_of ops.Dup stack = 0
way_of ops.Pop stack = 0
way_of (ops.Call number) stack = 0
way_of ops.Return stack = 0
way_of (ops.Bin operator) stack = 0
way_of ops.Neg stack = 0
way_of ops.Not stack = 0
way_of ops.ConvI4 stack = 0
way_of (ops.Text token) stack = 0
way_of (ops.NewArray number) stack = 0
way_of ops.Length stack = 0
way_of (ops.LoadElem place) stack = 0
way_of (ops.StoreElem place) stack = 0
way_of (ops.LoadAddr number) stack = 0
way_of (ops.LoadInd place) stack = 0
way_of (ops.StoreInd place) stack = 0

-- Code is too short for a switch of more targets.
abbrev pub IsShortSwitch : Op → Type 0
IsShortSwitch (ops.Switch targets) = length targets ≤ 2147483647
IsShortSwitch (ops.Branch test target) = Unit {0}
IsShortSwitch ops.Nop = Unit {0}
IsShortSwitch (ops.LoadArg n) = Unit {0}
IsShortSwitch (ops.StoreArg n) = Unit {0}
IsShortSwitch (ops.LoadLocal n) = Unit {0}
IsShortSwitch (ops.StoreLocal n) = Unit {0}
IsShortSwitch ops.Null = Unit {0}
IsShortSwitch (ops.Const n) = Unit {0}
IsShortSwitch ops.Dup = Unit {0}
IsShortSwitch ops.Pop = Unit {0}
IsShortSwitch (ops.Call number) = Unit {0}
IsShortSwitch ops.Return = Unit {0}
IsShortSwitch (ops.Bin operator) = Unit {0}
IsShortSwitch ops.Neg = Unit {0}
IsShortSwitch ops.Not = Unit {0}
IsShortSwitch ops.ConvI4 = Unit {0}
IsShortSwitch (ops.Text token) = Unit {0}
IsShortSwitch (ops.NewArray number) = Unit {0}
IsShortSwitch ops.Length = Unit {0}
IsShortSwitch (ops.LoadElem place) = Unit {0}
IsShortSwitch (ops.StoreElem place) = Unit {0}
IsShortSwitch (ops.LoadAddr number) = Unit {0}
IsShortSwitch (ops.LoadInd place) = Unit {0}
IsShortSwitch (ops.StoreInd place) = Unit {0}
