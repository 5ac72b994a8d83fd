-- What is assumed along each of the ways on from a branch (ECMA-335 III.3.5 to III.3.18 and III.3.66). The way to the
-- target has the number 0, and the one after the branch the number 1. The ways of a switch are numbered as its targets.
use Rattle.std.specs.Prelude.{ℕ, ◌==◌, pos, nat_lt, Bool, true, false, not, length, Option, Some, None, if◌then◌else◌}
use Rattle.cil_model.specs.declared.instruction.CmpOp.{CmpOp}
use Rattle.cil_model.specs.declared.instruction.CmpOp.TheVariants as comparisons
use Rattle.cil_model.specs.declared.instruction.Op.{Op}
use Rattle.cil_model.specs.declared.instruction.Op.TheVariants as ops
use Rattle.cil_model.specs.declared.instruction.Test.{Test}
use Rattle.cil_model.specs.declared.instruction.Test.TheVariants as tests
use Rattle.clause_trees.specs.TreeValues.{true_known}
use Rattle.frame_names.specs.declared.var.Var.{Var}
use Rattle.frame_names.specs.declared.var.Var.TheVariants as vars
use Rattle.number_spans.specs.Constants.{constant}
use Rattle.obligation_prover.specs.Operations.{from_top}
use Rattle.state_facts.specs.Assuming.{assumed}
use Rattle.state_facts.specs.StateFacts.{StateFacts, State}
use Rattle.transfer_rules.specs.Operands.{with_one}

-- Two values compare so, or do not.
abbrev pub compared : CmpOp → Bool → Option Var → Option Var → StateFacts → State
compared op holds (Some v) (Some w) known = assumed op v w holds known
compared op holds v w known = None

-- So the two uppermost.
abbrev pub with_compared : CmpOp → Bool → StateFacts → State
with_compared op holds known = compared op holds (from_top 1 known) (from_top 0 known) known

-- The top is taken for true, or is not.
abbrev pub with_truth : Bool → StateFacts → State
with_truth holds known = with_one (true_known holds) (from_top 0 known) known

-- Whether the test holds is assumed. A reference is tested for null.
unfoldable pub tested : Test → Bool → StateFacts → State
tested tests.Always holds known = Some known
tested tests.True holds known = with_truth holds known
tested tests.False holds known = with_truth (not holds) known
tested (tests.Cmp op) holds known = with_compared op holds known

-- The number of a switch is that of the way, or, after all targets, no less than their count where it is taken as
-- unsigned.
abbrev pub with_case : ℕ → ℕ → Var → StateFacts → State
with_case count way (vars.Number e) known =
    if nat_lt way count then assumed comparisons.Eq (vars.Number e) (vars.Number (constant (pos way))) true known
    else assumed comparisons.LtUn (vars.Number e) (vars.Number (constant (pos count))) false known
with_case count way (vars.Reference r) known = None
with_case count way vars.Text known = None
with_case count way (vars.Address r i) known = None

unfoldable pub switched : ℕ → ℕ → StateFacts → State
switched count way known = with_one (with_case count way) (from_top 0 known) known

unfoldable pub chosen : Op → ℕ → StateFacts → State
chosen (ops.Branch test target) way known = tested test (way == 0) known
chosen (ops.Switch targets) way known = switched (length targets) way known
chosen ops.Nop way known = Some known
chosen (ops.LoadArg n) way known = Some known
chosen (ops.StoreArg n) way known = Some known
chosen (ops.LoadLocal n) way known = Some known
chosen (ops.StoreLocal n) way known = Some known
chosen ops.Null way known = Some known
chosen (ops.Const n) way known = Some known
chosen ops.Dup way known = Some known
chosen ops.Pop way known = Some known
chosen (ops.Call number) way known = Some known
chosen ops.Return way known = Some known
chosen (ops.Bin operator) way known = Some known
chosen ops.Neg way known = Some known
chosen ops.Not way known = Some known
chosen ops.ConvI4 way known = Some known
chosen (ops.Text token) way known = Some known
chosen (ops.NewArray number) way known = Some known
chosen ops.Length way known = Some known
chosen (ops.LoadElem place) way known = Some known
chosen (ops.StoreElem place) way known = Some known
chosen (ops.LoadAddr number) way known = Some known
chosen (ops.LoadInd place) way known = Some known
chosen (ops.StoreInd place) way known = Some known
