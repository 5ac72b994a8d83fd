-- What is wrong at faults, by their kinds, as text.
use Rattle.std.specs.Prelude.{ℕ, List, [], ◌++◌, decimal, Option, codes}
use Rattle.std.specs.Option.{option_map_or}
use Rattle.cil_model.specs.declared.machine.FaultKind.{FaultKind}
use Rattle.cil_model.specs.declared.machine.FaultKind.TheVariants as faults
use Rattle.cil_model.specs.declared.unit.CalleeInfo.{CalleeInfo}
use Rattle.answer_lines.specs.Signatures.{signature_text}

-- The method that was called, if there is one.
abbrev pub callee_text : Option CalleeInfo → List ℕ
callee_text callee = option_map_or (λ (info : CalleeInfo). signature_text info.name info.args) callee []

-- What is wrong, where this method was called. Clauses are counted from 1.
abbrev pub kind_text : Option CalleeInfo → FaultKind → List ℕ
kind_text callee (faults.Requires k) = codes "requires " ++ decimal k ++ codes " of " ++ callee_text callee
kind_text callee (faults.Ensures k) = codes "ensures " ++ decimal k
kind_text callee faults.Assert = codes "assert"
kind_text callee faults.NullUse = codes "null"
kind_text callee faults.Lower = codes "lower bound"
kind_text callee faults.Upper = codes "upper bound"
kind_text callee faults.DivZero = codes "divide by zero"
kind_text callee faults.DivOverflow = codes "divide overflow"
kind_text callee faults.Overflow = codes "overflow"
kind_text callee faults.Shift = codes "shift"
kind_text callee faults.ArraySize = codes "array size"
