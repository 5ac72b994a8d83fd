-- The words of each reason why a method is not analysed.
use Rattle.std.specs.Prelude.{ℕ, ◌^◌, List, ◌++◌, nat_lt, if◌then◌else◌, codes}
use Rattle.cc_base.specs.Digits.{hex}
use Rattle.cil_model.specs.declared.type_fault.TypeFault.{TypeFault}
use Rattle.cil_model.specs.declared.type_fault.TypeFault.TheVariants as kinds
use Rattle.clause_faults.specs.declared.clause_fault.ClauseFault.{ClauseFault}
use Rattle.clause_faults.specs.declared.clause_fault.ClauseFault.TheVariants as clauses
use Rattle.il_decoder.specs.Labels.{label}
use Rattle.il_decoder.specs.declared.fault.IlFault.{IlFault}
use Rattle.il_decoder.specs.declared.fault.IlFault.TheVariants as code
use Rattle.unit_builder.specs.declared.reason.Reason.{Reason}
use Rattle.unit_builder.specs.declared.reason.Reason.TheVariants as reasons

-- What happens at an IL offset.
abbrev pub placed : List ℕ → ℕ → List ℕ
placed what at = what ++ codes " at " ++ label at

-- An opcode of one byte has two digits, one of two bytes four.
abbrev pub opcode_text : ℕ → List ℕ
opcode_text opcode = codes "opcode " ++ hex (if nat_lt opcode (16 ^ 2) then 2 else 4) opcode

abbrev pub code_reason : IlFault → List ℕ
code_reason (code.Header at) = codes "N9 header"
code_reason (code.Short at) = placed (codes "N9 short") at
code_reason (code.Opcode at opcode) = placed (codes "N9 " ++ opcode_text opcode) at
code_reason (code.Target at) = placed (codes "N9 target") at

abbrev pub clause_reason : ClauseFault → List ℕ
clause_reason (clauses.NotPure at) = placed (codes "N10 not pure") at
clause_reason (clauses.Backward at) = placed (codes "N10 backward") at
clause_reason (clauses.StackLeft at) = placed (codes "N10 stack left") at
clause_reason (clauses.IntoBlock at) = placed (codes "N10 into block") at
clause_reason (clauses.OldForm at) = placed (codes "N10 old form") at
clause_reason (clauses.TooLong at) = placed (codes "N10 too long") at

abbrev pub kind_reason : TypeFault → List ℕ
kind_reason (kinds.Underflow at) = placed (codes "N12 underflow") at
kind_reason (kinds.Conflict at) = placed (codes "N12 conflict") at
kind_reason (kinds.WrongKind at) = placed (codes "N12 wrong kind") at
kind_reason (kinds.FallsOff at) = placed (codes "N12 falls off") at
kind_reason (kinds.Deep at) = placed (codes "N12 deep") at

abbrev pub reason_text : Reason → List ℕ
reason_text reasons.Instance = codes "N1 instance"
reason_text reasons.Generic = codes "N2 generic"
reason_text reasons.NoBody = codes "N3 no IL body"
reason_text reasons.SignatureType = codes "N4 signature type"
reason_text reasons.LocalType = codes "N5 local type"
reason_text reasons.LocalsNotZero = codes "N6 locals not initialised"
reason_text reasons.Section = codes "N7 exception section"
reason_text reasons.TooLarge = codes "N8 too large"
reason_text (reasons.Code fault) = code_reason fault
reason_text (reasons.Clauses fault) = clause_reason fault
reason_text (reasons.Token at) = placed (codes "N11 token") at
reason_text (reasons.Kinds fault) = kind_reason fault
