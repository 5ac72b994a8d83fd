-- The words of a reason why a method is not analysed have no line feed.
use Rattle.std.proofs.Common.{◌≡◌, ℕ, ◌^◌, List, ◌++◌, nat_lt, if◌then◌else◌, refl, codes}
use Rattle.cc_base.specs.Digits.{hex}
use Rattle.cil_model.specs.declared.type_fault.TypeFault.{TypeFault}
use Rattle.cil_model.specs.declared.type_fault.TypeFault.TheVariants as kinds
use Rattle.clause_faults.specs.declared.clause_fault.ClauseFault.{ClauseFault}
use Rattle.clause_faults.specs.declared.clause_fault.ClauseFault.TheVariants as clauses
use Rattle.il_decoder.specs.Labels.{label}
use Rattle.il_decoder.specs.declared.fault.IlFault.{IlFault}
use Rattle.il_decoder.specs.declared.fault.IlFault.TheVariants as code
use Rattle.unit_builder.specs.declared.reason.Reason.{Reason}
use Rattle.unit_builder.specs.declared.reason.Reason.TheVariants as reasons
use Rattle.answer_lines.specs.LineCounts.{line_count}
use Rattle.answer_lines.proofs.LineLemmas.{none_behind, none_in_hex}
use Rattle.assembly_answers.specs.ReasonText.{clause_reason, code_reason, kind_reason, opcode_text, placed, reason_text}
use Rattle.assembly_answers.proofs.PlainTexts.{none_in_label}

none_in_placed : (what : List ℕ) (at : ℕ) → line_count what ≡ 0 → line_count (placed what at) ≡ 0
unfolding line_count
none_in_placed what at none = none_behind (what ++ codes " at ") (label at) (none_behind what (codes " at ") none refl) (none_in_label at)

none_in_code_reason : (fault : IlFault) → line_count (code_reason fault) ≡ 0
unfolding line_count
none_in_code_reason (code.Header at) = refl
none_in_code_reason (code.Short at) = none_in_placed (codes "N9 short") at refl
none_in_code_reason (code.Opcode at opcode) =
    let digits = if nat_lt opcode (16 ^ 2) then 2 else 4 in
    none_in_placed (codes "N9 " ++ opcode_text opcode) at (none_behind (codes "N9 ") (opcode_text opcode) refl (none_behind (codes "opcode ") (hex digits opcode) refl (none_in_hex digits opcode)))
none_in_code_reason (code.Target at) = none_in_placed (codes "N9 target") at refl

none_in_clause_reason : (fault : ClauseFault) → line_count (clause_reason fault) ≡ 0
unfolding line_count
none_in_clause_reason (clauses.NotPure at) = none_in_placed (codes "N10 not pure") at refl
none_in_clause_reason (clauses.Backward at) = none_in_placed (codes "N10 backward") at refl
none_in_clause_reason (clauses.StackLeft at) = none_in_placed (codes "N10 stack left") at refl
none_in_clause_reason (clauses.IntoBlock at) = none_in_placed (codes "N10 into block") at refl
none_in_clause_reason (clauses.OldForm at) = none_in_placed (codes "N10 old form") at refl
none_in_clause_reason (clauses.TooLong at) = none_in_placed (codes "N10 too long") at refl

none_in_kind_reason : (fault : TypeFault) → line_count (kind_reason fault) ≡ 0
unfolding line_count
none_in_kind_reason (kinds.Underflow at) = none_in_placed (codes "N12 underflow") at refl
none_in_kind_reason (kinds.Conflict at) = none_in_placed (codes "N12 conflict") at refl
none_in_kind_reason (kinds.WrongKind at) = none_in_placed (codes "N12 wrong kind") at refl
none_in_kind_reason (kinds.FallsOff at) = none_in_placed (codes "N12 falls off") at refl
none_in_kind_reason (kinds.Deep at) = none_in_placed (codes "N12 deep") at refl

pub none_in_reason : (reason : Reason) → line_count (reason_text reason) ≡ 0
unfolding line_count
none_in_reason reasons.Instance = refl
none_in_reason reasons.Generic = refl
none_in_reason reasons.NoBody = refl
none_in_reason reasons.SignatureType = refl
none_in_reason reasons.LocalType = refl
none_in_reason reasons.LocalsNotZero = refl
none_in_reason reasons.Section = refl
none_in_reason reasons.TooLarge = refl
none_in_reason (reasons.Code fault) = none_in_code_reason fault
none_in_reason (reasons.Clauses fault) = none_in_clause_reason fault
none_in_reason (reasons.Token at) = none_in_placed (codes "N11 token") at refl
none_in_reason (reasons.Kinds fault) = none_in_kind_reason fault
