-- The lines of reports.
use Rattle.std.specs.Prelude.{ℕ, Bool, List, ◌++◌, if◌then◌else◌, codes}
use Rattle.std.specs.Fmt.{decimal}
use Rattle.cc_base.specs.Digits.{hex}
use Rattle.cil_model.specs.declared.unit.Unit.{Unit as MethodUnit}
use Rattle.answer_lines.specs.Signatures.{unit_signature}
use Rattle.answer_lines.specs.declared.lines.Counts.{Counts}

abbrev pub proved_text : Bool → List ℕ
proved_text proved = if proved then codes "proved" else codes "unproved"

abbrev pub unit_line : MethodUnit → Bool → List ℕ
unit_line unit proved = codes "unit " ++ unit_signature unit ++ codes ": " ++ proved_text proved ++ codes "\n"

-- The line of an obligation: its IL offset, what may go wrong there, and whether it is proved.
abbrev pub obligation_line : ℕ → List ℕ → Bool → List ℕ
obligation_line at kind proved = codes "  IL_" ++ hex 4 at ++ codes " " ++ kind ++ codes ": " ++ proved_text proved ++ codes "\n"

abbrev pub summary_line : Counts → List ℕ
summary_line n =
    codes "summary: " ++ decimal n.methods ++ codes " methods, " ++ decimal n.proved ++ codes " proved, "
    ++ decimal n.unproved ++ codes " unproved, " ++ decimal n.skipped ++ codes " not analysed, "
    ++ decimal n.obligations ++ codes " obligations, " ++ decimal n.proved_obligations ++ codes " proved\n"
