-- What is known of the assemblies of a check.
use Rattle.std.specs.Prelude.{◌≡◌, ℕ, Bool, false, is_some, List, [], map, take, Option, Some, None, option_and_then, unwrap_or}
use Rattle.std.specs.List.{AllByRecursion, flat_map}
use Rattle.cc_base.specs.Files.{Held}
use Rattle.cc_base.specs.Sink.{AppendsPrefix}
use Rattle.assembly_reports.specs.CheckText.{check_text}
use Rattle.check_driver.specs.CacheMet.{command_cache}
use Rattle.check_driver.specs.Expected.{check_manner}
use Rattle.assembly_reports.specs.Reportable.{IsReportable}
use Rattle.command_words.specs.Words.{checked_indexes, words_at}
use Rattle.command_words.specs.declared.command.Command.{Command}
use Rattle.command_words.specs.declared.command.Command.TheVariants as commands
use Rattle.unit_verdicts.specs.Picks.{Manner}

abbrev pub report_of : Bool → Manner → List ℕ × List ℕ → List ℕ
report_of infer manner (name, bytes) = check_text infer name manner bytes

-- The reports of so many of these files, made in this manner, were begun: what was appended to a sink is a prefix of
-- these reports, one after another, and each of the files is an assembly that can be reported.
pub record AreBegun (infer : Bool) (manner : Manner) (files : List (List ℕ × List ℕ)) (old new : Option (List ℕ)) : Type 0 where
  pub count : ℕ
  pub each : AllByRecursion (λ file. IsReportable file.1) (take count files)
  pub prefix : AppendsPrefix old new (flat_map (report_of infer manner) (take count files))

-- What is held under these names, each with its name.
abbrev pub held_files : Held → List (List ℕ) → List (List ℕ × List ℕ)
held_files held names = map (λ name. (name, unwrap_or (held name) [])) names

-- The command makes the reports of assemblies with what is inferred of their methods.
abbrev pub command_infers : Command → Bool
command_infers (commands.Check check) = is_some check.infer
command_infers _ = false

-- These words ask for such.
abbrev pub infers : Option Command → Bool
infers None = false
infers (Some command) = command_infers command

-- Where the command makes the reports of assemblies, this holds of whether they are made with what is inferred, and of
-- their manner: that of a check, by what is met under the name of its cache; and some manner where an assembly is
-- verified.
abbrev pub IfReports : Command → Option (List ℕ) → (Bool → Manner → Type 0) → Type 0
IfReports (commands.Check check) cache P = P (is_some check.infer) (check_manner check cache)
IfReports (commands.Verify file proof) cache P = (manner : Manner) × P false manner
IfReports _ cache P = Unit {0}

-- So many reports were begun of what is held under the names of the command's assemblies, where that is told.
abbrev pub AreHeldBegun : Option Held → List (List ℕ) → Command → Option (List ℕ) → Option (List ℕ) → Type 0
AreHeldBegun told words command old new =
    (held : Held) → told ≡ Some held → IfReports command (option_and_then held (command_cache words command))
    (λ infer manner. AreBegun infer manner (held_files held (words_at words (checked_indexes command))) old new)
