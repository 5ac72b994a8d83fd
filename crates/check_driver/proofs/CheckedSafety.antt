-- Where the section of an assembly has the line that tells a method to be proved, the method is safe.
use Rattle.std.proofs.Common.{◌≡◌, ℕ, Bool, true, false, List, [], ◌∷◌, ◌++◌, Option, Some, None, slice_get, codes, refl, sym, ap, subst, ◌∙◌, append_assoc}
use Rattle.std.specs.Prelude.{Contains, IfSome, is_some, option_and_then, option_map, unwrap_or}
use Rattle.std.proofs.lemmas.Option.{none-some}
use Rattle.asm_image.specs.Rows.{methods_of}
use Rattle.asm_image.specs.declared.method_row.MethodRow.{MethodRow}
use Rattle.cc_base.specs.Digits.{hex}
use Rattle.cc_base.specs.Files.{Held}
use Rattle.command_words.specs.Words.{cache_index, check_files, checked_files, command_of, word_at, words_at}
use Rattle.command_words.specs.declared.command.Command.{Command}
use Rattle.command_words.specs.declared.command.Command.TheVariants as commands
use Rattle.check_driver.specs.CacheMet.{cache_entries, command_cache}
use Rattle.check_driver.specs.Checked.{AreBegun, AreHeldBegun, held_files, infers}
use Rattle.check_driver.specs.Confirmed.{source_held}
use Rattle.check_driver.specs.Expected.{check_manner}
use Rattle.assembly_reports.specs.Reportable.{IsReportable, IsSafeMethod, IsSafeWithInferred}
use Rattle.check_driver.specs.Headline.{IsAssemblyOf, WasAppended}
use Rattle.assembly_reports.specs.InferredUnits.{inferred_entries, inferred_outcome, reported_entries}
use Rattle.assembly_reports.specs.Sections.{HasProvedLine, proved_line, section}
use Rattle.unit_builder.specs.Outcomes.{entries_of, outcome_of}
use Rattle.unit_builder.specs.declared.entry.Outcome.{Outcome}
use Rattle.assembly_reports.proofs.InferredEntries.{inferred_runnable}
use Rattle.assembly_reports.proofs.Members.{mapped_at}
use Rattle.assembly_reports.proofs.PrintedMethods.{IsSafeIn}
use Rattle.assembly_reports.proofs.PrintedSafety.{said_method}
use Rattle.check_driver.proofs.ReportSections.{IsToldOf, begun_section, said_of}
use Rattle.assembly_reports.proofs.Reported.{method_said, report_said}
use Rattle.unit_verdicts.specs.Picks.{Manner, Pick, limit_manner, pick_from}
use Rattle.unit_verdicts.specs.declared.source.Source.TheVariants.{Cache as OfCache}

-- The reports of the files that these words name were begun as far as was written.
abbrev pub AreBegunOf : Option Held → List (List ℕ) → Option (List ℕ) → Option (List ℕ) → Option Command → Type 0
AreBegunOf told words old new command =
    IfSome command (λ some. AreHeldBegun told words some old new)

-- What is known of a call's assembly and of what was appended.
pub record IsKnownOf (told : Option Held) (words : List (List ℕ)) (held : Held) (k : ℕ) (bytes text : List ℕ) (old new : Option (List ℕ)) : Type 0 where
  pub told_is : told ≡ Some held
  pub assembly : IsAssemblyOf words held k bytes
  pub begun : AreBegunOf told words old new (command_of words)
  pub appended : WasAppended old new text

-- The report of the assembly, under some name, has the line.
record IsSaid (infer : Bool) (manner : Manner) (bytes line : List ℕ) : Type 0 where
  name : List ℕ
  known : IsReportable bytes
  has : Contains (report_said name manner (reported_entries infer manner.pick bytes)) line

module _ (told : Option Held) (words : List (List ℕ)) (held : Held) (k : ℕ) (bytes text : List ℕ) (old new : Option (List ℕ))
    (is : IsKnownOf told words held k bytes text old new) where
  -- The file of that index is the assembly.
  said_of_file : (infer : Bool) (manner : Manner) (names : List (List ℕ)) (line : List ℕ) → slice_get names k ≡ Some is.assembly.name
      → IsToldOf infer manner (held_files held names) k line → IsSaid infer manner bytes line
  said_of_file infer manner names line kth found =
      let name = is.assembly.name in
      let there : (name, unwrap_or (held name) []) ≡ found.item = mapped_at (λ (n : List ℕ). (n, unwrap_or (held n) [])) names k name found.item kth found.kth in
      let same : found.item ≡ (name, bytes) = sym there ∙ ap (λ (under : Option (List ℕ)). (name, unwrap_or under [])) is.assembly.is_held in
      record {
        name = name;
        known = subst (λ (file : List ℕ × List ℕ). IsReportable file.1) same found.known;
        has = subst (λ (file : List ℕ × List ℕ). Contains (said_of infer manner file) line) same found.has;
      }

  said_of_names : (infer : Bool) (manner : Manner) (line : List ℕ) → Contains (section k text) line → (names : List (List ℕ)) → slice_get names k ≡ Some is.assembly.name
      → AreBegun infer manner (held_files held names) old new → IsSaid infer manner bytes line
  said_of_names infer manner line has names kth begun =
      said_of_file infer manner names line kth (begun_section infer manner (held_files held names) old new text k line begun is.appended has)

  -- The manner of the reports. Where none are made, any.
  manner_by : (command : Option Command) → AreBegunOf told words old new command → Manner
  manner_by (Some (commands.Check check)) begun = check_manner check (option_and_then held (command_cache words (commands.Check check)))
  manner_by (Some (commands.Verify file proof)) begun = (begun held is.told_is).0
  manner_by _ begun = limit_manner false

  said_by : (line : List ℕ) → Contains (section k text) line → (command : Option Command) → slice_get (checked_files words command) k ≡ Some is.assembly.name
      → (begun : AreBegunOf told words old new command) → IsSaid (infers command) (manner_by command begun) bytes line
  unfolding manner_by
  said_by line has (Some (commands.Check check)) kth begun =
      said_of_names (is_some check.infer) (check_manner check (option_and_then held (command_cache words (commands.Check check)))) line has (words_at words (check_files check)) kth
      (begun held is.told_is)
  said_by line has (Some (commands.Linked linked)) kth begun = absurd (none-some is.assembly.name kth)
  said_by line has (Some (commands.Verify file proof)) kth begun =
      let its = begun held is.told_is in said_of_names false its.0 line has (words_at words (file ∷ [])) kth its.1
  said_by line has (Some (commands.Unit file)) kth begun = absurd (none-some is.assembly.name kth)
  said_by line has (Some (commands.List file)) kth begun = absurd (none-some is.assembly.name kth)
  said_by line has (Some (commands.Il file method)) kth begun = absurd (none-some is.assembly.name kth)
  said_by line has (Some (commands.Run run)) kth begun = absurd (none-some is.assembly.name kth)
  said_by line has (Some (commands.Refute file method runs)) kth begun = absurd (none-some is.assembly.name kth)
  said_by line has (Some (commands.Gen seed count)) kth begun = absurd (none-some is.assembly.name kth)
  said_by line has None kth begun = absurd (none-some is.assembly.name kth)

  abbrev infer : Bool
  infer = infers (command_of words)

  abbrev manner : Manner
  manner = manner_by (command_of words) is.begun

  said : (line : List ℕ) → Contains (section k text) line → IsSaid infer manner bytes line
  said line has = said_by line has (command_of words) is.assembly.kth is.begun

  -- An assembly can be reported whose section has a line.
  pub section_reportable : (line : List ℕ) → Contains (section k text) line → IsReportable bytes
  section_reportable line has = IsSaid.known (said line has)

  -- The pick of the reports.
  pub its_pick : Pick
  its_pick = manner.pick

  -- Where they are made with what is inferred, it is that of what is held.
  pick_by : (command : Option Command) (begun : AreBegunOf told words old new command) → infers command ≡ true
      → (manner_by command begun).pick ≡ pick_from (OfCache (cache_entries (option_and_then held (option_map (word_at words) (option_and_then cache_index command)))))
  unfolding manner_by
  pick_by (Some (commands.Check check)) begun so = refl
  pick_by (Some (commands.Linked linked)) begun so = absurd cc
  pick_by (Some (commands.Verify file proof)) begun so = absurd cc
  pick_by (Some (commands.Unit file)) begun so = absurd cc
  pick_by (Some (commands.List file)) begun so = absurd cc
  pick_by (Some (commands.Il file method)) begun so = absurd cc
  pick_by (Some (commands.Run run)) begun so = absurd cc
  pick_by (Some (commands.Refute file method runs)) begun so = absurd cc
  pick_by (Some (commands.Gen seed count)) begun so = absurd cc
  pick_by None begun so = absurd cc

  pub its_pick_is : infer ≡ true → its_pick ≡ pick_from (source_held words held)
  unfolding its_pick
  its_pick_is so = pick_by (command_of words) is.begun so

  -- What comes of a method in the report.
  abbrev reported_of : Bool → MethodRow → Outcome
  reported_of false = outcome_of bytes
  reported_of true = inferred_outcome its_pick bytes

  -- A method is safe whose line stands in the section of its assembly.
  section_safe_in : (infers_so : Bool) → infer ≡ infers_so → (method : MethodRow) → Contains (methods_of bytes) method → HasProvedLine (section k text) method
      → IsSafeIn (reported_of infers_so) method
  unfolding method_said entries_of inferred_entries its_pick manner_by
  section_safe_in infers_so so method has line =
      let one = subst (λ (b : Bool). IsSaid b manner bytes (proved_line method)) so (said (proved_line method) line) in
      let head = codes "method " ++ hex 8 method.token.0 ++ codes " " ++ method.name in
      let same : proved_line method ≡ head ++ codes ": " ++ codes "proved" = sym (append_assoc head (codes ": ") (codes "proved")) in
      by_entries infers_so (IsSaid.name one) (IsSaid.known one) (subst (Contains (report_said (IsSaid.name one) manner (reported_entries infers_so its_pick bytes))) same (IsSaid.has one)) has
    where
      by_entries : (b : Bool) (name : List ℕ) → IsReportable bytes
          → Contains (report_said name manner (reported_entries b its_pick bytes)) (method_said method.token.0 method.name (codes "proved")) → Contains (methods_of bytes) method
          → IsSafeIn (reported_of b) method
      by_entries false name known told among = said_method name manner bytes (outcome_of bytes) method known.accepted known.runnable among told
      by_entries true name known told among =
          said_method name manner bytes (inferred_outcome its_pick bytes) method known.accepted (inferred_runnable its_pick bytes known.accepted known.runnable) among told

  pub section_safe : infer ≡ false → (method : MethodRow) → Contains (methods_of bytes) method → HasProvedLine (section k text) method → IsSafeMethod bytes method
  section_safe so method has line =
      let safe = section_safe_in false so method has line in record { unit = safe.unit; analysed = safe.analysed; safe = safe.safe }

  pub section_inferred : infer ≡ true → (method : MethodRow) → Contains (methods_of bytes) method → HasProvedLine (section k text) method
      → IsSafeIn (inferred_outcome its_pick bytes) method
  section_inferred so method has line = section_safe_in true so method has line

  pub section_with_inferred : infer ≡ true → (method : MethodRow) → Contains (methods_of bytes) method → HasProvedLine (section k text) method
      → IsSafeWithInferred (pick_from (source_held words held)) bytes method
  section_with_inferred so method has line =
      let safe = section_inferred so method has line in
      subst (λ (pick : Pick). IsSafeWithInferred pick bytes method) (its_pick_is so) (record { unit = safe.unit; analysed = safe.analysed; safe = safe.safe })
