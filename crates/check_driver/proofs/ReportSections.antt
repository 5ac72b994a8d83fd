-- The sections of the reports that were begun.
use Rattle.std.proofs.Common.{◌≡◌, ◌≢◌, ℕ, Bool, true, false, List, [], ◌∷◌, ◌++◌, get_or, take, Option, Some, slice_get, slice_index_or, refl, sym, ap, subst, ◌∙◌, arith}
use Rattle.std.specs.Prelude.{Contains}
use Rattle.std.specs.List.{AllByRecursion, flat_map}
use Rattle.std.proofs.lemmas.Bool.{ne_eqb}
use Rattle.cc_base.specs.Sink.{AppendsPrefix, IsPrefix}
use Rattle.unit_builder.specs.Outcomes.{entries_of, outcome_of}
use Rattle.unit_builder.specs.declared.entry.MethodEntry.{MethodEntry}
use Rattle.unit_builder.specs.declared.entry.Outcome.{Outcome}
use Rattle.answer_lines.specs.declared.lines.Counts.{Counts}
use Rattle.answer_lines.proofs.SingleLines.{summary_prefix, summary_said}
use Rattle.answer_lines.proofs.WholeLines.{IsOneLine, as_lines}
use Rattle.assembly_reports.specs.CheckText.{all_counts, outcome_finding, outcome_shown, verdict_text}
use Rattle.check_driver.specs.Checked.{AreBegun, report_of}
use Rattle.assembly_reports.specs.Reportable.{IsReportable}
use Rattle.check_driver.specs.Headline.{WasAppended}
use Rattle.assembly_reports.specs.InferredUnits.{inferred_entries, inferred_outcome, reported_entries}
use Rattle.assembly_reports.specs.Sections.{lines_of, section, sections_of}
use Rattle.assembly_reports.proofs.Members.{all_of_each, held_at, held_of, taken_at}
use Rattle.check_driver.proofs.OnlyFile.{same_appended}
use Rattle.assembly_reports.proofs.InferredEntries.{inferred_runnable}
use Rattle.assembly_reports.proofs.PrintedSafety.{report_one_line}
use Rattle.assembly_reports.proofs.ReportTexts.{IsSpaced, all_behind, verdicts_spaced}
use Rattle.assembly_reports.proofs.Reported.{entry_said, lines_behind, method_said, outcome_said, report_is_lines, report_said, shown_said, verdicts_said}
use Rattle.assembly_reports.proofs.SectionLemmas.{IsInside, IsSection, prefix_of_lines, section_of_prefix}
use Rattle.assembly_reports.proofs.ShownLines.{no_shown_line}
use Rattle.unit_verdicts.specs.Picks.{Manner, Pick}

-- ---- a report is a section

-- A line that begins with another letter than that of `assembly` begins no section.
inside : (line : List ℕ) → get_or line 0 0 ≢ 97 → IsInside line
inside [] other = refl
inside (letter ∷ line) other = rw (ne_eqb 97 letter (λ same. other (sym same))) refl

method_inside : (token : ℕ) (name text : List ℕ) → IsInside (method_said token name text)
unfolding method_said
method_inside token name text = inside (method_said token name text) (λ e. let letters : 109 ≡ 97 = e in omega (arith, letters))

-- Neither does one that begins with a space.
spaced_inside : (line : List ℕ) → IsSpaced line → IsInside line
spaced_inside line spaced = inside line (λ letter. let letters : 97 ≡ 32 = sym letter ∙ spaced in omega (arith, letters))

verdicts_inside : (pick : Pick) (outcome : Outcome) → AllByRecursion IsInside (verdicts_said pick outcome)
verdicts_inside pick outcome =
    all_of_each IsInside (verdicts_said pick outcome)
    (λ line has. spaced_inside line (held_of IsSpaced (verdicts_said pick outcome) line (verdicts_spaced pick outcome) has))

shown_inside : (manner : Manner) (outcome : Outcome) → AllByRecursion IsInside (shown_said manner outcome)
unfolding shown_said
shown_inside manner outcome =
    all_of_each IsInside (lines_of (outcome_shown manner outcome))
    (λ line has. inside line (λ letter. no_shown_line manner outcome line (λ space. let letters : 97 ≡ 32 = sym letter ∙ space in omega (arith, letters)) has))

entry_inside : (manner : Manner) (entry : MethodEntry) → AllByRecursion IsInside (entry_said manner entry)
unfolding entry_said outcome_said
entry_inside manner entry =
    let text = verdict_text (outcome_finding manner.pick entry.outcome) in
    all_behind IsInside (method_said entry.token.0 entry.name text ∷ verdicts_said manner.pick entry.outcome) (shown_said manner entry.outcome)
    (method_inside entry.token.0 entry.name text, verdicts_inside manner.pick entry.outcome) (shown_inside manner entry.outcome)

entries_inside : (manner : Manner) (entries : List MethodEntry) → AllByRecursion IsInside (flat_map (entry_said manner) entries)
entries_inside manner [] = tt
entries_inside manner (entry ∷ entries) =
    all_behind IsInside (entry_said manner entry) (flat_map (entry_said manner) entries) (entry_inside manner entry) (entries_inside manner entries)

summary_inside : (n : Counts) → IsInside (summary_said n)
unfolding summary_said summary_prefix
summary_inside n = inside (summary_said n) (λ e. let letters : 115 ≡ 97 = e in omega (arith, letters))

pub report_is_section : (name : List ℕ) (manner : Manner) (entries : List MethodEntry) → IsSection (report_said name manner entries)
unfolding report_said
report_is_section name manner entries = (
  refl,
  all_behind IsInside (flat_map (entry_said manner) entries) (summary_said (all_counts manner.pick entries) ∷ []) (entries_inside manner entries)
      (summary_inside (all_counts manner.pick entries), tt),
)

-- ---- reports that were begun

-- Item k is known, and its report has the line.
pub record IsToldBy {X : Type 0} (said : X → List (List ℕ)) (Known : X → Type 0) (items : List X) (k : ℕ) (line : List ℕ) : Type 0 where
  pub item : X
  pub kth : slice_get items k ≡ Some item
  pub known : Known item
  pub has : Contains (said item) line

-- Reports of items, each of which is a section: those of which enough is known have whole lines.
module _ {X : Type 0} (report : X → List ℕ) (said : X → List (List ℕ)) (Known : X → Type 0) (is_report : (item : X) → as_lines (said item) ≡ report item)
    (whole : (item : X) → Known item → AllByRecursion IsOneLine (said item)) (section_is : (item : X) → IsSection (said item)) where
  are_lines : (items : List X) → as_lines (flat_map said items) ≡ flat_map report items
  are_lines [] = refl
  are_lines (item ∷ items) =
      lines_behind (said item) (flat_map said items)
      ∙ ap (λ (l : List ℕ). l ++ as_lines (flat_map said items)) (is_report item)
      ∙ ap (λ (l : List ℕ). report item ++ l) (are_lines items)

  are_one_line : (items : List X) → AllByRecursion Known items → AllByRecursion IsOneLine (flat_map said items)
  are_one_line [] known = tt
  are_one_line (item ∷ items) known = all_behind IsOneLine (said item) (flat_map said items) (whole item known.0) (are_one_line items known.1)

  are_sections : (items : List X) → AllByRecursion (λ item. IsSection (said item)) items
  are_sections [] = tt
  are_sections (item ∷ items) = (section_is item, are_sections items)

  -- A line of section k of what was appended is one of the report of item k.
  pub section_told : (items : List X) (count : ℕ) (old new : Option (List ℕ)) (text : List ℕ) (k : ℕ) (line : List ℕ) → AllByRecursion Known (take count items)
      → AppendsPrefix old new (flat_map report (take count items)) → WasAppended old new text → Contains (section k text) line → IsToldBy said Known items k line
  section_told items count old new text k line each appends appended has =
      let reported = take count items in
      let lines = flat_map said reported in
      let (prefix, is_prefix, adds) = appends in
      let same : prefix ≡ text = same_appended old new prefix appended.before text adds appended.was appended.is in
      let all : IsPrefix text (as_lines lines) = subst (λ (t : List ℕ). IsPrefix t (as_lines lines)) same (subst (IsPrefix prefix) (sym (are_lines reported)) is_prefix) in
      let first = prefix_of_lines text lines (are_one_line reported each) all in
      let there = section_of_prefix said reported first.0 k line (are_sections reported)
      (subst (λ (lines : List (List ℕ)). Contains (slice_index_or (sections_of lines) k []) line) first.1 has) in
      record {
        item = there.item;
        kth = taken_at count items k there.item there.kth;
        known = held_at Known reported k there.item each there.kth;
        has = there.has;
      }

-- ---- the reports of several files, each alone

abbrev pub said_of : Bool → Manner → List ℕ × List ℕ → List (List ℕ)
said_of infer manner (name, bytes) = report_said name manner (reported_entries infer manner.pick bytes)

whole_of : (infer : Bool) (manner : Manner) (file : List ℕ × List ℕ) → IsReportable file.1 → AllByRecursion IsOneLine (said_of infer manner file)
unfolding entries_of inferred_entries
whole_of false manner (name, bytes) known = report_one_line name manner bytes (outcome_of bytes) known.runnable
whole_of true manner (name, bytes) known =
    report_one_line name manner bytes (inferred_outcome manner.pick bytes) (inferred_runnable manner.pick bytes known.accepted known.runnable)

-- File k can be reported, and its report has the line.
abbrev pub IsToldOf : Bool → Manner → List (List ℕ × List ℕ) → ℕ → List ℕ → Type 0
IsToldOf infer manner files k line = IsToldBy (said_of infer manner) (λ file. IsReportable file.1) files k line

-- A line of section k of what was appended is one of the report of file k.
pub begun_section : (infer : Bool) (manner : Manner) (files : List (List ℕ × List ℕ)) (old new : Option (List ℕ)) (text : List ℕ) (k : ℕ) (line : List ℕ) → AreBegun infer manner files old new
    → WasAppended old new text → Contains (section k text) line → IsToldOf infer manner files k line
begun_section infer manner files old new text k line begun appended has =
    section_told (report_of infer manner) (said_of infer manner) (λ (file : List ℕ × List ℕ). IsReportable file.1)
    (λ (file : List ℕ × List ℕ). report_is_lines file.0 manner (reported_entries infer manner.pick file.1)) (whole_of infer manner)
    (λ (file : List ℕ × List ℕ). report_is_section file.0 manner (reported_entries infer manner.pick file.1)) files begun.count old new text k line begun.each begun.prefix appended has
