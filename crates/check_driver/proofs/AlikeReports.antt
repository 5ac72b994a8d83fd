-- Reports that are made in two manners which agree on the units of their assemblies are one.
use Rattle.std.proofs.Common.{◌≡◌, ℕ, Bool, true, false, List, [], ◌∷◌, ◌++◌, Option, Some, None, if◌then◌else◌, refl, ap, ◌∙◌}
use Rattle.std.specs.Prelude.{Contains}
use Rattle.std.specs.List.{AllByRecursion, flat_map, list_all}
use Rattle.asm_image.specs.Faults.{FirstBroken}
use Rattle.asm_image.specs.declared.fault.AsmFault.{AsmFault}
use Rattle.cil_model.specs.declared.unit.Unit.{Unit as MethodUnit}
use Rattle.method_unit.specs.Units.{IsUnit}
use Rattle.unit_builder.specs.Outcomes.{IfAnalysed, entries_of}
use Rattle.unit_builder.specs.declared.entry.MethodEntry.{MethodEntry}
use Rattle.unit_builder.specs.declared.entry.Outcome.{Outcome}
use Rattle.unit_builder.specs.declared.entry.Outcome.TheVariants.{Analysed, Skipped}
use Rattle.unit_form.specs.Spelling.{unit_bytes}
use Rattle.answer_lines.specs.Answers.{Answer}
use Rattle.answer_lines.specs.Lines.{summary_line}
use Rattle.result_cache.specs.Entries.{Entry}
use Rattle.unit_verdicts.specs.CacheFile.{AreHonest}
use Rattle.unit_verdicts.specs.Picks.{Manner, Pick, limit_manner, limit_pick, pick_of, shown_text, verdicts_under}
use Rattle.unit_verdicts.specs.VerdictCache.{manner_under}
use Rattle.unit_verdicts.specs.declared.source.Source.TheVariants.{Cache as OfCache}
use Rattle.unit_verdicts.proofs.Honest.{honest_pick, honest_text, honest_verdicts}
use Rattle.check_driver.specs.Asked.{check_keys, keys_before}
use Rattle.assembly_reports.specs.JudgedUnits.{judged_keys, outcome_key, report_keys}
use Rattle.assembly_reports.specs.CheckText.{Finding, WithVerdicts, all_counts, all_methods_proved, assembly_line, check_text, entry_lines, finding_lines, findings, found_counts, is_proved, outcome_finding, outcome_shown, report_text}
use Rattle.assembly_reports.specs.Reportable.{AreRunnable, CanRun}
use Rattle.assembly_reports.specs.InferredUnits.{inferred_entries, reported_entries}
use Rattle.assembly_reports.specs.Labels.{labels_of}
use Rattle.check_driver.specs.Expected.{check_answer, checked_before}
use Rattle.check_driver.specs.Known.{AreAllRunnable, RunnableBefore}
use Rattle.assembly_reports.proofs.InferredEntries.{AreOnePick, reported_runnable, same_entries}
use Rattle.check_driver.proofs.SeveralFiles.{answer_then}

-- In two manners the units of these keys have the same verdicts, and the same is shown of them.
pub record AgreeOn (a b : Manner) (keys : List (List ℕ)) : Type 0 where
  pub verdicts : (unit : MethodUnit) → IsUnit unit → Contains keys (unit_bytes unit) → verdicts_under a.pick unit ≡ verdicts_under b.pick unit
  pub shown : (unit : MethodUnit) → IsUnit unit → Contains keys (unit_bytes unit) → shown_text a unit ≡ shown_text b unit

-- All of these keys are among those.
abbrev pub AreAmong : List (List ℕ) → List (List ℕ) → Type 0
AreAmong all keys = AllByRecursion (Contains all) keys

pub first_among : (all xs ys : List (List ℕ)) → AreAmong all (xs ++ ys) → AreAmong all xs
first_among all [] ys among = tt
first_among all (x ∷ xs) ys among = (among.0, first_among all xs ys among.1)

pub last_among : (all xs ys : List (List ℕ)) → AreAmong all (xs ++ ys) → AreAmong all ys
last_among all [] ys among = among
last_among all (x ∷ xs) ys among = last_among all xs ys among.1

module _ (a b : Manner) (all : List (List ℕ)) (agree : AgreeOn a b all) where
  same_finding : (outcome : Outcome) → IfAnalysed outcome IsUnit → AreAmong all (outcome_key outcome) → outcome_finding a.pick outcome ≡ outcome_finding b.pick outcome
  same_finding (Analysed unit) is among = ap (WithVerdicts (labels_of unit)) (agree.verdicts unit is among.0)
  same_finding (Skipped reason) is among = refl

  same_shown : (outcome : Outcome) → IfAnalysed outcome IsUnit → AreAmong all (outcome_key outcome) → outcome_shown a outcome ≡ outcome_shown b outcome
  same_shown (Analysed unit) is among = agree.shown unit is among.0
  same_shown (Skipped reason) is among = refl

  abbrev Runnable : List MethodEntry → Type 0
  Runnable methods = AllByRecursion (λ entry. IfAnalysed entry.outcome IsUnit) methods

  same_lines : (methods : List MethodEntry) → Runnable methods → AreAmong all (judged_keys methods) → flat_map (entry_lines a) methods ≡ flat_map (entry_lines b) methods
  same_lines [] runnable among = refl
  same_lines (entry ∷ methods) runnable among =
      let own = first_among all (outcome_key entry.outcome) (judged_keys methods) among in
      let later = last_among all (outcome_key entry.outcome) (judged_keys methods) among in
      ap (λ (found : Finding). (finding_lines entry.token.0 entry.name found ++ outcome_shown a entry.outcome) ++ flat_map (entry_lines a) methods) (same_finding entry.outcome runnable.0 own)
      ∙ ap (λ (shown : List ℕ). (finding_lines entry.token.0 entry.name (outcome_finding b.pick entry.outcome) ++ shown) ++ flat_map (entry_lines a) methods) (same_shown entry.outcome runnable.0 own)
      ∙ ap (λ (lines : List ℕ). entry_lines b entry ++ lines) (same_lines methods runnable.1 later)

  same_findings : (methods : List MethodEntry) → Runnable methods → AreAmong all (judged_keys methods) → findings a.pick methods ≡ findings b.pick methods
  same_findings [] runnable among = refl
  same_findings (entry ∷ methods) runnable among =
      let own = first_among all (outcome_key entry.outcome) (judged_keys methods) among in
      let later = last_among all (outcome_key entry.outcome) (judged_keys methods) among in
      ap (λ (found : Finding). found ∷ findings a.pick methods) (same_finding entry.outcome runnable.0 own)
      ∙ ap (λ (found : List Finding). outcome_finding b.pick entry.outcome ∷ found) (same_findings methods runnable.1 later)

  pub same_report : (name : List ℕ) (entries : List MethodEntry) → Runnable entries → AreAmong all (judged_keys entries) → report_text name a entries ≡ report_text name b entries
  unfolding report_text
  same_report name entries runnable among =
      ap (λ (lines : List ℕ). assembly_line name ++ lines ++ summary_line (all_counts a.pick entries)) (same_lines entries runnable among)
      ∙ ap (λ (found : List Finding). assembly_line name ++ flat_map (entry_lines b) entries ++ summary_line (found_counts found)) (same_findings entries runnable among)

  pub same_entries_proved : (entries : List MethodEntry) → Runnable entries → AreAmong all (judged_keys entries)
      → list_all is_proved (findings a.pick entries) ≡ list_all is_proved (findings b.pick entries)
  same_entries_proved entries runnable among = ap (list_all is_proved) (same_findings entries runnable among)

  pub same_text : (name bytes : List ℕ) → AreRunnable bytes → AreAmong all (judged_keys (entries_of bytes)) → check_text false name a bytes ≡ check_text false name b bytes
  same_text name bytes runnable among = same_report name (entries_of bytes) runnable among

  pub same_proved : (bytes : List ℕ) → AreRunnable bytes → AreAmong all (judged_keys (entries_of bytes)) → all_methods_proved false a.pick bytes ≡ all_methods_proved false b.pick bytes
  same_proved bytes runnable among = same_entries_proved (entries_of bytes) runnable among

-- ---- whole answers

-- Those of the units as they are written are among all.
report_among : (infer : Bool) (pick : Pick) (bytes : List ℕ) (all : List (List ℕ)) → AreAmong all (report_keys infer pick bytes)
    → AreAmong all (judged_keys (reported_entries infer pick bytes))
report_among false pick bytes all among = among
report_among true pick bytes all among = last_among all (judged_keys (entries_of bytes)) (judged_keys (inferred_entries pick bytes)) among

module _ (infer : Bool) (a b : Manner) (all : List (List ℕ)) (agree : AgreeOn a b all) (picks : infer ≡ true → AreOnePick a.pick b.pick) where
  -- The report of an assembly that is accepted, and whether each method of it is proved.
  module _ (bytes : List ℕ) (accepted : FirstBroken bytes ≡ None) (runnable : AreRunnable bytes) (among : AreAmong all (report_keys infer a.pick bytes)) where
    abbrev entries : List MethodEntry
    entries = reported_entries infer a.pick bytes

    entries_are : entries ≡ reported_entries infer b.pick bytes
    entries_are = same_entries infer a.pick b.pick bytes runnable picks

    can_run : CanRun entries
    can_run = reported_runnable infer a.pick bytes accepted runnable

    here : AreAmong all (judged_keys entries)
    here = report_among infer a.pick bytes all among

    text_alike : (name : List ℕ) → check_text infer name a bytes ≡ check_text infer name b bytes
    text_alike name = same_report a b all agree name entries can_run here ∙ ap (report_text name b) entries_are

    proved_alike : all_methods_proved infer a.pick bytes ≡ all_methods_proved infer b.pick bytes
    proved_alike =
        same_entries_proved a b all agree entries can_run here
        ∙ ap (λ (es : List MethodEntry). list_all is_proved (findings b.pick es)) entries_are

    -- The answer for it, and for those after it.
    alike_first : (name : List ℕ) (others other : Answer) → others ≡ other
        → answer_then (check_text infer name a bytes) (if all_methods_proved infer a.pick bytes then 0 else 1) others
        ≡ answer_then (check_text infer name b bytes) (if all_methods_proved infer b.pick bytes then 0 else 1) other
    alike_first name others other same =
        ap (λ (text : List ℕ). answer_then text (if all_methods_proved infer a.pick bytes then 0 else 1) others) (text_alike name)
        ∙ ap (λ (proved : Bool). answer_then (check_text infer name b bytes) (if proved then 0 else 1) others) proved_alike
        ∙ ap (answer_then (check_text infer name b bytes) (if all_methods_proved infer b.pick bytes then 0 else 1)) same

  alike_before : (name bytes : List ℕ) (fault : Option AsmFault) (others other : Answer) (keys : List (List ℕ)) (Others : Type 0) → FirstBroken bytes ≡ fault → RunnableBefore bytes fault Others
      → AreAmong all (keys_before infer a.pick bytes fault keys) → (Others → AreAmong all keys → others ≡ other)
      → checked_before infer name a bytes fault others ≡ checked_before infer name b bytes fault other
  alike_before name bytes (Some fault) others other keys Others first runnable among later = refl
  alike_before name bytes None others other keys Others first runnable among later =
      alike_first bytes first runnable.0 (first_among all (report_keys infer a.pick bytes) keys among) name others other
      (later runnable.1 (last_among all (report_keys infer a.pick bytes) keys among))

  -- The answers to a check in these manners.
  pub alike_answers : (names files : List (List ℕ)) → AreAllRunnable files → AreAmong all (check_keys infer a.pick files) → check_answer infer a names files ≡ check_answer infer b names files
  alike_answers [] files runnable among = refl
  alike_answers (name ∷ names) [] runnable among = refl
  alike_answers (name ∷ names) (bytes ∷ files) runnable among =
      alike_before name bytes (FirstBroken bytes) (check_answer infer a names files) (check_answer infer b names files) (check_keys infer a.pick files) (AreAllRunnable files) refl runnable among
      (λ (its : AreAllRunnable files) (keys : AreAmong all (check_keys infer a.pick files)). alike_answers names files its keys)

-- Where the entries of a cache are honest, it agrees with what a finder answers.
pub agree_honest : (show : Bool) (entries : List Entry) (keys : List (List ℕ)) → AreHonest entries → AgreeOn (manner_under show (OfCache entries)) (limit_manner show) keys
agree_honest show entries keys honest = record {
  verdicts = λ unit is has. honest_verdicts entries unit honest is;
  shown = λ unit is has. honest_text show entries unit honest is;
}

pub one_pick_honest : (entries : List Entry) → AreHonest entries → AreOnePick (pick_of entries) limit_pick
one_pick_honest entries honest = λ unit is. honest_pick entries unit honest is
