-- A line in a section of the reports of linked files: it is one of the report of its file, and a method that it tells
-- to be proved is safe.
use Rattle.std.proofs.Common.{◌≡◌, ℕ, zero, suc, ◌+◌, List, [], ◌∷◌, ◌++◌, map, take, zip, length, get_or, Option, Some, None, slice_get, codes, refl, sym, ap, subst, ◌∙◌, append_assoc, arith, inl, inr}
use Rattle.std.specs.Prelude.{Contains}
use Rattle.std.specs.List.{AllByRecursion, flat_map, range_with_len}
use Rattle.std.proofs.lemmas.List.{take-map}
use Rattle.std.proofs.lemmas.List.Folds.{flat_map-map}
use Rattle.std.proofs.lemmas.Option.{get_or_from_slice_get, none-some, same_Some}
use Rattle.asm_image.specs.Faults.{FirstBroken}
use Rattle.asm_image.specs.Rows.{methods_of}
use Rattle.asm_image.specs.declared.method_row.MethodRow.{MethodRow}
use Rattle.cc_base.proofs.SinkLemmas.{AppendsPrefix-none}
use Rattle.cc_base.specs.Digits.{hex}
use Rattle.cc_base.specs.Sink.{AppendsPrefix}
use Rattle.unit_builder.specs.Linked.{linked, linked_entries}
use Rattle.unit_builder.specs.Outcomes.{entries_in, outcome_in}
use Rattle.unit_builder.specs.Scopes.{scope_in}
use Rattle.unit_verdicts.specs.Picks.{Manner}
use Rattle.check_driver.specs.Headline.{WasAppended}
use Rattle.check_driver.specs.LinkedHeadline.{SomeLinkedBegun}
use Rattle.check_driver.specs.LinkedReports.{LinkedBegun, ReportedFile, ReportsBegun, file_report, file_reports, first_refused}
use Rattle.assembly_reports.specs.Reportable.{CanRun}
use Rattle.check_driver.specs.NothingOr.{NothingOr}
use Rattle.assembly_reports.specs.Sections.{HasProvedLine, proved_line, section}
use Rattle.check_driver.proofs.LinkedFiles.{none_of_both}
use Rattle.assembly_reports.proofs.PrintedMethods.{IsSafeIn}
use Rattle.assembly_reports.proofs.PrintedSafety.{report_one_line, said_method}
use Rattle.check_driver.proofs.ReportSections.{IsToldBy, report_is_section, section_told}
use Rattle.assembly_reports.proofs.Reported.{method_said, report_is_lines, report_said}

-- ---- files by their numbers

-- A file by its name and its list index.
abbrev NumberedFile : Type 0
NumberedFile = List ℕ × ℕ

numbered_at : (names : List (List ℕ)) (first count k : ℕ) (item : NumberedFile) → slice_get (zip names (range_with_len first count)) k ≡ Some item → item.1 ≡ first + k
numbered_at [] first count k item is = absurd (none-some item is)
numbered_at (name ∷ names) first zero k item is = absurd (none-some item is)
numbered_at (name ∷ names) first (suc count) zero item is =
    let same : first ≡ item.1 = ap (λ (n : NumberedFile). n.1) (same_Some (name, first) item is) in omega (arith, same)
numbered_at (name ∷ names) first (suc count) (suc k) item is = omega (arith, numbered_at names (first + 1) count k item is)

zip_mapped : {X : Type 0} (f : ℕ → X) (names : List (List ℕ)) (ks : List ℕ) → zip names (map f ks) ≡ map (λ (n : NumberedFile). (n.0, f n.1)) (zip names ks)
zip_mapped f [] ks = refl
zip_mapped f (name ∷ names) [] = refl
zip_mapped {X} f (name ∷ names) (k ∷ ks) = ap (λ (l : List (List ℕ × X)). (name, f k) ∷ l) (zip_mapped f names ks)

all_mapped : {X Y : Type 0} (P : Y → Type 0) (f : X → Y) (xs : List X) → AllByRecursion P (map f xs) → AllByRecursion (λ x. P (f x)) xs
all_mapped P f [] all = tt
all_mapped P f (x ∷ xs) all = (all.0, all_mapped P f xs all.1)

-- ---- a file that is accepted

pub each_accepted : (files : List (List ℕ)) (k : ℕ) (bytes : List ℕ) → first_refused files ≡ None → slice_get files k ≡ Some bytes → FirstBroken bytes ≡ None
each_accepted [] k bytes none at = absurd (none-some bytes at)
each_accepted (file ∷ files) zero bytes none at =
    let parts = none_of_both (FirstBroken file) (first_refused files) none in
    subst (λ (b : List ℕ). FirstBroken b ≡ None) (same_Some file bytes at) parts.0
each_accepted (file ∷ files) (suc k) bytes none at =
    let parts = none_of_both (FirstBroken file) (first_refused files) none in each_accepted files k bytes parts.1 at

-- ---- the line of a section

-- The report of this file, under its name, has the line.
pub record IsSaidOf (files : List (List ℕ)) (k : ℕ) (line : List ℕ) : Type 0 where
  pub name : List ℕ
  pub manner : Manner
  pub accepted : first_refused files ≡ None
  pub known : CanRun (entries_in (linked files) k)
  pub has : Contains (report_said name manner (entries_in (linked files) k)) line

module _ (names files : List (List ℕ)) (old new : Option (List ℕ)) (text : List ℕ) (appended : WasAppended old new text) (k : ℕ) (line : List ℕ) (has : Contains (section k text) line) where
  -- Where nothing was written there is no line.
  nothing_said : {P : Type 0} → new ≡ old → P
  nothing_said same =
      absurd
      (IsToldBy.item
      (section_told {X = ⊥} (λ item. absurd item) (λ item. absurd item) (λ item. ⊥) (λ item. absurd item) (λ item known. absurd item) (λ item. absurd item) [] 0 old new text k line tt
      (AppendsPrefix-none old new [] same) appended has))

  abbrev report : Manner → NumberedFile → List ℕ
  report manner item = file_report manner (item.0, entries_in (linked files) item.1)

  abbrev said : Manner → NumberedFile → List (List ℕ)
  said manner item = report_said item.0 manner (entries_in (linked files) item.1)

  abbrev can_run : NumberedFile → Type 0
  can_run item = CanRun (entries_in (linked files) item.1)

  abbrev numbered : List NumberedFile
  numbered = zip names (range_with_len 0 (length files))

  abbrev entries : NumberedFile → ReportedFile
  entries item = (item.0, entries_in (linked files) item.1)

  reported_are : zip names (linked_entries files) ≡ map entries numbered
  unfolding linked_entries
  reported_are = zip_mapped (entries_in (linked files)) names (range_with_len 0 (length files))

  said_by : (manner : Manner) → LinkedBegun manner names files old new → IsSaidOf files k line
  said_by manner its =
      let begun = subst (λ (reported : List ReportedFile). ReportsBegun manner reported old new) reported_are its.begun in
      let n = begun.count in
      let taken : take n (map entries numbered) ≡ map entries (take n numbered) = take-map entries n numbered in
      let each = all_mapped (λ (file : ReportedFile). CanRun file.1) entries (take n numbered) (subst (AllByRecursion (λ (file : ReportedFile). CanRun file.1)) taken begun.each) in
      let prefix : AppendsPrefix old new (flat_map (report manner) (take n numbered)) =
      subst (AppendsPrefix old new) (ap (file_reports manner) taken ∙ flat_map-map (file_report manner) entries (take n numbered)) begun.prefix in
      let told =
      section_told (report manner) (said manner) can_run (λ (item : NumberedFile). report_is_lines item.0 manner (entries_in (linked files) item.1))
      (λ (item : NumberedFile) (known : can_run item). report_one_line item.0 manner ((linked files).bytes item.1) (outcome_in (scope_in (linked files) item.1)) known)
      (λ (item : NumberedFile). report_is_section item.0 manner (entries_in (linked files) item.1)) numbered n old new text k line each prefix appended has in
      let same : told.item.1 ≡ k = numbered_at names 0 (length files) k told.item told.kth ∙ omega arith in
      record {
        name = told.item.0;
        manner = manner;
        accepted = its.accepted;
        known = subst (λ (j : ℕ). CanRun (entries_in (linked files) j)) same told.known;
        has = subst (λ (j : ℕ). Contains (report_said told.item.0 manner (entries_in (linked files) j)) line) same told.has;
      }

  pub section_said : NothingOr old new (SomeLinkedBegun names files old new) → IsSaidOf files k line
  section_said (inl same) = nothing_said same
  section_said (inr (manner, its)) = said_by manner its

-- ---- the method

-- A method is safe whose line stands in the section of its file, and the units of that file can be run.
pub record IsSafeOf (files : List (List ℕ)) (k : ℕ) (method : MethodRow) : Type 0 where
  pub accepted : first_refused files ≡ None
  pub known : CanRun (entries_in (linked files) k)
  pub safe : IsSafeIn (outcome_in (scope_in (linked files) k)) method

module _ (names files : List (List ℕ)) (old new : Option (List ℕ)) (text : List ℕ) (appended : WasAppended old new text) (begun : NothingOr old new (SomeLinkedBegun names files old new)) where
  pub section_safe : (k : ℕ) (bytes : List ℕ) (method : MethodRow) → slice_get files k ≡ Some bytes → Contains (methods_of bytes) method → HasProvedLine (section k text) method
      → IsSafeOf files k method
  unfolding method_said
  section_safe k bytes method at has line =
      let one = section_said names files old new text appended k (proved_line method) line begun in
      let asm : get_or files k [] ≡ bytes = get_or_from_slice_get files k bytes [] at in
      let head = codes "method " ++ hex 8 method.token.0 ++ codes " " ++ method.name in
      let same : proved_line method ≡ head ++ codes ": " ++ codes "proved" = sym (append_assoc head (codes ": ") (codes "proved")) in
      record {
        accepted = one.accepted;
        known = one.known;
        safe =
            said_method one.name one.manner ((linked files).bytes k) (outcome_in (scope_in (linked files) k)) method
            (subst (λ (b : List ℕ). FirstBroken b ≡ None) (sym asm) (each_accepted files k bytes one.accepted at)) one.known
            (subst (λ (b : List ℕ). Contains (methods_of b) method) (sym asm) has)
            (subst (Contains (report_said one.name one.manner (entries_in (linked files) k))) same one.has);
      }
