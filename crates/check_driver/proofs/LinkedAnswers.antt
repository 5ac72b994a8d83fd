-- The reports of files from one on: what is written, what is begun, and what is judged.
use Rattle.std.proofs.Common.{◌≡◌, ℕ, zero, suc, ◌+◌, ◌<◌, ◌≤◌, max, nat_le, Bool, true, false, ◌&&◌, List, [], ◌∷◌, ◌++◌, take, length, zip, get_or, Vec, Global, Option, Some, None, is_none, Result, Ok, Err, if◌then◌else◌, refl, sym, ap, subst, ◌∙◌, append-nil, inl, inr, arith}
use Rattle.std.specs.Prelude.{IfOk}
use Rattle.std.specs.List.{AllByRecursion, flat_map}
use Rattle.std.proofs.lemmas.List.{get_or-map}
use Rattle.cc_base.specs.Sink.{AppendsPrefix, appended, counted}
use Rattle.cc_base.proofs.CountLemmas.{Kept-Rose, Kept-refl, Kept-trans}
use Rattle.cc_base.proofs.SinkLemmas.{AppendsPrefix-after, AppendsPrefix-more, AppendsPrefix-none, appended-appended, appended-nil}
use Rattle.answer_lines.specs.LineCounts.{line_count}
use Rattle.answer_lines.specs.Outcome.{Gives}
use Rattle.answer_lines.specs.Writing.{Change, Writes}
use Rattle.answer_lines.specs.declared.interrupt.Interrupt.{Interrupt}
use Rattle.answer_lines.proofs.LineLemmas.{counted-lines, puts_none}
use Rattle.answer_lines.proofs.Writings.{change, gives_output}
use Rattle.command_words.specs.Words.{word_at, words_at}
use Rattle.unit_builder.specs.FileSets.{FileSet, Several}
use Rattle.unit_builder.specs.Linked.{linked_entries}
use Rattle.unit_builder.specs.declared.entry.MethodEntry.{MethodEntry}
use Rattle.unit_verdicts.specs.Picks.{Manner}
use Rattle.check_driver.specs.Asked.{keys_unless, linked_keys}
use Rattle.assembly_reports.specs.JudgedUnits.{judged_keys}
use Rattle.assembly_reports.specs.CheckText.{report_text}
use Rattle.check_driver.specs.Known.{AreLinkedRunnable, RunnableUnless}
use Rattle.check_driver.specs.LinkedReports.{LinkedBegun, RefusedFile, ReportedFile, ReportsBegun, are_all_proved, entries_from, file_reports, first_refused, linked_answer, refused_or, reported_from}
use Rattle.assembly_reports.specs.Reportable.{CanRun, entries_at}
use Rattle.check_driver.specs.FilesLeft.{are_accepted}
use Rattle.check_driver.specs.LinkedHeadline.{SomeLinkedBegun}
use Rattle.check_driver.specs.LinkedReading.{ReadsAll, ReadsOne}
use Rattle.check_driver.specs.Met.{bytes_read}
use Rattle.check_driver.specs.NothingOr.{NothingOr}
use Rattle.check_driver.specs.declared.linked_answer.Unlinked.{Unlinked}
use Rattle.check_driver.specs.declared.linked_answer.Unlinked.TheVariants as unlinked
use Rattle.check_driver.proofs.LinkedFiles.{all_accepted, refused_at}
use Rattle.answer_lines.specs.Answers.{Answer, output_answer, refused_answer}
use Rattle.asm_image.specs.declared.fault.AsmFault.{AsmFault}
use Rattle.assembly_answers.specs.FaultText.{assembly_fault_text}
use Rattle.check_driver.proofs.SeveralFiles.{cannot_write, parts_of, rest_of}

-- ---- what is written

pub writes_nothing : {X : Type 0} (x : X) (o : Option (List ℕ)) (p : Option ℕ) (f : ℕ) → Writes (Ok x) (change o o p p f f) []
writes_nothing x o p f = record { whole = sym (appended-nil o); puts = puts_none p; prefix = tt; cause = λ is. absurd cc; kept = Kept-refl f }

-- The first text was interrupted.
pub writes_stop : {X Y : Type 0} (i : Interrupt) (sink : Change) (text more : List ℕ) → Writes {X = X} (Err i) sink text → Writes {X = Y} (Err i) sink (text ++ more)
writes_stop {X} {Y} i sink text more w = record {
  whole = tt;
  puts = tt;
  prefix = AppendsPrefix-more sink.old sink.new text more w.prefix;
  cause = λ is. w.cause (cannot_write {X = Y} {Y = X} i is);
  kept = w.kept;
}

-- The first text was written, and then another.
module _ {X : Type 0} (x : X) (text more : List ℕ) (o0 o1 o2 : Option (List ℕ)) (p0 p1 p2 : Option ℕ) (f0 f1 f2 : ℕ) (w : Writes (Ok x) (change o0 o1 p0 p1 f0 f1) text) where
  pub writes_later_stop : {Y Z : Type 0} (i : Interrupt) → Writes {X = Y} (Err i) (change o1 o2 p1 p2 f1 f2) more → Writes {X = Z} (Err i) (change o0 o2 p0 p2 f0 f2) (text ++ more)
  writes_later_stop {Y} {Z} i v = record {
    whole = tt;
    puts = tt;
    prefix = AppendsPrefix-after o0 o1 o2 text more w.whole v.prefix;
    cause = λ is. Kept-Rose f0 f1 f2 w.kept (v.cause (cannot_write {X = Z} {Y = Y} i is));
    kept = Kept-trans f0 f1 f2 w.kept v.kept;
  }

  pub writes_both : {Y Z : Type 0} (y : Y) (z : Z) → Writes (Ok y) (change o1 o2 p1 p2 f1 f2) more → Writes (Ok z) (change o0 o2 p0 p2 f0 f2) (text ++ more)
  writes_both y z v = record {
    whole = v.whole ∙ ap (λ (o : Option (List ℕ)). appended o more) w.whole ∙ appended-appended o0 text more;
    puts = v.puts ∙ ap (λ (p : Option ℕ). counted (line_count more) p) w.puts ∙ counted-lines text more p0;
    prefix = tt;
    cause = λ is. absurd cc;
    kept = Kept-trans f0 f1 f2 w.kept v.kept;
  }

-- ---- what is begun

pub none_begun : (manner : Manner) (files : List ReportedFile) (old new : Option (List ℕ)) → new ≡ old → ReportsBegun manner files old new
none_begun manner files old new same = record { count = 0; each = tt; prefix = AppendsPrefix-none old new [] same }

-- A prefix of the first report was written.
pub first_begun : (manner : Manner) (name : List ℕ) (entries : List MethodEntry) (files : List ReportedFile) (old new : Option (List ℕ)) → NothingOr old new (CanRun entries)
    → AppendsPrefix old new (report_text name manner entries) → ReportsBegun manner ((name, entries) ∷ files) old new
first_begun manner name entries files old new (inl same) prefix = none_begun manner ((name, entries) ∷ files) old new same
first_begun manner name entries files old new (inr known) prefix =
    record { count = 1; each = (known, tt); prefix = subst (AppendsPrefix old new) (sym (append-nil (report_text name manner entries))) prefix }

-- The first report was written.
pub more_begun : (manner : Manner) (name : List ℕ) (entries : List MethodEntry) (files : List ReportedFile) (old mid new : Option (List ℕ)) → CanRun entries
    → mid ≡ appended old (report_text name manner entries) → ReportsBegun manner files mid new → ReportsBegun manner ((name, entries) ∷ files) old new
more_begun manner name entries files old mid new known whole later = record {
  count = suc later.count;
  each = (known, later.each);
  prefix = AppendsPrefix-after old mid new (report_text name manner entries) (file_reports manner (take later.count files)) whole later.prefix;
}

-- ---- the files

pub no_index : (indexes : List ℕ) → length indexes < 1 → indexes ≡ []
no_index [] none = refl
no_index (index ∷ indexes) none = absurd (omega (arith, none))

pub head_is : (indexes : List ℕ) (index : ℕ) → 1 ≤ length indexes → get_or indexes 0 0 ≡ index → indexes ≡ index ∷ rest_of indexes
head_is indexes index some at = parts_of indexes index 0 some at

module _ (files : FileSet) (k : ℕ) (words : List (List ℕ)) (indexes : List ℕ) (index : ℕ) (name : List ℕ) (is : indexes ≡ index ∷ rest_of indexes) (named : name ≡ word_at words index) where
  pub reported_is : reported_from files k (words_at words indexes) ≡ (name, entries_at files k) ∷ reported_from files (k + 1) (words_at words (rest_of indexes))
  reported_is =
      ap (λ (l : List ℕ). reported_from files k (words_at words l)) is
      ∙ ap (λ (n : List ℕ). (n, entries_at files k) ∷ reported_from files (k + 1) (words_at words (rest_of indexes))) (sym named)

  pub entries_is : entries_from files k (length indexes) ≡ entries_at files k ∷ entries_from files (k + 1) (length (rest_of indexes))
  entries_is = ap (λ (l : List ℕ). entries_from files k (length l)) is

-- All files.
pub all_entries : (files : List (List ℕ)) → entries_from (Several files) 0 (length files) ≡ linked_entries files
unfolding linked_entries
all_entries files = refl

pub all_reported : (files names : List (List ℕ)) → length files ≡ length names → reported_from (Several files) 0 names ≡ zip names (linked_entries files)
all_reported files names long = ap (λ (n : ℕ). zip names (entries_from (Several files) 0 n)) (sym long) ∙ ap (zip names) (all_entries files)

-- ---- the answer where none is refused

pub answer_is : (manner : Manner) (names files : List (List ℕ)) → first_refused files ≡ None
    → linked_answer manner names files
    ≡ output_answer (if are_all_proved manner.pick (zip names (linked_entries files)) then 0 else 1) (file_reports manner (zip names (linked_entries files)))
unfolding linked_answer
answer_is manner names files none =
    let reported = zip names (linked_entries files) in
    ap (λ (refused : Option RefusedFile). refused_or names refused (output_answer (if are_all_proved manner.pick reported then 0 else 1) (file_reports manner reported))) none

pub keys_are : (files : List (List ℕ)) → first_refused files ≡ None → linked_keys files ≡ flat_map judged_keys (linked_entries files)
unfolding linked_keys
keys_are files none = ap (λ (refused : Option RefusedFile). keys_unless refused (flat_map judged_keys (linked_entries files))) none

pub runnable_is : (files : List (List ℕ)) → first_refused files ≡ None → AllByRecursion CanRun (linked_entries files) → AreLinkedRunnable files
unfolding AreLinkedRunnable
runnable_is files none each = subst (λ (refused : Option RefusedFile). RunnableUnless refused (AllByRecursion CanRun (linked_entries files))) (sym none) each

-- ---- where one is refused

pub answer_refused : (manner : Manner) (names files : List (List ℕ)) (refused : RefusedFile) → first_refused files ≡ Some refused
    → (other : Answer) → linked_answer manner names files ≡ refused_or names (Some refused) other
unfolding linked_answer
answer_refused manner names files refused is other =
    let reported = zip names (linked_entries files) in
    ap (λ (found : Option RefusedFile). refused_or names found (output_answer (if are_all_proved manner.pick reported then 0 else 1) (file_reports manner reported))) is

pub no_keys : (files : List (List ℕ)) (refused : RefusedFile) → first_refused files ≡ Some refused → linked_keys files ≡ []
unfolding linked_keys
no_keys files refused is = ap (λ (found : Option RefusedFile). keys_unless found (flat_map judged_keys (linked_entries files))) is

pub refused_runnable : (files : List (List ℕ)) (refused : RefusedFile) → first_refused files ≡ Some refused → AreLinkedRunnable files
unfolding AreLinkedRunnable
refused_runnable files refused is = subst (λ (found : Option RefusedFile). RunnableUnless found (AllByRecursion CanRun (linked_entries files))) (sym is) tt

-- ---- all files, as the code has them

pub all_reported_by : (set : FileSet) (files names : List (List ℕ)) → set ≡ Several files → length files ≡ length names → reported_from set 0 names ≡ zip names (linked_entries files)
all_reported_by set files names is long = ap (λ (s : FileSet). reported_from s 0 names) is ∙ all_reported files names long

entries_by : (set : FileSet) (files : List (List ℕ)) (n : ℕ) → set ≡ Several files → length files ≡ n → entries_from set 0 n ≡ linked_entries files
entries_by set files n is long =
    ap (λ (s : FileSet). entries_from s 0 n) is ∙ ap (λ (m : ℕ). entries_from (Several files) 0 m) (sym long) ∙ all_entries files

pub all_keys : (set : FileSet) (files : List (List ℕ)) (n : ℕ) → set ≡ Several files → length files ≡ n → first_refused files ≡ None
    → flat_map judged_keys (entries_from set 0 n) ≡ linked_keys files
all_keys set files n is long none = ap (flat_map judged_keys) (entries_by set files n is long) ∙ sym (keys_are files none)

pub runnable_by : (set : FileSet) (files : List (List ℕ)) (n : ℕ) → set ≡ Several files → length files ≡ n → first_refused files ≡ None
    → AllByRecursion CanRun (entries_from set 0 n) → AreLinkedRunnable files
runnable_by set files n is long none each = runnable_is files none (subst (AllByRecursion CanRun) (entries_by set files n is long) each)

pub if_weaker : {X E P Q : Type 0} (r : Result X E) → IfOk r (λ _. P) → (P → Q) → IfOk r (λ _. Q)
if_weaker (Ok x) holds weaker = weaker holds
if_weaker (Err e) holds weaker = tt

-- ---- what was read

-- The bytes of a file that was read.
pub bytes_there : (read : List (Vec ℕ Global)) (n : ℕ) (v : Vec ℕ Global) (bytes : List ℕ) → n < length read → v ≡ get_or read n v → bytes ≡ v.items → get_or (bytes_read read) n [] ≡ bytes
bytes_there read n v bytes lt at same = get_or-map (λ (b : Vec ℕ Global). b.items) read n v [] lt ∙ ap (λ (b : Vec ℕ Global). b.items) (sym at) ∙ sym same

taken_next : (files : List (List ℕ)) (n : ℕ) (bytes : List ℕ) → n < length files → get_or files n [] ≡ bytes → take (suc n) files ≡ take n files ++ bytes ∷ []
taken_next [] n bytes lt at = absurd (omega (arith, lt))
taken_next (file ∷ files) zero bytes lt at = ap (λ (b : List ℕ). b ∷ []) at
taken_next (file ∷ files) (suc n) bytes lt at = ap (λ (l : List (List ℕ)). file ∷ l) (taken_next files n bytes (omega (arith, lt)) at)

pub taken_one : (files : List (List ℕ)) (n : ℕ) (bytes : List ℕ) → n < length files → get_or files n [] ≡ bytes → take (n + 1) files ≡ take n files ++ bytes ∷ []
taken_one files n bytes lt at = let one : n + 1 ≡ suc n = omega arith in ap (λ (m : ℕ). take m files) one ∙ taken_next files n bytes lt at

-- One is refused after others that are not.
pub stopped_at : (files : List (List ℕ)) (n : ℕ) (bytes : List ℕ) (e : Unlinked) → first_refused (take n files) ≡ None → n < length files → get_or files n [] ≡ bytes → ReadsOne n bytes (Err e)
    → ReadsAll files (Err e)
stopped_at files n bytes (unlinked.Refused at fault) before lt there (same, first) =
    (omega (arith, same, lt), refused_at files n bytes fault before lt there first ∙ ap (λ (k : ℕ). Some (k, fault)) (sym same))
stopped_at files n bytes unlinked.NoMemory before lt there read = tt

-- ---- the answer

-- The reports of files none of which is refused.
pub gives_links : (manner : Manner) (names files links : List (List ℕ)) (r : Result ℕ Interrupt) (out : Change) (e : Option (List ℕ)) (q : Option ℕ) (g : ℕ) → links ≡ files → first_refused files ≡ None
    → IfOk r (λ status. status ≡ (linked_answer manner names links).status) → Writes r out (linked_answer manner names links).out
    → Gives (linked_answer manner names files) r out (change e e q q g g)
gives_links manner names files links r out e q g same none status written =
    let is = answer_is manner names files none in
    let reported = zip names (linked_entries files) in
    subst (λ (a : Answer). Gives a r out (change e e q q g g)) (sym is)
    (gives_output (if are_all_proved manner.pick reported then 0 else 1) (file_reports manner reported) r out e q g
    (subst (λ (a : Answer). IfOk r (λ s. s ≡ a.status)) is (subst (λ (files : List (List ℕ)). IfOk r (λ s. s ≡ (linked_answer manner names files).status)) same status))
    (subst (λ (a : Answer). Writes r out a.out) is (subst (λ (files : List (List ℕ)). Writes r out (linked_answer manner names files).out) same written)))

-- The status tells whether a file was refused.
few_proved : (proved : Bool) → nat_le (if proved then 0 else 1) 1 ≡ true
few_proved true = refl
few_proved false = refl

pub linked_few : (manner : Manner) (names files : List (List ℕ)) → nat_le (linked_answer manner names files).status 1 ≡ are_accepted files
unfolding linked_answer
linked_few manner names files = by (first_refused files) ∙ sym (all_accepted files)
  where
    by : (refused : Option RefusedFile)
        → nat_le (refused_or names refused (output_answer (if are_all_proved manner.pick (zip names (linked_entries files)) then 0 else 1) (file_reports manner (zip names (linked_entries files))))).status 1 ≡ is_none refused
    by (Some refused) = refl
    by None = few_proved (are_all_proved manner.pick (zip names (linked_entries files)))

pub some_begun : (manner : Manner) (names files : List (List ℕ)) (old new : Option (List ℕ)) → NothingOr old new (LinkedBegun manner names files old new)
    → NothingOr old new (SomeLinkedBegun names files old new)
some_begun manner names files old new (inl same) = inl same
some_begun manner names files old new (inr begun) = inr (manner, begun)

-- The answer where the file of this name is the first that is refused.
pub answer_refused_as : (manner : Manner) (names files : List (List ℕ)) (file : ℕ) (fault : AsmFault) (name : List ℕ) → first_refused files ≡ Some (file, fault) → get_or names file [] ≡ name
    → linked_answer manner names files ≡ refused_answer name (assembly_fault_text fault.cause) fault.at
answer_refused_as manner names files file fault name is named =
    answer_refused manner names files (file, fault) is (output_answer 0 []) ∙ ap (λ (n : List ℕ). refused_answer n (assembly_fault_text fault.cause) fault.at) named
