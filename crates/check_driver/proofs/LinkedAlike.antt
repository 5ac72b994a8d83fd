-- With an honest cache a check of linked files gives what it gives without one.
use Rattle.std.proofs.Common.{◌≡◌, ◌≢◌, ℕ, Bool, ◌&&◌, List, [], ◌∷◌, ◌++◌, map, zip, Option, Some, None, is_some, Result, Ok, Err, if◌then◌else◌, refl, sym, ap, subst, ◌∙◌}
use Rattle.std.specs.Prelude.{IfSome}
use Rattle.std.specs.List.{AllByRecursion, flat_map}
use Rattle.answer_lines.specs.Answers.{Answer, output_answer}
use Rattle.answer_lines.specs.Outcome.{WritesAll, after_line, status_of}
use Rattle.answer_lines.specs.Writing.{Change}
use Rattle.answer_lines.specs.declared.interrupt.Interrupt.{Interrupt}
use Rattle.answer_lines.specs.declared.interrupt.Interrupt.TheVariants as interrupts
use Rattle.cc_base.specs.Files.{Held}
use Rattle.cc_base.specs.Sink.{appended}
use Rattle.command_words.specs.Words.{cache_name, command_files, command_of, file_names, linked_files, words_at}
use Rattle.command_words.specs.declared.command.Command.{Command}
use Rattle.command_words.specs.declared.command.Command.TheVariants as commands
use Rattle.command_words.specs.declared.linked_words.LinkedWords.{LinkedWords}
use Rattle.unit_builder.specs.Linked.{linked_entries}
use Rattle.unit_builder.specs.declared.entry.MethodEntry.{MethodEntry}
use Rattle.unit_verdicts.specs.CacheFile.{AreHonest}
use Rattle.unit_verdicts.specs.Picks.{Manner, limit_manner}
use Rattle.unit_verdicts.specs.VerdictCache.{manner_under}
use Rattle.unit_verdicts.specs.declared.source.Source.TheVariants.{Cache as OfCache}
use Rattle.assembly_reports.specs.JudgedUnits.{judged_keys}
use Rattle.check_driver.specs.CacheMet.{CallMet, IsMet, cache_entries, cache_refusal, command_cache, met_of, without_cache}
use Rattle.check_driver.specs.Expected.{check_manner, command_answer, expected, files_answer, missing_or}
use Rattle.check_driver.specs.HonestCaches.{AreAlike, IsCacheHonest, WritesAs}
use Rattle.check_driver.specs.Known.{AnswerKnows, AreLinkedRunnable, FilesKnown, RunnableUnless, WordsKnow}
use Rattle.check_driver.specs.LinkedHeadline.{LinksWithoutCache}
use Rattle.check_driver.specs.LinkedReports.{RefusedFile, are_all_proved, file_report, file_reports, first_refused, linked_answer, refused_or}
use Rattle.assembly_reports.specs.Reportable.{CanRun}
use Rattle.assembly_reports.specs.CheckText.{are_proved}
use Rattle.check_driver.specs.Met.{AreUnder, contents, first_missing}
use Rattle.check_driver.proofs.AlikeReports.{AgreeOn, AreAmong, agree_honest, first_among, last_among, same_entries_proved, same_report}
use Rattle.check_driver.proofs.CallEnds.{alike_lines, entries_honest, known_alike, met_is}
use Rattle.check_driver.proofs.DistinctKeys.{all_contained}

-- ---- reports in two manners

module _ (a b : Manner) (all : List (List ℕ)) (agree : AgreeOn a b all) where
  same_reports : (names : List (List ℕ)) (files : List (List MethodEntry)) → AllByRecursion CanRun files → AreAmong all (flat_map judged_keys files)
      → file_reports a (zip names files) ≡ file_reports b (zip names files)
  same_reports [] files runnable among = refl
  same_reports (name ∷ names) [] runnable among = refl
  same_reports (name ∷ names) (entries ∷ files) runnable among =
      let later = last_among all (judged_keys entries) (flat_map judged_keys files) among in
      ap (λ (text : List ℕ). text ++ file_reports a (zip names files)) (same_report a b all agree name entries runnable.0 (first_among all (judged_keys entries) (flat_map judged_keys files) among))
      ∙ ap (λ (text : List ℕ). file_report b (name, entries) ++ text) (same_reports names files runnable.1 later)

  same_proved : (names : List (List ℕ)) (files : List (List MethodEntry)) → AllByRecursion CanRun files → AreAmong all (flat_map judged_keys files)
      → are_all_proved a.pick (zip names files) ≡ are_all_proved b.pick (zip names files)
  same_proved [] files runnable among = refl
  same_proved (name ∷ names) [] runnable among = refl
  same_proved (name ∷ names) (entries ∷ files) runnable among =
      let later = last_among all (judged_keys entries) (flat_map judged_keys files) among in
      ap (λ (one : Bool). one && are_all_proved a.pick (zip names files)) (same_entries_proved a b all agree entries runnable.0 (first_among all (judged_keys entries) (flat_map judged_keys files) among))
      ∙ ap (λ (others : Bool). are_proved b.pick entries && others) (same_proved names files runnable.1 later)

  same_linked : (names files : List (List ℕ)) → AreLinkedRunnable files → all ≡ flat_map judged_keys (linked_entries files) → linked_answer a names files ≡ linked_answer b names files
  unfolding linked_answer AreLinkedRunnable
  same_linked names files runnable are = by (first_refused files) runnable
    where
      entries : List (List MethodEntry)
      entries = linked_entries files

      answer : Manner → Answer
      answer manner = output_answer (if are_all_proved manner.pick (zip names (linked_entries files)) then 0 else 1) (file_reports manner (zip names (linked_entries files)))

      among : AreAmong all (flat_map judged_keys (linked_entries files))
      among = subst (λ (keys : List (List ℕ)). AreAmong keys (flat_map judged_keys (linked_entries files))) (sym are) (all_contained (flat_map judged_keys (linked_entries files)))

      by : (refused : Option RefusedFile) → RunnableUnless refused (AllByRecursion CanRun (linked_entries files)) → refused_or names refused (answer a) ≡ refused_or names refused (answer b)
      by (Some refused) known = refl
      by None known =
          ap (λ (proved : Bool). output_answer (if proved then 0 else 1) (file_reports a (zip names (linked_entries files)))) (same_proved names (linked_entries files) known among)
          ∙ ap (output_answer (if are_all_proved b.pick (zip names (linked_entries files)) then 0 else 1)) (same_reports names (linked_entries files) known among)

-- ---- with a cache and without one

-- Where the entries of its cache are honest, a check of which this is known gives what it gives without one.
linked_alike : (linked : LinkedWords) (words : List (List ℕ)) (met : CallMet) (status : ℕ) → AreHonest (cache_entries met.cache) → FilesKnown (commands.Linked linked) words met status
    → AreAlike (files_answer (commands.Linked linked) words met) (files_answer (commands.Linked linked) words (without_cache met))
linked_alike linked words met status honest known =
    let command = commands.Linked linked in
    let names = words_at words (linked_files linked) in
    let files = contents met.files in
    let show = is_some linked.check.show in
    let keys = flat_map judged_keys (linked_entries files) in
    known_alike (first_missing names met.files) (AreLinkedRunnable files) (cache_refusal (command_cache words command) met.cache) (cache_refusal (command_cache words command) None)
    (linked_answer (check_manner linked.check met.cache) names files) (linked_answer (check_manner linked.check None) names files) known
    (λ (its : AreLinkedRunnable files).
    let own = same_linked (check_manner linked.check met.cache) (limit_manner show) keys (agree_honest show (cache_entries met.cache) keys honest) names files its refl in
    let plain = same_linked (check_manner linked.check None) (limit_manner show) keys (agree_honest show [] keys tt) names files its refl in
    own ∙ sym plain)

words_alike : (words : List (List ℕ)) (met : CallMet) (linked : LinkedWords) (status : ℕ) → command_of words ≡ Some (commands.Linked linked) → AreHonest (cache_entries met.cache)
    → WordsKnow words met (Ok status) → status ≢ 4 → AreAlike (expected words met) (expected words (without_cache met))
words_alike words met linked status asked honest knows read =
    let known = subst (λ (command : Option Command). IfSome command (λ some. AnswerKnows some words met (Ok status))) asked knows in
    let alike = linked_alike linked words met status honest (known read) in
    let own : expected words met ≡ files_answer (commands.Linked linked) words met = ap (command_answer words met) asked in
    let plain : expected words (without_cache met) ≡ files_answer (commands.Linked linked) words (without_cache met) = ap (command_answer words (without_cache met)) asked in
    subst (λ (a : Answer). AreAlike a (expected words (without_cache met))) (sym own)
    (subst (λ (a : Answer). AreAlike (files_answer (commands.Linked linked) words met) a) (sym plain) alike)

-- ---- the same words without a cache

abbrev plain_answer : Bool → List (List ℕ) → List ℕ → List (Option (List ℕ)) → Answer
plain_answer show names line files =
    missing_or (first_missing names files) (after_line line (linked_answer (manner_under show (OfCache [])) names (contents files)))

module _ (words other : List (List ℕ)) (asks : LinksWithoutCache words other) (held : Held) (met : CallMet) (under : AreUnder (Some held) (file_names words) met.files) where
  abbrev names : List (List ℕ)
  names = words_at words (linked_files asks.linked)

  abbrev others : List (List ℕ)
  others = words_at other (linked_files asks.plain)

  abbrev line : List ℕ
  line = cache_refusal (command_cache words (commands.Linked asks.linked)) None

  abbrev text : List ℕ
  text = cache_refusal (command_cache other (commands.Linked asks.plain)) None

  abbrev show : Bool
  show = is_some asks.linked.check.show

  files_are : map held names ≡ met.files
  files_are = sym (met_is held (file_names words) met.files under ∙ ap (λ (command : Option Command). map held (command_files words command)) asks.command)

  own_answer : expected words (without_cache met) ≡ plain_answer show names line met.files
  own_answer = ap (command_answer words (without_cache met)) asks.command

  other_answer : expected other (met_of held (file_names other)) ≡ plain_answer show names text met.files
  other_answer =
      ap (λ (command : Option Command). command_answer other (met_of held (command_files other command)) command) asks.without
      ∙ ap (λ (s : Bool). plain_answer s others text (map held others)) asks.shows
      ∙ ap (λ (ns : List (List ℕ)). plain_answer show ns text (map held ns)) asks.files
      ∙ ap (plain_answer show names text) files_are

  plain_alike : AreAlike (expected words (without_cache met)) (expected other (met_of held (file_names other)))
  plain_alike =
      subst (λ (a : Answer). AreAlike a (expected other (met_of held (file_names other)))) (sym own_answer)
      (subst (λ (a : Answer). AreAlike (plain_answer show names line met.files) a) (sym other_answer)
      (alike_lines (first_missing names met.files) line text (linked_answer (manner_under show (OfCache [])) names (contents met.files))))

-- Where the cache is honest, what was written is what the other words give.
pub linked_cache_alike : (words other : List (List ℕ)) (told : Option Held) (held : Held) (met : CallMet) (r : Result ℕ Interrupt) (out : Change) → LinksWithoutCache words other → told ≡ Some held
    → IsMet told (file_names words) (cache_name words) met → IsCacheHonest (cache_name words) held
    → WordsKnow words met r
    → status_of r ≢ 4 → status_of r ≢ 6 → status_of r ≢ 7 → (status_of r ≡ (expected words met).status) × WritesAll out (expected words met).out
    → WritesAs (expected other (met_of held (file_names other))) (status_of r) out
linked_cache_alike words other told held met (Err interrupts.CannotWrite) out asks told_is is honest knows read written memory all = absurd (written refl)
linked_cache_alike words other told held met (Err interrupts.NoMemory) out asks told_is is honest knows read written memory all = absurd (memory refl)
linked_cache_alike words other told held met (Ok status) out asks told_is is honest knows read written memory all =
    let here = subst (λ (t : Option Held). IsMet t (file_names words) (cache_name words) met) told_is is in
    let own = words_alike words met asks.linked status asks.command (entries_honest (cache_name words) held met.cache here.cache honest) knows read in
    let plain = plain_alike words other asks held met here.files in
    record {
      out = all.1 ∙ ap (appended out.old) (own.out ∙ plain.out);
      status = all.0 ∙ own.status ∙ plain.status;
    }
