-- The files after a call, and what an honest cache gives then.
use Rattle.std.proofs.Common.{◌≡◌, ◌≢◌, ◌⊎◌, ℕ, Bool, true, false, List, [], ◌∷◌, map, Option, Some, None, is_some, option_map, Result, Ok, Err, refl, sym, ap, subst, ◌∙◌, inl, inr}
use Rattle.std.specs.Prelude.{IfSome, option_and_then}
use Rattle.cc_base.specs.Files.{Held}
use Rattle.cc_base.specs.Sink.{appended}
use Rattle.answer_lines.specs.Answers.{Answer}
use Rattle.answer_lines.specs.Outcome.{WritesAll, after_line, status_of}
use Rattle.answer_lines.specs.Writing.{Change}
use Rattle.answer_lines.specs.declared.interrupt.Interrupt.{Interrupt}
use Rattle.answer_lines.specs.declared.interrupt.Interrupt.TheVariants as interrupts
use Rattle.command_words.specs.Words.{cache_index, cache_name, check_files, command_files, command_of, file_indexes, file_names, proof_index, proof_name, word_at, words_at}
use Rattle.command_words.specs.declared.check_words.CheckWords.{CheckWords}
use Rattle.command_words.specs.declared.command.Command.{Command}
use Rattle.command_words.specs.declared.command.Command.TheVariants as commands
use Rattle.unit_verdicts.specs.Asked.{distinct}
use Rattle.unit_verdicts.specs.CacheFile.{AreHonest, IsHonestFile}
use Rattle.unit_verdicts.specs.Picks.{limit_manner, pick_of}
use Rattle.unit_verdicts.specs.VerdictCache.{manner_under}
use Rattle.unit_verdicts.specs.declared.source.Source.{Source}
use Rattle.unit_verdicts.specs.declared.source.Source.TheVariants.{Cache as OfCache}
use Rattle.unit_verdicts.proofs.Honest.{honest_file}
use Rattle.check_driver.specs.Asked.{check_keys, linked_keys}
use Rattle.check_driver.specs.CacheMet.{CallMet, IsCacheUnder, IsMet, cache_entries, cache_refusal, command_cache, command_proof, entries_unless, met_of, without_cache}
use Rattle.check_driver.specs.Expected.{check_answer, check_manner, command_answer, expected, files_answer, missing_or}
use Rattle.check_driver.specs.FilesLeft.{AnswerLeaves, PrefixIsLeft, LeavesFiles, LeftFile, are_accepted, bytes_left, command_left, left_by, left_unless, left_where}
use Rattle.check_driver.specs.HonestCaches.{AreAlike, AsksWithoutCache, HoldsHonest, HonestWhereHonest, IsCacheHonest, WritesAs}
use Rattle.check_driver.specs.Known.{AnswerKnows, FilesKnown, KnowsCheck, WordsKnow, known_unless}
use Rattle.check_driver.specs.Met.{AreUnder, contents, first_missing}
use Rattle.check_driver.proofs.AlikeReports.{agree_honest, alike_answers, one_pick_honest}
use Rattle.check_driver.proofs.DistinctKeys.{all_contained}

-- ---- what is left

pub leaves_files : (left : List LeftFile) (text : List ℕ) (r : Result ℕ Interrupt) (out : Change) (old new : Option Held) → AnswerLeaves left text r out old new
    → LeavesFiles left text (status_of r) out old new
leaves_files left text (Ok status) out old new leaves = record { whole = λ a b c. leaves.whole a; either = leaves.either }
leaves_files left text (Err interrupts.CannotWrite) out old new leaves = record { whole = λ a b c. absurd (b refl); either = leaves.either }
leaves_files left text (Err interrupts.NoMemory) out old new leaves = record { whole = λ a b c. absurd (c refl); either = leaves.either }

-- Where nothing is to be left, the files are as before.
prefix_of_none : (old new : Option Held) → PrefixIsLeft [] old new → new ≡ old
prefix_of_none old new ([], (rest, whole), same) = same
prefix_of_none old new (file ∷ prefix, (rest, whole), left) = absurd cc

same_where_none : (left : List LeftFile) (text : List ℕ) (r : Result ℕ Interrupt) (out : Change) (old new : Option Held) → left ≡ [] → AnswerLeaves left text r out old new → new ≡ old
same_where_none left text r out old new none leaves = by leaves.either
  where
    by : (new ≡ old) ⊎ (PrefixIsLeft left old new × WritesAll out text) → new ≡ old
    by (inl same) = same
    by (inr (prefix, all)) = prefix_of_none old new (subst (λ (l : List LeftFile). PrefixIsLeft l old new) none prefix)

none_where : (accepted : Bool) (proof cache : Option (List ℕ)) (held : Source) (keys : List (List ℕ)) → proof ≡ None → cache ≡ None → left_where accepted proof cache held keys ≡ []
none_where false proof cache held keys no_proof no_cache = refl
none_where true proof cache held keys no_proof no_cache = rw (no_proof, no_cache) refl

unless_none : (missing : Option (List ℕ)) (left : List LeftFile) → left ≡ [] → left_unless missing left ≡ []
unless_none None left none = none
unless_none (Some name) left none = refl

bytes_none : (command : Command) (words : List (List ℕ)) (cache : Option (List ℕ)) (files : List (List ℕ)) → command_proof words command ≡ None → command_cache words command ≡ None
    → bytes_left command words cache files ≡ []
bytes_none (commands.Check check) words cache files no_proof no_cache =
    none_where (are_accepted files) (command_proof words (commands.Check check)) (command_cache words (commands.Check check)) (OfCache (cache_entries cache))
    (distinct (check_keys (is_some check.infer) (pick_of (cache_entries cache)) files))
    no_proof no_cache
bytes_none (commands.Linked linked) words cache files no_proof no_cache =
    none_where (are_accepted files) (command_proof words (commands.Linked linked)) (command_cache words (commands.Linked linked)) (OfCache (cache_entries cache)) (distinct (linked_keys files))
    no_proof no_cache
bytes_none (commands.Verify file proof) words cache files no_proof no_cache = refl
bytes_none (commands.Unit file) words cache files no_proof no_cache = refl
bytes_none (commands.List file) words cache files no_proof no_cache = refl
bytes_none (commands.Il file method) words cache files no_proof no_cache = refl
bytes_none (commands.Run run) words cache files no_proof no_cache = refl
bytes_none (commands.Refute file method runs) words cache files no_proof no_cache = refl
bytes_none (commands.Gen seed count) words cache files no_proof no_cache = refl

-- Of words that name no cache and no proof file.
none_by : (words : List (List ℕ)) (met : CallMet) (command : Option Command) → option_map (word_at words) (option_and_then cache_index command) ≡ None
    → option_map (word_at words) (option_and_then proof_index command) ≡ None → command_left words met command ≡ []
none_by words met None no_cache no_proof = refl
none_by words met (Some command) no_cache no_proof =
    unless_none (first_missing (words_at words (file_indexes command)) met.files) (bytes_left command words met.cache (contents met.files))
    (bytes_none command words met.cache (contents met.files) no_proof no_cache)

-- Words that name neither change no file.
pub same_without : (words : List (List ℕ)) (met : CallMet) (text : List ℕ) (r : Result ℕ Interrupt) (out : Change) (old new : Option Held)
    → AnswerLeaves (left_by words met) text r out old new → cache_name words ≡ None → proof_name words ≡ None → new ≡ old
same_without words met text r out old new leaves no_cache no_proof =
    same_where_none (left_by words met) text r out old new (none_by words met (command_of words) no_cache no_proof) leaves

-- ---- what is kept honest

-- A file of honest entries has honest entries.
left_honest : (under : Option (List ℕ)) (bytes : List ℕ) → under ≡ Some bytes → IsHonestFile bytes → AreHonest (cache_entries under)
left_honest under bytes is honest =
    let read = honest_file bytes honest in
    subst (λ (u : Option (List ℕ)). AreHonest (cache_entries u)) (sym is) (subst AreHonest (sym (ap (entries_unless bytes) read.passed)) read.honest)

-- The entries that are used are those of what is held.
pub entries_honest : (name : Option (List ℕ)) (held : Held) (cache : Option (List ℕ)) → IsCacheUnder (Some held) name cache → IsCacheHonest name held
    → AreHonest (cache_entries cache)
entries_honest None held cache none honest = subst (λ (u : Option (List ℕ)). AreHonest (cache_entries u)) (sym none) tt
entries_honest (Some name) held cache is honest = subst (λ (u : Option (List ℕ)). AreHonest (cache_entries u)) (is held refl) honest

pub kept_honest : (name proof cache : Option (List ℕ)) (told now : Option Held) (held after : Held) → ((own : List ℕ) → name ≡ Some own → proof ≢ Some own) → told ≡ Some held
    → now ≡ Some after → IsCacheUnder told name cache → HonestWhereHonest name proof (cache_entries cache) told now → IsCacheHonest name held → IsCacheHonest name after
kept_honest None proof cache told now held after differ told_is now_is under leaves honest = tt
kept_honest (Some name) proof cache told now held after differ told_is now_is under leaves honest =
    by (leaves (entries_honest (Some name) held cache (subst (λ (t : Option Held). IsCacheUnder t (Some name) cache) told_is under) honest) (differ name refl) held after told_is now_is)
  where
    by : (after name ≡ held name) ⊎ HoldsHonest (after name) → AreHonest (cache_entries (after name))
    by (inl same) = subst (λ (u : Option (List ℕ)). AreHonest (cache_entries u)) (sym same) honest
    by (inr (bytes, is, its)) = left_honest (after name) bytes is its

-- ---- the same words without a cache

-- What is met under the names of files that are held.
pub met_is : (held : Held) (names : List (List ℕ)) (files : List (Option (List ℕ))) → AreUnder (Some held) names files → files ≡ map held names
met_is held [] [] under = refl
met_is held (name ∷ names) (one ∷ files) (is, others) =
    ap (λ (o : Option (List ℕ)). o ∷ files) (sym (is held refl)) ∙ ap (λ (l : List (Option (List ℕ))). held name ∷ l) (met_is held names files others)
met_is held [] (one ∷ files) under = absurd under
met_is held (name ∷ names) [] under = absurd under

-- The answer to a check of files of these names without a cache, behind this line of errors.
abbrev plain_answer : Bool → Bool → List (List ℕ) → List ℕ → List (Option (List ℕ)) → Answer
plain_answer infer show names line files =
    missing_or (first_missing names files) (after_line line (check_answer infer (manner_under show (OfCache [])) names (contents files)))

-- The line makes no difference to the sink of output.
pub alike_lines : (missing : Option (List ℕ)) (line text : List ℕ) (answer : Answer) → AreAlike (missing_or missing (after_line line answer)) (missing_or missing (after_line text answer))
alike_lines None line text answer = record { out = refl; status = refl }
alike_lines (Some name) line text answer = record { out = refl; status = refl }

-- That of these words, and of the others.
module _ (words other : List (List ℕ)) (asks : AsksWithoutCache words other) (held : Held) (met : CallMet) (under : AreUnder (Some held) (file_names words) met.files) where
  abbrev names : List (List ℕ)
  names = words_at words (check_files asks.check)

  abbrev others : List (List ℕ)
  others = words_at other (check_files asks.plain)

  abbrev line : List ℕ
  line = cache_refusal (command_cache words (commands.Check asks.check)) None

  abbrev text : List ℕ
  text = cache_refusal (command_cache other (commands.Check asks.plain)) None

  files_are : map held names ≡ met.files
  files_are = sym (met_is held (file_names words) met.files under ∙ ap (λ (command : Option Command). map held (command_files words command)) asks.command)

  own_answer : expected words (without_cache met) ≡ plain_answer (is_some asks.check.infer) (is_some asks.check.show) names line met.files
  own_answer = ap (command_answer words (without_cache met)) asks.command

  other_answer : expected other (met_of held (file_names other)) ≡ plain_answer (is_some asks.check.infer) (is_some asks.check.show) names text met.files
  other_answer =
      ap (λ (command : Option Command). command_answer other (met_of held (command_files other command)) command) asks.without
      ∙ ap (λ (show : Bool). plain_answer (is_some asks.plain.infer) show others text (map held others)) asks.shows
      ∙ ap (λ (infer : Bool). plain_answer infer (is_some asks.check.show) others text (map held others)) asks.infers
      ∙ ap (λ (ns : List (List ℕ)). plain_answer (is_some asks.check.infer) (is_some asks.check.show) ns text (map held ns)) asks.files
      ∙ ap (plain_answer (is_some asks.check.infer) (is_some asks.check.show) names text) files_are

  pub plain_alike : AreAlike (expected words (without_cache met)) (expected other (met_of held (file_names other)))
  plain_alike =
      subst (λ (a : Answer). AreAlike a (expected other (met_of held (file_names other)))) (sym own_answer)
      (subst (λ (a : Answer). AreAlike (plain_answer (is_some asks.check.infer) (is_some asks.check.show) names line met.files) a) (sym other_answer)
      (alike_lines (first_missing names met.files) line text (check_answer (is_some asks.check.infer) (manner_under (is_some asks.check.show) (OfCache [])) names (contents met.files))))

-- An answer behind lines, where no file is missing or the first that is missing has this name.
pub known_alike : (missing : Option (List ℕ)) (Known : Type 0) (one another : List ℕ) (a b : Answer) → known_unless missing Known → (Known → a ≡ b)
    → AreAlike (missing_or missing (after_line one a)) (missing_or missing (after_line another b))
known_alike (Some name) Known one another a b known same = record { out = refl; status = refl }
known_alike None Known one another a b known same =
    let is = same known in record { out = ap (λ (x : Answer). x.out) is; status = ap (λ (x : Answer). x.status) is }

-- Where the entries of its cache are honest, a check of which this is known gives what it gives without one.
check_alike : (check : CheckWords) (words : List (List ℕ)) (met : CallMet) (status : ℕ) → AreHonest (cache_entries met.cache) → FilesKnown (commands.Check check) words met status
    → AreAlike (files_answer (commands.Check check) words met) (files_answer (commands.Check check) words (without_cache met))
check_alike check words met status honest known =
    let command = commands.Check check in
    let names = words_at words (check_files check) in
    let files = contents met.files in
    let show = is_some check.show in
    let infer = is_some check.infer in
    let entries = cache_entries met.cache in
    let keys = check_keys infer (pick_of entries) files in
    let without = check_keys infer (pick_of []) files in
    known_alike (first_missing names met.files) (KnowsCheck check met.cache files status) (cache_refusal (command_cache words command) met.cache) (cache_refusal (command_cache words command) None)
    (check_answer infer (check_manner check met.cache) names files) (check_answer infer (check_manner check None) names files) known
    (λ (its : KnowsCheck check met.cache files status).
    let own = alike_answers infer (check_manner check met.cache) (limit_manner show) keys (agree_honest show entries keys honest) (λ _. one_pick_honest entries honest) names files its.runnable (all_contained keys) in
    let plain = alike_answers infer (check_manner check None) (limit_manner show) without (agree_honest show [] without tt) (λ _. one_pick_honest [] tt) names files its.runnable (all_contained without) in
    own ∙ sym plain)

words_alike : (words : List (List ℕ)) (met : CallMet) (check : CheckWords) (status : ℕ) → command_of words ≡ Some (commands.Check check) → AreHonest (cache_entries met.cache)
    → WordsKnow words met (Ok status) → status ≢ 4 → AreAlike (expected words met) (expected words (without_cache met))
words_alike words met check status asked honest knows read =
    let known = subst (λ (command : Option Command). IfSome command (λ some. AnswerKnows some words met (Ok status))) asked knows in
    let alike = check_alike check words met status honest (known read) in
    let own : expected words met ≡ files_answer (commands.Check check) words met = ap (command_answer words met) asked in
    let plain : expected words (without_cache met) ≡ files_answer (commands.Check check) words (without_cache met) = ap (command_answer words (without_cache met)) asked in
    subst (λ (a : Answer). AreAlike a (expected words (without_cache met))) (sym own)
    (subst (λ (a : Answer). AreAlike (files_answer (commands.Check check) words met) a) (sym plain) alike)

-- Where the cache is honest, what was written is what the other words give.
pub cache_alike : (words other : List (List ℕ)) (told : Option Held) (held : Held) (met : CallMet) (r : Result ℕ Interrupt) (out : Change) → AsksWithoutCache words other → told ≡ Some held
    → IsMet told (file_names words) (cache_name words) met → IsCacheHonest (cache_name words) held
    → WordsKnow words met r
    → status_of r ≢ 4 → status_of r ≢ 6 → status_of r ≢ 7 → (status_of r ≡ (expected words met).status) × WritesAll out (expected words met).out
    → WritesAs (expected other (met_of held (file_names other))) (status_of r) out
cache_alike words other told held met (Err interrupts.CannotWrite) out asks told_is is honest knows read written memory all = absurd (written refl)
cache_alike words other told held met (Err interrupts.NoMemory) out asks told_is is honest knows read written memory all = absurd (memory refl)
cache_alike words other told held met (Ok status) out asks told_is is honest knows read written memory all =
    let here = subst (λ (t : Option Held). IsMet t (file_names words) (cache_name words) met) told_is is in
    let own = words_alike words met asks.check status asks.command (entries_honest (cache_name words) held met.cache here.cache honest) knows read in
    let plain = plain_alike words other asks held met here.files in
    record {
      out = all.1 ∙ ap (appended out.old) (own.out ∙ plain.out);
      status = all.0 ∙ own.status ∙ plain.status;
    }
