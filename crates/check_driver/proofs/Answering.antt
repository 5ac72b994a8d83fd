-- Answers, by what is met under the names of files and by the words.
use Rattle.std.proofs.Common.{◌≡◌, ℕ, zero, suc, ◌≤◌, ◌&&◌, List, [], ◌∷◌, ◌++◌, length, take, Any, Vec, Global, Option, Some, None, Result, refl, sym, ap, subst, ◌∙◌, arith, inl, inr, length-take, slice_index_or, Bool, is_none, is_some, option_map, unwrap_or, zip, if◌then◌else◌}
use Rattle.std.specs.Prelude.{codes, option_to_list}
use Rattle.std.specs.List.{flat_map}
use Rattle.std.proofs.lemmas.Bool.{le-leb}
use Rattle.std.proofs.lemmas.List.{get_or-map, length-map}
use Rattle.asm_image.specs.Faults.{FirstBroken}
use Rattle.cc_base.specs.Files.{READ_LIMIT}
use Rattle.cil_model.specs.Limits.{MAX_FILE_BYTES}
use Rattle.answer_lines.specs.Answers.{Answer, USAGE, error_answer, output_answer, refused_answer, missing_line}
use Rattle.answer_lines.specs.Outcome.{Gives, GivesOrFails, after_line, unread_answer}
use Rattle.answer_lines.specs.Writing.{Change}
use Rattle.answer_lines.specs.declared.interrupt.Interrupt.{Interrupt}
use Rattle.assembly_answers.proofs.CutFiles.{il_cut, il_file_answer, large_first, list_cut, list_file_answer, refute_bytes_answer, refute_cut, run_bytes_answer, run_cut}
use Rattle.command_words.specs.Words.{args_told, cache_name, check_files, command_of, file_names, file_indexes, linked_files, proof_name, word_at, words_at}
use Rattle.command_words.specs.declared.check_words.CheckWords.{CheckWords}
use Rattle.command_words.specs.declared.command.Command.{Command}
use Rattle.command_words.specs.declared.command.Command.TheVariants as commands
use Rattle.command_words.specs.declared.linked_words.LinkedWords.{LinkedWords}
use Rattle.proof_files.specs.Reading.{ProofRead}
use Rattle.result_cache.specs.Entries.{Entry}
use Rattle.unit_verdicts.specs.Asked.{distinct, without_entry}
use Rattle.unit_verdicts.specs.Picks.{Manner, Pick, pick_of}
use Rattle.unit_verdicts.specs.VerdictCache.{manner_under}
use Rattle.unit_verdicts.specs.declared.source.Source.TheVariants.{Cache as OfCache}
use Rattle.check_driver.specs.Asked.{asked_by, asked_unless, bytes_asked, check_asked, check_keys, files_asked, keys_before, linked_asked, linked_keys, unit_file_asked}
use Rattle.assembly_reports.specs.JudgedUnits.{judged_keys}
use Rattle.check_driver.specs.CacheMet.{CallMet, cache_entries, cache_refusal, command_cache, command_proof}
use Rattle.check_driver.specs.CallRead.{IsReadIndex, cache_bytes}
use Rattle.check_driver.specs.Expected.{missing_or, expected, unit_file_answer, check_answer, check_manner, checked_before, bytes_answer, files_answer, file_at, verify_answer}
use Rattle.check_driver.specs.FilesLeft.{GivesOrUnreplaced, are_accepted, bytes_left, files_left, left_by, left_unless, left_where}
use Rattle.check_driver.specs.Known.{WordsKnow}
use Rattle.check_driver.specs.LinkedReports.{are_all_proved, file_reports, first_refused, linked_answer}
use Rattle.unit_builder.specs.Linked.{linked_entries}
use Rattle.check_driver.specs.Met.{AreContents, IsCacheContent, first_missing, contents, bytes_read}
use Rattle.check_driver.proofs.CacheCuts.{entries_alike, refusal_alike}
use Rattle.check_driver.proofs.Contents.{file_alike, first_alike}
use Rattle.check_driver.proofs.FilesRead.{none_missing}
use Rattle.check_driver.proofs.LinkedFiles.{contents_same, keys_unless_same, refused_alike, refused_or_same}

-- ---- bytes that a read cut off

-- A file past the limit is refused.
pub too_large : (name bytes : List ℕ) → READ_LIMIT ≤ length bytes → unit_file_answer name bytes ≡ refused_answer name (codes "file too large") MAX_FILE_BYTES
too_large name bytes past = let test = le-leb READ_LIMIT (length bytes) past in rw test refl

-- Bytes that were cut off past the limit have the answer of the whole.
unit_cut : (name bytes : List ℕ) (limit : ℕ) → limit ≡ READ_LIMIT → READ_LIMIT ≤ length bytes → unit_file_answer name bytes ≡ unit_file_answer name (take limit bytes)
unit_cut name bytes limit is past =
    too_large name bytes past ∙ sym (too_large name (take limit bytes) (omega (arith, length-take limit bytes)))

-- So has an assembly, and what comes after it.
checked_cut : (infer : Bool) (name : List ℕ) (manner : Manner) (others : Answer) (bytes : List ℕ) (limit : ℕ) → limit ≡ READ_LIMIT → READ_LIMIT ≤ length bytes
    → checked_before infer name manner bytes (FirstBroken bytes) others ≡ checked_before infer name manner (take limit bytes) (FirstBroken (take limit bytes)) others
checked_cut infer name manner others bytes limit is past =
    let whole = large_first bytes past in
    let cut = large_first (take limit bytes) (omega (arith, length-take limit bytes)) in
    rw (whole, cut) refl

-- So has each of several files.
check_alike : (infer : Bool) (manner : Manner) (names : List (List ℕ)) (met : List (Option (List ℕ))) (read : List (Vec ℕ Global)) → AreContents met read
    → check_answer infer manner names (contents met) ≡ check_answer infer manner names (bytes_read read)
check_alike infer manner [] met read h = refl
check_alike infer manner (name ∷ names) [] [] h = refl
check_alike infer manner (name ∷ names) (under ∷ met) (bytes ∷ read) h =
    let whole = unwrap_or under [] in
    ap (checked_before infer name manner whole (FirstBroken whole)) (check_alike infer manner names met read h.1)
    ∙ file_alike (λ b. checked_before infer name manner b (FirstBroken b) (check_answer infer manner names (bytes_read read))) under bytes.items
    (λ b past. checked_cut infer name manner (check_answer infer manner names (bytes_read read)) b READ_LIMIT refl past) h.0
check_alike infer manner (name ∷ names) [] (bytes ∷ read) h = absurd h
check_alike infer manner (name ∷ names) (under ∷ met) [] h = absurd h

check_met_alike : (check : CheckWords) (words : List (List ℕ)) (met : CallMet) (read : List (Vec ℕ Global)) (cache : Option (Vec ℕ Global)) → AreContents met.files read
    → IsCacheContent met.cache cache
    → bytes_answer (commands.Check check) words met.cache met.proof (contents met.files) ≡ bytes_answer (commands.Check check) words (cache_bytes cache) met.proof (bytes_read read)
check_met_alike check words met read cache h is =
    let name = command_cache words (commands.Check check) in
    let names = words_at words (check_files check) in
    let show = is_some check.show in
    let infer = is_some check.infer in
    ap (λ (line : List ℕ). after_line line (check_answer infer (check_manner check met.cache) names (contents met.files))) (refusal_alike name met.cache cache is)
    ∙ ap (λ (entries : List Entry). after_line (cache_refusal name (cache_bytes cache)) (check_answer infer (manner_under show (OfCache entries)) names (contents met.files))) (entries_alike met.cache cache is)
    ∙ ap (after_line (cache_refusal name (cache_bytes cache))) (check_alike infer (check_manner check (cache_bytes cache)) names met.files read h)

-- So have linked files, none of which is reported where one was cut off.
linked_alike : (manner : Manner) (names : List (List ℕ)) (met : List (Option (List ℕ))) (read : List (Vec ℕ Global)) → AreContents met read
    → linked_answer manner names (contents met) ≡ linked_answer manner names (bytes_read read)
unfolding linked_answer
linked_alike manner names met read h =
    refused_or_same (λ files. let reported = zip names (linked_entries files) in output_answer (if are_all_proved manner.pick reported then 0 else 1) (file_reports manner reported)) names
    (first_refused (contents met)) (first_refused (bytes_read read)) (contents met) (bytes_read read) (refused_alike met read h) (contents_same met read h)

linked_met_alike : (linked : LinkedWords) (words : List (List ℕ)) (met : CallMet) (read : List (Vec ℕ Global)) (cache : Option (Vec ℕ Global)) → AreContents met.files read
    → IsCacheContent met.cache cache
    → bytes_answer (commands.Linked linked) words met.cache met.proof (contents met.files) ≡ bytes_answer (commands.Linked linked) words (cache_bytes cache) met.proof (bytes_read read)
linked_met_alike linked words met read cache h is =
    let name = command_cache words (commands.Linked linked) in
    let names = words_at words (linked_files linked) in
    let show = is_some linked.check.show in
    ap (λ (line : List ℕ). after_line line (linked_answer (check_manner linked.check met.cache) names (contents met.files))) (refusal_alike name met.cache cache is)
    ∙ ap (λ (entries : List Entry). after_line (cache_refusal name (cache_bytes cache)) (linked_answer (manner_under show (OfCache entries)) names (contents met.files))) (entries_alike met.cache cache is)
    ∙ ap (after_line (cache_refusal name (cache_bytes cache))) (linked_alike (check_manner linked.check (cache_bytes cache)) names met.files read h)

linked_keys_alike : (met : List (Option (List ℕ))) (read : List (Vec ℕ Global)) → AreContents met read → linked_keys (contents met) ≡ linked_keys (bytes_read read)
unfolding linked_keys
linked_keys_alike met read h =
    keys_unless_same (λ files. flat_map judged_keys (linked_entries files)) (first_refused (contents met)) (first_refused (bytes_read read)) (contents met) (bytes_read read) (refused_alike met read h)
    (contents_same met read h)

-- An assembly that was cut off is refused before the proof file is read.
verify_cut : (name by : List ℕ) (proof : Option ProofRead) (bytes : List ℕ) (limit : ℕ) → limit ≡ READ_LIMIT → READ_LIMIT ≤ length bytes
    → verify_answer name by proof bytes (FirstBroken bytes) ≡ verify_answer name by proof (take limit bytes) (FirstBroken (take limit bytes))
verify_cut name by proof bytes limit is past =
    let whole = large_first bytes past in
    let cut = large_first (take limit bytes) (omega (arith, length-take limit bytes)) in
    rw (whole, cut) refl

bytes_alike : (command : Command) (words : List (List ℕ)) (met : CallMet) (read : List (Vec ℕ Global)) (cache : Option (Vec ℕ Global)) → AreContents met.files read
    → IsCacheContent met.cache cache → bytes_answer command words met.cache met.proof (contents met.files) ≡ bytes_answer command words (cache_bytes cache) met.proof (bytes_read read)
bytes_alike (commands.Unit file) words met read cache h is =
    first_alike (unit_file_answer (word_at words file)) met.files read (λ bytes past. unit_cut (word_at words file) bytes READ_LIMIT refl past) h
bytes_alike (commands.List file) words met read cache h is =
    first_alike (list_file_answer (word_at words file)) met.files read (λ bytes past. list_cut (word_at words file) bytes READ_LIMIT refl past) h
bytes_alike (commands.Il file method) words met read cache h is =
    first_alike (il_file_answer (word_at words file) (word_at words method)) met.files read
    (λ bytes past. il_cut (word_at words file) (word_at words method) bytes READ_LIMIT refl past) h
bytes_alike (commands.Check check) words met read cache h is = check_met_alike check words met read cache h is
bytes_alike (commands.Linked linked) words met read cache h is = linked_met_alike linked words met read cache h is
bytes_alike (commands.Verify file proof) words met read cache h is =
    first_alike (λ (bytes : List ℕ). verify_answer (word_at words file) (word_at words proof) met.proof bytes (FirstBroken bytes)) met.files read
    (λ bytes past. verify_cut (word_at words file) (word_at words proof) met.proof bytes READ_LIMIT refl past) h
bytes_alike (commands.Refute file method runs) words met read cache h is =
    first_alike (refute_bytes_answer (word_at words file) (word_at words method) runs) met.files read
    (λ bytes past. refute_cut (word_at words file) (word_at words method) runs bytes READ_LIMIT refl past) h
bytes_alike (commands.Gen seed count) words met read cache h is = refl
bytes_alike (commands.Run run) words met read cache h is =
    first_alike (run_bytes_answer (word_at words run.file) (word_at words run.method) (args_told run words) run.steps) met.files read
    (λ bytes past. run_cut (word_at words run.file) (word_at words run.method) (args_told run words) run.steps bytes READ_LIMIT refl past) h

-- Of a file past the limit nothing is asked.
unit_asked_cut : (bytes : List ℕ) (limit : ℕ) → limit ≡ READ_LIMIT → READ_LIMIT ≤ length bytes → unit_file_asked bytes ≡ unit_file_asked (take limit bytes)
unit_asked_cut bytes limit is past =
    let whole = le-leb READ_LIMIT (length bytes) past in
    let cut = le-leb READ_LIMIT (length (take limit bytes)) (omega (arith, length-take limit bytes)) in
    rw (whole, cut) refl

keys_cut : (infer : Bool) (pick : Pick) (others : List (List ℕ)) (bytes : List ℕ) (limit : ℕ) → limit ≡ READ_LIMIT → READ_LIMIT ≤ length bytes
    → keys_before infer pick bytes (FirstBroken bytes) others ≡ keys_before infer pick (take limit bytes) (FirstBroken (take limit bytes)) others
keys_cut infer pick others bytes limit is past =
    let whole = large_first bytes past in
    let cut = large_first (take limit bytes) (omega (arith, length-take limit bytes)) in
    rw (whole, cut) refl

accepted_cut : (bytes : List ℕ) (limit : ℕ) → limit ≡ READ_LIMIT → READ_LIMIT ≤ length bytes → is_none (FirstBroken bytes) ≡ is_none (FirstBroken (take limit bytes))
accepted_cut bytes limit is past =
    let whole = large_first bytes past in
    let cut = large_first (take limit bytes) (omega (arith, length-take limit bytes)) in
    rw (whole, cut) refl

pub keys_alike : (infer : Bool) (pick : Pick) (met : List (Option (List ℕ))) (read : List (Vec ℕ Global)) → AreContents met read
    → check_keys infer pick (contents met) ≡ check_keys infer pick (bytes_read read)
keys_alike infer pick [] [] h = refl
keys_alike infer pick (under ∷ met) (bytes ∷ read) h =
    let whole = unwrap_or under [] in
    ap (keys_before infer pick whole (FirstBroken whole)) (keys_alike infer pick met read h.1)
    ∙ file_alike (λ b. keys_before infer pick b (FirstBroken b) (check_keys infer pick (bytes_read read))) under bytes.items
    (λ b past. keys_cut infer pick (check_keys infer pick (bytes_read read)) b READ_LIMIT refl past) h.0
keys_alike infer pick [] (bytes ∷ read) h = absurd h
keys_alike infer pick (under ∷ met) [] h = absurd h

asked_alike : (command : Command) (met : CallMet) (read : List (Vec ℕ Global)) (cache : Option (Vec ℕ Global)) → AreContents met.files read → IsCacheContent met.cache cache
    → bytes_asked command met.cache (contents met.files) ≡ bytes_asked command (cache_bytes cache) (bytes_read read)
asked_alike (commands.Unit file) met read cache h is = first_alike unit_file_asked met.files read (λ bytes past. unit_asked_cut bytes READ_LIMIT refl past) h
asked_alike (commands.Check check) met read cache h is =
    let infer = is_some check.infer in
    let entries = cache_entries (cache_bytes cache) in
    ap (λ (es : List Entry). check_asked infer es (contents met.files)) (entries_alike met.cache cache is)
    ∙ ap (λ (keys : List (List ℕ)). without_entry entries (distinct keys)) (keys_alike infer (pick_of entries) met.files read h)
asked_alike (commands.Linked linked) met read cache h is =
    ap (λ (entries : List Entry). linked_asked entries (contents met.files)) (entries_alike met.cache cache is)
    ∙ ap (λ (keys : List (List ℕ)). without_entry (cache_entries (cache_bytes cache)) (distinct keys)) (linked_keys_alike met.files read h)
asked_alike (commands.Verify file proof) met read cache h is = refl
asked_alike (commands.List file) met read cache h is = refl
asked_alike (commands.Il file method) met read cache h is = refl
asked_alike (commands.Run run) met read cache h is = refl
asked_alike (commands.Refute file method runs) met read cache h is = refl
asked_alike (commands.Gen seed count) met read cache h is = refl

-- A file past the limit is refused, cut off or not.
accepted_alike : (met : List (Option (List ℕ))) (read : List (Vec ℕ Global)) → AreContents met read → are_accepted (contents met) ≡ are_accepted (bytes_read read)
accepted_alike [] [] h = refl
accepted_alike (under ∷ met) (bytes ∷ read) h =
    ap (λ (others : Bool). is_none (FirstBroken (unwrap_or under [])) && others) (accepted_alike met read h.1)
    ∙ ap (λ (one : Bool). one && are_accepted (bytes_read read)) (file_alike (λ (b : List ℕ). is_none (FirstBroken b)) under bytes.items (λ b past. accepted_cut b READ_LIMIT refl past) h.0)
accepted_alike [] (bytes ∷ read) h = absurd h
accepted_alike (under ∷ met) [] h = absurd h

left_alike : (command : Command) (words : List (List ℕ)) (met : CallMet) (read : List (Vec ℕ Global)) (cache : Option (Vec ℕ Global)) → AreContents met.files read
    → IsCacheContent met.cache cache → bytes_left command words met.cache (contents met.files) ≡ bytes_left command words (cache_bytes cache) (bytes_read read)
left_alike (commands.Check check) words met read cache h is =
    let command = commands.Check check in
    let infer = is_some check.infer in
    let proof = command_proof words command in
    let name = command_cache words command in
    let entries = cache_entries (cache_bytes cache) in
    ap (λ (es : List Entry). left_where (are_accepted (contents met.files)) proof name (OfCache es) (distinct (check_keys infer (pick_of es) (contents met.files)))) (entries_alike met.cache cache is)
    ∙ ap (λ (accepted : Bool). left_where accepted proof name (OfCache entries) (distinct (check_keys infer (pick_of entries) (contents met.files)))) (accepted_alike met.files read h)
    ∙ ap (λ (keys : List (List ℕ)). left_where (are_accepted (bytes_read read)) proof name (OfCache entries) (distinct keys)) (keys_alike infer (pick_of entries) met.files read h)
left_alike (commands.Linked linked) words met read cache h is =
    let command = commands.Linked linked in
    let proof = command_proof words command in
    let name = command_cache words command in
    ap (λ (entries : List Entry). left_where (are_accepted (contents met.files)) proof name (OfCache entries) (distinct (linked_keys (contents met.files)))) (entries_alike met.cache cache is)
    ∙ ap (λ (accepted : Bool). left_where accepted proof name (OfCache (cache_entries (cache_bytes cache))) (distinct (linked_keys (contents met.files)))) (accepted_alike met.files read h)
    ∙ ap (λ (keys : List (List ℕ)). left_where (are_accepted (bytes_read read)) proof name (OfCache (cache_entries (cache_bytes cache))) (distinct keys)) (linked_keys_alike met.files read h)
left_alike (commands.Verify file proof) words met read cache h is = refl
left_alike (commands.Unit file) words met read cache h is = refl
left_alike (commands.List file) words met read cache h is = refl
left_alike (commands.Il file method) words met read cache h is = refl
left_alike (commands.Run run) words met read cache h is = refl
left_alike (commands.Refute file method runs) words met read cache h is = refl
left_alike (commands.Gen seed count) words met read cache h is = refl

-- The bytes of the only file.
pub only_file : (read : List (Vec ℕ Global)) (other : Vec ℕ Global) → length read ≡ 1 → (slice_index_or read 0 other).items ≡ file_at (bytes_read read) 0
only_file [] other one = absurd (omega (arith, one))
only_file (file ∷ read) other one = refl

-- Two files are the first and the second.
pub two_files : (read : List (Vec ℕ Global)) (other next : Vec ℕ Global) → length read ≡ 2
    → bytes_read read ≡ (slice_index_or read 0 other).items ∷ (slice_index_or read 1 next).items ∷ []
two_files [] other next two = absurd (omega (arith, two))
two_files (file ∷ []) other next two = absurd (omega (arith, two))
two_files (file ∷ proof ∷ []) other next two = refl
two_files (file ∷ proof ∷ third ∷ read) other next two = absurd (omega (arith, two))

-- ---- answers to a command

-- Files that were read have the answer for what was read.
pub read_answer : (command : Command) (words : List (List ℕ)) (met : CallMet) (read : List (Vec ℕ Global)) (cache : Option (Vec ℕ Global)) → AreContents met.files read
    → IsCacheContent met.cache cache → files_answer command words met ≡ bytes_answer command words (cache_bytes cache) met.proof (bytes_read read)
read_answer command words met read cache h is =
    let none = none_missing (words_at words (file_indexes command)) met.files read h in
    ap (λ (missing : Option (List ℕ)). missing_or missing (bytes_answer command words met.cache met.proof (contents met.files))) none ∙ bytes_alike command words met read cache h is

pub read_asked : (command : Command) (words : List (List ℕ)) (met : CallMet) (read : List (Vec ℕ Global)) (cache : Option (Vec ℕ Global)) → AreContents met.files read
    → IsCacheContent met.cache cache → files_asked command words met ≡ bytes_asked command (cache_bytes cache) (bytes_read read)
read_asked command words met read cache h is =
    let none = none_missing (words_at words (file_indexes command)) met.files read h in
    ap (λ (missing : Option (List ℕ)). asked_unless missing (bytes_asked command met.cache (contents met.files))) none ∙ asked_alike command met read cache h is

pub read_left : (command : Command) (words : List (List ℕ)) (met : CallMet) (read : List (Vec ℕ Global)) (cache : Option (Vec ℕ Global)) → AreContents met.files read
    → IsCacheContent met.cache cache → files_left command words met ≡ bytes_left command words (cache_bytes cache) (bytes_read read)
read_left command words met read cache h is =
    let none = none_missing (words_at words (file_indexes command)) met.files read h in
    ap (λ (missing : Option (List ℕ)). left_unless missing (bytes_left command words met.cache (contents met.files))) none ∙ left_alike command words met read cache h is

-- Where a file is missing, nothing is asked, and nothing left.
pub missing_asked : (command : Command) (words : List (List ℕ)) (met : CallMet) (name : List ℕ)
    → first_missing (words_at words (file_indexes command)) met.files ≡ Some name → files_asked command words met ≡ []
missing_asked command words met name first =
    ap (λ (missing : Option (List ℕ)). asked_unless missing (bytes_asked command met.cache (contents met.files))) first

pub missing_left : (command : Command) (words : List (List ℕ)) (met : CallMet) (name : List ℕ)
    → first_missing (words_at words (file_indexes command)) met.files ≡ Some name → files_left command words met ≡ []
missing_left command words met name first =
    ap (λ (missing : Option (List ℕ)). left_unless missing (bytes_left command words met.cache (contents met.files))) first

-- A file that is missing has its answer.
pub missing_answer : (command : Command) (words : List (List ℕ)) (met : CallMet) (name : List ℕ)
    → first_missing (words_at words (file_indexes command)) met.files ≡ Some name → files_answer command words met ≡ error_answer 3 (missing_line name)
missing_answer command words met name first =
    ap (λ (missing : Option (List ℕ)). missing_or missing (bytes_answer command words met.cache met.proof (contents met.files))) first

-- ---- a file that was not read

any_before : {X : Type 0} (P : X → Type 0) (xs ys : List X) → Any P xs → Any P (xs ++ ys)
any_before P [] ys (k, x, lt, at, holds) = absurd (omega (arith, lt))
any_before P (first ∷ xs) ys (zero, x, lt, at, holds) = (zero, x, omega arith, at, holds)
any_before P (first ∷ xs) ys (suc k, x, lt, at, holds) =
    let (n, y, below, is, its) = any_before P xs ys (k, x, omega (arith, lt), at, holds) in
    (suc n, y, omega (arith, below), is, its)

any_last : {X : Type 0} (P : X → Type 0) (xs : List X) (x : X) → P x → Any P (xs ++ x ∷ [])
any_last P [] x holds = (zero, x, omega arith, refl, holds)
any_last P (first ∷ xs) x holds =
    let (n, y, below, is, its) = any_last P xs x holds in
    (suc n, y, omega (arith, below), is, its)

-- The names of a command's files, and then that of its cache.
abbrev read_by : List (List ℕ) → Command → List (List ℕ)
read_by words command = words_at words (file_indexes command) ++ option_to_list (command_cache words command)

named : (P : List ℕ → Type 0) (words : List (List ℕ)) (command : Command) (index : ℕ) → IsReadIndex command index → P (word_at words index) → Any P (read_by words command)
named P words command index (inl (k, lt, at)) holds =
    let indexes = file_indexes command in
    any_before P (words_at words indexes) (option_to_list (command_cache words command))
    (k, word_at words index, simp length-map lt, get_or-map (word_at words) indexes k index (word_at words index) lt ∙ ap (word_at words) at, holds)
named P words command index (inr is) holds =
    subst (λ (cache : Option ℕ). Any P (words_at words (file_indexes command) ++ option_to_list (option_map (word_at words) cache))) (sym is)
    (any_last P (words_at words (file_indexes command)) (word_at words index) holds)

-- The answer of one of the files, which was not read.
pub gives_unread : (expected : Answer) (words : List (List ℕ)) (command : Command) (index : ℕ) (failed unreplaced : Type 0) (r : Result ℕ Interrupt) (out err : Change)
    → failed → IsReadIndex command index → Gives (unread_answer (word_at words index)) r out err → GivesOrFails expected (read_by words command) failed unreplaced r out err
gives_unread expected words command index failed unreplaced r out err f is gives =
    inl (inr (f, named (λ (name : List ℕ). Gives (unread_answer name) r out err) words command index is gives))

-- An answer to what was read is one to the words.
pub gives_read : (expected : Answer) (names : List (List ℕ)) (failed before after : Type 0) (r : Result ℕ Interrupt) (out err : Change) → (before → after)
    → GivesOrUnreplaced expected before r out err → GivesOrFails expected names failed after r out err
gives_read expected names failed before after r out err later (inl (inl g)) = inl (inl g)
gives_read expected names failed before after r out err later (inl (inr (never, others))) = absurd never
gives_read expected names failed before after r out err later (inr (f, g)) = inr (later f, g)

-- ---- answers to words

-- Words that are no command have the usage as their answer.
pub no_command_answer : (words : List (List ℕ)) (met : CallMet) → None ≡ command_of words → expected words met ≡ error_answer 2 USAGE
no_command_answer words met e = rw (← e) refl

-- For them nothing is asked, and nothing left.
pub no_command_asked : (words : List (List ℕ)) (met : CallMet) → None ≡ command_of words → asked_by words met ≡ []
no_command_asked words met e = rw (← e) refl

pub no_command_left : (words : List (List ℕ)) (met : CallMet) → None ≡ command_of words → left_by words met ≡ []
no_command_left words met e = rw (← e) refl

-- Nothing is known of them.
pub no_command_known : (words : List (List ℕ)) (met : CallMet) (r : Result ℕ Interrupt) → None ≡ command_of words → WordsKnow words met r
no_command_known words met r e = rw (← e) tt

-- They name no file, no proof file, and no cache.
pub no_command_files : (words : List (List ℕ)) → None ≡ command_of words → file_names words ≡ []
no_command_files words e = rw (← e) refl

pub no_command_cache : (words : List (List ℕ)) → None ≡ command_of words → cache_name words ≡ None
no_command_cache words e = rw (← e) refl
