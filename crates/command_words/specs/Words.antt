-- The grammar of the program's words.
use Rattle.std.specs.Prelude.{◌≡◌, ℕ, zero, suc, ◌+◌, ◌-◌, ◌*◌, ◌^◌, ◌≤◌, true, Bool, false, not, nat_le, nat_lt, List, [], ◌∷◌, ◌++◌, length, map, take, drop, Option, Some, None, option_map, option_and_then, option_to_list, ◌==◌, ◌&&◌, ◌||◌, if◌then◌else◌, codes, slice_index_or, filter, position}
use Rattle.std.specs.List.{count_by, flat_map, list_all, list_any, range_with_len}
use Rattle.std.specs.Str.{bytes_eq}
use Rattle.std.specs.String.{string_bytes}
use Rattle.std.specs.declared.alloc.Global.{Global}
use Rattle.std.specs.declared.string.String.{String}
use Rattle.command_words.specs.declared.command.Command.{Command}
use Rattle.command_words.specs.declared.command.Command.TheVariants as commands
use Rattle.command_words.specs.declared.command.RunWords.{RunWords}
use Rattle.command_words.specs.declared.check_words.CheckWords.{CheckWords}
use Rattle.command_words.specs.declared.linked_words.LinkedWords.{LinkedWords}
use Rattle.run_arguments.specs.Arguments.{is_argument}
use Rattle.run_arguments.specs.Numbers.{number_of_word}

-- The bytes of each word.
abbrev pub words_bytes : List (String Global) → List (List ℕ)
words_bytes words = map (λ word. string_bytes word) words

-- The word at an index.
abbrev pub word_at : List (List ℕ) → ℕ → List ℕ
word_at words index = slice_index_or words index []

-- A word that may name a file or a method: it is not empty and does not begin with a minus sign.
abbrev pub is_name_word : List ℕ → Bool
is_name_word [] = false
is_name_word (c ∷ cs) = not (c == 45)

-- The command that a word tells, whose file is named by the word at an index.
abbrev pub file_command : List ℕ → ℕ → Option Command
file_command word index =
    if bytes_eq word (codes "unit") then Some (commands.Unit index)
    else if bytes_eq word (codes "list") then Some (commands.List index)
    else None

-- The command of two words: `unit FILE` or `list FILE`.
abbrev pub command_of_two : List ℕ → List ℕ → Option Command
command_of_two word file = if is_name_word file then file_command word 1 else None

-- The command that shows the instructions of a method.
abbrev pub il_command : List ℕ → List ℕ → Option Command
il_command file method = if is_name_word file && is_name_word method then Some (commands.Il 1 2) else None

-- The greatest seed, and the most methods that are generated.
abbrev pub MAX_SEED : ℕ
MAX_SEED = 4294967295

abbrev pub MAX_METHODS : ℕ
MAX_METHODS = 10000

-- The command that generates so many methods from a seed, where both are told. There is at least one method.
abbrev pub gen_told : Option ℕ → Option ℕ → Option Command
gen_told (Some seed) (Some count) = if count == 0 then None else Some (commands.Gen seed count)
gen_told _ _ = None

abbrev pub gen_command : List ℕ → List ℕ → Option Command
gen_command seed count = gen_told (number_of_word MAX_SEED seed) (number_of_word MAX_METHODS count)

-- The command that reports on an assembly by a proof file.
abbrev pub verify_command : List ℕ → List ℕ → Option Command
verify_command file proof = if is_name_word file && is_name_word proof then Some (commands.Verify 1 2) else None

-- The command of three words: `il FILE METHOD`, `gen SEED COUNT` or `verify FILE F`.
unfoldable pub command_of_three : List ℕ → List ℕ → List ℕ → Option Command
command_of_three word first second =
    if bytes_eq word (codes "il") then il_command first second
    else if bytes_eq word (codes "gen") then gen_command first second
    else if bytes_eq word (codes "verify") then verify_command first second
    else None

-- ---- checks

-- The word that asks for invariants.
abbrev pub is_show : List ℕ → Bool
is_show word = bytes_eq word (codes "--show")

-- The word that asks for the Ensures that the returns of methods show.
abbrev pub is_infer : List ℕ → Bool
is_infer word = bytes_eq word (codes "--infer")

-- The word after which a cache is named.
abbrev pub is_cache : List ℕ → Bool
is_cache word = bytes_eq word (codes "--cache")

-- The word after which the proof file that is written is named.
abbrev pub is_proof : List ℕ → Bool
is_proof word = bytes_eq word (codes "--proof")

-- The word after which a reference is named: an assembly with which the others are linked.
abbrev pub is_ref : List ℕ → Bool
is_ref word = bytes_eq word (codes "--ref")

-- A word that may stand after `check`.
abbrev pub is_check_word : List ℕ → Bool
is_check_word word = is_show word || (is_infer word || (is_cache word || (is_proof word || (is_ref word || is_name_word word))))

-- Where a name stands among these words: after the first that is such an option.
abbrev pub name_place : (List ℕ → Bool) → List (List ℕ) → Option ℕ
name_place is_option words = option_map (λ place. place + 1) (position is_option words)

-- Where the name of a cache stands, and where that of a proof file.
abbrev pub cache_place : List (List ℕ) → Option ℕ
cache_place words = name_place is_cache words

abbrev pub proof_place : List (List ℕ) → Option ℕ
proof_place words = name_place is_proof words

-- The word at this place, where there is one, is a name that no other of these words is.
abbrev pub is_own_name : List (List ℕ) → Option ℕ → Bool
is_own_name words None = true
is_own_name words (Some place) = is_name_word (word_at words place) && count_by (bytes_eq (word_at words place)) words == 1

-- After each word that asks for a reference stands a name.
abbrev pub are_refs_named : List (List ℕ) → Bool
are_refs_named [] = true
are_refs_named (word ∷ words) = (not (is_ref word) || is_name_word (word_at words 0)) && are_refs_named words

-- The most files that a check may have, without its references.
abbrev pub MAX_FILES : ℕ
MAX_FILES = 64

-- The most references that it may have.
abbrev pub MAX_REFS : ℕ
MAX_REFS = 16

-- How many of these words name files of a check that are no references: all but `--show` and `--infer`, but `--cache`,
-- `--proof` and `--ref`, and but the names after these three.
abbrev pub file_count : List (List ℕ) → ℕ
file_count words =
    length words
    - (count_by is_show words + (count_by is_infer words + 2 * (count_by is_cache words + (count_by is_proof words + count_by is_ref words))))

-- At most one `--show`, one `--infer`, one `--cache` and one `--proof`, at most 16 references, and 1 to 64 other files.
abbrev pub are_few : List (List ℕ) → Bool
are_few words =
    nat_le (count_by is_show words) 1 && nat_le (count_by is_infer words) 1 && nat_le (count_by is_cache words) 1 && nat_le (count_by is_proof words) 1
    && nat_le (count_by is_ref words) MAX_REFS && nat_le 1 (file_count words) && nat_le (file_count words) MAX_FILES

-- Where `--infer` is among these words, neither `--proof` nor `--ref` is.
abbrev pub infers_alone : List (List ℕ) → Bool
infers_alone words = count_by is_infer words == 0 || (count_by is_proof words == 0 && count_by is_ref words == 0)

-- Words are those of a check where each may stand there, none of a kind stands there too often, none beside `--infer`
-- that may not, each reference is named, and the cache and the proof file have names of their own.
abbrev pub are_check_words : List (List ℕ) → Bool
are_check_words words =
    list_all is_check_word words && are_few words && infers_alone words && are_refs_named words
    && is_own_name words (cache_place words) && is_own_name words (proof_place words)

-- The index, among all words of a check, of the word at this place after `check`.
abbrev pub word_index : Option ℕ → Option ℕ
word_index place = option_map (λ place. place + 1) place

-- How many words a check has, and which of them are `--show`, `--infer` and the names of the cache and of the proof
-- file, for the words after `check`. Its references are told apart.
unfoldable pub check_words : List (List ℕ) → Option CheckWords
check_words words =
    if are_check_words words
    then Some (record {
      count = length words + 1;
      show = word_index (position is_show words);
      infer = word_index (position is_infer words);
      cache = word_index (cache_place words);
      proof = word_index (proof_place words);
    })
    else None

-- The word at an index is the option at another: `--show` or `--infer`.
abbrev pub tells_option : Option ℕ → ℕ → Bool
tells_option None index = false
tells_option (Some option) index = index == option

-- The word at an index is the name at another, or the option before that.
abbrev pub tells_name : Option ℕ → ℕ → Bool
tells_name None index = false
tells_name (Some name) index = index == name || index == name - 1

-- The word at an index names a file of a check, unless it is `check` or tells something else.
abbrev pub names_file : CheckWords → ℕ → Bool
names_file check index =
    not (tells_option check.show index) && not (tells_option check.infer index) && not (tells_name check.cache index) && not (tells_name check.proof index)

-- The indexes of the words that name the files of a check without references, in order.
abbrev pub check_files : CheckWords → List ℕ
check_files check = filter (names_file check) (range_with_len 1 (check.count - 1))

-- ---- checks with references

-- The indexes of the names of references, for words of which the first has this index.
abbrev pub refs_from : ℕ → List (List ℕ) → List ℕ
refs_from index [] = []
refs_from index (word ∷ words) = if is_ref word then (index + 1) ∷ refs_from (index + 1) words else refs_from (index + 1) words

-- Indexes in so much room: behind the last there is none.
abbrev pub padded : ℕ → List ℕ → List (Option ℕ)
padded zero indexes = []
padded (suc room) [] = None ∷ padded room []
padded (suc room) (index ∷ indexes) = Some index ∷ padded room indexes

-- The indexes that are there.
abbrev pub refs_in : List (Option ℕ) → List ℕ
refs_in refs = flat_map option_to_list refs

-- What the words tell of a check and its references, for the words after `check`.
unfoldable pub linked_words : List (List ℕ) → Option LinkedWords
linked_words words = option_map (λ check. record { check = check; refs = padded MAX_REFS (refs_from 1 words) }) (check_words words)

-- The word at an index is the name of one of these references, or the option before that.
abbrev pub tells_ref : List (Option ℕ) → ℕ → Bool
tells_ref refs index = list_any (λ name. tells_name name index) refs

-- The indexes of the words that name the files of a check with references: those that are no references, in order, and
-- then the references, in order.
abbrev pub linked_files : LinkedWords → List ℕ
linked_files linked = filter (λ index. not (tells_ref linked.refs index)) (check_files linked.check) ++ refs_in linked.refs

-- ---- runs

-- How many steps a run may take unless it is told, and the most that it may be told.
abbrev pub STEPS : ℕ
STEPS = 1000000

abbrev pub MAX_STEPS : ℕ
MAX_STEPS = 1000000000

-- `--steps` is the last word but one, after `run FILE METHOD`.
abbrev pub tells_steps : List (List ℕ) → Bool
tells_steps words = nat_le 5 (length words) && bytes_eq (word_at words (length words - 2)) (codes "--steps")

-- Where the words of the arguments end.
abbrev pub args_end : List (List ℕ) → ℕ
args_end words = if tells_steps words then length words - 2 else length words

abbrev pub run_steps : List (List ℕ) → Option ℕ
run_steps words = if tells_steps words then number_of_word MAX_STEPS (word_at words (length words - 1)) else Some STEPS

-- The words of the arguments.
abbrev pub run_args : List (List ℕ) → List (List ℕ)
run_args words = take (args_end words - 3) (drop 3 words)

-- The words name a file, a method and arguments, and are no more than can be counted.
abbrev pub names_run : List (List ℕ) → Bool
names_run words =
    nat_lt (length words) (2 ^ 32) && is_name_word (word_at words 1) && is_name_word (word_at words 2) && list_all is_argument (run_args words)

-- The command that runs a method: its file, its name and its arguments, and after them perhaps a limit on steps.
unfoldable pub run_command : List (List ℕ) → Option Command
run_command words =
    if names_run words
    then option_map (λ steps. commands.Run (record { file = 1; method = 2; args_end = args_end words; steps = steps })) (run_steps words) else None

-- The words of a run's arguments, as the command tells them.
abbrev pub args_told : RunWords → List (List ℕ) → List (List ℕ)
args_told run words = take (run.args_end - 3) (drop 3 words)

-- Behind the method stand arguments.
pub record HasArguments (run : RunWords) (words : List (List ℕ)) : Type 0 where
  pub begin : 3 ≤ run.args_end
  pub end : run.args_end ≤ length words
  pub each : list_all is_argument (args_told run words) ≡ true

abbrev pub IfRun : Command → (RunWords → Type 0) → Type 0
IfRun (commands.Run run) P = P run
IfRun _ P = Unit {0}

-- This holds of the seed and the number of methods of a command that generates.
abbrev pub IfGen : Command → (ℕ → ℕ → Type 0) → Type 0
IfGen (commands.Gen seed count) P = P seed count
IfGen _ P = Unit {0}

-- ---- searches for arguments that fault

-- How many runs a search may try unless it is told, and the most that it may be told.
abbrev pub RUNS : ℕ
RUNS = 1000

abbrev pub MAX_RUNS : ℕ
MAX_RUNS = 10000

-- The number, where it is told and not 0.
abbrev pub at_least_one : Option ℕ → Option ℕ
at_least_one (Some number) = if number == 0 then None else Some number
at_least_one None = None

-- How many runs the words after the method allow: none of them, or `--runs` and the number.
abbrev pub runs_told : List (List ℕ) → Option ℕ
runs_told [] = Some RUNS
runs_told (option ∷ number ∷ []) = if bytes_eq option (codes "--runs") then at_least_one (number_of_word MAX_RUNS number) else None
runs_told _ = None

-- The command that searches for arguments with which a run of a method ends in a fault: its file, its name, and perhaps
-- how many runs it may try.
abbrev pub refute_command : List ℕ → List ℕ → List (List ℕ) → Option Command
refute_command file method options =
    if is_name_word file && is_name_word method then option_map (commands.Refute 1 2) (runs_told options) else None

-- ---- commands

-- The command of words of which the first is not `check`.
abbrev pub other_command : List (List ℕ) → Option Command
other_command (word ∷ file ∷ []) = command_of_two word file
other_command (word ∷ first ∷ second ∷ args) =
    if bytes_eq word (codes "run") then run_command (word ∷ first ∷ second ∷ args)
    else if bytes_eq word (codes "refute") then refute_command first second args
    else if length args == 0 then command_of_three word first second
    else None
other_command _ = None

-- The command of the words after `check`.
abbrev pub check_command : List (List ℕ) → Option Command
check_command words =
    if count_by is_ref words == 0 then option_map commands.Check (check_words words) else option_map commands.Linked (linked_words words)

-- The command that the words are, if they are one.
abbrev pub command_of : List (List ℕ) → Option Command
command_of [] = None
command_of (word ∷ words) =
    if bytes_eq word (codes "check") then check_command words else other_command (word ∷ words)

-- The indexes of the words that name the command's files, in the order in which the files are read.
abbrev pub file_indexes : Command → List ℕ
file_indexes (commands.Unit file) = file ∷ []
file_indexes (commands.List file) = file ∷ []
file_indexes (commands.Il file method) = file ∷ []
file_indexes (commands.Check check) = check_files check
file_indexes (commands.Linked linked) = linked_files linked
file_indexes (commands.Verify file proof) = file ∷ proof ∷ []
file_indexes (commands.Run run) = run.file ∷ []
file_indexes (commands.Refute file method runs) = file ∷ []
file_indexes (commands.Gen seed count) = []

-- The indexes of those among them that name the assemblies that the command reports each by itself, in the order of
-- the reports. Those that are linked with each other are no such.
abbrev pub checked_indexes : Command → List ℕ
checked_indexes (commands.Unit file) = []
checked_indexes (commands.List file) = []
checked_indexes (commands.Il file method) = []
checked_indexes (commands.Check check) = check_files check
checked_indexes (commands.Linked linked) = []
checked_indexes (commands.Verify file proof) = file ∷ []
checked_indexes (commands.Run run) = []
checked_indexes (commands.Refute file method runs) = []
checked_indexes (commands.Gen seed count) = []

-- The index of the word that names the command's cache, if it has one: a file that may be missing.
abbrev pub cache_index : Command → Option ℕ
cache_index (commands.Unit file) = None
cache_index (commands.List file) = None
cache_index (commands.Il file method) = None
cache_index (commands.Check check) = check.cache
cache_index (commands.Linked linked) = linked.check.cache
cache_index (commands.Verify file proof) = None
cache_index (commands.Run run) = None
cache_index (commands.Refute file method runs) = None
cache_index (commands.Gen seed count) = None

-- The index of the word that names the proof file that the command writes, if it writes one.
abbrev pub proof_index : Command → Option ℕ
proof_index (commands.Unit file) = None
proof_index (commands.List file) = None
proof_index (commands.Il file method) = None
proof_index (commands.Check check) = check.proof
proof_index (commands.Linked linked) = linked.check.proof
proof_index (commands.Verify file proof) = None
proof_index (commands.Run run) = None
proof_index (commands.Refute file method runs) = None
proof_index (commands.Gen seed count) = None

-- The indexes of all words that the command uses.
abbrev pub used_indexes : Command → List ℕ
used_indexes (commands.Unit file) = file ∷ []
used_indexes (commands.List file) = file ∷ []
used_indexes (commands.Il file method) = file ∷ method ∷ []
used_indexes (commands.Check check) = check_files check ++ option_to_list check.cache ++ option_to_list check.proof
used_indexes (commands.Linked linked) = linked_files linked ++ option_to_list linked.check.cache ++ option_to_list linked.check.proof
used_indexes (commands.Verify file proof) = file ∷ proof ∷ []
used_indexes (commands.Run run) = run.file ∷ run.method ∷ []
used_indexes (commands.Refute file method runs) = file ∷ method ∷ []
used_indexes (commands.Gen seed count) = []

-- The words at these indexes.
abbrev pub words_at : List (List ℕ) → List ℕ → List (List ℕ)
words_at words indexes = map (word_at words) indexes

abbrev pub command_files : List (List ℕ) → Option Command → List (List ℕ)
command_files words None = []
command_files words (Some command) = words_at words (file_indexes command)

-- The names of the files that are read for these words, in order. Words that are no command have none.
abbrev pub file_names : List (List ℕ) → List (List ℕ)
file_names words = command_files words (command_of words)

abbrev pub checked_files : List (List ℕ) → Option Command → List (List ℕ)
checked_files words None = []
checked_files words (Some command) = words_at words (checked_indexes command)

-- The names of the assemblies that are reported each by itself for these words, in order.
abbrev pub checked_names : List (List ℕ) → List (List ℕ)
checked_names words = checked_files words (command_of words)

-- The name of the cache that a command of these words has, if it has one.
abbrev pub cache_name : List (List ℕ) → Option (List ℕ)
cache_name words = option_map (word_at words) (option_and_then cache_index (command_of words))

-- The name of the proof file that a command of these words writes, if it writes one. No file of this name is read.
abbrev pub proof_name : List (List ℕ) → Option (List ℕ)
proof_name words = option_map (word_at words) (option_and_then proof_index (command_of words))

-- The names of the files that are read for these words, in order: those that must be there, and then the cache.
abbrev pub read_names : List (List ℕ) → List (List ℕ)
read_names words = file_names words ++ option_to_list (cache_name words)
