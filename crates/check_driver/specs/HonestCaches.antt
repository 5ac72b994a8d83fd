-- What an honest cache gives: the reports that are made without it, and an honest cache again.
use Rattle.std.specs.Prelude.{◌≡◌, ◌≢◌, ◌⊎◌, ℕ, List, Option, Some, None, is_some}
use Rattle.cc_base.specs.Files.{Held}
use Rattle.answer_lines.specs.Answers.{Answer}
use Rattle.answer_lines.specs.Outcome.{WritesAll}
use Rattle.answer_lines.specs.Writing.{Change}
use Rattle.check_driver.specs.CacheMet.{cache_entries}
use Rattle.command_words.specs.Words.{check_files, command_of, words_at}
use Rattle.command_words.specs.declared.check_words.CheckWords.{CheckWords}
use Rattle.command_words.specs.declared.command.Command.TheVariants as commands
use Rattle.result_cache.specs.Entries.{Entry}
use Rattle.unit_verdicts.specs.CacheFile.{AreHonest, IsHonestFile}

-- The other words ask for the same reports as these, and name no cache.
pub record AsksWithoutCache (words other : List (List ℕ)) : Type 0 where
  pub check : CheckWords
  pub plain : CheckWords
  pub command : command_of words ≡ Some (commands.Check check)
  pub without : command_of other ≡ Some (commands.Check plain)
  pub none : plain.cache ≡ None
  pub shows : is_some plain.show ≡ is_some check.show
  pub infers : is_some plain.infer ≡ is_some check.infer
  pub files : words_at other (check_files plain) ≡ words_at words (check_files check)

-- The entries that a call uses of what is held under the name of its cache are honest. Of a cache that is missing or
-- refused, or of none, it uses no entry.
abbrev pub IsCacheHonest : Option (List ℕ) → Held → Type 0
IsCacheHonest None held = Unit {0}
IsCacheHonest (Some name) held = AreHonest (cache_entries (held name))

-- All that an answer writes to the sink of output was written, and the status is its own.
pub record WritesAs (answer : Answer) (ended : ℕ) (sink : Change) : Type 0 where
  pub out : WritesAll sink answer.out
  pub status : ended ≡ answer.status

-- Two answers write the same text on the sink of output, and have one status.
pub record AreAlike (answer other : Answer) : Type 0 where
  pub out : answer.out ≡ other.out
  pub status : answer.status ≡ other.status

-- This is a file of honest entries.
abbrev pub HoldsHonest : Option (List ℕ) → Type 0
HoldsHonest under = (bytes : List ℕ) × (under ≡ Some bytes) × IsHonestFile bytes

-- Under this name the files, where they are told, have what they had, or a file of honest entries.
abbrev pub KeepsHonest : List ℕ → Option Held → Option Held → Type 0
KeepsHonest name old new =
    (held after : Held) → old ≡ Some held → new ≡ Some after → (after name ≡ held name) ⊎ HoldsHonest (after name)

-- So they have under the name of a cache, if there is one, where these entries of it are honest and the proof file that
-- is left has another name.
abbrev pub HonestWhereHonest : Option (List ℕ) → Option (List ℕ) → List Entry → Option Held → Option Held → Type 0
HonestWhereHonest None proof entries old new = Unit {0}
HonestWhereHonest (Some name) proof entries old new = AreHonest entries → proof ≢ Some name → KeepsHonest name old new
