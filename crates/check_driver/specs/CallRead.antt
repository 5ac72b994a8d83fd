-- What was read for a call.
use Rattle.std.specs.Prelude.{◌≡◌, ◌⊎◌, ◌<◌, ℕ, List, length, All, IfSome, Option, Some, None, option_map, Result, Ok, Err, Contains}
use Rattle.std.specs.declared.alloc.Global.{Global}
use Rattle.std.specs.declared.vec.Vec.{Vec}
use Rattle.check_driver.specs.CacheMet.{CallMet}
use Rattle.check_driver.specs.Met.{AreContents, IsCacheContent, bytes_read, first_missing}
use Rattle.check_driver.specs.declared.inputs.CallFiles.{CallFiles}
use Rattle.check_driver.specs.declared.inputs.Inputs.{Inputs}
use Rattle.check_driver.specs.declared.reading.Unread.{Unread}
use Rattle.check_driver.specs.declared.reading.Unread.TheVariants as unread
use Rattle.command_words.specs.Words.{cache_index, file_indexes, proof_index, used_indexes, word_at, words_at, words_bytes}
use Rattle.command_words.specs.declared.command.Command.{Command}

-- The bytes that were read of a cache.
abbrev pub cache_bytes : Option (Vec ℕ Global) → Option (List ℕ)
cache_bytes read = option_map (λ bytes. bytes.items) read

-- The names of the files, the bytes that were read of them, and those of the cache.
abbrev pub names_of : CallFiles → List (List ℕ)
names_of given = words_at (words_bytes given.words.now) given.indexes.now

abbrev pub files_of : CallFiles → List (List ℕ)
files_of given = bytes_read given.read.now

abbrev pub cache_of : CallFiles → Option (List ℕ)
cache_of given = cache_bytes given.cache.now

-- What was read is what a command of these words asks for: the words name its files, its cache and the proof file that
-- it leaves, and as many files were read.
pub record IsCalled (command : Command) (given : CallFiles) : Type 0 where
  pub used : All (λ index. index < length given.words.now) (used_indexes command)
  pub files : All (λ index. index < length given.words.now) (file_indexes command)
  pub cache : IfSome (cache_index command) (λ index. index < length given.words.now)
  pub proof : IfSome (proof_index command) (λ index. index < length given.words.now)
  pub indexes : given.indexes.now ≡ file_indexes command
  pub each : length given.read.now ≡ length (file_indexes command)
  pub none : cache_index command ≡ None → cache_of given ≡ None

-- The index of a file of the command, or of its cache.
abbrev pub IsReadIndex : Command → ℕ → Type 0
IsReadIndex command index = Contains (file_indexes command) index ⊎ (cache_index command ≡ Some index)

-- A read of a command's cache, if it has one, which met this: `failed` says that a device refused a read.
abbrev pub ReadsItsCache : Command → Option (List ℕ) → Type 0 → Result (Option (Vec ℕ Global)) Unread → Type 0
ReadsItsCache command under failed (Ok read) = IsCacheContent under read
ReadsItsCache command under failed (Err (unread.Missing index)) = ⊥
ReadsItsCache command under failed (Err (unread.Failed index)) = failed × (cache_index command ≡ Some index)
ReadsItsCache command under failed (Err unread.NoMemory) = Unit {0}

-- The reads of a command's files, and then of its cache, which met this: `missed` says that a name was missing in this
-- call, and `failed` that a device refused a read.
abbrev pub ReadsCall : List (List ℕ) → Command → CallMet → Type 0 → Type 0 → Result Inputs Unread → Type 0
ReadsCall words command met missed failed (Ok read) =
    AreContents met.files read.files.items × IsCacheContent met.cache read.cache
ReadsCall words command met missed failed (Err (unread.Missing index)) =
    missed × Contains (file_indexes command) index
    × (first_missing (words_at words (file_indexes command)) met.files ≡ Some (word_at words index))
ReadsCall words command met missed failed (Err (unread.Failed index)) = failed × IsReadIndex command index
ReadsCall words command met missed failed (Err unread.NoMemory) = Unit {0}
