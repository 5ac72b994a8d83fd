-- What a call meets under the names of its files and under that of its cache, what it reads of a proof file, and which
-- entries it uses of the cache.
use Rattle.std.specs.Prelude.{◌≡◌, ℕ, List, [], map, Option, Some, None, option_map}
use Rattle.cc_base.specs.Files.{Held}
use Rattle.answer_lines.specs.Answers.{cache_line}
use Rattle.check_driver.specs.CacheText.{cache_fault_text}
use Rattle.check_driver.specs.Met.{AreUnder, IsUnder, contents}
use Rattle.check_driver.specs.ProofMet.{IsProofMet}
use Rattle.command_words.specs.Words.{cache_index, proof_index, word_at}
use Rattle.command_words.specs.declared.command.Command.{Command}
use Rattle.proof_files.specs.Reading.{ProofRead}
use Rattle.result_cache.specs.CacheFile.{entries_of, first_cache_fault}
use Rattle.result_cache.specs.Entries.{Entry}
use Rattle.result_cache.specs.declared.cache_fault.CacheFault.{CacheFault}

-- What is met under the names of the files of a call, and under the name of its cache; and what it reads of the proof
-- file by which it verifies an assembly, where it comes to that.
pub record CallMet : Type 0 where
  pub files : List (Option (List ℕ))
  pub cache : Option (List ℕ)
  pub proof : Option ProofRead

-- The same without a cache.
abbrev pub without_cache : CallMet → CallMet
without_cache met = record { files = met.files; cache = None; proof = met.proof }

-- What is met under the names of files where these files are held, there is no cache, and no proof file is read.
abbrev pub met_of : Held → List (List ℕ) → CallMet
met_of held names = record { files = map held names; cache = None; proof = None }

-- The name of a command's cache, if it has one.
abbrev pub command_cache : List (List ℕ) → Command → Option (List ℕ)
command_cache words command = option_map (word_at words) (cache_index command)

-- The name of the proof file that a command leaves, if it leaves one.
abbrev pub command_proof : List (List ℕ) → Command → Option (List ℕ)
command_proof words command = option_map (word_at words) (proof_index command)

-- This is held under the name of a cache, where that is told. Where no cache is named, nothing is met.
abbrev pub IsCacheUnder : Option Held → Option (List ℕ) → Option (List ℕ) → Type 0
IsCacheUnder told None cache = cache ≡ None
IsCacheUnder told (Some name) cache = IsUnder told name cache

-- A call whose files have these names, and whose cache has this name, if it has one, meets this. What it reads of a
-- proof file is what the second of its files is read as.
pub record IsMet (told : Option Held) (names : List (List ℕ)) (own_name : Option (List ℕ)) (met : CallMet) : Type 0 where
  pub files : AreUnder told names met.files
  pub cache : IsCacheUnder told own_name met.cache
  pub proof : IsProofMet (contents met.files) met.proof

-- ---- the cache

-- The entries of a cache file that has this first fault, or none. One that is refused counts as empty.
abbrev pub entries_unless : List ℕ → Option CacheFault → List Entry
entries_unless bytes (Some fault) = []
entries_unless bytes None = entries_of bytes

-- The entries that a call uses of what it meets under the name of its cache. A missing cache counts as empty.
abbrev pub cache_entries : Option (List ℕ) → List Entry
cache_entries None = []
cache_entries (Some bytes) = entries_unless bytes (first_cache_fault bytes)

-- The line that tells that a cache of this name is refused, where it has this first fault, or none.
abbrev pub refusal_of : List ℕ → Option CacheFault → List ℕ
refusal_of name (Some fault) = cache_line name (cache_fault_text fault)
refusal_of name None = []

-- The same for what a call meets under the name of its cache.
abbrev pub cache_refusal : Option (List ℕ) → Option (List ℕ) → List ℕ
cache_refusal (Some name) (Some bytes) = refusal_of name (first_cache_fault bytes)
cache_refusal (Some name) None = []
cache_refusal None cache = []
