-- What is met under the names of a call's files and of its cache, as these are read.
use Rattle.std.proofs.Common.{◌≡◌, ℕ, ◌<◌, List, Vec, Global, Option, Some, None, Result, Ok, Err, refl, subst, inl, inr, option_map}
use Rattle.std.specs.Prelude.{All, Contains, IfSome}
use Rattle.cc_base.specs.Counts.{Kept, Rose}
use Rattle.cc_base.specs.Files.{Held}
use Rattle.cc_base.proofs.CountLemmas.{Kept-Rose}
use Rattle.command_words.specs.Words.{cache_index, file_indexes, used_indexes, word_at, words_at}
use Rattle.command_words.proofs.UsedIndexes.{cache_used, files_used}
use Rattle.command_words.specs.declared.command.Command.{Command}
use Rattle.check_driver.specs.CacheMet.{CallMet, IsCacheUnder, IsMet, command_cache}
use Rattle.check_driver.specs.CallRead.{IsReadIndex, ReadsCall, ReadsItsCache, cache_bytes}
use Rattle.check_driver.specs.Met.{AreUnder, IsCacheContent, Reads, contents}
use Rattle.check_driver.specs.declared.inputs.Inputs.{Inputs}
use Rattle.check_driver.specs.declared.reading.Unread.{Unread}
use Rattle.check_driver.specs.declared.reading.Unread.TheVariants as unread
use Rattle.check_driver.proofs.FilesRead.{all_under, any_under}
use Rattle.check_driver.proofs.ProofCuts.{none_met}

abbrev Read : Type 0
Read = Option (Vec ℕ Global)

-- ---- the cache

abbrev pub ReadsOwn : Option Held → List (List ℕ) → Command → Type 0 → Result Read Unread → Type 0
ReadsOwn told words command failed r = (under : Option (List ℕ)) × IsCacheUnder told (command_cache words command) under × ReadsItsCache command under failed r

-- Something is met under the name of a cache.
any_cache : (told : Option Held) (name : Option (List ℕ)) → (under : Option (List ℕ)) × IsCacheUnder told name under
any_cache told None = (None, refl)
any_cache told (Some name) = any_under told name

-- Something is met under all names.
pub any_met : (told : Option Held) (names : List (List ℕ)) (name : Option (List ℕ)) → (met : CallMet) × IsMet told names name met
any_met told names name =
    let files = all_under told names in
    let cache = any_cache told name in
    (record { files = files.0; cache = cache.0; proof = None }, record { files = files.1; cache = cache.1; proof = none_met (contents files.0) })

-- ---- all files

abbrev pub ReadsAll : Option Held → List (List ℕ) → Command → Type 0 → Type 0 → Result Inputs Unread → Type 0
ReadsAll told words command missed failed r =
    (met : CallMet) × IsMet told (words_at words (file_indexes command)) (command_cache words command) met × ReadsCall words command met missed failed r

abbrev pub ReadsFiles : Option Held → List (List ℕ) → List ℕ → Type 0 → Type 0 → Result (Vec (Vec ℕ Global) Global) Unread → Type 0
ReadsFiles told words indexes missed failed r =
    (met : List (Option (List ℕ))) × AreUnder told (words_at words indexes) met × Reads words indexes met missed failed r

-- A file was not read.
files_stop : (words : List (List ℕ)) (command : Command) (met : CallMet) (missed failed : Type 0) (e : Unread) → Reads words (file_indexes command) met.files missed failed (Err e)
    → ReadsCall words command met missed failed (Err e)
files_stop words command met missed failed (unread.Missing index) reads = reads
files_stop words command met missed failed (unread.Failed index) reads = (reads.0, inl reads.1)
files_stop words command met missed failed unread.NoMemory reads = tt

pub stopped_at_file : (told : Option Held) (words : List (List ℕ)) (command : Command) (missed failed : Type 0) (e : Unread) → ReadsFiles told words (file_indexes command) missed failed (Err e)
    → ReadsAll told words command missed failed (Err e)
stopped_at_file told words command missed failed e (met, under, reads) =
    let cache = any_cache told (command_cache words command) in
    let all : CallMet = record { files = met; cache = cache.0; proof = None } in
    (all, record { files = under; cache = cache.1; proof = none_met (contents met) }, files_stop words command all missed failed e reads)

-- The cache was not read.
cache_stop : (words : List (List ℕ)) (command : Command) (met : CallMet) (missed : Type 0) (f0 f1 f2 : ℕ) (e : Unread) → Kept f0 f1 → ReadsItsCache command met.cache (Rose f1 f2) (Err e)
    → ReadsCall words command met missed (Rose f0 f2) (Err e)
cache_stop words command met missed f0 f1 f2 (unread.Missing index) kept reads = absurd reads
cache_stop words command met missed f0 f1 f2 (unread.Failed index) kept reads = (Kept-Rose f0 f1 f2 kept reads.0, inr reads.1)
cache_stop words command met missed f0 f1 f2 unread.NoMemory kept reads = tt

pub stopped_at_cache : (told now : Option Held) (words : List (List ℕ)) (command : Command) (read : Vec (Vec ℕ Global) Global) (before failed missed : Type 0) (f0 f1 f2 : ℕ) (e : Unread)
    → now ≡ told → Kept f0 f1 → ReadsFiles told words (file_indexes command) before failed (Ok read) → ReadsOwn now words command (Rose f1 f2) (Err e)
    → ReadsAll told words command missed (Rose f0 f2) (Err e)
stopped_at_cache told now words command read before failed missed f0 f1 f2 e same kept (met, under, files_are) (cache, is, reads) =
    let all : CallMet = record { files = met; cache = cache; proof = None } in (
      all,
      record { files = under; cache = subst (λ (t : Option Held). IsCacheUnder t (command_cache words command) cache) same is; proof = none_met (contents met) },
      cache_stop words command all missed f0 f1 f2 e kept reads,
    )

-- All was read.
pub all_read : (told now : Option Held) (words : List (List ℕ)) (command : Command) (read : Vec (Vec ℕ Global) Global) (cache : Read) (a b c missed failed : Type 0) → now ≡ told
    → ReadsFiles told words (file_indexes command) a b (Ok read) → ReadsOwn now words command c (Ok cache)
    → ReadsAll told words command missed failed (Ok (record { files = read; cache = cache }))
all_read told now words command read cache a b c missed failed same (met, under, files_are) (own, is, reads) = (
  record { files = met; cache = own; proof = None },
  record { files = under; cache = subst (λ (t : Option Held). IsCacheUnder t (command_cache words command) own) same is; proof = none_met (contents met) },
  (files_are, reads),
)

-- ---- what was read

no_bytes : (under : Option (List ℕ)) (read : Read) → under ≡ None → IsCacheContent under read → cache_bytes read ≡ None
no_bytes None None none is = refl
no_bytes None (Some bytes) none (inl is) = absurd cc
no_bytes None (Some bytes) none (inr is) = absurd cc
no_bytes (Some whole) read none is = absurd cc

-- Of a command without a cache none was read.
pub no_cache_read : (told : Option Held) (words : List (List ℕ)) (command : Command) (under : Option (List ℕ)) (read : Read) → IsCacheUnder told (command_cache words command) under
    → IsCacheContent under read → cache_index command ≡ None → cache_bytes read ≡ None
no_cache_read told words command under read is content none =
    no_bytes under read (subst (λ (index : Option ℕ). IsCacheUnder told (option_map (word_at words) index) under) none is) content

-- ---- indexes

contained_below : (limit : ℕ) (indexes : List ℕ) (index : ℕ) → All (λ i. i < limit) indexes → Contains indexes index → index < limit
contained_below limit indexes index all (k, lt, at) = subst (λ (i : ℕ). i < limit) at (all k index lt)

pub file_below : (limit : ℕ) (command : Command) (index : ℕ) → All (λ i. i < limit) (used_indexes command) → Contains (file_indexes command) index → index < limit
file_below limit command index used has = contained_below limit (file_indexes command) index (files_used limit command used) has

-- A file that is read, or the cache.
pub read_below : (limit : ℕ) (command : Command) (index : ℕ) → All (λ i. i < limit) (used_indexes command) → IsReadIndex command index → index < limit
read_below limit command index used (inl has) = file_below limit command index used has
read_below limit command index used (inr is) = subst (λ (i : Option ℕ). IfSome i (λ n. n < limit)) is (cache_used limit command used)
