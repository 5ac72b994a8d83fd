-- What files in memory hold, and what they count.
use Rattle.std.specs.Prelude.{ℕ, Bool, List, [], ◌∷◌, Some, None, Result, Ok, Err, string_bytes, bytes_eq, if◌then◌else◌}
use Rattle.cc_base.specs.Counts.{count_up}
use Rattle.cc_base.specs.declared.files.ReadRefusal.{ReadRefusal}
use Rattle.cc_base.specs.declared.files.ReadRefusal.TheVariants as reads
use Rattle.cc_base.specs.declared.files.ReplaceRefusal.{ReplaceRefusal}
use Rattle.cc_base.specs.declared.files.ReplaceRefusal.TheVariants as replaces
use Rattle.cc_base.specs.declared.map_files.NamedFile.{NamedFile}
use Rattle.cc_base.specs.Files.{Held}

-- The file has this name.
abbrev pub is_named : List ℕ → NamedFile → Bool
is_named name file = bytes_eq (string_bytes file.name) name

-- What is held under each name: the bytes of the first file of that name.
abbrev pub held_in : List NamedFile → Held
held_in [] name = None
held_in (file ∷ files) name = if is_named name file then Some file.bytes.items else held_in files name

-- The count of names that were missing, after one more read.
abbrev pub missed_after : {X : Type 0} → Result X ReadRefusal → ℕ → ℕ
missed_after (Ok x) missed = missed
missed_after (Err reads.Missing) missed = count_up missed
missed_after (Err reads.Failed) missed = missed
missed_after (Err reads.NoMemory) missed = missed

-- The count of calls that failed, after one more read.
abbrev pub read_faults_after : {X : Type 0} → Result X ReadRefusal → ℕ → ℕ
read_faults_after (Ok x) faults = faults
read_faults_after (Err reads.Missing) faults = faults
read_faults_after (Err reads.Failed) faults = count_up faults
read_faults_after (Err reads.NoMemory) faults = faults

-- The same after one more replacement.
abbrev pub replace_faults_after : {X : Type 0} → Result X ReplaceRefusal → ℕ → ℕ
replace_faults_after (Ok x) faults = faults
replace_faults_after (Err replaces.Failed) faults = count_up faults
replace_faults_after (Err replaces.NoMemory) faults = faults
