-- Entries as they are held.
use Rattle.std.specs.Prelude.{◌≡◌, ℕ, Bool, List, map}
use Rattle.std.specs.declared.alloc.Global.{Global}
use Rattle.std.specs.declared.vec.Vec.{Vec}
use Rattle.proof_files.specs.Proofs.{Entry, is_cut, proof_bytes}
use Rattle.proof_files.specs.declared.known_entries.KnownEntries.{KnownEntries}
use Rattle.proof_files.specs.declared.proof_entry.ProofEntry.{ProofEntry}

-- The entry that is held so.
abbrev pub told : ProofEntry → Entry
told e = record { unit = e.unit; states = e.inv.states.items }

abbrev pub entries_told : List ProofEntry → List Entry
entries_told entries = map told entries

-- Those that were read so far, and the bytes of their units.

abbrev pub entries_held : KnownEntries → List Entry
entries_held known = entries_told known.entries.items

abbrev pub keys_in : List (Vec ℕ Global × Unit {0}) → List (List ℕ)
keys_in keys = map (λ e. e.0.items) keys

abbrev pub keys_held : KnownEntries → List (List ℕ)
keys_held known = keys_in known.keys.entries

-- The text of a proof file that is being made, and whether one entry had no room in it.
pub record WrittenProof : Type 0 where
  pub text : List ℕ
  pub full : Bool

-- It was made of these entries.
pub record IsMadeOf (entries : List Entry) (written : WrittenProof) : Type 0 where
  pub text : written.text ≡ proof_bytes entries
  pub full : written.full ≡ is_cut entries
