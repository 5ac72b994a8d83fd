-- The verdicts on units that were judged, by the bytes of their files.
use Rattle.std.specs.Prelude.{◌≡◌, ℕ, Bool, true, false, List, [], ◌∷◌, ◌++◌, None, map, if◌then◌else◌}
use Rattle.std.specs.List.{AllByRecursion}
use Rattle.std.specs.declared.alloc.Global.{Global}
use Rattle.std.specs.declared.vec.Vec.{Vec}
use Rattle.invariant_codec.specs.Invariants.{IsInvariant}
use Rattle.invariant_codec.specs.Spelling.{states_bytes}
use Rattle.method_unit.specs.UnitFile.{unit_of}
use Rattle.proof_files.specs.Proofs.{Entry as ProofEntry}
use Rattle.result_cache.specs.Entries.{AreShort, Entry, invariant_of, is_among}
use Rattle.state_facts.specs.StateFacts.{State}
use Rattle.unit_verdicts.specs.CacheFile.{entries_used, invariant_used}
use Rattle.unit_verdicts.specs.Keys.{IsKey}
use Rattle.unit_verdicts.specs.Picks.{Manner, entries_in, limit_pick, pick_from, states_in}
use Rattle.unit_verdicts.specs.Verdicts.{AreVerdictsOf}
use Rattle.unit_verdicts.specs.declared.analysis.CachedUnit.{CachedUnit}
use Rattle.unit_verdicts.specs.declared.source.Source.{Source}
use Rattle.unit_verdicts.specs.declared.source.Source.TheVariants.{Cache as OfCache, Proof as OfProof}

-- Whether invariants are shown, whether the invariants of units are kept, what is held of the file that was read, and
-- the bytes of the units that were judged, in the order in which they came.
pub record CachedUnits : Type 0 where
  pub show : Bool
  pub keeps : Bool
  pub held : Source
  pub keys : List (List ℕ)

-- No unit yet, over the entries of a proof file. Nothing is shown, and nothing is kept.
abbrev pub proof_units : List ProofEntry → CachedUnits
proof_units entries = record { show = false; keeps = false; held = OfProof entries; keys = [] }

-- How units are judged where invariants are shown or not, and this is held.
abbrev pub manner_under : Bool → Source → Manner
manner_under show held = record { show = show; pick = pick_from held }

-- How the units of a cache are judged.
abbrev pub manner_of : CachedUnits → Manner
manner_of cache = manner_under cache.show cache.held

-- The entries that are kept.
abbrev pub entries_kept : CachedUnits → List Entry
entries_kept cache = if cache.keeps then entries_used (entries_in cache.held) cache.keys else []

-- ---- what is kept of a unit

-- The bytes are those of an invariant of these states, which can be read of them.
pub record AreBytesOf (states : List State) (bytes : List ℕ) : Type 0 where
  pub spelled : bytes ≡ states_bytes states
  pub invariant : IsInvariant bytes
  pub again : states_in bytes ≡ states

-- What is kept of the unit of these bytes: the verdicts on it, and the bytes of its invariant, where such are kept and
-- the cache file has none for it.
pub record IsCached (show keeps : Bool) (held : Source) (key : List ℕ) (unit : CachedUnit) : Type 0 where
  pub is_key : IsKey key
  pub found : AreVerdictsOf (manner_under show held) (unit_of key) unit.found
  pub used : keeps ≡ true → IsInvariant (invariant_used (entries_in held) key)
  pub own : keeps ≡ true → invariant_of (entries_in held) key ≡ None
      → AreBytesOf (limit_pick (unit_of key)) unit.invariant.items

-- The keys are none of these, and no two of them are equal.
abbrev pub AreNew : List (List ℕ) → List (List ℕ) → Type 0
AreNew seen [] = Unit {0}
AreNew seen (key ∷ keys) = (is_among seen key ≡ false) × AreNew (seen ++ key ∷ []) keys

abbrev pub JudgedEntry : Type 0
JudgedEntry = Vec ℕ Global × CachedUnit

abbrev pub keys_in : List JudgedEntry → List (List ℕ)
keys_in entries = map (λ entry. entry.0.items) entries

-- What they are a cache of.
abbrev pub units_in : Bool → Bool → Source → List JudgedEntry → CachedUnits
units_in show keeps held entries = record { show = show; keeps = keeps; held = held; keys = keys_in entries }

-- The invariants of a cache file are short enough to be read, and over a proof file nothing is kept.
abbrev pub IsHeldFor : Bool → Source → Type 0
IsHeldFor keeps (OfCache entries) = AreShort entries
IsHeldFor keeps (OfProof entries) = keeps ≡ false

-- Beside each of distinct keys stands what is kept of its unit.
pub record AreCached (show keeps : Bool) (held : Source) (entries : List JudgedEntry) : Type 0 where
  pub held_for : IsHeldFor keeps held
  pub keys : AreNew [] (keys_in entries)
  pub each : AllByRecursion (λ entry. IsCached show keeps held entry.0.items entry.1) entries
