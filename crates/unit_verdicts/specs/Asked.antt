-- What a finder is asked for. A unit is told by the whole bytes of its file.
use Rattle.std.specs.Prelude.{◌≡◌, ℕ, not, List, [], ◌∷◌, ◌++◌, filter, Result, IfOk, if◌then◌else◌}
use Rattle.result_cache.specs.Entries.{Entry, is_among, keys_of}
use Rattle.unit_verdicts.specs.declared.source.Source.{Source}
use Rattle.unit_verdicts.specs.declared.source.Source.TheVariants.{Cache as OfCache, Proof as OfProof}

-- ---- each once

-- Those of the keys that are not seen yet, each once, in order.
abbrev pub unseen : List (List ℕ) → List (List ℕ) → List (List ℕ)
unseen seen [] = []
unseen seen (key ∷ keys) = if is_among seen key then unseen seen keys else key ∷ unseen (seen ++ key ∷ []) keys

abbrev pub distinct : List (List ℕ) → List (List ℕ)
distinct keys = unseen [] keys

-- Those of the keys for which a cache has no entry.
abbrev pub without_entry : List Entry → List (List ℕ) → List (List ℕ)
without_entry entries keys = filter (λ key. not (is_among (keys_of entries) key)) keys

-- Those for which a finder is asked where this is held. Over a proof file it is asked for none.
abbrev pub asked_from : Source → List (List ℕ) → List (List ℕ)
asked_from (OfCache entries) keys = without_entry entries keys
asked_from (OfProof entries) keys = []

-- ---- what a finder was asked for

-- A prefix of these was asked.
abbrev pub AsksPrefix : List (List ℕ) → List (List ℕ) → List (List ℕ) → Type 0
AsksPrefix keys old new = (prefix : List (List ℕ)) × ((rest : List (List ℕ)) × (keys ≡ prefix ++ rest)) × (new ≡ old ++ prefix)

-- A call that gave this asked for these, or for a prefix of them where it was interrupted.
pub record Asks {X E : Type 0} (keys : List (List ℕ)) (result : Result X E) (old new : List (List ℕ)) : Type 0 where
  pub prefix : AsksPrefix keys old new
  pub whole : IfOk result (λ _. new ≡ old ++ keys)
