-- The proof file of the units that were judged.
use Rattle.std.proofs.Common.{◌≡◌, ℕ, Bool, true, List, [], ◌∷◌, sym, ap, subst, ◌∙◌}
use Rattle.std.specs.List.{AllByRecursion}
use Rattle.proof_files.specs.Proofs.{AreEntries, Entry, IsEntry, IsProofOf, kept, proof_bytes}
use Rattle.unit_verdicts.specs.CacheFile.{entries_used}
use Rattle.unit_verdicts.specs.Keys.{IsKey}
use Rattle.unit_verdicts.specs.Picks.{entries_in}
use Rattle.unit_verdicts.specs.ProofLeft.{IsProofLeft, proof_entries, proof_left, spelled_entries}
use Rattle.unit_verdicts.specs.VerdictCache.{AreCached, AreNew, CachedUnits, IsCached, IsHeldFor, JudgedEntry, entries_kept, keys_in}
use Rattle.unit_verdicts.specs.declared.source.Source.{Source}
use Rattle.unit_verdicts.proofs.Confirming.{confirmed}
use Rattle.unit_verdicts.proofs.KeptEntries.{entries_if}
use Rattle.unit_verdicts.proofs.Spelled.{left_apart, left_entries}

keys_are : (show : Bool) (held : Source) (entries : List JudgedEntry)
    → AllByRecursion (λ entry. IsCached show true held entry.0.items entry.1) entries → AllByRecursion IsKey (keys_in entries)
keys_are show held [] all = tt
keys_are show held (entry ∷ entries) all = (all.0.is_key, keys_are show held entries all.1)

module _ (cache : CachedUnits) (entries : List JudgedEntry) (cached : AreCached cache.show cache.keeps cache.held entries)
    (keys : keys_in entries ≡ cache.keys) (keeps : cache.keeps ≡ true) where
  each : AllByRecursion (λ entry. IsCached cache.show true cache.held entry.0.items entry.1) entries
  each = subst (λ (b : Bool). AllByRecursion (λ entry. IsCached cache.show b cache.held entry.0.items entry.1) entries) keeps cached.each

  -- The entries of the file are those of the definition.
  pub entries_left : spelled_entries (entries_kept cache) ≡ proof_entries cache.held cache.keys
  entries_left =
      ap spelled_entries (entries_if cache keeps)
      ∙ ap (λ (ks : List (List ℕ)). spelled_entries (entries_used (entries_in cache.held) ks)) (sym keys)
      ∙ left_entries cache.show cache.held entries (subst (λ (b : Bool). IsHeldFor b cache.held) keeps cached.held_for) each
      ∙ ap (proof_entries cache.held) keys

  pub proof_value : (bytes text : List ℕ) → bytes ≡ text → text ≡ proof_bytes (spelled_entries (entries_kept cache))
      → bytes ≡ proof_left cache.held cache.keys
  unfolding proof_left
  proof_value bytes text same made = same ∙ made ∙ ap proof_bytes entries_left

  -- It can be read, and confirms the verdicts.
  pub proof_is_left : (bytes : List ℕ) → bytes ≡ proof_left cache.held cache.keys
      → AllByRecursion IsEntry (spelled_entries (entries_kept cache))
      → (AreEntries (spelled_entries (entries_kept cache)) → IsProofOf (kept (spelled_entries (entries_kept cache))) bytes)
      → IsProofLeft cache.held cache.keys
  proof_is_left bytes value all file =
      let every = subst (AllByRecursion IsKey) keys (keys_are cache.show cache.held entries each) in
      let new : AreNew [] cache.keys = subst (AreNew []) keys cached.keys in
      let are = left_apart cache.held cache.keys new every (subst (AllByRecursion IsEntry) entries_left all) in
      let whole = subst (λ (es : List Entry). IsProofOf (kept es) bytes) entries_left (file (subst AreEntries (sym entries_left) are)) in
      record {
        file = subst (IsProofOf (kept (proof_entries cache.held cache.keys))) value whole;
        confirms = λ uncut. confirmed cache.held cache.keys every;
      }
