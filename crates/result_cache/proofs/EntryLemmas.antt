-- Entries of a cache.
use Rattle.std.proofs.Common.{◌≡◌, ℕ, zero, suc, Bool, true, false, ◌||◌, List, [], ◌∷◌, ◌++◌, take, cond, Option, None, Some, option_map, slice_get, Bor, refl, sym, ap, subst, ◌∙◌}
use Rattle.std.specs.Prelude.{IfSome, OnErr, OnOk, Result, Ok, Err, is_some}
use Rattle.std.specs.Str.{bytes_eq}
use Rattle.std.proofs.lemmas.List.Folds.{list_any-append}
use Rattle.invariant_codec.specs.Invariants.{IsInvariant}
use Rattle.result_cache.specs.Entries.{AreEntries, AreEntriesBehind, Entry, invariant_of, is_among, keys_of, with_entry}

-- A key that is not there goes last.
pub put_last : (entries : List Entry) (key invariant : List ℕ) → is_among (keys_of entries) key ≡ false
    → with_entry entries key invariant ≡ entries ++ (key, invariant) ∷ []
put_last [] key invariant new = refl
put_last (e ∷ es) key invariant new = by (bytes_eq key e.0) new (put_last es key invariant)
  where
    by : (same : Bool) → (same || is_among (keys_of es) key) ≡ false
        → (is_among (keys_of es) key ≡ false → with_entry es key invariant ≡ es ++ (key, invariant) ∷ [])
        → cond same ((e.0, invariant) ∷ es) (e ∷ with_entry es key invariant) ≡ e ∷ (es ++ (key, invariant) ∷ [])
    by true new later = absurd cc
    by false new later = ap (λ (others : List Entry). e ∷ others) (later new)

-- A key is none of these and not this one.
apart : (keys : List (List ℕ)) (key other : List ℕ) → is_among keys key ≡ false → bytes_eq key other ≡ false
    → is_among (keys ++ other ∷ []) key ≡ false
apart keys key other none differs = list_any-append (bytes_eq key) keys (other ∷ []) ∙ rw (none, differs) refl

-- Entries with one more, or with another invariant, are entries.
pub are_put : (keys : List (List ℕ)) (entries : List Entry) (key invariant : List ℕ) → AreEntriesBehind keys entries
    → IsInvariant invariant → is_among keys key ≡ false → AreEntriesBehind keys (with_entry entries key invariant)
are_put keys [] key invariant are is new = (new, is, tt)
are_put keys (e ∷ es) key invariant are is new =
    by (bytes_eq key e.0) (λ differs. are_put (keys ++ e.0 ∷ []) es key invariant are.2 is (apart keys key e.0 new differs)) refl
  where
    by : (same : Bool)
        → (bytes_eq key e.0 ≡ false → AreEntriesBehind (keys ++ e.0 ∷ []) (with_entry es key invariant))
        → bytes_eq key e.0 ≡ same
        → AreEntriesBehind keys (cond same ((e.0, invariant) ∷ es) (e ∷ with_entry es key invariant))
    by true later is_same = (are.0, is, are.2)
    by false later is_same = (are.0, are.1, later is_same)

-- What is found is an invariant.
pub found_is : (keys : List (List ℕ)) (entries : List Entry) (key found : List ℕ) → AreEntriesBehind keys entries
    → invariant_of entries key ≡ Some found → IsInvariant found
found_is keys [] key found are is = absurd cc
found_is keys (e ∷ es) key found are is = by (bytes_eq key e.0) is (found_is (keys ++ e.0 ∷ []) es key found are.2)
  where
    by : (same : Bool) → cond same (Some e.1) (invariant_of es key) ≡ Some found
        → (invariant_of es key ≡ Some found → IsInvariant found) → IsInvariant found
    by true is later =
        let its : e.1 ≡ found = cc in
        subst IsInvariant its are.1
    by false is later = later is

pub found_among : (entries : List Entry) (key : List ℕ) → is_some (invariant_of entries key) ≡ is_among (keys_of entries) key
found_among [] key = refl
found_among (e ∷ es) key = by (bytes_eq key e.0) (found_among es key)
  where
    by : (same : Bool) → is_some (invariant_of es key) ≡ is_among (keys_of es) key
        → is_some (cond same (Some e.1) (invariant_of es key)) ≡ (same || is_among (keys_of es) key)
    by true later = refl
    by false later = later

-- What stands at a place is an invariant.
pub standing_is : (keys : List (List ℕ)) (entries : List Entry) (place : ℕ) (e : Entry) → AreEntriesBehind keys entries
    → slice_get entries place ≡ Some e → IsInvariant e.1
standing_is keys [] place e are is = absurd cc
standing_is keys (first ∷ es) zero e are is =
    let its : first ≡ e = cc in
    subst (λ (it : Entry). IsInvariant it.1) its are.1
standing_is keys (first ∷ es) (suc place) e are is = standing_is (keys ++ first.0 ∷ []) es place e are.2 is

-- The entries up to a place, and the one there.
pub take_next : (entries : List Entry) (place : ℕ) (e : Entry) → slice_get entries place ≡ Some e
    → take (suc place) entries ≡ take place entries ++ e ∷ []
take_next [] place e is = absurd cc
take_next (first ∷ es) zero e is =
    let its : first ≡ e = cc in
    ap (λ (it : Entry). it ∷ []) its
take_next (first ∷ es) (suc place) e is = ap (λ (others : List Entry). first ∷ others) (take_next es place e is)

-- Entries stay entries, whatever the answer.
pub put_kept : {X F : Type 0} (answer : Result X F) (old new : List Entry) (key invariant : List ℕ)
    → OnOk answer (new ≡ with_entry old key invariant) → OnErr answer (new ≡ old) → AreEntries old → IsInvariant invariant → AreEntries new
put_kept (Ok x) old new key invariant put kept are its = subst AreEntries (sym put) (are_put [] old key invariant are its refl)
put_kept (Err e) old new key invariant put kept are its = subst AreEntries (sym kept) are

-- So they do with one more of a key that is not there.
pub added_kept : {X F : Type 0} (answer : Result X F) (old new : List Entry) (key invariant : List ℕ)
    → is_among (keys_of old) key ≡ false → OnOk answer (new ≡ old ++ (key, invariant) ∷ []) → OnErr answer (new ≡ old)
    → AreEntries old → IsInvariant invariant → AreEntries new
added_kept (Ok x) old new key invariant absent added kept are its =
    subst AreEntries (sym (added ∙ sym (put_last old key invariant absent))) (are_put [] old key invariant are its refl)
added_kept (Err e) old new key invariant absent added kept are its = subst AreEntries (sym kept) are

-- Whether a key has an invariant.
pub some_found : (got : Option (Bor (List ℕ))) (entries : List Entry) (key : List ℕ)
    → option_map (λ (found : Bor (List ℕ)). found.now) got ≡ invariant_of entries key → is_some got ≡ is_among (keys_of entries) key
some_found got entries key is = lent got ∙ ap is_some is ∙ found_among entries key
  where
    lent : (got : Option (Bor (List ℕ))) → is_some got ≡ is_some (option_map (λ (found : Bor (List ℕ)). found.now) got)
    lent None = refl
    lent (Some found) = refl

pub got_is : (got : Option (Bor (List ℕ))) (entries : List Entry) (key : List ℕ) → AreEntries entries
    → option_map (λ (found : Bor (List ℕ)). found.now) got ≡ invariant_of entries key → IfSome got (λ found. IsInvariant found.now)
got_is None entries key are is = tt
got_is (Some found) entries key are is = found_is [] entries key found.now are (sym is)

pub entry_is : (got : Option (Bor (List ℕ) × Bor (List ℕ))) (entries : List Entry) (index : ℕ) → AreEntries entries
    → option_map (λ (e : Bor (List ℕ) × Bor (List ℕ)). (e.0.now, e.1.now)) got ≡ slice_get entries index
    → IfSome got (λ e. IsInvariant e.1.now)
entry_is None entries index are is = tt
entry_is (Some e) entries index are is = standing_is [] entries index (e.0.now, e.1.now) are (sym is)
