-- The bytes of units as the map that holds them.
use Rattle.std.proofs.Common.{◌≡◌, ℕ, Bool, true, false, ◌||◌, List, [], ◌∷◌, ◌++◌, cond, Option, None, Some, Bor, Vec}
use Rattle.std.proofs.Common.{Global, refl, ap, ◌∙◌}
use Rattle.std.specs.Prelude.{is_some, option_copied}
use Rattle.std.specs.Map.{lookup}
use Rattle.std.specs.Str.{bytes_eq}
use Rattle.indexmap.specs.IndexMap.{insert_entry}
use Rattle.proof_files.specs.Held.{keys_in}
use Rattle.proof_files.specs.Proofs.{is_among}

abbrev pub HeldKey : Type 0
HeldKey = Vec ℕ Global × Unit {0}

pub has_key : (got : Option (Bor (Unit {0}))) (held : List HeldKey) (key : List ℕ)
    → option_copied got ≡ lookup (λ (other : Vec ℕ Global). bytes_eq key other.items) held
    → is_some got ≡ is_among (keys_in held) key
has_key got held key is = borrowed got ∙ ap is_some is ∙ among held
  where
    borrowed : (got : Option (Bor (Unit {0}))) → is_some got ≡ is_some (option_copied got)
    borrowed None = refl
    borrowed (Some found) = refl

    among : (held : List HeldKey) → is_some (lookup (λ (other : Vec ℕ Global). bytes_eq key other.items) held)
        ≡ is_among (keys_in held) key
    among [] = refl
    among (e ∷ held) = by (bytes_eq key e.0.items) (among held)
      where
        by : (same : Bool) → is_some (lookup (λ (other : Vec ℕ Global). bytes_eq key other.items) held)
            ≡ is_among (keys_in held) key
            → is_some (cond same (Some e.1) (lookup (λ (other : Vec ℕ Global). bytes_eq key other.items) held))
            ≡ (same || is_among (keys_in held) key)
        by true later = refl
        by false later = later

-- A key that is not there goes last.
pub key_last : (held : List HeldKey) (key : Vec ℕ Global) (value : Unit {0}) → is_among (keys_in held) key.items ≡ false
    → keys_in (insert_entry (λ a b. bytes_eq a.items b.items) held key value) ≡ keys_in held ++ key.items ∷ []
key_last [] key value new = refl
key_last (e ∷ held) key value new = by (bytes_eq key.items e.0.items) new (key_last held key value)
  where
    by : (same : Bool) → (same || is_among (keys_in held) key.items) ≡ false
        → (is_among (keys_in held) key.items ≡ false
        → keys_in (insert_entry (λ a b. bytes_eq a.items b.items) held key value) ≡ keys_in held ++ key.items ∷ [])
        → keys_in (cond same ((e.0, value) ∷ held) (e ∷ insert_entry (λ a b. bytes_eq a.items b.items) held key value))
        ≡ e.0.items ∷ (keys_in held ++ key.items ∷ [])
    by true new later = absurd cc
    by false new later = ap (λ (others : List (List ℕ)). e.0.items ∷ others) (later new)
