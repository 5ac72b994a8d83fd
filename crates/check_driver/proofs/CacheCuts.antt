-- What was read of a cache has the entries, and the line of a refusal, of what is met, and that is what is held.
use Rattle.std.proofs.Common.{◌≡◌, ℕ, List, Vec, Global, Option, Some, None, refl, sym, ap, ◌∙◌, inl, inr}
use Rattle.std.specs.Prelude.{option_and_then}
use Rattle.check_driver.specs.CacheMet.{IsCacheUnder, cache_entries, cache_refusal, entries_unless, refusal_of}
use Rattle.cc_base.specs.Files.{Held}
use Rattle.check_driver.specs.CallRead.{cache_bytes}
use Rattle.check_driver.specs.Met.{IsCacheContent}
use Rattle.check_driver.proofs.CutCaches.{cache_alike}

pub entries_alike : (under : Option (List ℕ)) (read : Option (Vec ℕ Global)) → IsCacheContent under read → cache_entries under ≡ cache_entries (cache_bytes read)
entries_alike None None is = refl
entries_alike (Some whole) None is = absurd cc
entries_alike (Some whole) (Some bytes) is = cache_alike entries_unless (λ a b fault. refl) whole bytes.items is
entries_alike None (Some bytes) (inl is) = absurd cc
entries_alike None (Some bytes) (inr is) = absurd cc

named_alike : (name : List ℕ) (under : Option (List ℕ)) (read : Option (Vec ℕ Global)) → IsCacheContent under read
    → cache_refusal (Some name) under ≡ cache_refusal (Some name) (cache_bytes read)
named_alike name None None is = refl
named_alike name (Some whole) None is = absurd cc
named_alike name (Some whole) (Some bytes) is = cache_alike (λ whole fault. refusal_of name fault) (λ a b fault. refl) whole bytes.items is
named_alike name None (Some bytes) (inl is) = absurd cc
named_alike name None (Some bytes) (inr is) = absurd cc

pub refusal_alike : (name under : Option (List ℕ)) (read : Option (Vec ℕ Global)) → IsCacheContent under read → cache_refusal name under ≡ cache_refusal name (cache_bytes read)
refusal_alike None under read is = refl
refusal_alike (Some name) under read is = named_alike name under read is

-- What is met is what is held.
pub met_cache : (held : Held) (name cache : Option (List ℕ)) → IsCacheUnder (Some held) name cache → cache ≡ option_and_then held name
met_cache held None cache none = none
met_cache held (Some name) cache is = sym (is held refl)

pub entries_held : (held : Held) (name cache : Option (List ℕ)) (read : Option (Vec ℕ Global)) → IsCacheUnder (Some held) name cache → IsCacheContent cache read
    → cache_entries (cache_bytes read) ≡ cache_entries (option_and_then held name)
entries_held held name cache read is content = sym (entries_alike cache read content) ∙ ap cache_entries (met_cache held name cache is)
