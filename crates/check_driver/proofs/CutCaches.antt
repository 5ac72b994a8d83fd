-- A cache that a read cut off has the fault of the whole one.
use Rattle.std.proofs.Common.{◌≡◌, ℕ, ◌≤◌, List, take, length, Option, Some, refl, sym, ap, ◌∙◌, arith, inl, inr, length-take}
use Rattle.std.proofs.lemmas.Bool.{cases_lt, lt-leb}
use Rattle.std.proofs.lemmas.List.{take_all}
use Rattle.cc_base.specs.Files.{READ_LIMIT}
use Rattle.cc_base.specs.Tests.{first_of}
use Rattle.check_driver.specs.Met.{IsContent}
use Rattle.result_cache.specs.CacheFile.{MAX_CACHE_BYTES, first_cache_fault}
use Rattle.result_cache.specs.declared.cache_fault.CacheFault.{CacheFault}
use Rattle.result_cache.specs.declared.cache_fault.CacheFault.TheVariants.{Large}

-- A cache past the limit is too large.
pub large_cache : (bytes : List ℕ) → READ_LIMIT ≤ length bytes → first_cache_fault bytes ≡ Some Large
unfolding first_cache_fault first_of
large_cache bytes past =
    rw (lt-leb (length bytes) MAX_CACHE_BYTES (omega (arith, past))) refl

some_is : {X : Type 0} (x y : X) → Some x ≡ Some y → x ≡ y
some_is x y e = cc

-- What stands for the bytes of a cache and for its first fault, and not for the bytes where there is a fault, is the
-- same for what is met and for what was read of it.
module _ {R : Type 0} (answer : List ℕ → Option CacheFault → R) (of_fault : (a b : List ℕ) (fault : CacheFault) → answer a (Some fault) ≡ answer b (Some fault)) where
  abbrev told : List ℕ → R
  told bytes = answer bytes (first_cache_fault bytes)

  cache_cut : (bytes : List ℕ) (limit : ℕ) → limit ≡ READ_LIMIT → READ_LIMIT ≤ length bytes → told bytes ≡ told (take limit bytes)
  cache_cut bytes limit is past =
      let whole = large_cache bytes past in
      let cut = large_cache (take limit bytes) (omega (arith, length-take limit bytes)) in
      rw (whole, cut) (of_fault bytes (take limit bytes) Large)

  read_alike : (bytes : List ℕ) (limit : ℕ) → limit ≡ READ_LIMIT → told bytes ≡ told (take limit bytes)
  read_alike bytes limit is =
      elim (cases_lt (length bytes) limit) [
        | inl lt ↦ ap told (sym (take_all limit bytes (omega arith)))
        | inr ge ↦ cache_cut bytes limit is (omega arith)
      ]

  pub cache_alike : (whole bytes : List ℕ) → IsContent (Some whole) bytes → told whole ≡ told bytes
  cache_alike whole bytes (inl is) = ap told (some_is whole bytes is)
  cache_alike whole bytes (inr is) = read_alike whole READ_LIMIT refl ∙ ap told (some_is (take READ_LIMIT whole) bytes is)
