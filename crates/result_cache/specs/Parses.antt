-- What is read from an offset of a cache file on.
use Rattle.std.specs.Prelude.{ℕ, ◌+◌, List, [], ◌∷◌, length, nat_le, take, drop, Option}
use Rattle.cc_base.specs.LittleEndian.{u32_at}
use Rattle.cc_base.specs.Tests.{must}
use Rattle.invariant_codec.specs.Parses.{ParseBy}
use Rattle.result_cache.specs.declared.cache_fault.CacheFault.{CacheFault}
use Rattle.result_cache.specs.declared.cache_fault.CacheFault.TheVariants.{Short}

-- What is read, where tests have the faults of cache files.
abbrev pub Parse : Type 0 → Type 0
Parse X = ParseBy CacheFault X

-- A field of this size does not pass the end.
unfoldable pub field : List ℕ → ℕ → ℕ → Option CacheFault
field bytes at size = must (nat_le (at + size) (length bytes)) (Short at)

-- Bytes, after their length in four bytes.
unfoldable pub sized_field : List ℕ → ℕ → Parse (List ℕ)
sized_field bytes at =
    let size = u32_at bytes at in
    record {
      tests = field bytes at 4 ∷ field bytes (at + 4) size ∷ [];
      value = take size (drop (at + 4) bytes);
      next = at + 4 + size;
    }
