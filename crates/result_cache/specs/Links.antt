-- The numbers of entries, each with some bits of the hash of its key.
use Rattle.std.specs.Prelude.{ℕ, ◌+◌, ◌*◌, ◌/◌, ◌%◌, ◌==◌, Bool, if◌then◌else◌}
use Rattle.result_cache.specs.declared.link.Link.{Link}

-- The last 8 bits of a hash. Its bucket is told by others.
unfoldable pub mark_of : ℕ → ℕ
mark_of hash = hash % 256

-- No entry has the number 0.
abbrev pub no_link : Link
no_link = record { packed = 0 }

unfoldable pub number_in : Link → ℕ
number_in link = link.packed % 8_388_608

unfoldable pub is_first_in : Link → Bool
is_first_in link = link.packed / 8_388_608 % 2 == 1

unfoldable pub mark_in : Link → ℕ
mark_in link = link.packed / 8_388_608 / 2

-- The link to the entry of this number, counted from 1, whose key has this hash, where this one was the last of its
-- bucket.
abbrev pub link_to : ℕ → Link → ℕ → Link
link_to number before hash =
    record { packed = (mark_of hash * 2 + (if number_in before == 0 then 1 else 0)) * 8_388_608 + number }
