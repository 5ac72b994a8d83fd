-- Buckets of keys, in which the entries of one hash stand, the last one first.
use Rattle.std.specs.Prelude.{◌≡◌, ◌≢◌, ℕ, suc, true, ◌/◌, ◌%◌, ◌^◌, ◌<◌, ◌≤◌, List, [], length, get_or, set}
use Rattle.std.specs.Hash.DefaultHasher as sip
use Rattle.result_cache.specs.declared.link.Link.{Link}
use Rattle.result_cache.specs.declared.row.Row.{Row}
use Rattle.result_cache.specs.Rows.{AreWithin, keys_in}
use Rattle.result_cache.specs.Entries.{AreDistinct}
use Rattle.result_cache.specs.Links.{is_first_in, link_to, mark_in, mark_of, no_link, number_in}

-- A hash of a key.
unfoldable pub hash_of : List ℕ → ℕ
hash_of key = sip.finish (sip.write sip.initial key)

-- The bucket of a hash, of so many: the first half of its bits, modulo their number.
unfoldable pub bucket_of : ℕ → ℕ → ℕ
bucket_of count hash = hash / 2 ^ 32 % count

-- The hash of the key of the entry at an index, and its bucket.
abbrev pub hash_at : List (List ℕ) → ℕ → ℕ
hash_at keys i = hash_of (get_or keys i [])

abbrev pub bucket_at : ℕ → List (List ℕ) → ℕ → ℕ
bucket_at count keys i = bucket_of count (hash_at keys i)

-- A link is to the last of the first n entries that is in a bucket, or to none where none is.
pub record IsLast (count : ℕ) (keys : List (List ℕ)) (n bucket : ℕ) (link : Link) : Type 0 where
  pub within : number_in link ≤ n
  pub same : (i : ℕ) → number_in link ≡ suc i → bucket_at count keys i ≡ bucket
  pub marked : (i : ℕ) → number_in link ≡ suc i → mark_in link ≡ mark_of (hash_at keys i)
  pub first : (i : ℕ) → number_in link ≡ suc i → is_first_in link ≡ true → (j : ℕ) → j < i → bucket_at count keys j ≢ bucket
  pub all : (i : ℕ) → i < n → bucket_at count keys i ≡ bucket → i < number_in link

abbrev pub no_row : Row
no_row = record { start = 0; middle = 0; end = 0; next = no_link }

abbrev pub next_at : List Row → ℕ → Link
next_at rows i = (get_or rows i no_row).next

-- The last entry of the bucket of a hash.
abbrev pub head_of : List Link → ℕ → Link
head_of heads hash = get_or heads (bucket_of (length heads) hash) no_link

-- The buckets once the entry of this number, whose key has this hash, is the last of its own.
abbrev pub with_head : List Link → ℕ → ℕ → List Link
with_head heads hash number = set heads (bucket_of (length heads) hash) (link_to number (head_of heads hash) hash)

-- Of the first n entries each of so many buckets has its last one, and each entry the one before it in its bucket.
pub record AreChained (count : ℕ) (keys : List (List ℕ)) (heads : List Link) (rows : List Row) (n : ℕ) : Type 0 where
  pub buckets : (bucket : ℕ) → bucket < count → IsLast count keys n bucket (get_or heads bucket no_link)
  pub entries : (i : ℕ) → i < n → IsLast count keys i (bucket_at count keys i) (next_at rows i)

-- Rows of these bytes, of distinct keys, chained in buckets that are no fewer.
pub record AreRows (bytes : List ℕ) (rows : List Row) (heads : List Link) : Type 0 where
  pub within : AreWithin bytes rows
  pub distinct : AreDistinct (keys_in bytes rows)
  pub chained : AreChained (length heads) (keys_in bytes rows) heads rows (length rows)
  pub few : length rows ≤ length heads
