-- Entries that are added.
use Rattle.std.proofs.Common.{◌≡◌, ◌≢◌, ◌==◌, ℕ, zero, suc, ◌+◌, ◌-◌, ◌<◌, ◌≤◌, ◌^◌, ◌⊎◌, inl, inr, Bool, true, false, List, [], ◌∷◌, ◌++◌, take, drop, length, get_or, set, Option, Some, None, Result, Ok, Err, refl, sym, ap, ◌∙◌, arith}
use Rattle.std.specs.Prelude.{◌||◌, IfNone, IfSome, OnErr, OnOk, cond, is_some}
use Rattle.std.specs.Bool.{Decides}
use Rattle.std.specs.Str.{bytes_eq}
use Rattle.std.proofs.Math.Seq.{map-set_same, take-append_seam, drop-append_seam, drop-append-add, take-length}
use Rattle.std.proofs.lemmas.List.{map-set, drop-append-le, take-append-le, length-append, length-drop, length-set, map-append, get_or-set_same, get_or-set_other, get_or_append_left, get_or_default}
use Rattle.std.proofs.lemmas.Bool.Decides.{eqb_tells}
use Rattle.std.proofs.lemmas.Slice.Eq.{bytes_eq-Decides}
use Rattle.cc_base.specs.Sink.{IsPrefix}
use Rattle.result_cache.specs.declared.link.Link.{Link}
use Rattle.result_cache.specs.declared.row.Row.{Row}
use Rattle.result_cache.specs.Buckets.{AreChained, AreRows, IsLast, bucket_at, bucket_of, hash_of, head_of, next_at, no_row, with_head}
use Rattle.result_cache.specs.Entries.{AreDistinct, Entry, IsKeyAt, invariant_of, is_among, keys_of, with_entry}
use Rattle.result_cache.specs.Links.{link_to, mark_of, no_link}
use Rattle.result_cache.specs.Rows.{AreWithin, IsWithin, entries_in, entry_in, key_in, keys_in, row_after, value_in, with_next}
use Rattle.result_cache.proofs.BucketLaws.{chained_more, none_under_way}
use Rattle.result_cache.proofs.EntryLemmas.{put_last}
use Rattle.result_cache.proofs.RowLaws.{length_entries, length_keys, within_set}

-- No rows, whose buckets are empty.
pub no_rows : (bytes : List ℕ) (heads : List Link) → ((bucket : ℕ) → get_or heads bucket no_link ≡ no_link) → AreRows bytes [] heads
no_rows bytes heads empty = record {
  within = tt;
  distinct = λ i j early later same. absurd (omega (arith, early));
  chained = (none_under_way bytes [] heads tt empty).chained;
  few = omega arith;
}

-- ---- more bytes

-- A part of bytes is the same part where more stand behind them.
part_behind : (from to : ℕ) (bytes rest : List ℕ) → from ≤ to → to ≤ length bytes
    → take (to - from) (drop from (bytes ++ rest)) ≡ take (to - from) (drop from bytes)
part_behind from to bytes rest order inside =
    ap (take (to - from)) (drop-append-le from bytes rest (omega (arith, order, inside)))
    ∙ take-append-le (to - from) (drop from bytes) rest (omega (arith, order, inside, length-drop from bytes))

entry_behind : (bytes rest : List ℕ) (row : Row) → IsWithin bytes row → entry_in (bytes ++ rest) row ≡ entry_in bytes row
entry_behind bytes rest row is =
    let key = part_behind row.start row.middle bytes rest is.key (omega (arith, is.value, is.inside)) in
    let value = part_behind row.middle row.end bytes rest is.value is.inside in
    rw (key, value) refl

entries_behind : (bytes rest : List ℕ) (rows : List Row) → AreWithin bytes rows → entries_in (bytes ++ rest) rows ≡ entries_in bytes rows
entries_behind bytes rest [] are = refl
entries_behind bytes rest (row ∷ rows) are =
    rw (entry_behind bytes rest row are.0, entries_behind bytes rest rows are.1) refl

within_behind : (bytes rest : List ℕ) (rows : List Row) → AreWithin bytes rows → AreWithin (bytes ++ rest) rows
within_behind bytes rest [] are = tt
within_behind bytes rest (row ∷ rows) are = (
  record { key = are.0.key; value = are.0.value; inside = omega (arith, are.0.inside, length-append bytes rest) },
  within_behind bytes rest rows are.1,
)

pub rows_behind : (bytes more : List ℕ) (rows : List Row) (heads : List Link) → IsPrefix bytes more → AreRows bytes rows heads
    → AreRows more rows heads
rows_behind bytes more rows heads is are =
    let entries = entries_behind bytes is.0 rows are.within in
    rw is.1 (record {
      within = within_behind bytes is.0 rows are.within;
      distinct = rw entries are.distinct;
      chained = rw entries are.chained;
      few = are.few;
    })

pub same_entries : (bytes more : List ℕ) (rows : List Row) (heads : List Link) → IsPrefix bytes more → AreRows bytes rows heads
    → entries_in more rows ≡ entries_in bytes rows
same_entries bytes more rows heads is are = rw is.1 (entries_behind bytes is.0 rows are.within)

-- What stands behind bytes.

key_new : (bytes key value : List ℕ) (next : Link) → key_in (bytes ++ (key ++ value)) (row_after bytes key value next) ≡ key
key_new bytes key value next =
    let size : (length bytes + length key) - length bytes ≡ length key = omega arith in
    rw (size, drop-append_seam bytes (key ++ value)) (take-append_seam key value)

value_new : (bytes key value : List ℕ) (next : Link) → value_in (bytes ++ (key ++ value)) (row_after bytes key value next) ≡ value
value_new bytes key value next =
    let size : (length bytes + length key + length value) - (length bytes + length key) ≡ length value = omega arith in
    rw (size, drop-append-add bytes (key ++ value) (length key), drop-append_seam key value) (take-length value)

entry_new : (bytes key value : List ℕ) (next : Link) → entry_in (bytes ++ (key ++ value)) (row_after bytes key value next) ≡ (key, value)
entry_new bytes key value next = rw (key_new bytes key value next, value_new bytes key value next) refl

within_new : (bytes key value : List ℕ) (next : Link) → IsWithin (bytes ++ (key ++ value)) (row_after bytes key value next)
within_new bytes key value next = record {
  key = omega arith;
  value = omega arith;
  inside = omega (arith, length-append bytes (key ++ value), length-append key value);
}

-- ---- an entry of a new key

within_both : (bytes : List ℕ) (rows others : List Row) → AreWithin bytes rows → AreWithin bytes others → AreWithin bytes (rows ++ others)
within_both bytes [] others are more = more
within_both bytes (row ∷ rows) others are more = (are.0, within_both bytes rows others are.1 more)

pub entries_new : (bytes : List ℕ) (rows : List Row) (key value : List ℕ) (next : Link) → AreWithin bytes rows
    → entries_in (bytes ++ (key ++ value)) (rows ++ row_after bytes key value next ∷ []) ≡ entries_in bytes rows ++ (key, value) ∷ []
entries_new bytes rows key value next are =
    map-append (entry_in (bytes ++ (key ++ value))) rows (row_after bytes key value next ∷ [])
    ∙ rw (entries_behind bytes (key ++ value) rows are, entry_new bytes key value next) refl

keys_new : (bytes : List ℕ) (rows : List Row) (key value : List ℕ) (next : Link) → AreWithin bytes rows
    → keys_in (bytes ++ (key ++ value)) (rows ++ row_after bytes key value next ∷ []) ≡ keys_in bytes rows ++ key ∷ []
keys_new bytes rows key value next are =
    ap keys_of (entries_new bytes rows key value next are) ∙ map-append (λ (e : Entry). e.0) (entries_in bytes rows) ((key, value) ∷ [])

-- A key that is not among others is none of them.
not_there : (keys : List (List ℕ)) (key : List ℕ) (i : ℕ) → is_among keys key ≡ false → i < length keys → get_or keys i [] ≢ key
not_there [] key i none below here = absurd (omega (arith, below))
not_there (first ∷ keys) key zero none below here =
    by (bytes_eq key first) none ((bytes_eq-Decides key first).1 (sym here))
  where
    by : (same : Bool) → (same || is_among keys key) ≡ false → same ≡ true → ⊥
    by true differs its = absurd cc
    by false differs its = absurd cc
not_there (first ∷ keys) key (suc i) none below here =
    not_there keys key i (by (bytes_eq key first) none) (omega (arith, below)) here
  where
    by : (same : Bool) → (same || is_among keys key) ≡ false → is_among keys key ≡ false
    by true none = absurd cc
    by false none = none

last_of : (keys : List (List ℕ)) (key : List ℕ) (i : ℕ) → i ≡ length keys → get_or (keys ++ key ∷ []) i [] ≡ key
last_of [] key i is = rw is refl
last_of (first ∷ keys) key zero is = absurd (omega (arith, is))
last_of (first ∷ keys) key (suc i) is = last_of keys key i (omega (arith, is))

distinct_more : (keys : List (List ℕ)) (key : List ℕ) → AreDistinct keys → is_among keys key ≡ false → AreDistinct (keys ++ key ∷ [])
distinct_more keys key are none i j early later same =
    by (eqb_tells i (length keys)) (eqb_tells j (length keys))
  where
    long : length (keys ++ key ∷ []) ≡ suc (length keys)
    long = omega (arith, length-append keys (key ∷ []))

    prefix : (k : ℕ) → k < length (keys ++ key ∷ []) → k ≢ length keys → k < length keys
    prefix k below apart = omega (arith, below, long, apart)

    by : ((i == length keys ≡ true) × (i ≡ length keys)) ⊎ ((i == length keys ≡ false) × (i ≢ length keys))
        → ((j == length keys ≡ true) × (j ≡ length keys)) ⊎ ((j == length keys ≡ false) × (j ≢ length keys)) → i ≡ j
    by (inl one) (inl two) = one.1 ∙ sym two.1
    by (inl one) (inr two) =
        let below = prefix j later two.1 in
        absurd (not_there keys key j none below (sym (get_or_append_left keys (key ∷ []) [] j below) ∙ sym same ∙ last_of keys key i one.1))
    by (inr one) (inl two) =
        let below = prefix i early one.1 in
        absurd (not_there keys key i none below (sym (get_or_append_left keys (key ∷ []) [] i below) ∙ same ∙ last_of keys key j two.1))
    by (inr one) (inr two) =
        let first = prefix i early one.1 in
        let second = prefix j later two.1 in
        are i j first second (sym (get_or_append_left keys (key ∷ []) [] i first) ∙ same ∙ get_or_append_left keys (key ∷ []) [] j second)

last_among : (count : ℕ) (keys rest : List (List ℕ)) (n bucket : ℕ) (link : Link) → n ≤ length keys → IsLast count keys n bucket link
    → IsLast count (keys ++ rest) n bucket link
last_among count keys rest n bucket link few is = record {
  within = is.within;
  same = λ i some. ap (λ (k : List ℕ). bucket_of count (hash_of k)) (get_or_append_left keys rest [] i (omega (arith, few, some, is.within))) ∙ is.same i some;
  marked = λ i some. is.marked i some ∙ sym (ap (λ (k : List ℕ). mark_of (hash_of k)) (get_or_append_left keys rest [] i (omega (arith, few, some, is.within))));
  first = λ i some first j early here.
      is.first i some first j early
      (ap (λ (k : List ℕ). bucket_of count (hash_of k)) (sym (get_or_append_left keys rest [] j (omega (arith, few, some, early, is.within)))) ∙ here);
  all = λ i below here. is.all i below (ap (λ (k : List ℕ). bucket_of count (hash_of k)) (sym (get_or_append_left keys rest [] i (omega (arith, few, below)))) ∙ here);
}

chained_among : (count : ℕ) (keys rest : List (List ℕ)) (heads : List Link) (rows : List Row) (n : ℕ) → n ≤ length keys
    → AreChained count keys heads rows n → AreChained count (keys ++ rest) heads rows n
chained_among count keys rest heads rows n few are = record {
  buckets = λ bucket below. last_among count keys rest n bucket (get_or heads bucket no_link) few (are.buckets bucket below);
  entries = λ i below.
      rw (get_or_append_left keys rest [] i (omega (arith, few, below)))
      (last_among count keys rest i (bucket_at count keys i) (next_at rows i) (omega (arith, few, below)) (are.entries i below));
}

last_row : (rows : List Row) (row : Row) → get_or (rows ++ row ∷ []) (length rows) no_row ≡ row
last_row [] row = refl
last_row (first ∷ rows) row = last_row rows row

pub pushed_rows : (bytes : List ℕ) (rows : List Row) (heads : List Link) (key value : List ℕ) → AreRows bytes rows heads
    → length rows < length heads → length rows + 1 < 2 ^ 23 → is_among (keys_in bytes rows) key ≡ false
    → AreRows (bytes ++ (key ++ value)) (rows ++ row_after bytes key value (head_of heads (hash_of key)) ∷ [])
    (with_head heads (hash_of key) (length rows + 1))
pushed_rows bytes rows heads key value are room few none =
    let count = length heads in
    let bucket = bucket_of count (hash_of key) in
    let next = head_of heads (hash_of key) in
    let row = row_after bytes key value next in
    let keys : keys_in (bytes ++ (key ++ value)) (rows ++ row ∷ []) ≡ keys_in bytes rows ++ key ∷ [] = keys_new bytes rows key value next are.within in
    let long : length (rows ++ row ∷ []) ≡ length rows + 1 = omega (arith, length-append rows (row ∷ [])) in
    let one : length rows + 1 ≡ suc (length rows) = omega arith in
    record {
      within = within_both (bytes ++ (key ++ value)) rows (row ∷ []) (within_behind bytes (key ++ value) rows are.within) (within_new bytes key value next, tt);
      distinct = rw keys (distinct_more (keys_in bytes rows) key are.distinct none);
      chained = rw (keys, long, one, length-set heads bucket (link_to (suc (length rows)) next (hash_of key)))
          (chained_more count (keys_in bytes rows ++ key ∷ []) heads rows (rows ++ row ∷ []) (length rows) key refl
          (omega (arith, room)) (omega (arith, few))
          (last_of (keys_in bytes rows) key (length rows) (sym (length_keys bytes rows)))
          (chained_among count (keys_in bytes rows) (key ∷ []) heads rows (length rows) (omega (arith, length_keys bytes rows)) are.chained)
          (λ i below. ap (λ (r : Row). r.next) (get_or_append_left rows (row ∷ []) no_row i below))
          (ap (λ (r : Row). r.next) (last_row rows row)));
      few = omega (arith, room, long, length-set heads bucket (link_to (length rows + 1) next (hash_of key)));
    }

-- ---- another value

within_replaced : (bytes : List ℕ) (rows : List Row) (i : ℕ) (key value : List ℕ) (next : Link) → AreWithin bytes rows
    → AreWithin (bytes ++ (key ++ value)) (set rows i (row_after bytes key value next))
within_replaced bytes rows i key value next are =
    within_set (bytes ++ (key ++ value)) rows i (row_after bytes key value next) (within_behind bytes (key ++ value) rows are)
    (within_new bytes key value next)

pub entries_replaced : (bytes : List ℕ) (rows : List Row) (i : ℕ) (key value : List ℕ) (next : Link) → AreWithin bytes rows
    → entries_in (bytes ++ (key ++ value)) (set rows i (row_after bytes key value next)) ≡ set (entries_in bytes rows) i (key, value)
entries_replaced bytes rows i key value next are =
    map-set (entry_in (bytes ++ (key ++ value))) rows i (row_after bytes key value next)
    ∙ rw (entries_behind bytes (key ++ value) rows are, entry_new bytes key value next) refl

key_of_entry : (entries : List Entry) (i : ℕ) (d : Entry) → i < length entries → get_or (keys_of entries) i [] ≡ (get_or entries i d).0
key_of_entry [] i d below = absurd (omega (arith, below))
key_of_entry (e ∷ es) zero d below = refl
key_of_entry (e ∷ es) (suc i) d below = key_of_entry es i d (omega (arith, below))

keys_replaced : (entries : List Entry) (i : ℕ) (key value : List ℕ) → IsKeyAt entries i key
    → keys_of (set entries i (key, value)) ≡ keys_of entries
keys_replaced entries i key value is =
    map-set_same (λ (e : Entry). e.0) entries i (key, value) ([], []) (sym is.same ∙ key_of_entry entries i ([], []) is.within)

pub replaced_rows : (bytes : List ℕ) (rows : List Row) (heads : List Link) (i : ℕ) (key value : List ℕ) → AreRows bytes rows heads
    → IsKeyAt (entries_in bytes rows) i key
    → AreRows (bytes ++ (key ++ value)) (set rows i (row_after bytes key value (next_at rows i))) heads
replaced_rows bytes rows heads i key value are is =
    let row = row_after bytes key value (next_at rows i) in
    let keys : keys_in (bytes ++ (key ++ value)) (set rows i row) ≡ keys_in bytes rows =
    ap keys_of (entries_replaced bytes rows i key value (next_at rows i) are.within) ∙ keys_replaced (entries_in bytes rows) i key value is in
    record {
      within = within_replaced bytes rows i key value (next_at rows i) are.within;
      distinct = rw keys are.distinct;
      chained = rw (keys, length-set rows i row) (record {
        buckets = are.chained.buckets;
        entries = λ j below. rw (next_same row j refl (eqb_tells j i)) (are.chained.entries j below);
      });
      few = omega (arith, are.few, length-set rows i row);
    }
  where
    inside : i < length rows
    inside = omega (arith, is.within, length_entries bytes rows)

    next_same : (row : Row) (j : ℕ) → row.next ≡ next_at rows i
        → ((j == i ≡ true) × (j ≡ i)) ⊎ ((j == i ≡ false) × (j ≢ i)) → next_at (set rows i row) j ≡ next_at rows j
    next_same row j next (inl here) = rw here.1 (ap (λ (r : Row). r.next) (get_or-set_same rows i row no_row inside) ∙ next)
    next_same row j next (inr apart) = ap (λ (r : Row). r.next) (get_or-set_other rows i j row no_row apart.1)

length_keys_of : (entries : List Entry) → length (keys_of entries) ≡ length entries
length_keys_of [] = refl
length_keys_of (e ∷ es) = ap suc (length_keys_of es)

-- The first entry that has a key is the one at its index.

distinct_behind : (key : List ℕ) (keys : List (List ℕ)) → AreDistinct (key ∷ keys) → AreDistinct keys
distinct_behind key keys are i j first second same =
    let next : suc i ≡ suc j = are (suc i) (suc j) (omega (arith, first)) (omega (arith, second)) same in
    omega (arith, next)

pub put_at : (entries : List Entry) (i : ℕ) (key value : List ℕ) → AreDistinct (keys_of entries) → IsKeyAt entries i key
    → set entries i (key, value) ≡ with_entry entries key value
put_at [] i key value are is = absurd (omega (arith, is.within))
put_at (e ∷ es) zero key value are is =
    let same : bytes_eq key e.0 ≡ true = (bytes_eq-Decides key e.0).1 (sym is.same) in
    rw (same, is.same) refl
put_at (e ∷ es) (suc i) key value are is =
    by (bytes_eq key e.0) (bytes_eq-Decides key e.0) (put_at es i key value (distinct_behind e.0 (keys_of es) are) (record { within = omega (arith, is.within); same = is.same }))
  where
    by : (same : Bool) → Decides same (key ≡ e.0) → set es i (key, value) ≡ with_entry es key value
        → e ∷ set es i (key, value) ≡ cond same ((e.0, value) ∷ es) (e ∷ with_entry es key value)
    by true decides rest =
        let twice : zero ≡ suc i = are zero (suc i) (omega arith) (omega (arith, is.within, length_keys_of es)) (sym (decides.0 refl) ∙ sym is.same) in
        absurd (omega (arith, twice))
    by false decides rest = ap (λ (others : List Entry). e ∷ others) rest

pub found_at : (entries : List Entry) (i : ℕ) (key : List ℕ) (d : Entry) → AreDistinct (keys_of entries) → IsKeyAt entries i key
    → invariant_of entries key ≡ Some (get_or entries i d).1
found_at [] i key d are is = absurd (omega (arith, is.within))
found_at (e ∷ es) zero key d are is =
    let same : bytes_eq key e.0 ≡ true = (bytes_eq-Decides key e.0).1 (sym is.same) in
    rw same refl
found_at (e ∷ es) (suc i) key d are is =
    by (bytes_eq key e.0) (bytes_eq-Decides key e.0) (found_at es i key d (distinct_behind e.0 (keys_of es) are) (record { within = omega (arith, is.within); same = is.same }))
  where
    by : (same : Bool) → Decides same (key ≡ e.0) → invariant_of es key ≡ Some (get_or es i d).1
        → cond same (Some e.1) (invariant_of es key) ≡ Some (get_or es i d).1
    by true decides rest =
        let twice : zero ≡ suc i = are zero (suc i) (omega arith) (omega (arith, is.within, length_keys_of es)) (sym (decides.0 refl) ∙ sym is.same) in
        absurd (omega (arith, twice))
    by false decides rest = rest

pub none_at : (entries : List Entry) (key : List ℕ) → is_among (keys_of entries) key ≡ false → invariant_of entries key ≡ None
none_at [] key none = refl
none_at (e ∷ es) key none = by (bytes_eq key e.0) none (none_at es key)
  where
    by : (same : Bool) → (same || is_among (keys_of es) key) ≡ false → (is_among (keys_of es) key ≡ false → invariant_of es key ≡ None)
        → cond same (Some e.1) (invariant_of es key) ≡ None
    by true none rest = absurd cc
    by false none rest = rest none

-- ---- what the code does

-- The fields of the entries once one is added, whose key has this hash.
pub record IsPushed (bytes after : List ℕ) (rows all : List Row) (heads others : List Link) (key value : List ℕ) (hash : ℕ) (row : Row)
    : Type 0 where
  pub after_is : after ≡ bytes ++ (key ++ value)
  pub hash_is : hash ≡ hash_of key
  pub row_is : row ≡ row_after bytes key value no_link
  pub others_is : others ≡ with_head heads hash (length rows + 1)
  pub all_is : all ≡ rows ++ with_next row (head_of heads hash) ∷ []

pub pushed : (bytes after : List ℕ) (rows all : List Row) (heads others : List Link) (key value : List ℕ) (hash : ℕ) (row : Row)
    → IsPushed bytes after rows all heads others key value hash row → AreRows bytes rows heads
    → length rows < length heads → length rows + 1 < 2 ^ 23 → is_among (keys_in bytes rows) key ≡ false → AreRows after all others
pushed bytes after rows all heads others key value hash row is are room few none =
    rw (is.after_is, is.all_is, is.others_is, is.row_is, is.hash_is) (pushed_rows bytes rows heads key value are room few none)

pub pushed_entries : (bytes after : List ℕ) (rows all : List Row) (heads others : List Link) (key value : List ℕ) (hash : ℕ) (row : Row)
    → IsPushed bytes after rows all heads others key value hash row → AreRows bytes rows heads
    → entries_in after all ≡ entries_in bytes rows ++ (key, value) ∷ []
pushed_entries bytes after rows all heads others key value hash row is are =
    rw (is.after_is, is.all_is, is.row_is)
    (entries_new bytes rows key value (head_of heads hash) are.within)

-- The fields once an entry has another value.
pub record IsReplaced (bytes after : List ℕ) (rows : List Row) (i : ℕ) (key value : List ℕ) (row last : Row) : Type 0 where
  pub after_is : after ≡ bytes ++ (key ++ value)
  pub row_is : row ≡ row_after bytes key value no_link
  pub last_is : last ≡ get_or rows i last

next_is : (rows : List Row) (i : ℕ) (last : Row) → i < length rows → last ≡ get_or rows i last → last.next ≡ next_at rows i
next_is rows i last below is = ap (λ (r : Row). r.next) (is ∙ get_or_default rows i last no_row below)

pub replaced : (bytes after : List ℕ) (rows : List Row) (heads : List Link) (i : ℕ) (key value : List ℕ) (row last : Row)
    → IsReplaced bytes after rows i key value row last → AreRows bytes rows heads → IsKeyAt (entries_in bytes rows) i key
    → AreRows after (set rows i (with_next row last.next)) heads
replaced bytes after rows heads i key value row last is are at =
    let below : i < length rows = omega (arith, at.within, length_entries bytes rows) in
    rw (is.after_is, is.row_is, next_is rows i last below is.last_is) (replaced_rows bytes rows heads i key value are at)

pub replaced_entries : (bytes after : List ℕ) (rows : List Row) (heads : List Link) (i : ℕ) (key value : List ℕ) (row last : Row)
    → IsReplaced bytes after rows i key value row last → AreRows bytes rows heads → IsKeyAt (entries_in bytes rows) i key
    → entries_in after (set rows i (with_next row last.next)) ≡ with_entry (entries_in bytes rows) key value
replaced_entries bytes after rows heads i key value row last is are at =
    rw (is.after_is, is.row_is)
    (entries_replaced bytes rows i key value last.next are.within ∙ put_at (entries_in bytes rows) i key value are.distinct at)

-- The value at the row of a key.
pub found_by_row : (bytes : List ℕ) (rows : List Row) (heads : List Link) (i : ℕ) (key value : List ℕ) (row : Row) → AreRows bytes rows heads
    → IsKeyAt (entries_in bytes rows) i key → row ≡ get_or rows i row → value ≡ value_in bytes row
    → Some value ≡ invariant_of (entries_in bytes rows) key
found_by_row bytes rows heads i key value row are at row_is value_is =
    let below : i < length rows = omega (arith, at.within, length_entries bytes rows) in
    let here : get_or (entries_in bytes rows) i (entry_in bytes row) ≡ entry_in bytes row = entry_at bytes rows i row ∙ ap (entry_in bytes) (sym row_is) in
    ap Some (value_is ∙ ap (λ (e : Entry). e.1) (sym here))
    ∙ sym (found_at (entries_in bytes rows) i key (entry_in bytes row) are.distinct at)
  where
    entry_at : (bytes : List ℕ) (rows : List Row) (i : ℕ) (d : Row) → get_or (entries_in bytes rows) i (entry_in bytes d) ≡ entry_in bytes (get_or rows i d)
    entry_at bytes [] i d = refl
    entry_at bytes (first ∷ rows) zero d = refl
    entry_at bytes (first ∷ rows) (suc i) d = entry_at bytes rows i d

-- Whether a key is found is whether it is there.
pub found_told : (found : Option ℕ) (entries : List Entry) (key : List ℕ) → IfSome found (λ index. IsKeyAt entries index key)
    → IfNone found (is_among (keys_of entries) key ≡ false) → is_some found ≡ is_among (keys_of entries) key
found_told None entries key there absent = sym absent
found_told (Some index) entries key there absent = by (is_among (keys_of entries) key) refl
  where
    by : (among : Bool) → is_among (keys_of entries) key ≡ among → true ≡ among
    by true its = refl
    by false its =
        absurd (not_there (keys_of entries) key index its (omega (arith, there.within, length_keys_of entries)) there.same)

-- An answer after which a key that was not there is last.
pub pushed_last : {X F : Type 0} (answer : Result X F) (old new : List Entry) (key value : List ℕ)
    → is_among (keys_of old) key ≡ false → OnOk answer (new ≡ old ++ (key, value) ∷ []) → OnOk answer (new ≡ with_entry old key value)
pushed_last (Ok x) old new key value none is = is ∙ sym (put_last old key value none)
pushed_last (Err e) old new key value none is = tt

pub on_err : {X F P : Type 0} (answer : Result X F) → P → OnErr answer P
on_err (Ok x) it = tt
on_err (Err e) it = it
