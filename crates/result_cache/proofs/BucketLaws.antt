-- Entries in buckets.
use Rattle.std.proofs.Common.{◌≡◌, ◌≢◌, ◌==◌, ℕ, zero, suc, ◌+◌, ◌/◌, ◌<◌, ◌≤◌, ◌^◌, ◌⊎◌, inl, inr, Bool, true, false, List, [], ◌∷◌, length, get_or, set, refl, sym, subst, ap, ◌∙◌, arith}
use Rattle.std.specs.Prelude.{◌||◌, cond}
use Rattle.std.specs.Bool.{Decides}
use Rattle.std.specs.Str.{bytes_eq}
use Rattle.std.proofs.Math.Seq.{map-set_same}
use Rattle.std.proofs.lemmas.Bool.Decides.{eqb_tells}
use Rattle.std.proofs.lemmas.Nat.{mod_below}
use Rattle.std.proofs.lemmas.List.{length-set, get_or-set_same, get_or-set_other, get_or_past}
use Rattle.std.proofs.lemmas.Slice.Eq.{bytes_eq-Decides}
use Rattle.result_cache.specs.declared.link.Link.{Link}
use Rattle.result_cache.specs.declared.row.Row.{Row}
use Rattle.result_cache.specs.Buckets.{AreChained, AreRows, IsLast, bucket_at, bucket_of, hash_at, hash_of, head_of, next_at, no_row, with_head}
use Rattle.result_cache.specs.Entries.{IsKeyAt, is_among, keys_of}
use Rattle.result_cache.specs.Links.{is_first_in, link_to, mark_in, mark_of, no_link, number_in}
use Rattle.result_cache.specs.Rows.{AreWithin, entries_in, entry_in, key_in, keys_in}
use Rattle.result_cache.proofs.LinkLaws.{first_linked, mark_linked, number_linked, number_none}
use Rattle.result_cache.proofs.RowLaws.{key_at, length_entries, length_keys, within_at, within_set}

pub bucket_below : (count hash : ℕ) → 0 < count → bucket_of count hash < count
unfolding bucket_of
bucket_below count hash room = mod_below (hash / 2 ^ 32) count room

-- ---- one more entry

-- Of one entry more, whose bucket is this one, it is the last.
last_here : (count : ℕ) (keys : List (List ℕ)) (n : ℕ) (before : Link) → suc n < 2 ^ 23
    → IsLast count keys n (bucket_at count keys n) before
    → IsLast count keys (suc n) (bucket_at count keys n) (link_to (suc n) before (hash_at keys n))
last_here count keys n before few is =
    let number = number_linked (suc n) before (hash_at keys n) few in
    record {
      within = omega (arith, number);
      same = λ i at. ap (λ (j : ℕ). bucket_at count keys j) (omega (arith, at, number));
      marked = λ i at. mark_linked (suc n) before (hash_at keys n) few ∙ ap (λ (j : ℕ). mark_of (hash_at keys j)) (omega (arith, at, number));
      first = λ i at first j early here.
          absurd (omega (arith, first_linked (suc n) before (hash_at keys n) few first, is.all j (omega (arith, early, at, number)) here));
      all = λ i below here. omega (arith, below, number);
    }

-- Of another bucket the last entry stays.
last_stays : (count : ℕ) (keys : List (List ℕ)) (n bucket : ℕ) (link : Link) → bucket_at count keys n ≢ bucket
    → IsLast count keys n bucket link → IsLast count keys (suc n) bucket link
last_stays count keys n bucket link other is = record {
  within = omega (arith, is.within);
  same = is.same;
  marked = is.marked;
  first = is.first;
  all = λ i below here. by i below here (eqb_tells i n);
}
  where
    by : (i : ℕ) → i < suc n → bucket_at count keys i ≡ bucket → ((i == n ≡ true) × (i ≡ n)) ⊎ ((i == n ≡ false) × (i ≢ n)) → i < number_in link
    by i below here (inl same) = absurd (other (ap (λ (j : ℕ). bucket_at count keys j) (sym same.1) ∙ here))
    by i below here (inr apart) = is.all i (omega (arith, below, apart.1)) here

pub chained_more : (count : ℕ) (keys : List (List ℕ)) (heads : List Link) (rows others : List Row) (n : ℕ) (key : List ℕ)
    → count ≡ length heads → 0 < count → suc n < 2 ^ 23 → get_or keys n [] ≡ key → AreChained count keys heads rows n
    → ((i : ℕ) → i < n → next_at others i ≡ next_at rows i) → next_at others n ≡ get_or heads (bucket_of count (hash_of key)) no_link
    → AreChained count keys (set heads (bucket_of count (hash_of key)) (link_to (suc n) (get_or heads (bucket_of count (hash_of key)) no_link) (hash_of key))) others (suc n)
chained_more count keys heads rows others n key long room few is chained same new = record {
  buckets = λ bucket below. for_bucket bucket below (eqb_tells bucket (bucket_of count (hash_of key)));
  entries = λ i below. for_entry i below (eqb_tells i n);
}
  where
    inside : bucket_of count (hash_of key) < count
    inside = bucket_below count (hash_of key) room

    link : Link
    link = link_to (suc n) (get_or heads (bucket_of count (hash_of key)) no_link) (hash_of key)

    here : bucket_at count keys n ≡ bucket_of count (hash_of key)
    here = ap (λ (k : List ℕ). bucket_of count (hash_of k)) is

    last : IsLast count keys (suc n) (bucket_of count (hash_of key)) link
    last =
        subst (λ (k : List ℕ). IsLast count keys (suc n) (bucket_of count (hash_of k)) (link_to (suc n) (get_or heads (bucket_of count (hash_of k)) no_link) (hash_of k))) is
        (last_here count keys n (get_or heads (bucket_at count keys n) no_link) few
        (chained.buckets (bucket_at count keys n) (bucket_below count (hash_at keys n) room)))

    for_bucket : (bucket : ℕ) → bucket < count
        → ((bucket == bucket_of count (hash_of key) ≡ true) × (bucket ≡ bucket_of count (hash_of key)))
        ⊎ ((bucket == bucket_of count (hash_of key) ≡ false) × (bucket ≢ bucket_of count (hash_of key)))
        → IsLast count keys (suc n) bucket (get_or (set heads (bucket_of count (hash_of key)) link) bucket no_link)
    for_bucket bucket below (inl same_bucket) =
        rw (same_bucket.1, get_or-set_same heads (bucket_of count (hash_of key)) link no_link (omega (arith, inside, long))) last
    for_bucket bucket below (inr apart) =
        rw (get_or-set_other heads (bucket_of count (hash_of key)) bucket link no_link apart.1)
        (last_stays count keys n bucket (get_or heads bucket no_link) (λ it. apart.1 (sym it ∙ here)) (chained.buckets bucket below))

    for_entry : (i : ℕ) → i < suc n → ((i == n ≡ true) × (i ≡ n)) ⊎ ((i == n ≡ false) × (i ≢ n))
        → IsLast count keys i (bucket_at count keys i) (next_at others i)
    for_entry i below (inl at_end) =
        rw (at_end.1, new, here) (chained.buckets (bucket_of count (hash_of key)) inside)
    for_entry i below (inr apart) =
        let early : i < n = omega (arith, below, apart.1) in
        rw (same i early) (chained.entries i early)

-- ---- all entries

-- So many rows are chained, and stand where they stood.
pub record AreUnderWay (bytes : List ℕ) (first rows : List Row) (heads : List Link) (n : ℕ) : Type 0 where
  pub within : AreWithin bytes rows
  pub entries : entries_in bytes rows ≡ entries_in bytes first
  pub chained : AreChained (length heads) (keys_in bytes rows) heads rows n

pub none_under_way : (bytes : List ℕ) (rows : List Row) (heads : List Link) → AreWithin bytes rows
    → ((bucket : ℕ) → get_or heads bucket no_link ≡ no_link) → AreUnderWay bytes rows rows heads 0
none_under_way bytes rows heads within empty = record {
  within = within;
  entries = refl;
  chained = record {
    buckets = λ bucket below. rw (empty bucket) (record {
      within = omega (arith, number_none);
      same = λ i is. absurd (omega (arith, is, number_none));
      marked = λ i is. absurd (omega (arith, is, number_none));
      first = λ i is. absurd (omega (arith, is, number_none));
      all = λ i early here. absurd (omega (arith, early));
    });
    entries = λ i early. absurd (omega (arith, early));
  };
}

pub chains_next : (bytes : List ℕ) (first rows : List Row) (heads others : List Link) (i hash : ℕ) (before : Link) (key : List ℕ)
    → AreUnderWay bytes first rows heads i → i < length rows → length rows < 2 ^ 23 → 0 < length heads
    → key ≡ key_in bytes (get_or rows i no_row) → hash ≡ hash_of key
    → before ≡ head_of heads hash → others ≡ with_head heads hash (i + 1)
    → AreUnderWay bytes first (set rows i (record (get_or rows i no_row) { next = before })) others (i + 1)
chains_next bytes first rows heads others i hash before key is below few room key_is hash_is before_is heads_are =
    let row : Row = record (get_or rows i no_row) { next = before } in
    let entries : entries_in bytes (set rows i row) ≡ entries_in bytes rows = map-set_same (entry_in bytes) rows i row no_row refl in
    let at : get_or (keys_in bytes rows) i [] ≡ key = key_at bytes rows i no_row below ∙ sym key_is in
    let one : i + 1 ≡ suc i = omega arith in
    let was = within_at bytes rows i no_row is.within below in
    record {
      within = within_set bytes rows i row is.within (record { key = was.key; value = was.value; inside = was.inside });
      entries = entries ∙ is.entries;
      chained = rw (heads_are, one, hash_is, length-set heads (bucket_of (length heads) (hash_of key)) (link_to (suc i) (get_or heads (bucket_of (length heads) (hash_of key)) no_link) (hash_of key)), ap keys_of entries)
          (chained_more (length heads) (keys_in bytes rows) heads rows (set rows i row) i key refl room (omega (arith, below, few)) at is.chained
          (λ j early. ap (λ (r : Row). r.next) (get_or-set_other rows i j row no_row (λ same. absurd (omega (arith, early, same)))))
          (ap (λ (r : Row). r.next) (get_or-set_same rows i row no_row below) ∙ before_is
          ∙ ap (head_of heads) hash_is));
    }

-- ---- the search

-- The entry that has a key, if there is one, has an index below the number of this link; and the entry of the link is
-- in the bucket of the key.
pub record IsSought (bytes : List ℕ) (rows : List Row) (count : ℕ) (key : List ℕ) (link : Link) : Type 0 where
  pub within : number_in link ≤ length rows
  pub same : (i : ℕ) → number_in link ≡ suc i → bucket_at count (keys_in bytes rows) i ≡ bucket_of count (hash_of key)
  pub marked : (i : ℕ) → number_in link ≡ suc i → mark_in link ≡ mark_of (hash_at (keys_in bytes rows) i)
  pub first : (i : ℕ) → number_in link ≡ suc i → is_first_in link ≡ true → (j : ℕ) → j < i
      → bucket_at count (keys_in bytes rows) j ≢ bucket_of count (hash_of key)
  pub all : (i : ℕ) → i < length rows → get_or (keys_in bytes rows) i [] ≡ key → i < number_in link

pub sought_first : (bytes : List ℕ) (rows : List Row) (heads : List Link) (key : List ℕ) (hash : ℕ) (link : Link)
    → AreRows bytes rows heads → hash ≡ hash_of key → link ≡ head_of heads hash
    → IsSought bytes rows (length heads) key link
sought_first bytes rows heads key hash link are hash_is is = by (length heads) refl
  where
    link_is : link ≡ head_of heads (hash_of key)
    link_is = is ∙ ap (head_of heads) hash_is

    by : (count : ℕ) → count ≡ length heads → IsSought bytes rows count key link
    by zero none =
        let past : link ≡ no_link = link_is ∙ get_or_past heads (bucket_of (length heads) (hash_of key)) no_link (omega (arith, none)) in
        let number : number_in link ≡ 0 = ap number_in past ∙ number_none in
        record {
          within = omega (arith, number);
          same = λ i some. absurd (omega (arith, some, number));
          marked = λ i some. absurd (omega (arith, some, number));
          first = λ i some. absurd (omega (arith, some, number));
          all = λ i below here. absurd (omega (arith, below, are.few, none));
        }
    by (suc m) some =
        let last = are.chained.buckets (bucket_of (length heads) (hash_of key)) (bucket_below (length heads) (hash_of key) (omega (arith, some))) in
        rw (link_is, some) (record {
          within = last.within;
          same = last.same;
          marked = last.marked;
          first = last.first;
          all = λ i below here. last.all i below (ap (λ (k : List ℕ). bucket_of (length heads) (hash_of k)) here);
        })

sought_before : (bytes : List ℕ) (rows : List Row) (heads : List Link) (key : List ℕ) (link : Link) (i : ℕ) → AreRows bytes rows heads
    → IsSought bytes rows (length heads) key link → number_in link ≡ suc i → get_or (keys_in bytes rows) i [] ≢ key
    → IsSought bytes rows (length heads) key (next_at rows i)
sought_before bytes rows heads key link i are is at other =
    let last = are.chained.entries i (omega (arith, is.within, at)) in
    record {
      within = omega (arith, last.within, is.within, at);
      same = λ j some. last.same j some ∙ is.same i at;
      marked = last.marked;
      first = λ j some first k early here. last.first j some first k early (here ∙ sym (is.same i at));
      all = λ j below here. last.all j (earlier j (is.all j below here) here (eqb_tells j i))
          (ap (λ (k : List ℕ). bucket_of (length heads) (hash_of k)) here ∙ sym (is.same i at));
    }
  where
    earlier : (j : ℕ) → j < number_in link → get_or (keys_in bytes rows) j [] ≡ key → ((j == i ≡ true) × (j ≡ i)) ⊎ ((j == i ≡ false) × (j ≢ i)) → j < i
    earlier j below here (inl same) = absurd (other (ap (λ (k : ℕ). get_or (keys_in bytes rows) k []) (sym same.1) ∙ here))
    earlier j below here (inr apart) = omega (arith, below, at, apart.1)

-- Before the first entry of a bucket it ends.
sought_none : (bytes : List ℕ) (rows : List Row) (count : ℕ) (key : List ℕ) (link : Link) (i : ℕ) → IsSought bytes rows count key link
    → number_in link ≡ suc i → get_or (keys_in bytes rows) i [] ≢ key → is_first_in link ≡ true → IsSought bytes rows count key no_link
sought_none bytes rows count key link i is at other first = record {
  within = omega (arith, number_none);
  same = λ j some. absurd (omega (arith, some, number_none));
  marked = λ j some. absurd (omega (arith, some, number_none));
  first = λ j some. absurd (omega (arith, some, number_none));
  all = λ j below here. absurd (nowhere j (is.all j below here) here (eqb_tells j i));
}
  where
    nowhere : (j : ℕ) → j < number_in link → get_or (keys_in bytes rows) j [] ≡ key → ((j == i ≡ true) × (j ≡ i)) ⊎ ((j == i ≡ false) × (j ≢ i)) → ⊥
    nowhere j below here (inl same) = other (ap (λ (k : ℕ). get_or (keys_in bytes rows) k []) (sym same.1) ∙ here)
    nowhere j below here (inr apart) =
        is.first i at first j (omega (arith, below, at, apart.1)) (ap (λ (k : List ℕ). bucket_of count (hash_of k)) here)

-- The search goes on before an entry that has another key.
pub sought_next : (bytes : List ℕ) (rows : List Row) (heads : List Link) (key : List ℕ) (link next : Link) (i : ℕ) (same : Bool)
    → AreRows bytes rows heads → IsSought bytes rows (length heads) key link → number_in link ≡ suc i
    → same ≡ bytes_eq (key_in bytes (get_or rows i no_row)) key → same ≡ false
    → next ≡ cond (is_first_in link) no_link (next_at rows i) → IsSought bytes rows (length heads) key next
sought_next bytes rows heads key link next i same are is at same_is other next_is =
    rw next_is (by (is_first_in link) refl)
  where
    true_or_false : true ≡ false → ⊥
    true_or_false it = absurd cc

    apart : get_or (keys_in bytes rows) i [] ≢ key
    apart it =
        let mine = key_in bytes (get_or rows i no_row) in
        let below : i < length rows = omega (arith, at, is.within) in
        true_or_false (sym ((bytes_eq-Decides mine key).1 (sym (key_at bytes rows i no_row below) ∙ it)) ∙ sym same_is ∙ other)

    by : (first : Bool) → is_first_in link ≡ first → IsSought bytes rows (length heads) key (cond first no_link (next_at rows i))
    by true first = sought_none bytes rows (length heads) key link i is at apart first
    by false first = sought_before bytes rows heads key link i are is at apart

-- The numbers that the search comes to fall.
pub numbers_fall : (bytes : List ℕ) (rows : List Row) (heads : List Link) (key : List ℕ) (link next : Link) (i : ℕ)
    → AreRows bytes rows heads → IsSought bytes rows (length heads) key link → number_in link ≡ suc i
    → next ≡ cond (is_first_in link) no_link (next_at rows i) → number_in next < number_in link
numbers_fall bytes rows heads key link next i are is at next_is = rw next_is (by (is_first_in link))
  where
    by : (first : Bool) → number_in (cond first no_link (next_at rows i)) < number_in link
    by true = omega (arith, at, number_none)
    by false = omega (arith, at, (are.chained.entries i (omega (arith, is.within, at))).within)

none_among : (keys : List (List ℕ)) (key : List ℕ) → ((i : ℕ) → i < length keys → get_or keys i [] ≢ key) → is_among keys key ≡ false
none_among [] key none = refl
none_among (first ∷ keys) key none =
    by (bytes_eq key first) (none 0 (omega arith)) (bytes_eq-Decides key first) (none_among keys key (λ i below. none (suc i) (omega (arith, below))))
  where
    by : (same : Bool) → first ≢ key → Decides same (key ≡ first) → is_among keys key ≡ false → (same || is_among keys key) ≡ false
    by true other decides rest = absurd (other (sym (decides.0 refl)))
    by false other decides rest = rest

pub none_sought : (bytes : List ℕ) (rows : List Row) (count : ℕ) (key : List ℕ) (link : Link) → IsSought bytes rows count key link
    → number_in link ≡ 0 → is_among (keys_in bytes rows) key ≡ false
none_sought bytes rows count key link is none =
    none_among (keys_in bytes rows) key (λ i below here. absurd (omega (arith, none, is.all i (omega (arith, below, length_keys bytes rows)) here)))

-- The entry at which the search stands has the bits of its hash, and where it has the key it is found.

pub marked_here : (bytes : List ℕ) (rows : List Row) (count : ℕ) (key : List ℕ) (link : Link) (i : ℕ) → IsSought bytes rows count key link
    → number_in link ≡ suc i → mark_in link ≡ mark_of (hash_of (key_in bytes (get_or rows i no_row)))
marked_here bytes rows count key link i is at =
    is.marked i at ∙ ap (λ (k : List ℕ). mark_of (hash_of k)) (key_at bytes rows i no_row (omega (arith, at, is.within)))

pub found_here : (bytes : List ℕ) (rows : List Row) (count : ℕ) (key : List ℕ) (link : Link) (i : ℕ) (same : Bool)
    → IsSought bytes rows count key link → number_in link ≡ suc i → same ≡ bytes_eq (key_in bytes (get_or rows i no_row)) key
    → same ≡ true → IsKeyAt (entries_in bytes rows) i key
found_here bytes rows count key link i same is at same_is found =
    let below : i < length rows = omega (arith, at, is.within) in
    let its : key_in bytes (get_or rows i no_row) ≡ key = (bytes_eq-Decides (key_in bytes (get_or rows i no_row)) key).0 (sym same_is ∙ found) in
    record {
      within = omega (arith, below, length_entries bytes rows);
      same = key_at bytes rows i no_row below ∙ its;
    }

same_number : (m n : ℕ) → m ≡ n → (m == n) ≡ true
same_number m n its = told (eqb_tells m n)
  where
    told : ((m == n ≡ true) × (m ≡ n)) ⊎ ((m == n ≡ false) × (m ≢ n)) → (m == n) ≡ true
    told (inl same) = same.0
    told (inr differs) = absurd (differs.1 its)

-- A key with other bits of its hash is another key.
pub other_mark : (link : Link) (mine key : List ℕ) (hash : ℕ) (same : Bool) → mark_in link ≡ mark_of (hash_of mine)
    → hash ≡ hash_of key → same ≡ (mark_in link == mark_of hash) → same ≡ false → false ≡ bytes_eq mine key
other_mark link mine key hash same marked hash_is same_is other =
    by (bytes_eq mine key) (bytes_eq-Decides mine key)
  where
    apart : mine ≢ key
    apart its =
        let marks : mark_in link ≡ mark_of hash = marked ∙ ap (λ (k : List ℕ). mark_of (hash_of k)) its ∙ ap mark_of (sym hash_is) in
        absurd (let wrong : true ≡ false = sym (same_number _ _ marks) ∙ sym same_is ∙ other in cc)

    by : (equal : Bool) → Decides equal (mine ≡ key) → false ≡ equal
    by true decides = absurd (apart (decides.0 refl))
    by false decides = refl
