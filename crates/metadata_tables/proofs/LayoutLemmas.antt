-- What tests by number say of Valid, the row counts and the rows.
use Rattle.std.proofs.Common.{◌≡◌, ◌≢◌, ℕ, zero, suc, ◌+◌, ◌*◌, ◌≤◌, ◌<◌, List, [], ◌∷◌, ◌++◌, length, get_or, replicate, Bool, true, false, eqb, not, ◌&&◌, Some, None, refl, ap, ◌∙◌, arith, add-one, inl, inr, set, get_or-set_other, get_or-set_same, below_more}
use Rattle.std.specs.Prelude.{sum_by}
use Rattle.std.specs.List.{range_with_len}
use Rattle.std.specs.Int.{bit_at}
use Rattle.std.proofs.lemmas.List.Sums.{sum_by-append}
use Rattle.std.proofs.lemmas.List.FromFn.{fill_by_all}
use Rattle.cc_base.specs.LittleEndian.{u32_at}
use Rattle.cc_base.specs.Tests.{first_of, must}
use Rattle.cc_base.proofs.TestLemmas.{from_on, singles_on}
use Rattle.std.proofs.lemmas.Bool.{cases_lt}
use Rattle.std.proofs.lemmas.Bool.Decides.{nat_tests}
use Rattle.metadata_tables.specs.declared.fault.TableFault.TheVariants.{BadTables, Short}
use Rattle.metadata_tables.specs.declared.schema.Column.{Column}
use Rattle.metadata_tables.specs.Tests.{fields}
use Rattle.metadata_tables.specs.Schema.{columns_of, total_width}
use Rattle.metadata_tables.specs.Layout.{valid, counts_at, present_below, stored_count, row_counts, row_width, bytes_below, column_offsets, offsets, bases}
use Rattle.metadata_tables.specs.TableTests.{bit_test, bits_tests, rows_tests, all_rows_tests}

-- ---- the bits of Valid

pub bit_test-unset : (bits at bit : ℕ) → eqb (bit_at bits bit) 1 ≡ false → bit_test bits at bit ≡ None
unfolding bit_test
bit_test-unset bits at bit e = rw e refl

pub bit_test-known : (bits at bit : ℕ) → eqb (length (columns_of bit)) 0 ≡ false → bit_test bits at bit ≡ None
unfolding bit_test
bit_test-known bits at bit e =
    elim (eqb (bit_at bits bit) 1) as (λ (set : Bool). must (not (set && eqb (length (columns_of bit)) 0)) (BadTables bit at) ≡ None) [
      | true ↦ rw e refl
      | false ↦ refl
    ]

pub bit_test-bad : (bits at bit : ℕ) → eqb (bit_at bits bit) 1 ≡ true → eqb (length (columns_of bit)) 0 ≡ true
    → bit_test bits at bit ≡ Some (BadTables bit at)
unfolding bit_test
bit_test-bad bits at bit set none = rw (set, none) refl

pub bits_tests-start : (bits at : ℕ) → singles_on (bit_test bits at) 0 64 ≡ first_of (bits_tests bits at)
unfolding bits_tests
bits_tests-start bits at = refl

range-more : (i n : ℕ) → range_with_len i (n + 1) ≡ range_with_len i n ++ (i + n) ∷ []
range-more i zero = let e : i + 0 ≡ i = omega arith in rw e refl
range-more i (suc n) =
    let longer : suc n + 1 ≡ suc (n + 1) = omega arith in
    let there : (i + 1) + n ≡ i + suc n = omega arith in
    rw longer (ap (λ (numbers : List ℕ). i ∷ numbers) (range-more (i + 1) n ∙ ap (λ (k : ℕ). range_with_len (i + 1) n ++ k ∷ []) there))

-- A sum over the numbers below one more.
pub sum_below-more : (f : ℕ → ℕ) (i : ℕ) → sum_by f (range_with_len 0 (i + 1)) ≡ sum_by f (range_with_len 0 i) + f i
sum_below-more f i =
    ap (sum_by f) (range-more 0 i) ∙ sum_by-append f (range_with_len 0 i) ((0 + i) ∷ [])
    ∙ (let e : 0 + i ≡ i = omega arith in rw e (let z : 0 + f i ≡ f i = omega arith in ap (λ (n : ℕ). sum_by f (range_with_len 0 i) + n) z))

pub present_below-more : (bits i : ℕ) → present_below bits (i + 1) ≡ present_below bits i + bit_at bits i
unfolding present_below
present_below-more bits i = sum_below-more (bit_at bits) i

pub present_below-zero : (bits : ℕ) → present_below bits 0 ≡ 0
unfolding present_below
present_below-zero bits = refl

-- A bit and the bits before it are among those below a higher place.
pub present_below-le : (bits i n : ℕ) → i < n → present_below bits i + bit_at bits i ≤ present_below bits n
present_below-le bits i zero h = absurd (omega arith)
present_below-le bits i (suc n) h =
    let one : present_below bits (suc n) ≡ present_below bits n + bit_at bits n = rw (← add-one) (present_below-more bits n) in
    elim (cases_lt i n) [
      | inl lt ↦ omega (arith, present_below-le bits i n lt)
      | inr le ↦ let same : i ≡ n = omega arith in rw same (omega (arith, one))
    ]

pub bit_at-unset : (bits i : ℕ) → eqb (bit_at bits i) 1 ≡ false → bit_at bits i ≡ 0
bit_at-unset bits i e = grind (arith, nat_tests)

-- ---- the row counts

pub stored_count-set : (md : List ℕ) (bits start table at : ℕ) → bits ≡ valid md → start ≡ counts_at md
    → eqb (bit_at bits table) 1 ≡ true → at ≡ start + 4 * present_below bits table → u32_at md at ≡ stored_count md table
unfolding stored_count
stored_count-set md bits start table at same_bits same_start set place =
    let there : eqb (bit_at (valid md) table) 1 ≡ true = rw (← same_bits) set in
    let where_it_is : at ≡ counts_at md + 4 * present_below (valid md) table = rw (← same_bits, ← same_start) place in
    rw (there, where_it_is) refl

pub stored_count-unset : (md : List ℕ) (bits table : ℕ) → bits ≡ valid md → eqb (bit_at bits table) 1 ≡ false → 0 ≡ stored_count md table
unfolding stored_count
stored_count-unset md bits table same_bits unset =
    let missing : eqb (bit_at (valid md) table) 1 ≡ false = rw (← same_bits) unset in
    rw missing refl

pub row_counts-filled : (md counts : List ℕ) → length counts ≡ 45 → ((k : ℕ) → k < 45 → get_or counts k 0 ≡ stored_count md k) → counts ≡ row_counts md
unfolding row_counts
row_counts-filled md counts long each = fill_by_all (stored_count md) counts 45 0 long each

-- What a write at a place leaves, and what it puts there.
pub filled-more : {X : Type 0} (f : ℕ → X) (xs : List X) (i : ℕ) (v d : X) → i < length xs → v ≡ f i → ((k : ℕ) → k < i → get_or xs k d ≡ f k)
    → (k : ℕ) → k < i + 1 → get_or (set xs i v) k d ≡ f k
filled-more f xs i v d within same before =
    below_more _ _
    (λ k h. let other : k ≢ i = omega arith in rw get_or-set_other (before k h))
    (rw (get_or-set_same, same) refl)

-- What a write at a place leaves after it.
pub zero-behind : (xs : List ℕ) (i v : ℕ) → ((k : ℕ) → i ≤ k → get_or xs k 0 ≡ 0)
    → (k : ℕ) → i + 1 ≤ k → get_or (set xs i v) k 0 ≡ 0
zero-behind xs i v zeros k h = let other : k ≢ i = omega arith in rw get_or-set_other (zeros k (omega arith))

-- Zeros.
abbrev pub nothing : ℕ
nothing = 0

pub zeros-at : (n k : ℕ) → get_or (replicate n nothing) k nothing ≡ nothing
zeros-at zero k = refl
zeros-at (suc n) zero = refl
zeros-at (suc n) (suc k) = zeros-at n k

-- ---- the rows

pub row_width-is : (counts : List ℕ) (sizes table : ℕ) (columns : List Column) (w : ℕ) → columns ≡ columns_of table
    → w ≡ total_width counts sizes columns → w ≡ row_width counts sizes table
unfolding row_width
row_width-is counts sizes table columns w same is = is ∙ ap (total_width counts sizes) same

pub bytes_below-zero : (counts : List ℕ) (sizes : ℕ) → bytes_below counts sizes 0 ≡ 0
unfolding bytes_below
bytes_below-zero counts sizes = refl

pub bytes_below-more : (counts : List ℕ) (sizes table : ℕ)
    → bytes_below counts sizes (table + 1) ≡ bytes_below counts sizes table + get_or counts table 0 * row_width counts sizes table
unfolding bytes_below
bytes_below-more counts sizes table = sum_below-more (λ lower. get_or counts lower 0 * row_width counts sizes lower) table

pub all_rows_tests-start : (end : ℕ) (counts : List ℕ) (sizes start : ℕ)
    → from_on (rows_tests end counts sizes start) 0 45 ≡ first_of (all_rows_tests end counts sizes start)
unfolding all_rows_tests
all_rows_tests-start end counts sizes start = refl

-- The rows of a table, where its base, its row count and the bytes of its rows are known.
pub rows_tests-is : (end : ℕ) (counts : List ℕ) (sizes start table at count w : ℕ) → at ≡ start + bytes_below counts sizes table
    → count ≡ get_or counts table 0 → w ≡ row_width counts sizes table
    → first_of (fields end (λ at. Short at) at (replicate count w)) ≡ first_of (rows_tests end counts sizes start table)
unfolding rows_tests
rows_tests-is end counts sizes start table at count w place many wide = rw (place, many, wide) refl

pub offsets-filled : (counts : List ℕ) (sizes : ℕ) (xs : List (List ℕ)) → length xs ≡ 45
    → ((k : ℕ) → k < 45 → get_or xs k [] ≡ column_offsets counts sizes (columns_of k)) → xs ≡ offsets counts sizes
unfolding offsets
offsets-filled counts sizes xs long each = fill_by_all (λ table. column_offsets counts sizes (columns_of table)) xs 45 [] long each

pub bases-filled : (counts : List ℕ) (sizes start : ℕ) (xs : List ℕ) → length xs ≡ 45
    → ((k : ℕ) → k < 45 → get_or xs k 0 ≡ start + bytes_below counts sizes k) → xs ≡ bases counts sizes start
unfolding bases
bases-filled counts sizes start xs long each = fill_by_all (λ table. start + bytes_below counts sizes table) xs 45 0 long each

-- Where the next table begins.
pub place-next : (counts : List ℕ) (sizes start table at w after : ℕ) → at ≡ start + bytes_below counts sizes table
    → w ≡ row_width counts sizes table → after ≡ at + get_or counts table 0 * w → after ≡ start + bytes_below counts sizes (table + 1)
place-next counts sizes start table at w after place wide next =
    let same : after ≡ at + get_or counts table 0 * row_width counts sizes table = next ∙ ap (λ (k : ℕ). at + get_or counts table 0 * k) wide in
    omega (arith, bytes_below-more counts sizes table)
