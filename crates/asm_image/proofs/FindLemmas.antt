-- What a name means, and how the table of names tells it.
use Rattle.std.proofs.Common.{◌≡◌, ℕ, zero, suc, ◌+◌, ◌-◌, ◌≤◌, ◌<◌, List, [], ◌∷◌, ◌++◌, length, get_or, filter, Bool, true, false, eqb, cond, ◌||◌, Option, Some, None, length-append, refl, sym, ap, ◌∙◌, arith, inl, inr, add-one, true≢false}
use Rattle.std.specs.List.{range_with_len}
use Rattle.std.specs.Str.{bytes_eq}
use Rattle.std.proofs.lemmas.Bool.{cases_lt}
use Rattle.std.proofs.lemmas.Bool.Decides.{nat_tests}
use Rattle.std.proofs.lemmas.List.{append-nil, append_assoc, get_or_at, get_or_append_left}
use Rattle.std.proofs.lemmas.List.Elements.{filter-append}
use Rattle.std.proofs.lemmas.List.FromFn.{length-map-range_with_len, get_or-map-range_with_len}
use Rattle.std.proofs.lemmas.Slice.Eq.{bytes_eq-Decides}
use Rattle.cc_base.specs.declared.token.Token.{Token}
use Rattle.pe_reader.specs.Addresses.{metadata}
use Rattle.signature_blobs.specs.declared.method.SigTypes.{SigTypes}
use Rattle.asm_image.specs.Cells.{method_count, signature}
use Rattle.asm_image.specs.Find.{meant_among, found, find_of, whole_of, short_of, either, one_more, Notes, last_of, last_named, NamesFirst}
use Rattle.asm_image.specs.Names.{types_text, short_name, printed_name}
use Rattle.asm_image.specs.Rows.{method_token, method_row, rows_of}
use Rattle.asm_image.specs.declared.method_row.MethodRow.{MethodRow}
use Rattle.asm_image.specs.declared.found.Found.{Found}
use Rattle.asm_image.specs.declared.found.Found.TheVariants.{One, Several}
use Rattle.asm_image.proofs.NameLemmas.{behind, types-open}

-- ---- whole names and short ones

pub name-splits : (md : List ℕ) (row : ℕ) → printed_name md row ≡ short_name md row ++ types_text (signature md row).types
unfolding printed_name
name-splits md row = refl

longer : (text : List ℕ) (said : SigTypes) → text ++ types_text said ≡ text → ⊥
longer text said e =
    let whole : length (text ++ types_text said) ≡ length text + suc (length (behind said)) = length-append text (types_text said) ∙ rw (types-open said) refl in
    absurd (omega (arith, whole, ap length e))

-- No name is a method's printed name with its types and without.
not-both : (md name : List ℕ) (row : ℕ) → bytes_eq name (printed_name md row) ≡ true → bytes_eq name (short_name md row) ≡ true → ⊥
not-both md name row whole short =
    longer (short_name md row) (signature md row).types
    (sym (name-splits md row) ∙ sym ((bytes_eq-Decides name (printed_name md row)).0 whole) ∙ (bytes_eq-Decides name (short_name md row)).0 short)

-- What is found with one row more at the start.
found-prefix : (row : ℕ) (rows : List ℕ) → found (row ∷ rows) ≡ Some (one_more (found rows) (method_token row))
found-prefix row [] = refl
found-prefix row (first ∷ []) = refl
found-prefix row (first ∷ second ∷ others) = refl

either-first : (first second : Option Found) (token : Token) → Some (one_more (either first second) token) ≡ either (Some (one_more first token)) second
either-first None None token = refl
either-first None (Some found) token = refl
either-first (Some found) None token = refl
either-first (Some found) (Some other) token = refl

either-second : (first second : Option Found) (token : Token) → Some (one_more (either first second) token) ≡ either first (Some (one_more second token))
either-second None second token = refl
either-second (Some found) None token = refl
either-second (Some found) (Some other) token = refl

-- What rows mean of which each passes at most one of two tests.
two-tests : (a b : ℕ → Bool) (rows : List ℕ) → ((row : ℕ) → a row ≡ true → b row ≡ true → ⊥)
    → found (filter (λ row. a row || b row) rows) ≡ either (found (filter a rows)) (found (filter b rows))
two-tests a b [] apart = refl
two-tests a b (row ∷ rows) apart = by (a row) (b row) (apart row) (two-tests a b rows apart)
  where
    by : (here there : Bool) → (here ≡ true → there ≡ true → ⊥)
        → found (filter (λ row. a row || b row) rows) ≡ either (found (filter a rows)) (found (filter b rows))
        → found (cond (here || there) (row ∷ filter (λ row. a row || b row) rows) (filter (λ row. a row || b row) rows))
        ≡ either (found (cond here (row ∷ filter a rows) (filter a rows))) (found (cond there (row ∷ filter b rows) (filter b rows)))
    by true true both rest = absurd (both refl refl)
    by true false both rest =
        rw (found-prefix row (filter (λ row. a row || b row) rows), found-prefix row (filter a rows), rest)
        (either-first (found (filter a rows)) (found (filter b rows)) (method_token row))
    by false true both rest =
        rw (found-prefix row (filter (λ row. a row || b row) rows), found-prefix row (filter b rows), rest)
        (either-second (found (filter a rows)) (found (filter b rows)) (method_token row))
    by false false both rest = rest

-- What a name means, whole and short.
pub find_parts : (bytes name : List ℕ) → find_of bytes name ≡ either (whole_of bytes name) (short_of bytes name)
unfolding find_of meant_among
find_parts bytes name =
    let md = metadata bytes in
    two-tests (λ row. bytes_eq name (printed_name md row)) (λ row. bytes_eq name (short_name md row)) (range_with_len 1 (method_count md)) (not-both md name)

-- ---- rows one by one from the last

false_where_not : (a b : Bool) → (a ≡ true → b ≡ true) → b ≡ false → a ≡ false
false_where_not true b implies e = absurd (true≢false (sym (implies refl) ∙ e))
false_where_not false b implies e = refl

-- What is found among the first so many rows, and before.
abbrev pub found_down : (ℕ → Bool) → Option Found → ℕ → Option Found
found_down test before zero = before
found_down test before (suc n) = found_down test (cond (test (suc n)) (Some (one_more before (method_token (suc n)))) before) n

range-more : (i n : ℕ) → range_with_len i (suc n) ≡ range_with_len i n ++ (i + n) ∷ []
range-more i zero = let e : i + 0 ≡ i = omega arith in rw e refl
range-more i (suc n) =
    let there : (i + 1) + n ≡ i + suc n = omega arith in
    ap (λ (rows : List ℕ). i ∷ rows) (range-more (i + 1) n ∙ ap (λ (k : ℕ). range_with_len (i + 1) n ++ k ∷ []) there)

passed-last : (test : ℕ → Bool) (n : ℕ) → filter test (range_with_len 1 (suc n)) ≡ filter test (range_with_len 1 n) ++ cond (test (suc n)) (suc n ∷ []) []
passed-last test n =
    let last : 1 + n ≡ suc n = omega arith in
    ap (filter test) (range-more 1 n ∙ ap (λ (k : ℕ). range_with_len 1 n ++ k ∷ []) last) ∙ filter-append test (range_with_len 1 n) (suc n ∷ [])

found-down : (test : ℕ → Bool) (n : ℕ) (later : List ℕ) → found_down test (found later) n ≡ found (filter test (range_with_len 1 n) ++ later)
found-down test zero later = refl
found-down test (suc n) later = by (test (suc n)) (found-down test n) ∙ ap (λ (rows : List ℕ). found (rows ++ later)) (sym (passed-last test n))
  where
    by : (b : Bool) → ((rows : List ℕ) → found_down test (found rows) n ≡ found (filter test (range_with_len 1 n) ++ rows)) → found_down test (cond b (Some (one_more (found later) (method_token (suc n)))) (found later)) n
        ≡ found ((filter test (range_with_len 1 n) ++ cond b (suc n ∷ []) []) ++ later)
    by true before =
        rw (← found-prefix (suc n) later)
        (before (suc n ∷ later) ∙ ap found (sym (append_assoc (filter test (range_with_len 1 n)) (suc n ∷ []) later)))
    by false before = before later ∙ ap (λ (rows : List ℕ). found (rows ++ later)) (sym (append-nil (filter test (range_with_len 1 n))))

pub down_is : (test : ℕ → Bool) (n : ℕ) → found_down test None n ≡ found (filter test (range_with_len 1 n))
down_is test n = found-down test n [] ∙ ap found (append-nil (filter test (range_with_len 1 n)))

-- Rows that do not have a name do not count, where only those that have it pass.
pub down_skips : (md name : List ℕ) (test : ℕ → Bool) (before : Option Found) (n : ℕ) → ((row : ℕ) → test row ≡ true → bytes_eq name (short_name md row) ≡ true)
    → found_down test before n ≡ found_down test before (last_named md name n)
down_skips md name test before zero only = refl
down_skips md name test before (suc n) only = by (bytes_eq name (short_name md (suc n))) refl (down_skips md name test before n only)
  where
    by : (b : Bool) → bytes_eq name (short_name md (suc n)) ≡ b → found_down test before n ≡ found_down test before (last_named md name n)
        → found_down test before (suc n) ≡ found_down test before (cond b (suc n) (last_named md name n))
    by true e rest = refl
    by false e rest = let other : test (suc n) ≡ false = false_where_not _ _ (only (suc n)) e in rw other rest

-- Several stay several.
down-several : (test : ℕ → Bool) (n : ℕ) → found_down test (Some Several) n ≡ Some Several
down-several test zero = refl
down-several test (suc n) = by (test (suc n)) (down-several test n)
  where
    by : (b : Bool) → found_down test (Some Several) n ≡ Some Several → found_down test (cond b (Some Several) (Some Several)) n ≡ Some Several
    by true rest = rest
    by false rest = rest

-- ---- the last row that has a name

pub last_has : (md name : List ℕ) (n : ℕ) → 1 ≤ last_named md name n → bytes_eq name (short_name md (last_named md name n)) ≡ true
last_has md name zero some = absurd (omega arith)
last_has md name (suc n) some = by (bytes_eq name (short_name md (suc n))) refl (last_has md name n) some
  where
    by : (b : Bool) → bytes_eq name (short_name md (suc n)) ≡ b → (1 ≤ last_named md name n → bytes_eq name (short_name md (last_named md name n)) ≡ true) → 1 ≤ cond b (suc n) (last_named md name n)
        → bytes_eq name (short_name md (cond b (suc n) (last_named md name n))) ≡ true
    by true e rest some = e
    by false e rest some = rest some

pub last_within : (md name : List ℕ) (n : ℕ) → last_named md name n ≤ n
last_within md name zero = omega arith
last_within md name (suc n) = by (bytes_eq name (short_name md (suc n))) (last_within md name n)
  where
    by : (b : Bool) → last_named md name n ≤ n → cond b (suc n) (last_named md name n) ≤ suc n
    by true rest = omega arith
    by false rest = omega arith

-- ---- short names

abbrev short_test : List ℕ → List ℕ → ℕ → Bool
short_test md name row = bytes_eq name (short_name md row)

short-down : (md name : List ℕ) (n : ℕ) → found (filter (short_test md name) (range_with_len 1 n)) ≡ found_down (short_test md name) None (last_named md name n)
short-down md name n = sym (down_is (short_test md name) n) ∙ down_skips md name (short_test md name) None n (λ row e. e)

-- No method has the name.
pub short_none : (md name : List ℕ) (n : ℕ) → last_named md name n ≡ 0 → None ≡ found (filter (λ row. bytes_eq name (short_name md row)) (range_with_len 1 n))
short_none md name n none = sym (short-down md name n ∙ ap (found_down (short_test md name) None) none)

from-second : (md name : List ℕ) (token : Token) (before n : ℕ) → before ≡ last_named md name n
    → found_down (short_test md name) (Some (One token)) before ≡ cond (eqb before 0) (Some (One token)) (Some Several)
from-second md name token zero n is = refl
from-second md name token (suc k) n is =
    let has : short_test md name (suc k) ≡ true = rw is (last_has md name n (omega (arith, is))) in
    let more : found_down (short_test md name) (Some (One token)) (suc k) ≡ found_down (short_test md name) (Some Several) k = rw has refl in
    let some : eqb (suc k) 0 ≡ false = grind (arith, nat_tests) in
    rw some (more ∙ down-several (short_test md name) k)

from-first : (md name : List ℕ) (last before n : ℕ) → last ≡ last_named md name n → 1 ≤ last → before ≡ last_named md name (last - 1)
    → found_down (short_test md name) None last ≡ cond (eqb before 0) (Some (One (method_token last))) (Some Several)
from-first md name zero before n is some next = absurd (omega arith)
from-first md name (suc k) before n is some next =
    let has : short_test md name (suc k) ≡ true = rw is (last_has md name n (omega (arith, is))) in
    let same : suc k - 1 ≡ k = omega arith in
    let next_is : before ≡ last_named md name k = next ∙ ap (last_named md name) same in
    let first : found_down (short_test md name) None (suc k) ≡ found_down (short_test md name) (Some (One (method_token (suc k)))) k = rw has refl in
    first ∙ down_skips md name (short_test md name) (Some (One (method_token (suc k)))) k (λ row e. e)
    ∙ ap (found_down (short_test md name) (Some (One (method_token (suc k))))) (sym next_is)
    ∙ from-second md name (method_token (suc k)) before k next_is

-- The last method that has the name, and the one before it, tell.
pub short_found : (md name : List ℕ) (last before n : ℕ) → last ≡ last_named md name n → 1 ≤ last → before ≡ last_named md name (last - 1)
    → cond (eqb before 0) (Some (One (method_token last))) (Some Several) ≡ found (filter (λ row. bytes_eq name (short_name md row)) (range_with_len 1 n))
short_found md name last before n is some next =
    sym (short-down md name n ∙ ap (found_down (short_test md name) None) (sym is) ∙ from-first md name last before n is some next)

-- The method before one that has a name.
pub before_is : (last : List (List ℕ × ℕ)) (earlier md name : List ℕ) (row : ℕ) → NamesFirst last earlier md (method_count md) → 1 ≤ row → row ≤ method_count md
    → bytes_eq name (short_name md row) ≡ true → get_or earlier (row - 1) 0 ≡ last_named md name (row - 1)
before_is last earlier md name row names some within has =
    let there : row - 1 + 1 ≡ row = omega arith in
    names.befores (row - 1) (omega arith) ∙ rw (there, ← (bytes_eq-Decides name (short_name md row)).0 has) refl

-- ---- whole names

abbrev pub whole_test : List ℕ → List ℕ → ℕ → Bool
whole_test md name row = bytes_eq name (printed_name md row)

-- A name up to the types of its parameters is that of a method.
abbrev pub HasPrefix : List ℕ → List ℕ → ℕ → Type 0
HasPrefix md name row = (prefix : List ℕ) (types : SigTypes) → name ≡ prefix ++ types_text types → prefix ≡ short_name md row

only-prefix : (md name : List ℕ) (row other : ℕ) → HasPrefix md name row → whole_test md name other ≡ true → bytes_eq (short_name md row) (short_name md other) ≡ true
only-prefix md name row other has e =
    let is : name ≡ printed_name md other = (bytes_eq-Decides name (printed_name md other)).0 e in
    (bytes_eq-Decides (short_name md row) (short_name md other)).1 (sym (has (short_name md other) (signature md other).types (is ∙ name-splits md other)))

module _ (md name short : List ℕ) (n row : ℕ) (cut : (prefix : List ℕ) (types : SigTypes) → name ≡ prefix ++ types_text types → short ≡ prefix) (is : row ≡ last_named md short n) where
  only-cut : (other : ℕ) → whole_test md name other ≡ true → bytes_eq short (short_name md other) ≡ true
  only-cut other e =
      let whole : name ≡ printed_name md other = (bytes_eq-Decides name (printed_name md other)).0 e in
      (bytes_eq-Decides short (short_name md other)).1 (cut (short_name md other) (signature md other).types (whole ∙ name-splits md other))

  pub whole_start : found_down (λ row. bytes_eq name (printed_name md row)) None row ≡ found (filter (λ row. bytes_eq name (printed_name md row)) (range_with_len 1 n))
  whole_start = rw is (sym (down_skips md short (whole_test md name) None n only-cut) ∙ down_is (whole_test md name) n)

  pub prefix_start : 1 ≤ row → HasPrefix md name row
  prefix_start some prefix types same =
      let has : bytes_eq short (short_name md row) ≡ true = rw is (last_has md short n (omega (arith, is))) in
      sym (cut prefix types same) ∙ (bytes_eq-Decides short (short_name md row)).0 has

-- The method before one of the same name.
pub whole_next : (md name : List ℕ) (row before : ℕ) (acc more all : Option Found) → HasPrefix md name row → 1 ≤ row
    → before ≡ last_named md (short_name md row) (row - 1) → more ≡ cond (bytes_eq name (printed_name md row)) (Some (one_more acc (method_token row))) acc
    → found_down (λ row. bytes_eq name (printed_name md row)) acc row ≡ all → found_down (λ row. bytes_eq name (printed_name md row)) more before ≡ all
whole_next md name zero before acc more all has some next is rest = absurd (omega arith)
whole_next md name (suc k) before acc more all has some next is rest =
    let same : suc k - 1 ≡ k = omega arith in
    rw (next, same, is) (sym (down_skips md (short_name md (suc k)) (whole_test md name) (cond (bytes_eq name (printed_name md (suc k))) (Some (one_more acc (method_token (suc k)))) acc) k (λ other e. only-prefix md name (suc k) other has e)) ∙ rest)

pub prefix_next : (md name : List ℕ) (row before : ℕ) → HasPrefix md name row → before ≡ last_named md (short_name md row) (row - 1) → 1 ≤ before → HasPrefix md name before
prefix_next md name row before has next some prefix types same =
    let last : bytes_eq (short_name md row) (short_name md before) ≡ true = rw next (last_has md (short_name md row) (row - 1) (omega (arith, next))) in
    has prefix types same ∙ (bytes_eq-Decides (short_name md row) (short_name md before)).0 last

-- ---- rows of methods

pub rows_count : (md : List ℕ) → length (rows_of md) ≡ method_count md
unfolding rows_of
rows_count md = length-map-range_with_len (method_row md) 1 (method_count md)

pub row_at : (md : List ℕ) (methods : List MethodRow) (i : ℕ) (method : MethodRow) → methods ≡ rows_of md → i < method_count md
    → method ≡ get_or methods i method → method ≡ method_row md (i + 1)
unfolding rows_of
row_at md methods i method is within there =
    there ∙ ap (λ (rows : List MethodRow). get_or rows i method) is
    ∙ get_or-map-range_with_len (method_row md) 1 (method_count md) i (i + 1) method within (omega arith)

pub token_of_row : (md : List ℕ) (row : ℕ) → (method_row md row).token ≡ method_token row
unfolding method_row
token_of_row md row = refl

pub name_of_row : (md : List ℕ) (row : ℕ) → (method_row md row).name ≡ printed_name md row
unfolding method_row
name_of_row md row = refl

-- ---- the table of names

-- One method more is noted.
pub named_next : (md : List ℕ) (count : ℕ) (old new : List (List ℕ × ℕ)) (earlier short : List ℕ) (before : ℕ) → NamesFirst old earlier md count
    → short ≡ short_name md (count + 1) → before ≡ last_of old short → Notes old short (count + 1) new → NamesFirst new (earlier ++ before ∷ []) md (count + 1)
named_next md count old new earlier short before names is told notes = record {
  lasts = λ name. notes name ∙ rw (is, add-one) (ap (λ (n : ℕ). cond (bytes_eq name (short_name md (suc count))) (suc count) n) (names.lasts name));
  long = omega (arith, length-append earlier (before ∷ []), names.long);
  befores =
      λ k h. elim (cases_lt k count) [
        | inl lt ↦ rw (get_or_append_left earlier (before ∷ []) 0 k (omega (arith, names.long))) (names.befores k lt)
        | inr le ↦
            let last : k ≡ count = omega arith in
            rw last (get_or_at earlier before [] 0 count names.long ∙ told ∙ names.lasts short ∙ rw is refl)
      ];
}
