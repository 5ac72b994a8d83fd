-- Items between commas, and their texts.
use Rattle.std.proofs.Common.{◌≡◌, ℕ, zero, ◌^◌, ◌<◌, ◌≢◌, Bool, true, false, List, [], ◌∷◌, length, get_or, map, codes, refl, sym, ap, ap₂, length-append, ◌∙◌, arith, ℤ, pos, negsuc, suc, Option, Some, None, is_some, filter_map, FitsSigned, w32, All, ◌==◌}
use Rattle.std.proofs.lemmas.Bool.{ne_eqb, and_from, and_parts}
use Rattle.std.proofs.lemmas.Fmt.{decimal_is_IsNumeral}
use Rattle.std.proofs.lemmas.List.Elements.{All-from_get_or}
use Rattle.std.proofs.lemmas.List.Splits.{slice_split_none, slice_split_at, join_with_byte-slice_split}
use Rattle.std.proofs.lemmas.Str.Parse.{not_in_digits, numerals_by_value, tells_digits}
use Rattle.std.specs.Fmt.{decimal, signed_decimal}
use Rattle.std.specs.List.{AllByRecursion, cons_option, list_all, join_with_byte}
use Rattle.run_arguments.specs.Arguments.{items_of}
use Rattle.run_arguments.specs.Texts.{bool_text}

abbrev IsPlain : List ℕ → Type 0
IsPlain item = All (λ c. (c == 44) ≡ false) item

-- ---- no text of an item has a comma

pub decimal_plain : (n : ℕ) → n < 2 ^ 64 → IsPlain (decimal n)
decimal_plain n small =
    let k = decimal_is_IsNumeral n small in
    All-from_get_or (λ c. (c == 44) ≡ false) (decimal n) 0
    (λ i h. ne_eqb _ 44 (not_in_digits (numerals_by_value _ tells_digits) (decimal n) 44 k.0.1 (λ e. omega arith) i h))

plain_nil : IsPlain []
plain_nil = λ k d l. absurd (omega arith)

-- A byte that is no comma, before others that are none.
plain_cons : (c : ℕ) (cs : List ℕ) → c ≢ 44 → IsPlain cs → IsPlain (c ∷ cs)
plain_cons c cs other h = All-from_get_or (λ x. (x == 44) ≡ false) (c ∷ cs) 0 at
  where
    at : (i : ℕ) → i < length (c ∷ cs) → (get_or (c ∷ cs) i 0 == 44) ≡ false
    at zero l = ne_eqb c 44 other
    at (suc i) l = h i 0 (omega arith)

pub int_plain : (n : ℤ) → FitsSigned w32 n → IsPlain (signed_decimal n)
int_plain (pos m) fits = decimal_plain m (omega (arith, fits.sfits))
int_plain (negsuc m) fits = plain_cons 45 (decimal (suc m)) (λ e. omega arith) (decimal_plain (suc m) (omega (arith, fits.sfits)))

pub bool_plain : (b : Bool) → IsPlain (bool_text b)
bool_plain true =
    plain_cons 116 (codes "rue") (λ e. omega arith) (plain_cons 114 (codes "ue") (λ e. omega arith) (plain_cons 117 (codes "e") (λ e. omega arith) (plain_cons 101 [] (λ e. omega arith) plain_nil)))
bool_plain false =
    plain_cons 102 (codes "alse") (λ e. omega arith) (plain_cons 97 (codes "lse") (λ e. omega arith) (plain_cons 108 (codes "se") (λ e. omega arith) (plain_cons 115 (codes "e") (λ e. omega arith) (plain_cons 101 [] (λ e. omega arith) plain_nil))))

pub ints_plain : (ns : List ℤ) → AllByRecursion (FitsSigned w32) ns → AllByRecursion IsPlain (map signed_decimal ns)
ints_plain [] h = tt
ints_plain (n ∷ ns) h = (int_plain n h.0, ints_plain ns h.1)

pub bools_plain : (bs : List Bool) → AllByRecursion IsPlain (map bool_text bs)
bools_plain [] = tt
bools_plain (b ∷ bs) = (bool_plain b, bools_plain bs)

-- ---- splitting and joining

-- Items without commas are what stands between the commas that join them.
pub split_joined : (item : List ℕ) (items : List (List ℕ)) → AllByRecursion IsPlain (item ∷ items) → items_of (join_with_byte 44 (item ∷ items)) ≡ item ∷ items
split_joined item [] h = slice_split_none (λ c. c == 44) item h.0
split_joined item (next ∷ items) h =
    slice_split_at (λ c. c == 44) item 44 (join_with_byte 44 (next ∷ items)) h.0 refl
    ∙ ap (λ (rest : List (List ℕ)). item ∷ rest) (split_joined next items h.1)

-- Items of which the first is not empty join to no empty text.
pub joined_some : (item : List ℕ) (items : List (List ℕ)) → 0 < length item → 0 < length (join_with_byte 44 (item ∷ items))
joined_some item [] h = h
joined_some item (next ∷ items) h = omega (arith, length-append item (44 ∷ join_with_byte 44 (next ∷ items)))

pub joined_split : (text : List ℕ) → join_with_byte 44 (items_of text) ≡ text
joined_split text = join_with_byte-slice_split 44 text

-- ---- items that are read, and written again

module _ {T : Type 0} (read : List ℕ → Option T) (show : T → List ℕ) where
  -- Where each item is read as a value whose text it is, the texts of the values are the items.
  pub shown_again : ((word : List ℕ) (x : T) → read word ≡ Some x → word ≡ show x)
      → (items : List (List ℕ)) → list_all (λ word. is_some (read word)) items ≡ true → map show (filter_map read items) ≡ items
  shown_again back [] e = refl
  shown_again back (word ∷ items) e =
      let k = and_parts (is_some (read word)) (list_all (λ w. is_some (read w)) items) e in
      by (read word) refl k.0 (shown_again back items k.1)
    where
      by : (o : Option T) → read word ≡ o → is_some o ≡ true → map show (filter_map read items) ≡ items → map show (filter_map read (word ∷ items)) ≡ word ∷ items
      by None is some rest = absurd (cc)
      by (Some x) is some rest =
          ap (λ (o : Option T). map show (cons_option o (filter_map read items))) is
          ∙ ap₂ (λ (text : List ℕ) (texts : List (List ℕ)). text ∷ texts) (sym (back word x is)) rest

  -- Where each value is what its text is read as, so are all.
  pub read_again : (P : T → Type 0) → ((x : T) → P x → read (show x) ≡ Some x)
      → (xs : List T) → AllByRecursion P xs → (list_all (λ word. is_some (read word)) (map show xs) ≡ true) × (filter_map read (map show xs) ≡ xs)
  read_again P back [] h = (refl, refl)
  read_again P back (x ∷ xs) h =
      let rest = read_again P back xs h.1 in
      let first = back x h.0 in
      (and_from _ _ (ap is_some first) rest.0, ap₂ cons_option first rest.1)

  -- What holds of each value that is read holds of all.
  pub each_read : (P : T → Type 0) → ((word : List ℕ) (x : T) → read word ≡ Some x → P x)
      → (items : List (List ℕ)) → AllByRecursion P (filter_map read items)
  each_read P holds [] = tt
  each_read P holds (word ∷ items) = by (read word) refl (each_read P holds items)
    where
      by : (o : Option T) → read word ≡ o → AllByRecursion P (filter_map read items) → AllByRecursion P (cons_option o (filter_map read items))
      by None is rest = rest
      by (Some x) is rest = (holds word x is, rest)
