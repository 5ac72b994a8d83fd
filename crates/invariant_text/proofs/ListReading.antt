-- Of two texts that begin with the texts of a list's items and then go on otherwise, the lists are the same where the
-- texts are.
use Rattle.std.proofs.Common.{◌≡◌, ℕ, ◌+◌, Bool, true, false, List, [], ◌∷◌, ◌++◌, length, map, refl, sym, ap, ap₂, ◌∙◌}
use Rattle.std.proofs.Common.{append_assoc}
use Rattle.std.specs.List.{AllByRecursion, flat_map, zip}
use Rattle.std.proofs.lemmas.Bool.{true≢false}
use Rattle.std.proofs.lemmas.Slice.Zip.{firsts-zip, seconds-zip}
use Rattle.invariant_text.specs.Lines.{numbered}

-- Each item, by its number, has the property.
abbrev pub AllFrom : {X : Type 0} → (ℕ → X → Type 0) → ℕ → List X → Type 0
AllFrom Is n [] = Unit {0}
AllFrom Is n (x ∷ xs) = Is n x × AllFrom Is (n + 1) xs

-- An item's text begins as no other text does, ends an item before it, and is read where such a text follows.
pub record AreRead {X : Type 0} (text_of : ℕ → X → List ℕ) (Is : ℕ → X → Type 0) (Ends : List ℕ → Type 0)
    (begins : List ℕ → Bool) : Type 0 where
  pub begun : (n : ℕ) (x : X) (r : List ℕ) → Is n x → begins (text_of n x ++ r) ≡ true
  pub ends : (n : ℕ) (x : X) (r : List ℕ) → Is n x → Ends (text_of n x ++ r)
  pub read : (n : ℕ) (x y : X) (r q : List ℕ) → Is n x → Is n y → Ends r → Ends q → text_of n x ++ r ≡ text_of n y ++ q
      → (x ≡ y) × (r ≡ q)

items_end : {X : Type 0} (text_of : ℕ → X → List ℕ) (Is : ℕ → X → Type 0) (Ends : List ℕ → Type 0) (begins : List ℕ
    → Bool)
    → AreRead text_of Is Ends begins → (n : ℕ) (xs : List X) (r : List ℕ) → AllFrom Is n xs → Ends r
    → Ends (numbered text_of n xs ++ r)
items_end text_of Is Ends begins laws n [] r all ends = ends
items_end text_of Is Ends begins laws n (x ∷ xs) r all ends =
    rw (append_assoc (text_of n x) (numbered text_of (n + 1) xs) r)
    (laws.ends n x (numbered text_of (n + 1) xs ++ r) all.0)

pub items_read : {X : Type 0} (text_of : ℕ → X → List ℕ) (Is : ℕ → X → Type 0) (Ends : List ℕ → Type 0) (begins : List ℕ
    → Bool)
    → AreRead text_of Is Ends begins → (n : ℕ) (xs ys : List X) (r q : List ℕ) → AllFrom Is n xs → AllFrom Is n ys
    → Ends r → Ends q → begins r ≡ false → begins q ≡ false → numbered text_of n xs ++ r ≡ numbered text_of n ys ++ q
    → (xs ≡ ys) × (r ≡ q)
items_read text_of Is Ends begins laws n [] [] r q firsts seconds r_ends q_ends r_other q_other same = (refl, same)
items_read text_of Is Ends begins laws n [] (y ∷ ys) r q firsts seconds r_ends q_ends r_other q_other same =
    let rest = numbered text_of (n + 1) ys in
    absurd (true≢false (sym (laws.begun n y (rest ++ q) seconds.0)
    ∙ ap begins (sym (append_assoc (text_of n y) rest q) ∙ sym same) ∙ r_other))
items_read text_of Is Ends begins laws n (x ∷ xs) [] r q firsts seconds r_ends q_ends r_other q_other same =
    let rest = numbered text_of (n + 1) xs in
    absurd (true≢false (sym (laws.begun n x (rest ++ r) firsts.0)
    ∙ ap begins (sym (append_assoc (text_of n x) rest r) ∙ same) ∙ q_other))
items_read text_of Is Ends begins laws n (x ∷ xs) (y ∷ ys) r q firsts seconds r_ends q_ends r_other q_other same =
    let rest = numbered text_of (n + 1) xs in
    let others = numbered text_of (n + 1) ys in
    let one = laws.read n x y (rest ++ r) (others ++ q) firsts.0 seconds.0
    (items_end text_of Is Ends begins laws (n + 1) xs r firsts.1 r_ends)
    (items_end text_of Is Ends begins laws (n + 1) ys q seconds.1 q_ends)
    (sym (append_assoc (text_of n x) rest r) ∙ same ∙ append_assoc (text_of n y) others q) in
    let more = items_read text_of Is Ends begins laws (n + 1) xs ys r q firsts.1 seconds.1 r_ends q_ends r_other q_other
    one.1 in
    (ap₂ (λ z zs. z ∷ zs) one.0 more.0, more.1)

-- ---- items without a number

pub flat_numbered : {X : Type 0} (f : X → List ℕ) (n : ℕ) (xs : List X) → flat_map f xs ≡ numbered (λ k x. f x) n xs
flat_numbered f n [] = refl
flat_numbered f n (x ∷ xs) = ap (λ (text : List ℕ). f x ++ text) (flat_numbered f (n + 1) xs)

pub all_from : {X : Type 0} (P : X → Type 0) (n : ℕ) (xs : List X) → AllByRecursion P xs → AllFrom (λ k x. P x) n xs
all_from P n [] all = tt
all_from P n (x ∷ xs) all = (all.0, all_from P (n + 1) xs all.1)

-- ---- items of two lists

pub zip_same : {X Y : Type 0} (xs us : List X) (ys vs : List Y) → length ys ≡ length xs → length vs ≡ length us
    → zip xs ys ≡ zip us vs
    → (xs ≡ us) × (ys ≡ vs)
zip_same {X} {Y} xs us ys vs first second same = (
  sym (firsts-zip xs ys first) ∙ ap (map (λ (p : X × Y). p.0)) same ∙ firsts-zip us vs second,
  sym (seconds-zip xs ys first) ∙ ap (map (λ (p : X × Y). p.1)) same ∙ seconds-zip us vs second,
)

pub all_zip : {X Y : Type 0} (P : X → Type 0) (Q : Y → Type 0) (xs : List X) (ys : List Y) → AllByRecursion P xs
    → AllByRecursion Q ys
    → AllByRecursion (λ p. P p.0 × Q p.1) (zip xs ys)
all_zip P Q [] ys firsts seconds = tt
all_zip P Q (x ∷ xs) [] firsts seconds = tt
all_zip P Q (x ∷ xs) (y ∷ ys) firsts seconds = ((firsts.0, seconds.0), all_zip P Q xs ys firsts.1 seconds.1)
