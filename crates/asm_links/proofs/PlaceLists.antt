-- Lists of types that are gone through one by one.
use Rattle.std.proofs.Common.{◌≡◌, ℕ, zero, suc, ◌+◌, ◌<◌, ◌≤◌, ◌==◌, ◌&&◌, Bool, true, false, List, [], ◌∷◌, ◌++◌, drop, length, take, Some, None, slice_get, refl, sym, ap, ◌∙◌, subst, arith, true≢false}
use Rattle.std.specs.Prelude.{fold}
use Rattle.std.proofs.lemmas.Bool.{eq-eqb}
use Rattle.std.proofs.lemmas.List.{drop_all, take_all, length-take-le}
use Rattle.std.proofs.lemmas.Option.{none-some, same_Some}
use Rattle.asm_links.specs.Keys.{number_in, places_input, same_places}
use Rattle.cil_model.specs.Places.{place_number}
use Rattle.cil_model.specs.declared.place.Place.{Place}

-- ---- compared

differ : (xs ys : List Place) → (length xs ≡ length ys → ⊥) → false ≡ same_places xs ys
differ [] [] apart = absurd (apart refl)
differ [] (y ∷ ys) apart = refl
differ (x ∷ xs) [] apart = refl
differ (x ∷ xs) (y ∷ ys) apart = by (place_number x == place_number y) (differ xs ys (λ same. apart (ap suc same)))
  where
    by : (b : Bool) → false ≡ same_places xs ys → false ≡ (b && same_places xs ys)
    by true rest = rest
    by false rest = refl

-- Lists that are not of one length differ.
pub long_differ : (xs ys : List Place) (n m : ℕ) → n ≡ length xs → m ≡ length ys → (n == m) ≡ false → false ≡ same_places xs ys
long_differ xs ys n m one other apart = differ xs ys (λ same. by (one ∙ same ∙ sym other) apart)
  where
    by : n ≡ m → (n == m) ≡ false → ⊥
    by same apart = true≢false (sym (eq-eqb n m same) ∙ apart)

-- Both lists from an index on, where each has something there.
split_suc : (xs : List Place) (index : ℕ) → index < length xs → (x : Place) × (slice_get xs index ≡ Some x) × (drop index xs ≡ x ∷ drop (suc index) xs)
split_suc [] index lt = absurd (omega (arith, lt))
split_suc (x ∷ xs) zero lt = (x, refl, refl)
split_suc (x ∷ xs) (suc index) lt = split_suc xs index (omega (arith, lt))

split_at : (xs : List Place) (index : ℕ) → index < length xs → (x : Place) × (slice_get xs index ≡ Some x) × (drop index xs ≡ x ∷ drop (index + 1) xs)
split_at xs index lt =
    let found = split_suc xs index lt in
    let on : suc index ≡ index + 1 = omega arith in (found.0, found.1, found.2 ∙ ap (λ (n : ℕ). found.0 ∷ drop n xs) on)

number_here : (xs : List Place) (index : ℕ) (x : Place) → slice_get xs index ≡ Some x → number_in xs index ≡ place_number x
number_here xs index x is = rw is refl

now : (xs ys : List Place) (index : ℕ) → index < length xs → length xs ≡ length ys
    → same_places (drop index xs) (drop index ys) ≡ ((number_in xs index == number_in ys index) && same_places (drop (index + 1) xs) (drop (index + 1) ys))
now xs ys index lt long =
    let x = split_at xs index lt in
    let y = split_at ys index (omega (arith, lt, long)) in
    (λ i. same_places (x.2 i) (y.2 i))
    ∙ ap (λ (n : ℕ). (n == place_number y.0) && same_places (drop (index + 1) xs) (drop (index + 1) ys)) (sym (number_here xs index x.0 x.1))
    ∙ ap (λ (n : ℕ). (number_in xs index == n) && same_places (drop (index + 1) xs) (drop (index + 1) ys)) (sym (number_here ys index y.0 y.1))

pub same_here : (xs ys : List Place) (index : ℕ) → index < length xs → length xs ≡ length ys → same_places (drop index xs) (drop index ys) ≡ same_places xs ys
    → (number_in xs index == number_in ys index) ≡ true → same_places (drop (index + 1) xs) (drop (index + 1) ys) ≡ same_places xs ys
same_here xs ys index lt long so_far same =
    sym (ap (λ b. b && same_places (drop (index + 1) xs) (drop (index + 1) ys)) same) ∙ sym (now xs ys index lt long) ∙ so_far

pub differ_here : (xs ys : List Place) (index : ℕ) → index < length xs → length xs ≡ length ys → same_places (drop index xs) (drop index ys) ≡ same_places xs ys
    → (number_in xs index == number_in ys index) ≡ false → false ≡ same_places xs ys
differ_here xs ys index lt long so_far other =
    sym (ap (λ b. b && same_places (drop (index + 1) xs) (drop (index + 1) ys)) other) ∙ sym (now xs ys index lt long) ∙ so_far

pub same_to_end : (xs ys : List Place) (index : ℕ) → length xs ≤ index → length xs ≡ length ys → same_places (drop index xs) (drop index ys) ≡ same_places xs ys
    → true ≡ same_places xs ys
same_to_end xs ys index past long so_far =
    sym (λ i. same_places (drop_all index xs past i) (drop_all index ys (subst (λ (n : ℕ). n ≤ index) long past) i)) ∙ so_far

-- ---- fed to a hash function

-- One type more.
pub fed_here : {S : Type 0} (write : S → List ℕ → S) (start state next : S) (places : List Place) (index number : ℕ) → index < length places
    → fold write state (places_input (drop index places)) ≡ fold write start (places_input places) → number ≡ number_in places index
    → next ≡ write state (number ∷ []) → fold write next (places_input (drop (index + 1) places)) ≡ fold write start (places_input places)
fed_here write start state next places index number lt so_far number_is is =
    let x = split_at places index lt in
    ap (λ s. fold write s (places_input (drop (index + 1) places))) (is ∙ ap (λ (n : ℕ). write state (n ∷ [])) (number_is ∙ number_here places index x.0 x.1))
    ∙ sym (ap (λ (ps : List Place). fold write state (places_input ps)) x.2) ∙ so_far

pub fed_to_end : {S : Type 0} (write : S → List ℕ → S) (start state : S) (places : List Place) (index : ℕ) → length places ≤ index
    → fold write state (places_input (drop index places)) ≡ fold write start (places_input places) → state ≡ fold write start (places_input places)
fed_to_end write start state places index past so_far = sym (ap (λ (ps : List Place). fold write state (places_input ps)) (drop_all index places past)) ∙ so_far

-- ---- copied

taken_suc : (places : List Place) (index : ℕ) (place : Place) → slice_get places index ≡ Some place → take (suc index) places ≡ take index places ++ place ∷ []
taken_suc [] index place is = absurd (none-some place is)
taken_suc (first ∷ places) zero place is = ap (λ (p : Place). p ∷ []) (same_Some first place is)
taken_suc (first ∷ places) (suc index) place is = ap (λ (ps : List Place). first ∷ ps) (taken_suc places index place is)

taken : (places : List Place) (index : ℕ) (place : Place) → slice_get places index ≡ Some place → take (index + 1) places ≡ take index places ++ place ∷ []
taken places index place is = let on : index + 1 ≡ suc index = omega arith in ap (λ (n : ℕ). take n places) on ∙ taken_suc places index place is

pub copied : (places copy new : List Place) (index : ℕ) (place : Place) → copy ≡ take index places → Some place ≡ slice_get places index → new ≡ copy ++ place ∷ []
    → new ≡ take (index + 1) places
copied places copy new index place so_far is more = more ∙ ap (λ (ps : List Place). ps ++ place ∷ []) so_far ∙ sym (taken places index place (sym is))

untaken_suc : (places : List Place) (index : ℕ) → slice_get places index ≡ None → take index places ≡ take (suc index) places
untaken_suc [] zero none = refl
untaken_suc [] (suc index) none = refl
untaken_suc (first ∷ places) zero none = absurd (none-some first (sym none))
untaken_suc (first ∷ places) (suc index) none = ap (λ (ps : List Place). first ∷ ps) (untaken_suc places index none)

untaken : (places : List Place) (index : ℕ) → slice_get places index ≡ None → take index places ≡ take (index + 1) places
untaken places index none = let on : suc index ≡ index + 1 = omega arith in untaken_suc places index none ∙ ap (λ (n : ℕ). take n places) on

pub not_copied : (places copy : List Place) (index : ℕ) → copy ≡ take index places → None ≡ slice_get places index → copy ≡ take (index + 1) places
not_copied places copy index so_far none = so_far ∙ untaken places index (sym none)

pub copy_room : (places copy : List Place) (index : ℕ) → copy ≡ take index places → index < length places → length places ≤ 256 → length copy < 256
copy_room places copy index so_far lt few = omega (arith, ap length so_far, length-take-le index places, lt, few)

pub copied_all : (places copy : List Place) (index : ℕ) → copy ≡ take index places → length places ≤ index → copy ≡ places
copied_all places copy index so_far past = so_far ∙ take_all index places past
