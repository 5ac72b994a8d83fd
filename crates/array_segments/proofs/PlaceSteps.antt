-- One more step of the searches for a place, and of a hull.
use Rattle.std.proofs.Common.{◌≡◌, ℕ, suc, ◌+◌, ◌<◌, ◌≤◌, Bool, true, false, List, [], ◌∷◌, ◌++◌, length, map, get_or, take, drop, arith, ap, sym, ◌∙◌, add-one, append_assoc, drop-cons}
use Rattle.std.proofs.lemmas.List.{map-append}
use Rattle.std.specs.List.{drop-map, fold, take-map}
use Rattle.std.specs.Prelude.{if◌then◌else◌}
use Rattle.array_segments.specs.Loading.{first_place, last_place}

drop_more : {X : Type 0} (xs : List X) (place : ℕ) (x : X) → place < length xs → x ≡ get_or xs place x → drop place xs ≡ x ∷ drop (place + 1) xs
drop_more xs place x below is = drop-cons xs place x below ∙ (λ i. (sym is i) ∷ drop (sym (add-one place) i) xs)

pub last_place_more : {X Y : Type 0} (test : Y → Bool) (view : X → Y) (xs : List X) (found place : ℕ) (x : X) → place < length xs → x ≡ get_or xs place x →
    last_place test found place (map view (drop place xs)) ≡ last_place test (if test (view x) then place else found) (place + 1) (map view (drop (place + 1) xs))
last_place_more test view xs found place x below is =
    ap (λ rest. last_place test found place (map view rest)) (drop_more xs place x below is)
    ∙ ap (λ next. last_place test (if test (view x) then place else found) next (map view (drop (place + 1) xs))) (sym (add-one place))

pub first_place_more : {X Y : Type 0} (test : Y → Bool) (view : X → Y) (xs : List X) (place : ℕ) (x : X) → place < length xs → x ≡ get_or xs place x →
    first_place test place (map view (drop place xs)) ≡ (if test (view x) then place else first_place test (place + 1) (map view (drop (place + 1) xs)))
first_place_more test view xs place x below is =
    ap (λ rest. first_place test place (map view rest)) (drop_more xs place x below is)
    ∙ ap (λ next. if test (view x) then place else first_place test next (map view (drop (place + 1) xs))) (sym (add-one place))

pub fold_more : {X : Type 0} (f : X → X → X) (xs : List X) (so_far : X) (place : ℕ) (x : X) → place < length xs → x ≡ get_or xs place x →
    fold f so_far (drop place xs) ≡ fold f (f so_far x) (drop (place + 1) xs)
fold_more f xs so_far place x below is = ap (fold f so_far) (drop_more xs place x below is)

-- ---- the places that are found

pick_below : (b : Bool) (m n limit : ℕ) → m < limit → n < limit → (if b then m else n) < limit
pick_below true m n limit low high = low
pick_below false m n limit low high = high

pick_above : (b : Bool) (m n least : ℕ) → least ≤ m → least ≤ n → least ≤ (if b then m else n)
pick_above true m n least low high = low
pick_above false m n least low high = high

pick_within : (b : Bool) (m n most : ℕ) → m ≤ most → n ≤ most → (if b then m else n) ≤ most
pick_within true m n most low high = low
pick_within false m n most low high = high

pub last_place_below : {X : Type 0} (test : X → Bool) (found place limit : ℕ) (xs : List X) → found < limit → place + length xs ≤ limit → last_place test found place xs < limit
last_place_below test found place limit [] low fits = low
last_place_below test found place limit (x ∷ xs) low fits =
    last_place_below test (if test x then place else found) (suc place) limit xs (pick_below (test x) place found limit (omega arith) low) (omega arith)

pub first_place_above : {X : Type 0} (test : X → Bool) (place : ℕ) (xs : List X) → place ≤ first_place test place xs
first_place_above test place [] = omega arith
first_place_above test place (x ∷ xs) =
    let later : suc place ≤ first_place test (suc place) xs = first_place_above test (suc place) xs in
    pick_above (test x) place (first_place test (suc place) xs) place (omega arith) (omega arith)

pub first_place_within : {X : Type 0} (test : X → Bool) (place : ℕ) (xs : List X) → first_place test place xs ≤ place + length xs
first_place_within test place [] = omega arith
first_place_within test place (x ∷ xs) =
    let later : first_place test (suc place) xs ≤ suc place + length xs = first_place_within test (suc place) xs in
    pick_within (test x) place (first_place test (suc place) xs) (place + suc (length xs)) (omega arith) (omega arith)

-- ---- the lists of bounds, as vectors hold them

pub starts_as_lists : {X Y : Type 0} (view : X → Y) (n : ℕ) (xs : List X) → map view (take n xs) ≡ take n (map view xs)
starts_as_lists view n xs = sym (take-map view n xs)

pub rest_as_lists : {X Y : Type 0} (view : X → Y) (n from : ℕ) (xs : List X) → map view (drop from (take n xs)) ≡ drop from (take n (map view xs))
rest_as_lists view n from xs = sym (drop-map view from (take n xs)) ∙ ap (drop from) (sym (take-map view n xs))

-- One more list copied.
pub copied_more : {X Y : Type 0} (view : X → Y) (again xs : List X) (place : ℕ) (x made : X) → place < length xs → x ≡ get_or xs place x → view made ≡ view x →
    map view (again ++ made ∷ []) ++ map view (drop (place + 1) xs) ≡ map view again ++ map view (drop place xs)
copied_more view again xs place x made below is same =
    ap (λ prefix. prefix ++ map view (drop (place + 1) xs)) (map-append view again (made ∷ []) ∙ ap (λ y. map view again ++ (y ∷ [])) same)
    ∙ append_assoc (map view again) (view x ∷ []) (map view (drop (place + 1) xs))
    ∙ ap (λ rest. map view again ++ map view rest) (sym (drop_more xs place x below is))
