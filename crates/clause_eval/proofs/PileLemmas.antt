-- What is known of lists that lie one above another.
use Rattle.std.proofs.Common.{◌≡◌, ℕ, zero, suc, ◌+◌, ◌-◌, ◌<◌, ◌≤◌, List, [], ◌∷◌, ◌++◌, length, get_or, reverse, take, drop, drop-cons, slice_set, refl, sym, ap, ◌∙◌, arith, length-drop}
use Rattle.std.proofs.lemmas.List.{drop-set-add, length-reverse, length-take-le, reverse-append, set-append_left, take-append-drop, take-set-le}
use Rattle.std.proofs.Math.ListN.{drop_of_length-le}
use Rattle.std.proofs.Math.Seq.{drop-append_seam, set-append_seam}
use Rattle.clause_eval.specs.Piles.{HasRoomFor}
use Rattle.clause_eval.specs.Piles.{Descend, cut_at, length_of_all, piled, size_of}

-- ---- how many there are

all_of_row : {X : Type 0} (starts : List ℕ) (row : List X) → Descend (length row) starts → length_of_all (cut_at starts row) ≡ length row
all_of_row [] row h = sym h
all_of_row (start ∷ starts) row h =
    let under : length (take start row) ≡ start = length-take-le start row h.0 in
    let rest = all_of_row starts (take start row) (rw under h.1) in
    omega (arith, length-reverse (drop start row), length-drop start row, under, rest)

pub row_size : {X : Type 0} (row : List X) (start : ℕ) (starts : List ℕ) (room depth : ℕ) → start ≤ length row → Descend start (reverse starts)
    → size_of (piled row start starts room depth) ≡ length row
row_size row start starts room depth inside descend =
    let under : length (take start row) ≡ start = length-take-le start row inside in
    let rest = all_of_row (reverse starts) (take start row) (rw under descend) in
    omega (arith, length-reverse (drop start row), length-drop start row, under, rest)

pub how_many_below : {X : Type 0} (starts : List ℕ) (row : List X) → length (cut_at starts row) ≡ length starts
how_many_below [] row = refl
how_many_below (start ∷ starts) row = ap suc (how_many_below starts (take start row))

pub how_many : {X : Type 0} (starts : List ℕ) (row : List X) → length (cut_at (reverse starts) row) ≡ length starts
how_many starts row = how_many_below (reverse starts) row ∙ length-reverse starts

-- ---- room

module _ {X : Type 0} (row : List X) (start : ℕ) (starts : List ℕ) (room depth count : ℕ) (inside : start ≤ length row) (descend : Descend start (reverse starts)) where
  pub room_for : length row + count ≤ room → length starts < depth → HasRoomFor count (piled row start starts room depth)
  room_for few less = record {
    items = omega (arith, row_size row start starts room depth inside descend);
    lists = omega (arith, how_many starts (take start row));
  }

  pub room_within : HasRoomFor count (piled row start starts room depth) → (length row + count ≤ room) × (length starts < depth)
  room_within h = (
    omega (arith, h.items, row_size row start starts room depth inside descend),
    omega (arith, h.lists, how_many starts (take start row)),
  )

-- ---- an item is replaced

turned_set : {X : Type 0} (xs : List X) (n j : ℕ) (v : X) → n + j + 1 ≡ length xs → reverse (slice_set xs j v) ≡ slice_set (reverse xs) n v
turned_set [] n j v e = absurd (omega arith)
turned_set (x ∷ ys) n zero v e =
    let last : n ≡ length (reverse ys) = omega (arith, length-reverse ys) in
    reverse-append (v ∷ []) ys ∙ sym (set-append_seam (reverse ys) x [] v)
    ∙ ap (λ k. slice_set (reverse ys ++ x ∷ []) k v) (sym last)
    ∙ ap (λ zs. slice_set zs n v) (sym (reverse-append (x ∷ []) ys))
turned_set (x ∷ ys) n (suc j) v e =
    let within : n < length (reverse ys) = omega (arith, length-reverse ys) in
    reverse-append (x ∷ []) (slice_set ys j v) ∙ ap (λ zs. zs ++ x ∷ []) (turned_set ys n j v (omega arith))
    ∙ sym (set-append_left (reverse ys) (x ∷ []) n v within)
    ∙ ap (λ zs. slice_set zs n v) (sym (reverse-append (x ∷ []) ys))

pub replaced_in_pile : {X : Type 0} (row : List X) (start : ℕ) (starts : List ℕ) (room depth n : ℕ) (v : X) → n + start < length row
    → piled (slice_set row (length row - 1 - n) v) start starts room depth
    ≡ record { top = slice_set (piled row start starts room depth).top n v; below = cut_at (reverse starts) (take start row); room = room; depth = depth }
replaced_in_pile row start starts room depth n v inside =
    let j = length row - 1 - n - start in
    let at : length row - 1 - n ≡ start + j = omega arith in
    let above : start ≤ length row - 1 - n = omega arith in
    let long : n + j + 1 ≡ length (drop start row) = omega (arith, length-drop start row) in
    let top : reverse (drop start (slice_set row (length row - 1 - n) v)) ≡ slice_set (reverse (drop start row)) n v =
    ap (λ k. reverse (drop start (slice_set row k v))) at ∙ ap reverse (drop-set-add start row j v) ∙ turned_set (drop start row) n j v long in
    let under : take start (slice_set row (length row - 1 - n) v) ≡ take start row = take-set-le start row (length row - 1 - n) v above in cc

-- ---- the last item

pub without_last : {X : Type 0} (xs : List X) → 1 ≤ length xs → reverse (take (length xs - 1) xs) ≡ drop 1 (reverse xs)
without_last xs some =
    let n = length xs - 1 in
    let a = take n xs in
    let b = drop n xs in
    let one : length (reverse b) ≡ 1 = omega (arith, length-reverse b, length-drop n xs) in
    let parts : reverse xs ≡ reverse b ++ reverse a = ap reverse (sym (take-append-drop n xs)) ∙ reverse-append a b in
    sym (ap (drop 1) parts ∙ ap (λ k. drop k (reverse b ++ reverse a)) (sym one) ∙ drop-append_seam (reverse b) (reverse a))

-- A list that is turned begins with its last item.
pub turned_last : {X : Type 0} (xs : List X) (d : X) → 1 ≤ length xs → reverse xs ≡ get_or xs (length xs - 1) d ∷ reverse (take (length xs - 1) xs)
turned_last xs d some =
    let n = length xs - 1 in
    let parts : reverse xs ≡ reverse (drop n xs) ++ reverse (take n xs) = ap reverse (sym (take-append-drop n xs)) ∙ reverse-append (take n xs) (drop n xs) in
    let last : drop n xs ≡ get_or xs n d ∷ drop (suc n) xs = drop-cons xs n d (omega arith) in
    let none : drop (suc n) xs ≡ [] = drop_of_length-le xs {i = suc n} (omega arith) in
    parts ∙ ap (λ (zs : List _). reverse zs ++ reverse (take n xs)) (last ∙ ap (λ zs. get_or xs n d ∷ zs) none)
