-- What is known of arrays in a flat row.
use Rattle.std.proofs.Common.{◌≡◌, ℕ, zero, suc, ◌+◌, ◌-◌, ◌<◌, ◌≤◌, ℤ, List, [], ◌∷◌, ◌++◌, length, map, take, drop, slice_get, slice_set, Some, refl, sym, ap, subst, ◌∙◌, arith, length-drop}
use Rattle.std.proofs.lemmas.List.{drop-set-lt, drop-set-add, take-set-le, take-append-le, drop-append-le, length-take-le}
use Rattle.std.proofs.lemmas.Option.{none-some, same_Some}
use Rattle.std.proofs.Math.Seq.{take-set-lt, drop-append_seam, take-length}
use Rattle.cil_model.specs.declared.machine.ArrayCell.{ArrayCell}
use Rattle.cil_model.specs.declared.place.Place.{Place}
use Rattle.clause_eval.specs.declared.memory.Array.{Array}
use Rattle.clause_eval.specs.Rows.{LieFrom, cell_in, heap_in}
use Rattle.clause_eval.specs.Stores.{cells_of}

-- ---- where an array lies

pub ends_behind : (n : ℕ) (ys : List Array) (end : ℕ) → LieFrom n ys end → n ≤ end
ends_behind n [] end h = omega (arith, h)
ends_behind n (a ∷ ys) end h = let rest = ends_behind (n + a.len) ys end h.1 in omega (arith, rest)

pub record LiesWithin (n end : ℕ) (a : Array) : Type 0 where
  pub from : n ≤ a.start
  pub to : a.start + a.len ≤ end

pub lies_within : (n : ℕ) (ys : List Array) (end i : ℕ) (a : Array) → LieFrom n ys end → slice_get ys i ≡ Some a → LiesWithin n end a
lies_within n [] end i a h e = absurd (none-some a e)
lies_within n (b ∷ bs) end zero a h e =
    let rest = ends_behind (n + b.len) bs end h.1 in
    let same : b ≡ a = same_Some b a e in
    subst (LiesWithin n end) same (record { from = omega (arith, h.0); to = omega (arith, h.0, rest) })
lies_within n (b ∷ bs) end (suc i) a h e =
    let rest = lies_within (n + b.len) bs end i a h.1 e in
    record { from = omega (arith, rest.from); to = rest.to }

-- ---- a cell is stored to

items_before : (cells : List ℤ) (j : ℕ) (v : ℤ) (a : Array) → a.start + a.len ≤ j → cell_in (slice_set cells j v) a ≡ cell_in cells a
items_before cells j v a h =
    let at : j ≡ a.start + (j - a.start) = omega arith in
    let past : a.len ≤ j - a.start = omega arith in
    ap (λ (items : List ℤ). record { place = a.place; items = items })
    (ap (λ (k : ℕ). take a.len (drop a.start (slice_set cells k v))) at
    ∙ ap (take a.len) (drop-set-add a.start cells (j - a.start) v)
    ∙ take-set-le a.len (drop a.start cells) (j - a.start) v past)

items_behind : (cells : List ℤ) (j : ℕ) (v : ℤ) (a : Array) → j < a.start → cell_in (slice_set cells j v) a ≡ cell_in cells a
items_behind cells j v a h = ap (λ (items : List ℤ). record { place = a.place; items = take a.len items }) (drop-set-lt a.start cells j v h)

all_behind : (cells : List ℤ) (j : ℕ) (v : ℤ) (n : ℕ) (ys : List Array) (end : ℕ) → LieFrom n ys end → j < n
    → heap_in (slice_set cells j v) ys ≡ heap_in cells ys
all_behind cells j v n [] end h below = refl
all_behind cells j v n (a ∷ ys) end h below =
    let here = items_behind cells j v a (omega (arith, h.0)) in
    let rest = all_behind cells j v (n + a.len) ys end h.1 (omega arith) in cc

abbrev with_one : List ℤ → Array → ℕ → ℤ → ArrayCell
with_one cells a k v = record { place = a.place; items = slice_set (take a.len (drop a.start cells)) k v }

items_here : (cells : List ℤ) (k : ℕ) (v : ℤ) (a : Array) → k < a.len → cell_in (slice_set cells (a.start + k) v) a ≡ with_one cells a k v
items_here cells k v a h =
    ap (λ (items : List ℤ). record { place = a.place; items = items })
    (ap (take a.len) (drop-set-add a.start cells k v) ∙ take-set-lt a.len (drop a.start cells) k v h)

pub stored_in : (cells : List ℤ) (n : ℕ) (ys : List Array) (end i : ℕ) (a : Array) (k : ℕ) (v : ℤ) → LieFrom n ys end → slice_get ys i ≡ Some a
    → k < a.len → heap_in (slice_set cells (a.start + k) v) ys ≡ slice_set (heap_in cells ys) i (with_one cells a k v)
stored_in cells n [] end i a k v h e within = absurd (none-some a e)
stored_in cells n (b ∷ bs) end zero a k v h e within =
    let same : b ≡ a = same_Some b a e in
    let here : cell_in (slice_set cells (a.start + k) v) b ≡ with_one cells a k v =
    ap (cell_in (slice_set cells (a.start + k) v)) same ∙ items_here cells k v a within in
    let starts : a.start ≡ n = ap (λ (x : Array). x.start) (sym same) ∙ h.0 in
    let long : b.len ≡ a.len = ap (λ (x : Array). x.len) same in
    let rest = all_behind cells (a.start + k) v (n + b.len) bs end h.1 (omega (arith, starts, long)) in cc
stored_in cells n (b ∷ bs) end (suc i) a k v h e within =
    let lies = lies_within (n + b.len) bs end i a h.1 e in
    let here = items_before cells (a.start + k) v b (omega (arith, h.0, lies.from)) in
    let rest = stored_in cells (n + b.len) bs end i a k v h.1 e within in cc

-- ---- one more array

abbrev pub behind : List ℤ → Place → ℕ → Array
behind cells place len = record { place = place; start = length cells; len = len }

kept_before : (cells more : List ℤ) (a : Array) → a.start + a.len ≤ length cells → cell_in (cells ++ more) a ≡ cell_in cells a
kept_before cells more a h =
    let starts : a.start ≤ length cells = omega arith in
    let long : a.len ≤ length (drop a.start cells) = omega (arith, length-drop a.start cells) in
    ap (λ (items : List ℤ). record { place = a.place; items = items })
    (ap (take a.len) (drop-append-le a.start cells more starts) ∙ take-append-le a.len (drop a.start cells) more long)

all_kept : (cells more : List ℤ) (n : ℕ) (ys : List Array) → LieFrom n ys (length cells) → heap_in (cells ++ more) ys ≡ heap_in cells ys
all_kept cells more n [] h = refl
all_kept cells more n (a ∷ ys) h =
    let end = ends_behind (n + a.len) ys (length cells) h.1 in
    let here = kept_before cells more a (omega (arith, h.0, end)) in
    let rest = all_kept cells more (n + a.len) ys h.1 in cc

map_push : {X Y : Type 0} (f : X → Y) (xs : List X) (x : X) → map f (xs ++ x ∷ []) ≡ map f xs ++ f x ∷ []
map_push f [] x = refl
map_push f (y ∷ ys) x = ap (λ zs. f y ∷ zs) (map_push f ys x)

new_cell : (cells more : List ℤ) (place : Place) (len : ℕ) → len ≡ length more → cell_in (cells ++ more) (behind cells place len) ≡ record { place = place; items = more }
new_cell cells more place len is =
    ap (λ (items : List ℤ). record { place = place; items = items })
    (ap (λ (k : ℕ). take k (drop (length cells) (cells ++ more))) is ∙ ap (take (length more)) (drop-append_seam cells more) ∙ take-length more)

pub one_more : (cells more : List ℤ) (ys : List Array) (place : Place) (len : ℕ) → LieFrom 0 ys (length cells) → len ≡ length more
    → heap_in (cells ++ more) (ys ++ behind cells place len ∷ []) ≡ heap_in cells ys ++ record { place = place; items = more } ∷ []
one_more cells more ys place len h is =
    let pushed = map_push (cell_in (cells ++ more)) ys (behind cells place len) in
    let kept = all_kept cells more 0 ys h in
    let new = new_cell cells more place len is in cc

pub lie_on : (n : ℕ) (ys : List Array) (end : ℕ) (a : Array) → LieFrom n ys end → a.start ≡ end → LieFrom n (ys ++ a ∷ []) (end + a.len)
lie_on n [] end a h e = (e ∙ sym h, ap (λ k. k + a.len) h)
lie_on n (b ∷ bs) end a h e = (h.0, lie_on (n + b.len) bs end a h.1 e)

-- ---- how many cells are taken

taken_from : (cells : List ℤ) (n : ℕ) (ys : List Array) → LieFrom n ys (length cells) → cells_of (heap_in cells ys) + n ≡ length cells + length ys
taken_from cells n [] h = omega (arith, h)
taken_from cells n (a ∷ ys) h =
    let end = ends_behind (n + a.len) ys (length cells) h.1 in
    let rest = taken_from cells (n + a.len) ys h.1 in
    let within : a.start + a.len ≤ length cells = omega (arith, h.0, end) in
    let long : length (take a.len (drop a.start cells)) ≡ a.len = length-take-le a.len (drop a.start cells) (omega (arith, length-drop a.start cells)) in
    omega (arith, rest, long)

pub taken : (cells : List ℤ) (ys : List Array) → LieFrom 0 ys (length cells) → cells_of (heap_in cells ys) ≡ length cells + length ys
taken cells ys h = omega (arith, taken_from cells 0 ys h)
