-- Members of lists, and elements by their list index.
use Rattle.std.proofs.Common.{◌≡◌, ◌⊎◌, ℕ, zero, suc, List, [], ◌∷◌, ◌++◌, map, take, Some, slice_get, refl, subst, inl, inr, arith}
use Rattle.std.specs.Prelude.{Contains}
use Rattle.std.specs.List.{AllByRecursion}
use Rattle.std.proofs.lemmas.Option.{none-some, same_Some}
use Rattle.answer_lines.proofs.WholeLines.{is_first, is_later}

-- ---- members

pub contains_first : {X : Type 0} (x y : X) (xs : List X) → Contains (x ∷ xs) y → (x ≡ y) ⊎ Contains xs y
contains_first x y xs (zero, below, same) = inl same
contains_first x y xs (suc k, below, same) = inr (k, omega (arith, below), same)

pub contains_behind : {X : Type 0} (xs ys : List X) (y : X) → Contains (xs ++ ys) y → Contains xs y ⊎ Contains ys y
contains_behind [] ys y has = inr has
contains_behind (x ∷ xs) ys y has =
    elim (contains_first x y (xs ++ ys) has) [
      | inl same ↦ inl (0, omega arith, same)
      | inr later ↦
          elim (contains_behind xs ys y later) [
            | inl (k, below, same) ↦ inl (suc k, omega (arith, below), same)
            | inr other ↦ inr other
          ]
    ]

pub none_contained : {X : Type 0} (y : X) → Contains [] y → ⊥
none_contained y (k, below, same) = omega (arith, below)

-- A member of the first elements is one of all.
pub in_prefix : {X : Type 0} (n : ℕ) (xs : List X) (x : X) → Contains (take n xs) x → Contains xs x
in_prefix zero xs x has = absurd (none_contained x has)
in_prefix (suc n) [] x has = absurd (none_contained x has)
in_prefix (suc n) (first ∷ xs) x has =
    elim (contains_first first x (take n xs) has) [
      | inl same ↦ is_first first x xs same
      | inr later ↦ is_later first x xs (in_prefix n xs x later)
    ]

-- An element of what a list is mapped to comes of an element of the list.
pub contains_map : {X Y : Type 0} (f : X → Y) (xs : List X) (y : Y) → Contains (map f xs) y → (x : X) × Contains xs x × (f x ≡ y)
contains_map f [] y has = absurd (none_contained y has)
contains_map f (x ∷ xs) y has =
    elim (contains_first (f x) y (map f xs) has) [
      | inl same ↦ (x, (0, omega arith, refl), same)
      | inr later ↦
          let there = contains_map f xs y later in
          (there.0, (suc there.1.0, omega (arith, there.1.1), there.1.2), there.2)
    ]

-- What holds of all that a list is mapped to holds of what each element is.
pub all_at : {X Y : Type 0} (P : Y → Type 0) (f : X → Y) (xs : List X) (x : X) → AllByRecursion P (map f xs) → Contains xs x → P (f x)
all_at P f [] x all has = absurd (none_contained x has)
all_at P f (other ∷ xs) x all has =
    elim (contains_first other x xs has) [
      | inl same ↦ subst (λ z. P (f z)) same all.0
      | inr later ↦ all_at P f xs x all.1 later
    ]

-- What holds of all holds of each member.
pub held_of : {X : Type 0} (P : X → Type 0) (xs : List X) (x : X) → AllByRecursion P xs → Contains xs x → P x
held_of P [] x all has = absurd (none_contained x has)
held_of P (first ∷ xs) x all has =
    elim (contains_first first x xs has) [
      | inl same ↦ subst P same all.0
      | inr later ↦ held_of P xs x all.1 later
    ]

-- What holds of each member holds of all.
pub all_of_each : {X : Type 0} (P : X → Type 0) (xs : List X) → ((x : X) → Contains xs x → P x) → AllByRecursion P xs
all_of_each P [] each = tt
all_of_each P (x ∷ xs) each = (each x (is_first x x xs refl), all_of_each P xs (λ other has. each other (is_later x other xs has)))

-- ---- elements by their list index

pub contained_at : {X : Type 0} (xs : List X) (index : ℕ) (x : X) → slice_get xs index ≡ Some x → Contains xs x
contained_at [] index x is = absurd (none-some x is)
contained_at (y ∷ xs) zero x is = (0, omega arith, same_Some y x is)
contained_at (y ∷ xs) (suc index) x is =
    let (place, below, same) = contained_at xs index x is in (suc place, omega (arith, below), same)

-- One of the first elements is the one of that index.
pub taken_at : {X : Type 0} (n : ℕ) (xs : List X) (index : ℕ) (x : X) → slice_get (take n xs) index ≡ Some x → slice_get xs index ≡ Some x
taken_at zero xs index x is = absurd (none-some x is)
taken_at (suc n) [] index x is = absurd (none-some x is)
taken_at (suc n) (first ∷ xs) zero x is = is
taken_at (suc n) (first ∷ xs) (suc index) x is = taken_at n xs index x is

-- What is so of all is so of the one of an index.
pub held_at : {X : Type 0} (P : X → Type 0) (xs : List X) (index : ℕ) (x : X) → AllByRecursion P xs → slice_get xs index ≡ Some x → P x
held_at P [] index x all is = absurd (none-some x is)
held_at P (first ∷ xs) zero x all is = subst P (same_Some first x is) all.0
held_at P (first ∷ xs) (suc index) x all is = held_at P xs index x all.1 is

-- The element of an index, of what a list is mapped to.
pub mapped_at : {X Y : Type 0} (f : X → Y) (xs : List X) (index : ℕ) (x : X) (y : Y) → slice_get xs index ≡ Some x → slice_get (map f xs) index ≡ Some y → f x ≡ y
mapped_at f [] index x y at is = absurd (none-some x at)
mapped_at f (first ∷ xs) zero x y at is = let same = same_Some first x at in subst (λ z. f z ≡ y) same (same_Some (f first) y is)
mapped_at f (first ∷ xs) (suc index) x y at is = mapped_at f xs index x y at is
