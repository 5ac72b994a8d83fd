-- The key of two equal constants stands before all others.
use Rattle.std.proofs.Common.{◌≡◌, ℕ, suc, ◌+◌, ℤ, pos, ◌-ℤ◌, true, false, List, ◌∷◌, get_or, refl, sym, ap, ◌∙◌, arith, add-one}
use Rattle.std.proofs.lemmas.Int.{ints}
use Rattle.std.specs.List.{position_or_len}
use Rattle.symbolic_values.specs.declared.pairs.Key.{Key}
use Rattle.symbolic_values.specs.FirstUses.{noted}
use Rattle.symbolic_values.specs.Pairing.{same_key, origin, named, name_at, number_in}
use Rattle.symbolic_values.proofs.Keys.{same_itself}
use Rattle.symbolic_values.proofs.Noting.{Searched, found, absent, searched, place-noted}

less_zero : (z : ℤ) → (z -ℤ pos 0) ≡ z
less_zero z = omega (arith, ints)

-- A use of it is none that is new, and is named by the number 0.
pub noted_origin : (known : List Key) (u : Key) → same_key u origin ≡ true → noted same_key (origin ∷ known) u ≡ origin ∷ known
noted_origin known u is = rw is refl

pub named_origin : (known : List Key) (u : Key) → same_key u origin ≡ true → named (origin ∷ known) u ≡ record { sym = 0; k = u.first }
named_origin known u is =
    let number : number_in (origin ∷ known) u ≡ 0 = rw is refl in
    ap (name_at (origin ∷ known) u.first) number ∙ ap (λ (z : ℤ). record { sym = 0; k = z }) (less_zero u.first)

-- Any other use is looked for behind it.
pub noted_other : (known : List Key) (u : Key) → same_key u origin ≡ false → noted same_key (origin ∷ known) u ≡ origin ∷ noted same_key known u
noted_other known u is = by (searched (same_key u) known)
  where
    by : Searched (same_key u) known → noted same_key (origin ∷ known) u ≡ origin ∷ noted same_key known u
    by (found any place) = rw (is, any) refl
    by (absent none place) = rw (is, none) refl

pub number_other : (known : List Key) (u : Key) → same_key u origin ≡ false → number_in (origin ∷ noted same_key known u) u ≡ suc (position_or_len (same_key u) known)
number_other known u is = rw is (omega (arith, place-noted same_key known u (same_itself u)))

-- What the code makes of the place of a use among those that are known.
pub named_other : (known : List Key) (u : Key) (place : ℕ) (first : ℤ) → same_key u origin ≡ false → place ≡ position_or_len (same_key u) known
    → first ≡ (get_or (noted same_key known u) place origin).first
    → named (origin ∷ noted same_key known u) u ≡ record { sym = place + 1; k = u.first -ℤ first }
named_other known u place first is place_is first_is =
    let number : number_in (origin ∷ noted same_key known u) u ≡ suc place = number_other known u is ∙ ap suc (sym place_is) in
    ap (name_at (origin ∷ noted same_key known u) u.first) number
    ∙ ap (λ (z : ℤ). record { sym = suc place; k = u.first -ℤ z }) (sym first_is) ∙ ap (λ (n : ℕ). record { sym = n; k = u.first -ℤ first }) (sym (add-one place))
