-- One more use noted.
use Rattle.std.proofs.Common.{◌≡◌, ℕ, zero, suc, ◌+◌, ◌<◌, Bool, true, false, not, cond, nat_lt, List, [], ◌∷◌, ◌++◌, length, get_or, Some, None, refl, sym, ap, ◌∙◌, arith, length-append, append-nil, append_assoc}
use Rattle.std.specs.List.{AllByRecursion, list_any, position, position_or_len}
use Rattle.std.proofs.lemmas.Bool.Decides.{Decides-ltb}
use Rattle.symbolic_values.specs.FirstUses.{noted, first_uses}

-- Either one passes, and the place of the first is one of the list, or none does, and the place is behind it.
pub data Searched {X : Type 0} (p : X → Bool) (xs : List X) : Type 0 where
  found : list_any p xs ≡ true → position_or_len p xs < length xs → Searched p xs
  absent : list_any p xs ≡ false → position_or_len p xs ≡ length xs → Searched p xs

searched_behind : {X : Type 0} (p : X → Bool) (x : X) (xs : List X) (b : Bool) → p x ≡ b → Searched p xs → Searched p (x ∷ xs)
searched_behind p x xs true passes rest = found (rw passes refl) (rw passes (omega arith))
searched_behind p x xs false fails (found any place) = found (rw fails any) (rw fails (omega arith))
searched_behind p x xs false fails (absent none place) = absent (rw fails none) (rw fails (omega (arith, place)))

pub searched : {X : Type 0} (p : X → Bool) (xs : List X) → Searched p xs
searched p [] = absent refl refl
searched p (x ∷ xs) = searched_behind p x xs (p x) refl (searched p xs)

-- ---- a place among more

pub place_prefix : {X : Type 0} (p : X → Bool) (xs ys : List X) → position_or_len p xs < length xs → position_or_len p (xs ++ ys) ≡ position_or_len p xs
place_prefix p [] ys there = absurd (omega arith)
place_prefix p (x ∷ xs) ys there =
    elim (p x) as (λ b. cond (not b) (1 + position_or_len p xs) 0 < suc (length xs) → cond (not b) (1 + position_or_len p (xs ++ ys)) 0 ≡ cond (not b) (1 + position_or_len p xs) 0) [
      | true ↦ λ _. refl
      | false ↦ λ below. ap (λ n. 1 + n) (place_prefix p xs ys (omega (arith, below)))
    ] there

pub place_behind : {X : Type 0} (p : X → Bool) (xs : List X) (y : X) → position_or_len p xs ≡ length xs → p y ≡ true → position_or_len p (xs ++ y ∷ []) ≡ length xs
place_behind p [] y none passes = rw passes refl
place_behind p (x ∷ xs) y none passes =
    elim (p x) as (λ b. cond (not b) (1 + position_or_len p xs) 0 ≡ suc (length xs) → cond (not b) (1 + position_or_len p (xs ++ y ∷ [])) 0 ≡ suc (length xs)) [
      | true ↦ λ wrong. absurd (omega (arith, wrong))
      | false ↦ λ rest. let behind : position_or_len p (xs ++ y ∷ []) ≡ length xs = place_behind p xs y (omega (arith, rest)) passes in omega (arith, behind)
    ] none

-- ---- noting

module _ {X : Type 0} (same : X → X → Bool) where
  pub noted_known : (known : List X) (u : X) → list_any (same u) known ≡ true → noted same known u ≡ known
  noted_known known u any = rw any refl

  pub noted_new : (known : List X) (u : X) → list_any (same u) known ≡ false → noted same known u ≡ known ++ u ∷ []
  noted_new known u none = rw none refl

  -- A use stands where it did, or behind all others.
  pub place-noted : (known : List X) (u : X) → same u u ≡ true → position_or_len (same u) (noted same known u) ≡ position_or_len (same u) known
  place-noted known u itself = by (searched (same u) known)
    where
      by : Searched (same u) known → position_or_len (same u) (noted same known u) ≡ position_or_len (same u) known
      by (found any place) = rw (noted_known known u any) refl
      by (absent none place) = rw (noted_new known u none) (place_behind (same u) known u place itself ∙ sym place)

  pub noted_there : (known : List X) (u : X) → same u u ≡ true → position_or_len (same u) (noted same known u) < length (noted same known u)
  noted_there known u itself = by (searched (same u) known)
    where
      by : Searched (same u) known → position_or_len (same u) (noted same known u) < length (noted same known u)
      by (found any place) = rw (noted_known known u any) place
      by (absent none place) = rw (noted_new known u none) (omega (arith, place_behind (same u) known u place itself, length-append known (u ∷ [])))

  pub place_there : (known : List X) (u : X) → same u u ≡ true → position_or_len (same u) known < length (noted same known u)
  place_there known u itself = omega (arith, place-noted known u itself, noted_there known u itself)

  -- ---- whatever is noted behind, the prefix stays

  pub data Extends (known later : List X) : Type 0 where
    by_more : (more : List X) → later ≡ known ++ more → Extends known later

  noted_extends : (known : List X) (u : X) → Extends known (noted same known u)
  noted_extends known u = by (searched (same u) known)
    where
      by : Searched (same u) known → Extends known (noted same known u)
      by (found any place) = by_more [] (noted_known known u any ∙ sym (append-nil known))
      by (absent none place) = by_more (u ∷ []) (noted_new known u none)

  extends_on : (a b c : List X) → Extends a b → Extends b c → Extends a c
  extends_on a b c (by_more xs first) (by_more ys second) = by_more (xs ++ ys) (second ∙ ap (λ l. l ++ ys) first ∙ append_assoc a xs ys)

  pub first_uses_extend : (known us : List X) → Extends known (first_uses same known us)
  first_uses_extend known [] = by_more [] (sym (append-nil known))
  first_uses_extend known (u ∷ us) = extends_on known (noted same known u) _ (noted_extends known u) (first_uses_extend (noted same known u) us)

  -- ---- looking a use up

  pub record IsFoundAt (known : List X) (u : X) (place : ℕ) : Type 0 where
    pub noted_is : noted same known u ≡ known
    pub place_is : place ≡ position_or_len (same u) known

  pub record IsNew (known : List X) (u : X) : Type 0 where
    pub noted_is : noted same known u ≡ known ++ u ∷ []
    pub place_is : length known ≡ position_or_len (same u) known

  looked_up_there : (known : List X) (u : X) → position_or_len (same u) known < length known → position (same u) known ≡ Some (position_or_len (same u) known)
  looked_up_there known u there = ap (λ b. cond b (Some (position_or_len (same u) known)) None) ((Decides-ltb (position_or_len (same u) known) (length known)).1 there)

  looked_up_none : (known : List X) (u : X) → position_or_len (same u) known ≡ length known → position (same u) known ≡ None
  looked_up_none known u none = by (nat_lt (position_or_len (same u) known) (length known)) refl
    where
      by : (b : Bool) → nat_lt (position_or_len (same u) known) (length known) ≡ b → position (same u) known ≡ None
      by true is = absurd (omega (arith, none, (Decides-ltb (position_or_len (same u) known) (length known)).0 is))
      by false is = ap (λ b. cond b (Some (position_or_len (same u) known)) None) is

  pub found_at : (known : List X) (u : X) (place : ℕ) → position (same u) known ≡ Some place → IsFoundAt known u place
  found_at known u place is = by (searched (same u) known)
    where
      by : Searched (same u) known → IsFoundAt known u place
      by (found any there) = let up : position (same u) known ≡ Some (position_or_len (same u) known) = looked_up_there known u there in record { noted_is = noted_known known u any; place_is = cc }
      by (absent none behind) = let up : position (same u) known ≡ None = looked_up_none known u behind in record { noted_is = cc; place_is = cc }

  pub not_found : (known : List X) (u : X) → position (same u) known ≡ None → IsNew known u
  not_found known u is = by (searched (same u) known)
    where
      by : Searched (same u) known → IsNew known u
      by (found any there) = let up : position (same u) known ≡ Some (position_or_len (same u) known) = looked_up_there known u there in record { noted_is = cc; place_is = cc }
      by (absent none behind) = record { noted_is = noted_new known u none; place_is = sym behind }

  -- ---- what holds of each

  AllPush : (P : X → Type 0) (xs : List X) (y : X) → AllByRecursion P xs → P y → AllByRecursion P (xs ++ y ∷ [])
  AllPush P [] y all here = (here, tt)
  AllPush P (x ∷ xs) y all here = (all.0, AllPush P xs y all.1 here)

  pub all_noted : (P : X → Type 0) (known : List X) (u : X) → AllByRecursion P known → P u → AllByRecursion P (noted same known u)
  all_noted P known u all here = by (searched (same u) known)
    where
      by : Searched (same u) known → AllByRecursion P (noted same known u)
      by (found any place) = rw (noted_known known u any) all
      by (absent none place) = rw (noted_new known u none) (AllPush P known u all here)

pub all_at : {X : Type 0} (P : X → Type 0) (xs : List X) (i : ℕ) (d : X) → AllByRecursion P xs → i < length xs → P (get_or xs i d)
all_at P [] i d all below = absurd (omega arith)
all_at P (x ∷ xs) zero d all below = all.0
all_at P (x ∷ xs) (suc i) d all below = all_at P xs i d all.1 (omega (arith, below))
