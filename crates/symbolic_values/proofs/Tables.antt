-- A table of what tells uses apart, beside the uses.
use Rattle.std.proofs.Common.{◌≡◌, ℕ, ◌+◌, ◌<◌, ◌≤◌, Bool, true, false, ◌||◌, not, cond, nat_lt, List, [], ◌∷◌, ◌++◌, length, get_or, take, map, Some, None, refl, sym, ap, ◌∙◌}
use Rattle.std.specs.List.{list_any, position, position_or_len}
use Rattle.std.proofs.lemmas.List.{length-map, map-append, take_all, take_more}
use Rattle.symbolic_values.specs.FirstUses.{noted}
use Rattle.symbolic_values.proofs.Noting.{noted_known, noted_new}

module _ {X Y : Type 0} (same : X → X → Bool) (eq : Y → Y → Bool) (f : X → Y) (agree : (u k : X) → eq (f u) (f k) ≡ same u k) where
  any-table : (u : X) (known : List X) → list_any (eq (f u)) (map f known) ≡ list_any (same u) known
  any-table u [] = refl
  any-table u (k ∷ known) =
      ap (λ b. b || list_any (eq (f u)) (map f known)) (agree u k) ∙ ap (λ b. same u k || b) (any-table u known)

  place-table : (u : X) (known : List X) → position_or_len (eq (f u)) (map f known) ≡ position_or_len (same u) known
  place-table u [] = refl
  place-table u (k ∷ known) =
      ap (λ b. cond (not b) (1 + position_or_len (eq (f u)) (map f known)) 0) (agree u k)
      ∙ ap (λ n. cond (not (same u k)) (1 + n) 0) (place-table u known)

  pub position-table : (u : X) (id : Y) (known : List X) (table : List Y) → id ≡ f u → table ≡ map f known → position (eq id) table ≡ position (same u) known
  position-table u id known table id_is table_is =
      ap (λ y. position (eq y) table) id_is ∙ ap (position (eq (f u))) table_is
      ∙ ap (λ n. cond (nat_lt n (length (map f known))) (Some n) None) (place-table u known)
      ∙ ap (λ m. cond (nat_lt (position_or_len (same u) known) m) (Some (position_or_len (same u) known)) None) (length-map known f)

  -- What a table of the known uses tells of one more.
  pub record Tells (known : List X) (u : X) (is_new : Bool) (place : ℕ) : Type 0 where
    pub place_is : place ≡ position_or_len (same u) known
    pub is_known : is_new ≡ false → noted same known u ≡ known
    pub is_behind : is_new ≡ true → noted same known u ≡ known ++ u ∷ []

  not_false : (b : Bool) → not b ≡ false → b ≡ true
  not_false true is = refl
  not_false false is = cc

  not_true : (b : Bool) → not b ≡ true → b ≡ false
  not_true true is = cc
  not_true false is = refl

  pub told : (known : List X) (u : X) (id : Y) (table : List Y) (is_new : Bool) (place : ℕ)
      → id ≡ f u → table ≡ map f known → is_new ≡ not (list_any (eq id) table) → place ≡ position_or_len (eq id) table → Tells known u is_new place
  told known u id table is_new place id_is same_table added index =
      let any : list_any (eq id) table ≡ list_any (same u) known =
      ap (λ y. list_any (eq y) table) id_is ∙ ap (list_any (eq (f u))) same_table ∙ any-table u known in
      record {
        place_is = index ∙ ap (λ y. position_or_len (eq y) table) id_is ∙ ap (position_or_len (eq (f u))) same_table ∙ place-table u known;
        is_known = λ is. noted_known same known u (not_false (list_any (same u) known) (ap not (sym any) ∙ sym added ∙ is));
        is_behind = λ is. noted_new same known u (not_true (list_any (same u) known) (ap not (sym any) ∙ sym added ∙ is));
      }

-- ---- a table that is made anew

pub one_known : {X Y : Type 0} (f : X → Y) (xs : List X) (i : ℕ) (d : X) (old new : List Y) → i < length xs → old ≡ map f (take i xs)
    → new ≡ old ++ f (get_or xs i d) ∷ [] → new ≡ map f (take (i + 1) xs)
one_known f xs i d old new inside so_far is =
    is ∙ ap (λ l. l ++ f (get_or xs i d) ∷ []) so_far
    ∙ sym (ap (map f) (take_more xs i d inside) ∙ map-append f (take i xs) (get_or xs i d ∷ []))

pub all_known : {X Y : Type 0} (f : X → Y) (xs : List X) (i : ℕ) (known : List Y) → length xs ≤ i → known ≡ map f (take i xs) → known ≡ map f xs
all_known f xs i known all so_far = so_far ∙ ap (map f) (take_all i xs all)
