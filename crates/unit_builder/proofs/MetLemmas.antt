-- The table of places, as methods are met.
use Rattle.std.proofs.Common.{◌≡◌, ℕ, suc, ◌+◌, ◌-◌, ◌<◌, ◌≤◌, ◌≢◌, ◌==◌, Bool, true, false, not, ◌⊎◌, inl, inr, ⊎_elim, List, [], ◌∷◌, ◌++◌, length, get_or, set, map, Option, Some, None, option_map, refl, sym, ap, ◌∙◌, arith, subst, length-set, count_by, cond}
use Rattle.std.proofs.lemmas.Bool.{eq-eqb, ne_eqb, cases_eq, cases_lt, eqb-true}
use Rattle.std.proofs.lemmas.List.{get_or-set_same, get_or-set_other, length_push, get_or_append_left, get_or_push, length-map, map_push}
use Rattle.std.proofs.lemmas.List.Sums.{sum_by-set}
use Rattle.cc_base.specs.declared.token.Token.{Token}
use Rattle.unit_builder.specs.Met.{place_in, counted, first_method, IsAmong, TellsPlaces}

-- ---- places

-- A place after the first one is one more.
suc_place : (place : Option ℕ) (n : ℕ) → option_map suc place ≡ Some n → (m : ℕ) × (place ≡ Some m) × (n ≡ suc m)
suc_place None n is = absurd cc
suc_place (Some m) n is = (m, refl, cc)

pub before_or_last : (n place : ℕ) → place < n + 1 → (place < n) ⊎ (n ≡ place)
before_or_last n place lt = ⊎_elim (λ below. inl below) (λ above. inr (omega arith)) (cases_lt place n)

suc_none : (place : Option ℕ) → option_map suc place ≡ None → place ≡ None
suc_none None is = refl
suc_none (Some m) is = absurd cc

-- What was met stays at its place.
stays_behind : (b : Bool) (before after : Option ℕ) (place : ℕ) → ((n : ℕ) → before ≡ Some n → after ≡ Some n)
    → cond b (Some 0) (option_map suc before) ≡ Some place → cond b (Some 0) (option_map suc after) ≡ Some place
stays_behind true before after place stays is = is
stays_behind false before after place stays is =
    let behind = suc_place before place is in ap (option_map suc) (stays behind.0 behind.1) ∙ ap Some (sym behind.2)

pub place-stays : (order others : List ℕ) (token place : ℕ) → place_in order token ≡ Some place → place_in (order ++ others) token ≡ Some place
place-stays [] others token place is = absurd cc
place-stays (first ∷ order) others token place is =
    stays_behind (first == token) (place_in order token) (place_in (order ++ others) token) place (λ n at. place-stays order others token n at) is

-- The last of them has the last place, where it was not met before.
last_behind : (b : Bool) (before after : Option ℕ) (place : ℕ) → (before ≡ None → after ≡ Some place)
    → cond b (Some 0) (option_map suc before) ≡ None → cond b (Some 0) (option_map suc after) ≡ Some (suc place)
last_behind true before after place last none = absurd cc
last_behind false before after place last none = ap (option_map suc) (last (suc_none before none))

pub place-last : (order : List ℕ) (token : ℕ) → place_in order token ≡ None → place_in (order ++ token ∷ []) token ≡ Some (length order)
place-last [] token none = rw (eq-eqb token token refl) refl
place-last (first ∷ order) token none =
    last_behind (first == token) (place_in order token) (place_in (order ++ token ∷ []) token) (length order) (place-last order token) none

-- Another one's place does not change.
pub place-other : (order : List ℕ) (token other : ℕ) → token ≢ other → place_in (order ++ token ∷ []) other ≡ place_in order other
place-other [] token other apart = rw (ne_eqb token other apart) refl
place-other (first ∷ order) token other apart =
    ap (λ place. cond (first == other) (Some 0) (option_map suc place)) (place-other order token other apart)

-- What stands at a place.
tells_behind : (b : Bool) (first token : ℕ) (order : List ℕ) (before : Option ℕ) (place : ℕ) → (b ≡ true → first ≡ token)
    → ((n : ℕ) → before ≡ Some n → (n < length order) × (get_or order n 0 ≡ token))
    → cond b (Some 0) (option_map suc before) ≡ Some place → (place < length (first ∷ order)) × (get_or (first ∷ order) place 0 ≡ token)
tells_behind true first token order before place same tells is =
    let zero_is : 0 ≡ place = cc in subst (λ n. (n < length (first ∷ order)) × (get_or (first ∷ order) n 0 ≡ token)) zero_is (omega arith, same refl)
tells_behind false first token order before place same tells is =
    let behind = suc_place before place is in
    let there = tells behind.0 behind.1 in
    subst (λ n. (n < length (first ∷ order)) × (get_or (first ∷ order) n 0 ≡ token)) (sym behind.2) (omega (arith, there.0), there.1)

pub place-tells : (order : List ℕ) (token place : ℕ) → place_in order token ≡ Some place → (place < length order) × (get_or order place 0 ≡ token)
place-tells [] token place is = absurd cc
place-tells (first ∷ order) token place is =
    tells_behind (first == token) first token order (place_in order token) place (eqb-true first token) (λ n at. place-tells order token n at) is

pub none_by : (found : Option ℕ) → ((place : ℕ) → found ≡ Some place → ⊥) → found ≡ None
none_by None never = refl
none_by (Some place) never = absurd (never place refl)

-- ---- the table

counted-none : (place : Option ℕ) → counted place ≡ 0 → place ≡ None
counted-none None is = refl
counted-none (Some place) is = absurd (omega arith)

is_filled : (n : ℕ) → 0 < n → ◌≡◌ {A = ℕ} (cond (not (n == 0)) 1 0) 1
is_filled n some = rw (ne_eqb n 0 (λ same. omega arith)) refl

filled_by : {new old before after n m : ℕ} → new + before ≡ old + after → before ≡ 0 → after ≡ 1 → old ≡ n → m ≡ n + 1 → new ≡ m
filled_by sums empty filled told long = omega arith

-- The cell of a method tells its place.
pub cell-tells : (places order : List ℕ) (token : ℕ) → TellsPlaces places order → IsAmong (length places) token
    → get_or places (token - first_method) 0 ≡ counted (place_in order token)
cell-tells places order token told among =
    let same : first_method + (token - first_method) ≡ token = omega (arith, among.from) in
    subst (λ t. get_or places (token - first_method) 0 ≡ counted (place_in order t)) same
    (told.cells (token - first_method) (omega (arith, among.from, among.below)))

module _ (places order : List ℕ) (token : ℕ) (told : TellsPlaces places order) (among : IsAmong (length places) token) (free : get_or places (token - first_method) 0 ≡ 0) where
  inside : token - first_method < length places
  inside = omega (arith, among.from, among.below)

  -- A method of an empty cell was not met.
  pub free-none : place_in order token ≡ None
  free-none = counted-none (place_in order token) (sym (cell-tells places order token told among) ∙ free)

  among_more : (place : ℕ) → place < length (order ++ token ∷ []) → IsAmong (length places) (get_or (order ++ token ∷ []) place 0)
  among_more place lt =
      let long = length_push order token in
      ⊎_elim
      (λ before. rw (get_or_append_left order (token ∷ []) 0 place before) (told.among place before))
      (λ last. rw (get_or_push order token 0 place last) among)
      (before_or_last (length order) place (omega arith))

  each_more : (place : ℕ) → place < length (order ++ token ∷ []) → place_in (order ++ token ∷ []) (get_or (order ++ token ∷ []) place 0) ≡ Some place
  each_more place lt =
      let long = length_push order token in
      ⊎_elim
      (λ before. rw (get_or_append_left order (token ∷ []) 0 place before) (place-stays order (token ∷ []) (get_or order place 0) place (told.each place before)))
      (λ last. rw (get_or_push order token 0 place last) (place-last order token free-none ∙ ap Some last))
      (before_or_last (length order) place (omega arith))

  here_more : get_or (set places (token - first_method) (length (order ++ token ∷ []))) (token - first_method) 0 ≡ counted (place_in (order ++ token ∷ []) (first_method + (token - first_method)))
  here_more =
      let same : first_method + (token - first_method) ≡ token = omega (arith, among.from) in
      let last : suc (length order) ≡ counted (place_in (order ++ token ∷ []) token) = ap counted (sym (place-last order token free-none)) in
      let there : suc (length order) ≡ counted (place_in (order ++ token ∷ []) (first_method + (token - first_method))) =
      subst (λ t. suc (length order) ≡ counted (place_in (order ++ token ∷ []) t)) (sym same) last in
      let long : length (order ++ token ∷ []) ≡ suc (length order) = omega (arith, length_push order token) in
      get_or-set_same places (token - first_method) (length (order ++ token ∷ [])) 0 inside ∙ long ∙ there

  cells_more : (index : ℕ) → index < length places → get_or (set places (token - first_method) (length (order ++ token ∷ []))) index 0 ≡ counted (place_in (order ++ token ∷ []) (first_method + index))
  cells_more index lt =
      ⊎_elim
      (λ same. subst (λ i. get_or (set places (token - first_method) (length (order ++ token ∷ []))) i 0 ≡ counted (place_in (order ++ token ∷ []) (first_method + i))) (sym same) here_more)
      (λ other.
      get_or-set_other places (token - first_method) index (length (order ++ token ∷ [])) 0 other
      ∙ told.cells index lt
      ∙ ap counted (sym (place-other order token (first_method + index) (λ is. other (omega arith)))))
      (cases_eq index (token - first_method))

  filled_more : count_by (λ cell. not (cell == 0)) (set places (token - first_method) (length (order ++ token ∷ []))) ≡ length (order ++ token ∷ [])
  filled_more =
      let long = length_push order token in
      let filled = is_filled (length (order ++ token ∷ [])) (omega arith) in
      let empty : ◌≡◌ {A = ℕ} (cond (not (get_or places (token - first_method) 0 == 0)) 1 0) 0 = rw free refl in
      filled_by
      (sum_by-set (λ cell. cond (not (cell == 0)) 1 0) places (token - first_method) (length (order ++ token ∷ [])) 0 inside)
      empty filled told.filled long

  pub tells_more : TellsPlaces (set places (token - first_method) (length (order ++ token ∷ []))) (order ++ token ∷ [])
  tells_more =
      let long = length-set places (token - first_method) (length (order ++ token ∷ [])) in
      record {
        short = rw long told.short;
        among = rw long among_more;
        each = each_more;
        cells = rw long cells_more;
        filled = filled_more;
      }

pub pushed_tells : (places : List ℕ) (old new : List Token) (token : Token) (index len : ℕ) → TellsPlaces places (map (λ t. t.0) old)
    → IsAmong (length places) token.0 → index ≡ token.0 - first_method → get_or places index 0 ≡ 0 → new ≡ old ++ token ∷ [] → len ≡ length new
    → TellsPlaces (set places index len) (map (λ t. t.0) new)
pushed_tells places old new token index len told among index_is free new_is len_is =
    let tokens_are : map (λ t. t.0) new ≡ map (λ t. t.0) old ++ token.0 ∷ [] = ap (map (λ t. t.0)) new_is ∙ map_push (λ t. t.0) old token in
    let long : len ≡ length (map (λ t. t.0) old ++ token.0 ∷ []) = len_is ∙ sym (length-map new (λ t. t.0)) ∙ ap length tokens_are in
    let free_there : get_or places (token.0 - first_method) 0 ≡ 0 = subst (λ i. get_or places i 0 ≡ 0) index_is free in
    rw (index_is, tokens_are, long) (tells_more places (map (λ t. t.0) old) token.0 told among free_there)

-- ---- look-ups

pub below-none : (places order : List ℕ) (token : ℕ) → TellsPlaces places order → token < first_method → place_in order token ≡ None
below-none places order token told below = none_by (place_in order token) (λ place is.
    let at = place-tells order token place is in
    let among = told.among place at.0 in
    omega (arith, among.from, at.1))

pub past-none : (places order : List ℕ) (token : ℕ) → TellsPlaces places order → length places ≤ token - first_method → place_in order token ≡ None
past-none places order token told past = none_by (place_in order token) (λ place is.
    let at = place-tells order token place is in
    let among = told.among place at.0 in
    omega (arith, among.from, among.below, at.1))
