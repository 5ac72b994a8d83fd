-- What was made of methods, as it is taken.
use Rattle.std.proofs.Common.{◌≡◌, ◌≢◌, ℕ, ◌+◌, ◌<◌, ◌≤◌, List, length, get_or, set, Option, Some, None, refl, sym, ap, ◌∙◌, arith}
use Rattle.std.specs.Option.{option_and_then}
use Rattle.std.proofs.lemmas.List.{get_or-map, get_or-set_other, get_or_default, length-map}
use Rattle.cc_base.specs.declared.token.Token.{Token}
use Rattle.unit_builder.specs.Met.{place_in}
use Rattle.unit_builder.specs.Walks.{numbers}
use Rattle.unit_builder.specs.WorldOf.{made}
use Rattle.unit_builder.specs.declared.reach.Visited.{Visited}
use Rattle.unit_builder.proofs.MetLemmas.{place-tells}

-- From a token of a list on, nothing was taken.
abbrev pub AreLeft : List ℕ → List (Option Visited) → List (Option Visited) → List Token → ℕ → Type 0
AreLeft met before now listed from = (next : ℕ) (d : Token) → from ≤ next → next < length listed → made met now (get_or listed next d).0 ≡ made met before (get_or listed next d).0

-- The tokens are apart.
abbrev pub AreApart : List ℕ → Type 0
AreApart tokens = (place : ℕ) → place < length tokens → place_in tokens (get_or tokens place 0) ≡ Some place

pub left_later : (met : List ℕ) (before now : List (Option Visited)) (listed : List Token) (index : ℕ) → AreLeft met before now listed index → AreLeft met before now listed (index + 1)
left_later met before now listed index left next d after lt = left next d (omega arith) lt

token-at : (listed : List Token) (tokens : List ℕ) (n : ℕ) (d : Token) → numbers listed ≡ tokens → n < length listed → (get_or listed n d).0 ≡ get_or tokens n 0
token-at listed tokens n d are lt = sym (get_or-map (λ t. t.0) listed n d 0 lt) ∙ ap (λ ts. get_or ts n 0) are

-- The others are left where one is taken.
pub left_more : (met : List ℕ) (before now : List (Option Visited)) (listed : List Token) (tokens : List ℕ) (index place : ℕ) (d : Token)
    → numbers listed ≡ tokens → AreApart tokens → index < length listed → Some place ≡ place_in met (get_or listed index d).0
    → AreLeft met before now listed index → AreLeft met before (set now place None) listed (index + 1)
left_more met before now listed tokens index place d are apart lt is left next e after below =
    kept (place_in met (get_or listed next e).0) refl ∙ left next e (omega arith) below where
      other : (at : ℕ) → place_in met (get_or listed next e).0 ≡ Some at → at ≢ place
      other at there same =
          let one : get_or met place 0 ≡ (get_or listed index d).0 = (place-tells met (get_or listed index d).0 place (sym is)).1 in
          let two : get_or met at 0 ≡ (get_or listed next e).0 = (place-tells met (get_or listed next e).0 at there).1 in
          let equal : (get_or listed next e).0 ≡ (get_or listed index d).0 = sym two ∙ ap (λ k. get_or met k 0) same ∙ one in
          let long : length tokens ≡ length listed = sym (ap length are) ∙ length-map listed (λ t. t.0) in
          let first : place_in tokens (get_or listed index d).0 ≡ Some index =
          ap (place_in tokens) (token-at listed tokens index d are lt) ∙ apart index (omega arith) in
          let second : place_in tokens (get_or listed next e).0 ≡ Some next =
          ap (place_in tokens) (token-at listed tokens next e are below) ∙ apart next (omega arith) in
          let places : Some next ≡ Some index = sym second ∙ ap (place_in tokens) equal ∙ first in
          let clash : next ≡ index = cc in
          omega arith

      kept : (found : Option ℕ) → place_in met (get_or listed next e).0 ≡ found → made met (set now place None) (get_or listed next e).0 ≡ made met now (get_or listed next e).0
      kept None none = rw none refl
      kept (Some at) there = rw there (get_or-set_other now place at None None (other at there))

-- What was made of the next one.
pub made_unmet : (met : List ℕ) (before now : List (Option Visited)) (listed : List Token) (index : ℕ) (d : Token) → AreLeft met before now listed index → index < length listed
    → None ≡ place_in met (get_or listed index d).0 → None ≡ made met before (get_or listed index d).0
made_unmet met before now listed index d left lt none =
    ap (option_and_then (λ place. get_or now place None)) none ∙ left index d (omega arith) lt

pub made_slot : (met : List ℕ) (before now : List (Option Visited)) (listed : List Token) (index : ℕ) (d : Token) → AreLeft met before now listed index → index < length listed
    → (place : ℕ) (slot : Option Visited) → Some place ≡ place_in met (get_or listed index d).0 → place < length now → slot ≡ get_or now place slot
    → slot ≡ made met before (get_or listed index d).0
made_slot met before now listed index d left lt place slot is within slot_is =
    slot_is ∙ get_or_default now place slot None within ∙ ap (option_and_then (λ place. get_or now place None)) is ∙ left index d (omega arith) lt
