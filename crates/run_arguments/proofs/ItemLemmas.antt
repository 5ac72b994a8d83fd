-- Items with commas between them.
use Rattle.std.proofs.Common.{◌≡◌, ℤ, pos, ℕ, ◌-◌, ◌≤◌, Bool, true, false, List, [], ◌∷◌, ◌++◌, length, take, drop, get_or, map, sym, arith, ap, ap₂, ◌∙◌, append_assoc, append-nil, refl, if◌then◌else◌}
use Rattle.std.proofs.Math.Seq.{take-length}
use Rattle.std.specs.List.{flat_map, join_with_byte}
use Rattle.cil_model.specs.declared.place.Place.{Place}
use Rattle.cil_model.specs.declared.place.Place.TheVariants as places
use Rattle.run_arguments.specs.Texts.{bool_text, items_text, list_text, next_item, number_text}

joined : (place : Place) (n : ℤ) (others : List ℤ)
    → join_with_byte 44 (number_text place n ∷ map (number_text place) others) ≡ number_text place n ++ flat_map (next_item place) others
joined place n [] = sym (append-nil (number_text place n))
joined place n (m ∷ others) = ap (λ rest. number_text place n ++ (44 ∷ rest)) (joined place m others)

-- The first item and those after it are all.
pub first_and_others : {T : Type 0} (number : T → ℤ) (place : Place) (line : List ℕ) (items : List T) (item other : T) → 1 ≤ length items → item ≡ get_or items 0 other
    → (line ++ number_text place (number item)) ++ flat_map (next_item place) (map number (take (length items - 1) (drop 1 items)))
    ≡ line ++ join_with_byte 44 (map (number_text place) (map number items))
first_and_others number place line [] item other some e = absurd (omega (arith, some))
first_and_others number place line (m ∷ others) item other some e =
    let count : length (m ∷ others) - 1 ≡ length others = omega arith in
    let after : take (length (m ∷ others) - 1) others ≡ others = ap (λ k. take k others) count ∙ take-length others in
    ap (λ k. (line ++ number_text place (number k)) ++ flat_map (next_item place) (map number (take (length (m ∷ others) - 1) others))) e
    ∙ ap (λ rest. (line ++ number_text place (number m)) ++ flat_map (next_item place) (map number rest)) after
    ∙ append_assoc line (number_text place (number m)) (flat_map (next_item place) (map number others)) ∙ sym (ap (λ whole. line ++ whole) (joined place (number m) (map number others)))

-- ---- the arrays of arguments

bool_item : (b : Bool) → number_text places.Bools (if b then pos 1 else pos 0) ≡ bool_text b
bool_item true = refl
bool_item false = refl

bool_texts : (bs : List Bool) → map (number_text places.Bools) (map (λ b. if b then pos 1 else pos 0) bs) ≡ map bool_text bs
bool_texts [] = refl
bool_texts (b ∷ bs) = ap₂ (λ (text : List ℕ) (rest : List (List ℕ)). text ∷ rest) (bool_item b) (bool_texts bs)

pub bools_text : (bs : List Bool) → items_text places.Bools (map (λ b. if b then pos 1 else pos 0) bs) ≡ list_text (map bool_text bs)
bools_text bs = ap list_text (bool_texts bs)
