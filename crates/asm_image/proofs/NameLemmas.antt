-- Printed names with their types and without.
use Rattle.std.proofs.Common.{◌≡◌, ◌≢◌, ℕ, suc, ◌+◌, ◌-◌, ◌<◌, ◌≤◌, List, [], ◌∷◌, ◌++◌, length, take, get_or, Bool, true, false, true≢false, length-append, refl, sym, ap, ◌∙◌, arith, inl, inr, add-one}
use Rattle.std.specs.Prelude.{zero, Some, not, ◌==◌, codes}
use Rattle.std.specs.List.{All, flat_map, list_all, slice_get}
use Rattle.std.proofs.lemmas.Bool.{cases_order}
use Rattle.std.proofs.Math.Seq.{take-append_seam}
use Rattle.std.proofs.lemmas.List.{append-nil, append_assoc, get_or_at, get_or-append_right}
use Rattle.std.proofs.lemmas.List.Concat.{flat_map-cons, flat_map-append}
use Rattle.std.proofs.lemmas.List.Elements.{All-get_or}
use Rattle.std.proofs.lemmas.List.Folds.{list_all-append, list_all_at}
use Rattle.cil_model.specs.declared.place.Place.{Place}
use Rattle.cil_model.specs.declared.place.Place.TheVariants as places
use Rattle.signature_blobs.specs.declared.method.SigTypes.{SigTypes}
use Rattle.signature_blobs.specs.declared.method.SigTypes.TheVariants as types
use Rattle.cil_model.specs.Places.{place_text, next_parameter, parameters_text}
use Rattle.asm_image.specs.Names.{parameter_text, types_text}
use Rattle.signature_blobs.proofs.PlaceLemmas.{take-get}
use Rattle.std.proofs.lemmas.Option.{same_Some}

-- The types of the first parameters, and of one more.
one_more : (places : List Place) (i : ℕ) (place : Place) → slice_get places i ≡ Some place
    → parameters_text (take (suc i) places) ≡ parameters_text (take i places) ++ parameter_text i place
one_more [] i place at = absurd cc
one_more (first ∷ rest) zero place at = append-nil (place_text first) ∙ ap place_text (same_Some first place at)
one_more (first ∷ rest) (suc k) place at =
    let more : take (suc k) rest ≡ take k rest ++ place ∷ [] = rw (← add-one) (take-get rest k place at) in
    let before = flat_map next_parameter (take k rest) in
    let last : flat_map next_parameter (place ∷ []) ≡ next_parameter place = flat_map-cons next_parameter place [] ∙ append-nil (next_parameter place) in
    rw (more, flat_map-append next_parameter (take k rest) (place ∷ []), last) (sym (append_assoc (place_text first) before (next_parameter place)))

-- A text that goes on with the type of one more.
pub parameters_more : (start line new : List ℕ) (places : List Place) (i : ℕ) (place : Place) → line ≡ start ++ parameters_text (take i places)
    → slice_get places i ≡ Some place → new ≡ line ++ parameter_text i place → new ≡ start ++ parameters_text (take (i + 1) places)
parameters_more start line new places i place so_far at more =
    rw (add-one, more, so_far, one_more places i place at) (append_assoc start (parameters_text (take i places)) (parameter_text i place))

-- No parenthesis opens.
abbrev pub opens_none : List ℕ → Bool
opens_none text = list_all (λ byte. not (byte == 0x28)) text

both : (a b : List ℕ) → opens_none a ≡ true → opens_none b ≡ true → opens_none (a ++ b) ≡ true
both a b first second = list_all-append (λ byte. not (byte == 0x28)) a b ∙ rw (first, second) refl

place-opens_none : (place : Place) → opens_none (place_text place) ≡ true
place-opens_none places.Void = refl
place-opens_none places.Bool = refl
place-opens_none places.Int = refl
place-opens_none places.Bools = refl
place-opens_none places.Ints = refl

next-opens_none : (others : List Place) → opens_none (flat_map next_parameter others) ≡ true
next-opens_none [] = refl
next-opens_none (place ∷ others) =
    ap opens_none (flat_map-cons next_parameter place others)
    ∙ both (next_parameter place) (flat_map next_parameter others) (place-opens_none place) (next-opens_none others)

parameters-opens_none : (others : List Place) → opens_none (parameters_text others) ≡ true
parameters-opens_none [] = refl
parameters-opens_none (place ∷ others) = both (place_text place) (flat_map next_parameter others) (place-opens_none place) (next-opens_none others)

-- What stands after the parenthesis that opens.
abbrev pub behind : SigTypes → List ℕ
behind (types.Known known) = parameters_text known.args ++ codes ")"
behind types.Other = codes "?)"

pub types-open : (said : SigTypes) → types_text said ≡ 0x28 ∷ behind said
types-open (types.Known known) = refl
types-open types.Other = refl

pub behind-opens_none : (said : SigTypes) → opens_none (behind said) ≡ true
behind-opens_none (types.Known known) = both (parameters_text known.args) (codes ")") (parameters-opens_none known.args) refl
behind-opens_none types.Other = refl

-- A byte that opens a parenthesis is none of a text in which none opens.
opens-nowhere : (text : List ℕ) (k : ℕ) → opens_none text ≡ true → k < length text → get_or text k 0 ≢ 0x28
opens-nowhere text k none h e =
    let fails : not (get_or text k 0 == 0x28) ≡ false = rw e refl in
    true≢false (sym none ∙ list_all_at (λ byte. not (byte == 0x28)) text k 0 h fails)

-- Where the last parenthesis opens, a printed name goes over to its types.
last-opens : (prefix rest : List ℕ) (i : ℕ) → opens_none rest ≡ true → i < length (prefix ++ 0x28 ∷ rest) → get_or (prefix ++ 0x28 ∷ rest) i 0 ≡ 0x28
    → ((k : ℕ) → i + 1 ≤ k → k < length (prefix ++ 0x28 ∷ rest) → get_or (prefix ++ 0x28 ∷ rest) k 0 ≢ 0x28) → i ≡ length prefix
last-opens prefix rest i none h here later =
    let whole : length (prefix ++ 0x28 ∷ rest) ≡ length prefix + suc (length rest) = length-append prefix (0x28 ∷ rest) in
    elim (cases_order i (length prefix)) [
      | inl same ↦ same
      | inr (inl before) ↦ absurd (later (length prefix) (omega arith) (omega (arith, whole)) (get_or_at prefix 0x28 rest 0 (length prefix) refl))
      | inr (inr beyond) ↦
          let k = i - suc (length prefix) in
          let place : i - length prefix ≡ suc k = omega arith in
          let there : get_or (prefix ++ 0x28 ∷ rest) i 0 ≡ get_or rest k 0 =
          get_or-append_right prefix (0x28 ∷ rest) (length prefix) i 0 refl (omega arith) ∙ rw place refl in
          absurd (opens-nowhere rest k none (omega (arith, whole)) (sym there ∙ here))
    ]

pub prefix-taken : (name prefix : List ℕ) (said : SigTypes) (i : ℕ) → name ≡ prefix ++ types_text said → i < length name → get_or name i 0 ≡ 0x28
    → ((k : ℕ) → i + 1 ≤ k → k < length name → get_or name k 0 ≢ 0x28) → take i name ≡ prefix
prefix-taken name prefix said i is h here later =
    let whole : name ≡ prefix ++ 0x28 ∷ behind said = is ∙ ap (λ text. prefix ++ text) (types-open said) in
    let place : i ≡ length prefix =
    last-opens prefix (behind said) i (behind-opens_none said) (rw (← whole) h) (rw (← whole) here) (rw (← whole) later) in
    rw (whole, place) (take-append_seam prefix (0x28 ∷ behind said))

pub opens-somewhere : (name prefix : List ℕ) (said : SigTypes) → name ≡ prefix ++ types_text said → All (λ byte. byte ≢ 0x28) name → ⊥
opens-somewhere name prefix said is none =
    let whole : name ≡ prefix ++ 0x28 ∷ behind said = is ∙ ap (λ text. prefix ++ text) (types-open said) in
    let long : length name ≡ length prefix + suc (length (behind said)) = ap length whole ∙ length-append prefix (0x28 ∷ behind said) in
    All-get_or (λ byte. byte ≢ 0x28) name (length prefix) 0 (omega (arith, long)) none (rw whole (get_or_at prefix 0x28 (behind said) 0 (length prefix) refl))
