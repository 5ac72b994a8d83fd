-- Texts that end with a zero.
use Rattle.std.proofs.Common.{◌≡◌, ◌≢◌, ℕ, zero, suc, ◌+◌, ◌-◌, ◌≤◌, ◌<◌, List, [], ◌∷◌, length, take, drop, get_or, Bool, true, false, not, ◌&&◌, eqb, cond, Option, Some, None, refl, sym, ap, ◌∙◌, arith, min, inl, inr, drop-cons}
use Rattle.std.specs.Prelude.{option_map, is_some, unwrap_or, nat_lt}
use Rattle.std.specs.List.{position_or_len}
use Rattle.std.specs.Str.{bytes_eq}
use Rattle.std.proofs.lemmas.Bool.{cases_lt, lt-ltb, le-ltb}
use Rattle.std.proofs.lemmas.List.{take_all}
use Rattle.std.proofs.lemmas.Bool.Decides.{nat_tests}
use Rattle.std.proofs.Math.ListN.{drop_of_length-le}
use Rattle.metadata_tables.specs.Heaps.{EndsTexts}
use Rattle.metadata_tables.specs.Root.{zero_ended, is_text}

abbrev is_zero : ℕ → Bool
is_zero byte = eqb byte 0

ended : (zero_here : Bool) (byte p : ℕ) (bytes : List ℕ)
    → option_map (λ x. take x (byte ∷ bytes)) (cond (nat_lt (cond (not zero_here) (1 + p) 0) (suc (length bytes))) (Some (cond (not zero_here) (1 + p) 0)) None)
    ≡ cond zero_here (Some []) (option_map (λ text. byte ∷ text) (option_map (λ x. take x bytes) (cond (nat_lt p (length bytes)) (Some p) None)))
ended true byte p bytes = rw (lt-ltb 0 (suc (length bytes)) (omega arith)) refl
ended false byte p bytes =
    let more : 1 + p ≡ suc p = omega arith in
    rw more (elim (cases_lt p (length bytes)) [
      | inl lt ↦ rw (lt-ltb (suc p) (suc (length bytes)) (omega arith), lt-ltb p (length bytes) lt) refl
      | inr le ↦ rw (le-ltb (suc p) (suc (length bytes)) (omega arith), le-ltb p (length bytes) le) refl
    ])

zero_ended-cons : (byte : ℕ) (bytes : List ℕ) → zero_ended (byte ∷ bytes) ≡ cond (is_zero byte) (Some []) (option_map (λ text. byte ∷ text) (zero_ended bytes))
unfolding zero_ended
zero_ended-cons byte bytes = ended (is_zero byte) byte (position_or_len (λ b. eqb b 0) bytes) bytes

-- ---- whether a text is this one

abbrev told : Option (List ℕ) → List ℕ → Bool
told found text = unwrap_or (option_map (λ f. bytes_eq f text) found) false

and-false : (b : Bool) → false ≡ b && false
and-false true = refl
and-false false = refl

told-nil : (found : Option (List ℕ)) (byte : ℕ) → told (option_map (λ f. byte ∷ f) found) [] ≡ false
told-nil None byte = refl
told-nil (Some f) byte = refl

told-cons : (found : Option (List ℕ)) (byte c : ℕ) (text : List ℕ) → told (option_map (λ f. byte ∷ f) found) (c ∷ text) ≡ eqb byte c && told found text
told-cons None byte c text = and-false (eqb byte c)
told-cons (Some f) byte c text = refl

step-nil : (zero_here : Bool) (byte : ℕ) (a b : Option (List ℕ))
    → told (cond zero_here (Some []) (option_map (λ f. byte ∷ f) a)) [] ≡ told (cond zero_here (Some []) (option_map (λ f. byte ∷ f) b)) []
step-nil true byte a b = refl
step-nil false byte a b = told-nil a byte ∙ sym (told-nil b byte)

step-cons : (zero_here : Bool) (byte c : ℕ) (text : List ℕ) (a b : Option (List ℕ)) → told a text ≡ told b text
    → told (cond zero_here (Some []) (option_map (λ f. byte ∷ f) a)) (c ∷ text) ≡ told (cond zero_here (Some []) (option_map (λ f. byte ∷ f) b)) (c ∷ text)
step-cons true byte c text a b same = refl
step-cons false byte c text a b same = told-cons a byte c text ∙ ap (λ (t : Bool). eqb byte c && t) same ∙ sym (told-cons b byte c text)

-- As many bytes as the text has, and one more, tell.
prefix : (text bytes : List ℕ) → told (zero_ended (take (suc (length text)) bytes)) text ≡ told (zero_ended bytes) text
prefix text [] = refl
prefix [] (byte ∷ bytes) = rw (zero_ended-cons byte [], zero_ended-cons byte bytes) (step-nil (is_zero byte) byte (zero_ended []) (zero_ended bytes))
prefix (c ∷ text) (byte ∷ bytes) =
    rw (zero_ended-cons byte (take (suc (length text)) bytes), zero_ended-cons byte bytes)
    (step-cons (is_zero byte) byte c text (zero_ended (take (suc (length text)) bytes)) (zero_ended bytes) (prefix text bytes))

pub prefix_decides : (bytes text : List ℕ) (n : ℕ) → n ≡ min (length bytes) (length text + 1) → is_text bytes text ≡ told (zero_ended (take n bytes)) text
unfolding is_text
prefix_decides bytes text n e =
    elim (cases_lt (length text) (length bytes)) [
      | inl lt ↦ let k : n ≡ suc (length text) = omega arith in rw k (sym (prefix text bytes))
      | inr le ↦ let k : n ≡ length bytes = omega arith in rw (k, take_all (length bytes) bytes (omega arith)) refl
    ]

-- ---- the last zero

none-here : (byte : ℕ) (bytes : List ℕ) → is_zero byte ≡ false → zero_ended bytes ≡ None → zero_ended (byte ∷ bytes) ≡ None
none-here byte bytes other none = rw (zero_ended-cons byte bytes, other, none) refl

some-here : (byte : ℕ) (bytes : List ℕ) → is_zero byte ≡ true → is_some (zero_ended (byte ∷ bytes)) ≡ true
some-here byte bytes same = rw (zero_ended-cons byte bytes, same) refl

some-mapped : (zero_here : Bool) (byte : ℕ) (found : Option (List ℕ)) → is_some found ≡ true → is_some (cond zero_here (Some []) (option_map (λ f. byte ∷ f) found)) ≡ true
some-mapped true byte found some = refl
some-mapped false byte None some = absurd cc
some-mapped false byte (Some f) some = refl

some-behind : (byte : ℕ) (bytes : List ℕ) → is_some (zero_ended bytes) ≡ true → is_some (zero_ended (byte ∷ bytes)) ≡ true
some-behind byte bytes some = rw (zero_ended-cons byte bytes) (some-mapped (is_zero byte) byte (zero_ended bytes) some)

-- No text begins after the last zero.
pub none_at_end : (bytes : List ℕ) (i : ℕ) → length bytes ≤ i → zero_ended (drop i bytes) ≡ None
unfolding zero_ended
none_at_end bytes i past = rw (drop_of_length-le bytes past) refl

pub none_before_other : (bytes : List ℕ) (end : ℕ) → 1 ≤ end → end ≤ length bytes → get_or bytes (end - 1) 0 ≢ 0
    → ((i : ℕ) → end ≤ i → zero_ended (drop i bytes) ≡ None) → (i : ℕ) → end - 1 ≤ i → zero_ended (drop i bytes) ≡ None
none_before_other bytes end low high other none i h =
    elim (cases_lt i end) [
      | inl lt ↦
          let here : i ≡ end - 1 = omega arith in
          let next : suc i ≡ end = omega arith in
          let split : drop i bytes ≡ get_or bytes i 0 ∷ drop (suc i) bytes = drop-cons bytes i 0 (omega arith) in
          let differs : is_zero (get_or bytes i 0) ≡ false = rw here (grind (arith, nat_tests)) in
          rw (split, next) (none-here (get_or bytes i 0) (drop end bytes) differs (none end (omega arith)))
      | inr le ↦ none i le
    ]

-- A text begins at each place up to a zero.
some_up_to : (bytes : List ℕ) (n i : ℕ) → i + n < length bytes → get_or bytes (i + n) 0 ≡ 0 → is_some (zero_ended (drop i bytes)) ≡ true
some_up_to bytes zero i within is =
    let same : i + 0 ≡ i = omega arith in
    let here : is_zero (get_or bytes i 0) ≡ true = rw (rw same at is) refl in
    rw (drop-cons bytes i 0 (omega arith)) (some-here (get_or bytes i 0) (drop (suc i) bytes) here)
some_up_to bytes (suc n) i within is =
    let same : i + suc n ≡ suc i + n = omega arith in
    rw (drop-cons bytes i 0 (omega arith)) (some-behind (get_or bytes i 0) (drop (suc i) bytes) (some_up_to bytes n (suc i) (omega arith) (rw same at is)))

pub ends_texts : (bytes : List ℕ) (end : ℕ) → end ≤ length bytes → (1 ≤ end → get_or bytes (end - 1) 0 ≡ 0)
    → ((i : ℕ) → end ≤ i → zero_ended (drop i bytes) ≡ None) → EndsTexts bytes end
ends_texts bytes end high last none = λ i.
    elim (cases_lt i end) [
      | inl lt ↦
          let n : ℕ = end - 1 - i in
          let place : i + n ≡ end - 1 = omega arith in
          let some = some_up_to bytes n i (omega arith) (rw place (last (omega arith))) in
          lt-ltb i end lt ∙ sym some
      | inr le ↦ le-ltb i end le ∙ sym (ap is_some (none i le))
    ]
