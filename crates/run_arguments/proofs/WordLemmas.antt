-- The forms of words, by what stands at their ends.
use Rattle.std.proofs.Common.{◌≡◌, ℕ, ◌-◌, ◌<◌, ◌≢◌, suc, Bool, ◌&&◌, List, [], ◌∷◌, ◌++◌, length, take, drop, get_or, refl, sym, ap, ap₂, ◌∙◌, arith, Option, Some, None, Bor, MatchOption, option_map, if◌then◌else◌, ◌==◌}
use Rattle.std.proofs.Math.Seq.{get_or-append_seam, take-append_seam, drop-cons}
use Rattle.std.proofs.lemmas.Bool.{ne_eqb, eq-eqb}
use Rattle.std.proofs.lemmas.List.{length_push, take-append-drop, drop_all}
use Rattle.run_arguments.specs.Numbers.{number_of_word}
use Rattle.run_arguments.specs.Arguments.{earlier_of_word, between_brackets}

pub earlier_none : (word : List ℕ) → ((rest : List ℕ) → word ≢ 64 ∷ rest) → earlier_of_word word ≡ None
earlier_none [] other = refl
earlier_none (c ∷ cs) other =
    ap (λ (t : Bool). if t then number_of_word 4294967295 cs else None) (ne_eqb c 64 (λ e. other cs (ap (λ (x : ℕ). x ∷ cs) e)))

-- What is told of a text whose end is tested.
abbrev cut_at : Bool → List ℕ → Option (List ℕ)
cut_at t cs = if t then Some (take (length cs - 1) cs) else None

pub brackets_unopened : (word : List ℕ) → ((rest : List ℕ) → word ≢ 91 ∷ rest) → between_brackets word ≡ None
brackets_unopened [] other = refl
brackets_unopened (c ∷ cs) other =
    ap (λ (t : Bool). cut_at (t && (get_or cs (length cs - 1) 0 == 93)) cs) (ne_eqb c 91 (λ e. other cs (ap (λ (x : ℕ). x ∷ cs) e)))

-- A text that ends in a byte other than 0 is what stands before it, and the byte.
pub last_apart : (cs : List ℕ) (c : ℕ) → 0 < c → get_or cs (length cs - 1) 0 ≡ c → cs ≡ take (length cs - 1) cs ++ c ∷ []
last_apart [] c some e = absurd (omega arith)
last_apart (b ∷ bs) c some e =
    let n : ℕ = length (b ∷ bs) - 1 in
    let before : n < length (b ∷ bs) = omega arith in
    let end : drop n (b ∷ bs) ≡ c ∷ [] =
    drop-cons (b ∷ bs) n 0 before ∙ ap₂ (λ (x : ℕ) (xs : List ℕ). x ∷ xs) e (drop_all (suc n) (b ∷ bs) (omega arith)) in
    sym (take-append-drop n (b ∷ bs)) ∙ ap (λ (xs : List ℕ). take n (b ∷ bs) ++ xs) end

pub brackets_unclosed : (word rest : List ℕ) → word ≡ 91 ∷ rest → ((prefix : List ℕ) → rest ≢ prefix ++ 93 ∷ []) → between_brackets word ≡ None
brackets_unclosed word rest e open_end =
    ap between_brackets e
    ∙ ap (λ (t : Bool). cut_at t rest) (ne_eqb _ 93 (λ last. open_end (take (length rest - 1) rest) (last_apart rest 93 (omega arith) last)))

pub brackets_at : (word rest inner : List ℕ) → word ≡ 91 ∷ rest → rest ≡ inner ++ 93 ∷ [] → between_brackets word ≡ Some inner
brackets_at word rest inner e closed =
    let size : length (inner ++ 93 ∷ []) - 1 ≡ length inner = omega (arith, length_push inner 93) in
    let last : get_or (inner ++ 93 ∷ []) (length (inner ++ 93 ∷ []) - 1) 0 ≡ 93 = ap (λ (n : ℕ). get_or (inner ++ 93 ∷ []) n 0) size ∙ get_or-append_seam inner 93 [] 0 in
    ap between_brackets (e ∙ ap (λ (xs : List ℕ). 91 ∷ xs) closed)
    ∙ ap (λ (t : Bool). cut_at t (inner ++ 93 ∷ [])) (eq-eqb _ 93 last)
    ∙ ap (λ (n : ℕ). Some (take n (inner ++ 93 ∷ []))) size
    ∙ ap (λ (xs : List ℕ). Some xs) (take-append_seam inner (93 ∷ []))

-- What is left of an opened word where std takes its last bracket off.
pub closed_by : (word rest : List ℕ) (r : Option (Bor (List ℕ))) → word ≡ 91 ∷ rest
    → MatchOption r ((prefix : List ℕ) → rest ≢ prefix ++ 93 ∷ []) (λ x. rest ≡ x.now ++ 93 ∷ [])
    → option_map (λ x. x.now) r ≡ between_brackets word
closed_by word rest None e open_end = sym (brackets_unclosed word rest e open_end)
closed_by word rest (Some x) e closed = sym (brackets_at word rest x.now e closed)
