-- What `strip_prefix` gives is what is behind a prefix.
use Rattle.std.proofs.Common.{◌≡◌, ℕ, ◌+◌, ◌==◌, Bool, true, false, ◌&&◌, List, [], ◌∷◌, ◌++◌, length, take, drop}
use Rattle.std.proofs.Common.{get_or}
use Rattle.std.proofs.Common.{Option, Some, None, MatchOption, option_map, Bor, refl, sym, ap, ◌∙◌, if◌then◌else◌}
use Rattle.std.proofs.lemmas.Bool.{eq-eqb}
use Rattle.std.specs.Cmp.Lexicographic.{pointwise}
use Rattle.invariant_reader.specs.Prefixes.{behind}

step : (same more : Bool) (text : List ℕ) (inner : Option (List ℕ)) → inner ≡ (if more then Some text else None)
    → (if same then inner else None) ≡ (if same && more then Some text else None)
step true more text inner is = is
step false more text inner is = refl

prefix_told : (E : ℕ → ℕ → Bool) → ((a b : ℕ) → E a b ≡ (a == b)) → (prefix text : List ℕ)
    → behind prefix text
    ≡ (if pointwise E (take (length prefix) text) prefix then Some (drop (length prefix) text) else None)
prefix_told E equal [] text = refl
prefix_told E equal (p ∷ prefix) [] = refl
prefix_told E equal (p ∷ prefix) (c ∷ text) =
    rw (equal c p) (step (c == p) (pointwise E (take (length prefix) text) prefix) (drop (length prefix) text)
    (behind prefix text) (prefix_told E equal prefix text))

pub stripped : (E : ℕ → ℕ → Bool) → ((a b : ℕ) → E a b ≡ (a == b)) → (prefix text : List ℕ) (r : Option (Bor (List ℕ)))
    → MatchOption r (pointwise E (take (length prefix) text) prefix ≡ false)
    (λ x. (pointwise E (take (length prefix) text) prefix ≡ true) × (x.now ≡ drop (length prefix) text)
    × (length x.now + length prefix ≡ length text))
    → option_map (λ (rest : Bor (List ℕ)). rest.now) r ≡ behind prefix text
stripped E equal prefix text None is = sym (prefix_told E equal prefix text ∙ ap (λ (b : Bool).
    if b then Some (drop (length prefix) text) else None) is)
stripped E equal prefix text (Some x) is = ap (λ (t : List ℕ). Some t) is.1 ∙ sym (prefix_told E equal prefix text
    ∙ ap (λ (b : Bool). if b then Some (drop (length prefix) text) else None) is.0)

-- ---- a prefix that is there, and one that is not

pub behind_itself : (prefix rest : List ℕ) → behind prefix (prefix ++ rest) ≡ Some rest
behind_itself [] rest = refl
behind_itself (p ∷ prefix) rest = rw (eq-eqb p p refl) (behind_itself prefix rest)

pub not_behind : (p : ℕ) (prefix text : List ℕ) → (get_or text 0 0 == p) ≡ false → behind (p ∷ prefix) text ≡ None
not_behind p prefix [] other = refl
not_behind p prefix (c ∷ text) other = rw other
