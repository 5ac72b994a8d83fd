-- A text that was written with a zero after it is read.
use Rattle.std.proofs.Common.{◌≡◌, ℕ, suc, ◌+◌, List, [], ◌∷◌, ◌++◌, length, take, Bool, true, false, not, eqb, cond, Some, None, refl, ◌∙◌, arith, inl, inr}
use Rattle.std.specs.Prelude.{option_map, nat_lt}
use Rattle.std.specs.List.{position_or_len}
use Rattle.std.proofs.lemmas.Bool.{cases_lt, lt-ltb, le-ltb}
use Rattle.metadata_tables.specs.Root.{zero_ended}
use Rattle.written_assemblies.specs.Texts.{HasNoZero}

ended : (zero_here : Bool) (byte p : ℕ) (bytes : List ℕ)
    → option_map (λ x. take x (byte ∷ bytes)) (cond (nat_lt (cond (not zero_here) (1 + p) 0) (suc (length bytes))) (Some (cond (not zero_here) (1 + p) 0)) None)
    ≡ cond zero_here (Some []) (option_map (λ text. byte ∷ text) (option_map (λ x. take x bytes) (cond (nat_lt p (length bytes)) (Some p) None)))
ended true byte p bytes = rw (lt-ltb 0 (suc (length bytes)) (omega arith)) refl
ended false byte p bytes =
    let more : 1 + p ≡ suc p = omega arith in
    rw more (elim (cases_lt p (length bytes)) [
      | inl lt ↦ rw (lt-ltb (suc p) (suc (length bytes)) (omega arith), lt-ltb p (length bytes) lt) refl
      | inr le ↦ rw (le-ltb (suc p) (suc (length bytes)) (omega arith), le-ltb p (length bytes) le) refl
    ])

zero_ended-cons : (byte : ℕ) (bytes : List ℕ) → zero_ended (byte ∷ bytes) ≡ cond (eqb byte 0) (Some []) (option_map (λ text. byte ∷ text) (zero_ended bytes))
unfolding zero_ended
zero_ended-cons byte bytes = ended (eqb byte 0) byte (position_or_len (λ b. eqb b 0) bytes) bytes

pub text_back : (text rest : List ℕ) → HasNoZero text → zero_ended (text ++ 0 ∷ rest) ≡ Some text
text_back [] rest no_zero = zero_ended-cons 0 rest
text_back (byte ∷ text) rest no_zero =
    let back = text_back text rest no_zero.1 in
    zero_ended-cons byte (text ++ 0 ∷ rest) ∙ rw (no_zero.0, back) refl
