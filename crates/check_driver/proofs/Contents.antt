-- What was read of a file tells what is met, wherever bytes past the limit of a read make no difference.
use Rattle.std.proofs.Common.{◌≡◌, ℕ, ◌≤◌, List, [], ◌∷◌, length, take, Vec, Global, Option, Some, None, refl, sym, ap, ◌∙◌, arith, inl, inr, unwrap_or}
use Rattle.std.proofs.lemmas.Bool.{cases_lt}
use Rattle.std.proofs.lemmas.List.{take_all}
use Rattle.cc_base.specs.Files.{READ_LIMIT}
use Rattle.check_driver.specs.Expected.{file_at}
use Rattle.check_driver.specs.Met.{AreContents, IsContent, bytes_read, contents}

-- What has one answer past the limit of a read, cut off or not, has one in any case.
cut_alike : {R : Type 0} (answer : List ℕ → R) (bytes : List ℕ) (limit : ℕ) → limit ≡ READ_LIMIT → (READ_LIMIT ≤ length bytes → answer bytes ≡ answer (take limit bytes))
    → answer bytes ≡ answer (take limit bytes)
cut_alike answer bytes limit is past =
    elim (cases_lt (length bytes) limit) [
      | inl lt ↦ ap answer (sym (take_all limit bytes (omega arith)))
      | inr ge ↦ past (omega arith)
    ]

some_is : {X : Type 0} (x y : X) → Some x ≡ Some y → x ≡ y
some_is x y e = cc

-- What was read of a file has the answer of what is met.
pub file_alike : {R : Type 0} (answer : List ℕ → R) (under : Option (List ℕ)) (bytes : List ℕ)
    → ((bytes : List ℕ) → READ_LIMIT ≤ length bytes → answer bytes ≡ answer (take READ_LIMIT bytes)) → IsContent under bytes → answer (unwrap_or under []) ≡ answer bytes
file_alike answer (Some whole) bytes past (inl is) = ap answer (some_is whole bytes is)
file_alike answer (Some whole) bytes past (inr is) =
    cut_alike answer whole READ_LIMIT refl (past whole) ∙ ap answer (some_is (take READ_LIMIT whole) bytes is)
file_alike answer None bytes past (inl is) = absurd cc
file_alike answer None bytes past (inr is) = absurd cc

pub first_alike : {R : Type 0} (answer : List ℕ → R) (met : List (Option (List ℕ))) (read : List (Vec ℕ Global))
    → ((bytes : List ℕ) → READ_LIMIT ≤ length bytes → answer bytes ≡ answer (take READ_LIMIT bytes)) → AreContents met read
    → answer (file_at (contents met) 0) ≡ answer (file_at (bytes_read read) 0)
first_alike answer [] [] past h = refl
first_alike answer (under ∷ met) (bytes ∷ read) past h = file_alike answer under bytes.items past h.0
first_alike answer [] (bytes ∷ read) past h = absurd h
first_alike answer (under ∷ met) [] past h = absurd h
