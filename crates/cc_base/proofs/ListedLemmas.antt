-- What `contains` says of the numbers of calls that are to fail.
use Rattle.std.proofs.Common.{◌≡◌, ◌↔◌, ℕ, Bool, List, IsTrue, Contains, nat_eq}
use Rattle.std.proofs.lemmas.Bool.Decides.{Decides-eqb}
use Rattle.std.proofs.lemmas.List.Elements.{contains_decides, Decides-contains}
use Rattle.std.specs.List.{IsAnyAnswer}

-- A count is listed where `contains` says so.
pub is_listed : (calls shown : List ℕ) (count counted : ℕ) (r : Bool) → shown ≡ calls → counted ≡ count
    → IsAnyAnswer (λ call b. nat_eq call counted ≡ b) shown r → IsTrue r ↔ Contains calls count
is_listed calls shown count counted r e same answer =
    let at : IsTrue r ↔ Contains shown counted =
    Decides-contains shown counted r (contains_decides nat_eq Decides-eqb shown counted r answer) in
    rw (← e, ← same) at
