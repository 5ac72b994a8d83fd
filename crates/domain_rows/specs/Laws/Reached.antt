-- Whether one of two is reached.
use Rattle.std.proofs.Common.{◌≡◌, ◌↔◌, Bool, true, false, not, ◌||◌, refl, sym}
use Rattle.std.specs.Bool.{beq}
use Rattle.std.proofs.lemmas.Bool.{false≢true}

pub either_first : (a b : Bool) → a ≡ true → (a || b) ≡ true
either_first true b is = refl
either_first false b is = absurd (false≢true is)

pub either_second : (a b : Bool) → b ≡ true → (a || b) ≡ true
either_second true b is = refl
either_second false b is = is

pub less_holds : (a b : Bool) → (not a || b) ≡ true → a ≡ true → b ≡ true
less_holds true b less is = less
less_holds false b less is = absurd (false≢true is)

pub beq_exact : (a b : Bool) → (beq a b ≡ true) ↔ (a ≡ b)
beq_exact true true = (λ equal. refl, λ same. refl)
beq_exact true false = (λ equal. absurd (false≢true equal), λ same. absurd (false≢true (sym same)))
beq_exact false true = (λ equal. absurd (false≢true equal), λ same. absurd (false≢true same))
beq_exact false false = (λ equal. refl, λ same. refl)
